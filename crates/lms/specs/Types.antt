-- Types of one-time signatures (RFC 8554 section 4.1) and of trees (section 5.1), all with SHA-256 and hashes of 32 bytes.
use Rattle.std.specs.Prelude.{ℕ, ◌^◌, ◌==◌, Option, Some, None, if◌then◌else◌}
use Rattle.lms.specs.declared.types.OtsType.{OtsType}
use Rattle.lms.specs.declared.types.OtsType.TheVariants.{W1, W2, W4, W8}
use Rattle.lms.specs.declared.types.LmsType.{LmsType}
use Rattle.lms.specs.declared.types.LmsType.TheVariants.{H5, H10, H15, H20, H25}

abbrev pub ots_code : OtsType → ℕ
ots_code W1 = 1
ots_code W2 = 2
ots_code W4 = 3
ots_code W8 = 4

-- w: how many bits a chain signs
abbrev pub width : OtsType → ℕ
width W1 = 1
width W2 = 2
width W4 = 4
width W8 = 8

-- 2 ^ w - 1: the number of steps of a chain, and the largest digit
abbrev pub last_step : OtsType → ℕ
last_step W1 = 1
last_step W2 = 3
last_step W4 = 15
last_step W8 = 255

-- how many digits a hash has, 256 / w
abbrev pub hash_digits : OtsType → ℕ
hash_digits W1 = 256
hash_digits W2 = 128
hash_digits W4 = 64
hash_digits W8 = 32

-- p: how many chains, one for each digit of a hash and of its checksum
abbrev pub chain_count : OtsType → ℕ
chain_count W1 = 265
chain_count W2 = 133
chain_count W4 = 67
chain_count W8 = 34

-- ls: how far to the left a checksum stands in its 16 bits
abbrev pub checksum_shift : OtsType → ℕ
checksum_shift W1 = 7
checksum_shift W2 = 6
checksum_shift W4 = 4
checksum_shift W8 = 0

abbrev pub ots_type : (code : ℕ) → Option OtsType
ots_type code = if code == 1 then Some W1 else (if code == 2 then Some W2 else (if code == 3 then Some W4 else (if code == 4 then Some W8 else None)))

abbrev pub lms_code : LmsType → ℕ
lms_code H5 = 5
lms_code H10 = 6
lms_code H15 = 7
lms_code H20 = 8
lms_code H25 = 9

-- h: how many levels a tree has above its leaves
abbrev pub height : LmsType → ℕ
height H5 = 5
height H10 = 10
height H15 = 15
height H20 = 20
height H25 = 25

abbrev pub lms_type : (code : ℕ) → Option LmsType
lms_type code =
    if code == 5 then Some H5 else (if code == 6 then Some H10 else (if code == 7 then Some H15 else (if code == 8 then Some H20 else (if code == 9 then Some H25 else None))))

-- 2 ^ h
abbrev pub leaf_count : LmsType → ℕ
leaf_count lms = 2 ^ height lms
