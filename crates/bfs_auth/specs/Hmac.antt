-- The keyed hash HMAC (RFC 2104 section 2) over SHA-256 (FIPS 180-4), whose blocks have 64 bytes.
use Rattle.std.specs.Prelude.{ℕ, ◌-◌, List, ◌++◌, length, replicate, map, bit_xor, nat_lt, if◌then◌else◌}
use Rattle.sha2.specs.Sha256.{sha256}

-- zeros up to a block
abbrev pub filled : List ℕ → List ℕ
filled key = key ++ replicate (64 - length key) 0

-- a key of more bytes than a block has is hashed first
abbrev pub key_block : List ℕ → List ℕ
key_block key = filled (if nat_lt 64 (length key) then sha256 key else key)

-- each byte xor a mask
abbrev pub masked : ℕ → List ℕ → List ℕ
masked mask bytes = map (λ byte. bit_xor byte mask) bytes

-- ipad is the byte 0x36, opad the byte 0x5c, both as often as a block has bytes
unfoldable pub hmac_sha256 : (key text : List ℕ) → List ℕ
hmac_sha256 key text = sha256 (masked 0x5c (key_block key) ++ sha256 (masked 0x36 (key_block key) ++ text))
