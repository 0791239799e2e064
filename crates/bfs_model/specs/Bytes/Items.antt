-- The items of XDR (RFC 4506) on lists of bytes: how each is read, leniently or strictly, and the one way in which
-- it is written. What is read is the item and the bytes after it, or the first fault.
use Rattle.std.specs.Prelude.{ℕ, ◌-◌, ◌%◌, Bool, true, false, ◌&&◌, not, List, ◌++◌, length, take, drop, replicate, Result, Ok, Err, nat_lt, ◌==◌, if◌then◌else◌}
use Rattle.std.specs.Int.{w32, w64, from_be_bytes, to_be_bytes}
use Rattle.std.specs.List.{flat_map, list_all}

-- why an item can't be read
pub data Fault : Type 0 where
  short : Fault
  too_long : Fault
  bad_boolean : Fault
  bad_padding : Fault

-- what a reader has left, and whether it wants padding to be zeros
pub record Input : Type 0 where
  pub left : List ℕ
  pub strict : Bool

infixl 10 ◌>>=◌
abbrev pub ◌>>=◌ : {A B F : Type 0} → Result A F → (A → Result B F) → Result B F
(Ok x) >>= f = f x
(Err e) >>= f = Err e

-- how many bytes follow n bytes up to a multiple of four (RFC 4506 section 3)
abbrev pub padding_of : ℕ → ℕ
padding_of n = (4 - n % 4) % 4

abbrev pub are_zeros : List ℕ → Bool
are_zeros bytes = list_all (λ b. b == 0) bytes

-- Reading ---------------------------------------------------------------------------------------------------

-- an unsigned integer (RFC 4506 section 4.2)
unfoldable pub word_at : List ℕ → Result (ℕ × List ℕ) Fault
word_at bytes = if nat_lt (length bytes) 4 then Err short else Ok (from_be_bytes w32 (take 4 bytes), drop 4 bytes)

-- an unsigned hyper integer (RFC 4506 section 4.5)
unfoldable pub hyper_at : List ℕ → Result (ℕ × List ℕ) Fault
hyper_at bytes = if nat_lt (length bytes) 8 then Err short else Ok (from_be_bytes w64 (take 8 bytes), drop 8 bytes)

-- a boolean (RFC 4506 section 4.4)
unfoldable pub boolean_at : List ℕ → Result (Bool × List ℕ) Fault
boolean_at bytes = do
  w ← word_at bytes
  if w.0 == 0 then Ok (false, w.1) else (if w.0 == 1 then Ok (true, w.1) else Err bad_boolean)

-- n bytes, with no padding of their own
unfoldable pub bytes_at : ℕ → List ℕ → Result (List ℕ × List ℕ) Fault
bytes_at n bytes = if nat_lt (length bytes) n then Err short else Ok (take n bytes, drop n bytes)

-- fixed-length opaque data (RFC 4506 section 4.9)
unfoldable pub fixed_at : Bool → ℕ → List ℕ → Result (List ℕ × List ℕ) Fault
fixed_at strict n bytes = do
  item ← bytes_at n bytes
  padding ← bytes_at (padding_of n) item.1
  if strict && not (are_zeros padding.0) then Err bad_padding else Ok (item.0, padding.1)

-- variable-length opaque data, and strings, of at most max bytes (RFC 4506 sections 4.10 and 4.11)
unfoldable pub opaque_at : Bool → ℕ → List ℕ → Result (List ℕ × List ℕ) Fault
opaque_at strict max bytes = do
  count ← word_at bytes
  if nat_lt max count.0 then Err too_long else fixed_at strict count.0 count.1

-- Writing ---------------------------------------------------------------------------------------------------

unfoldable pub word : ℕ → List ℕ
word n = to_be_bytes w32 n

unfoldable pub hyper : ℕ → List ℕ
hyper n = to_be_bytes w64 n

unfoldable pub boolean : Bool → List ℕ
boolean b = word (if b then 1 else 0)

unfoldable pub fixed : List ℕ → List ℕ
fixed bytes = bytes ++ replicate (padding_of (length bytes)) 0

-- opaque data or a string behind its length
unfoldable pub counted : List ℕ → List ℕ
counted bytes = word (length bytes) ++ fixed bytes

-- words one after another
abbrev pub words : List ℕ → List ℕ
words ns = flat_map word ns
