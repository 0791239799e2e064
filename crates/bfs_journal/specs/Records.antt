-- Journals as bytes: records, one behind another. A record is the length of its body, twice, in four bytes each, the body's SHA-256 (FIPS 180-4), and the
-- body. The length stands twice so that one that was changed is not taken for that of a record that was cut.
use Rattle.std.specs.Prelude.{◌≡◌, ◌≢◌, ℕ, ◌≤◌, ◌^◌, List, ◌++◌, length, All}
use Rattle.std.specs.List.{flat_map}
use Rattle.std.specs.Int.{to_be_bytes, w32}
use Rattle.sha2.specs.Sha256.{sha256}

abbrev pub most_body_bytes : ℕ
most_body_bytes = 2 ^ 30

-- bytes that a record may hold
abbrev pub IsBody : List ℕ → Type 0
IsBody body = length body ≤ most_body_bytes

unfoldable pub record_of : (body : List ℕ) → List ℕ
record_of body = to_be_bytes w32 (length body) ++ (to_be_bytes w32 (length body) ++ (sha256 body ++ body))

-- the records of these bodies, one behind another
abbrev pub journal_of : (bodies : List (List ℕ)) → List ℕ
journal_of bodies = flat_map record_of bodies

-- no whole record stands at the front of the bytes
abbrev pub LacksRecord : List ℕ → Type 0
LacksRecord bytes = (body more : List ℕ) → IsBody body → bytes ≢ record_of body ++ more

-- the bytes are the records of these bodies, and then a rest with no whole record at its front
pub record Splits (bytes : List ℕ) (bodies : List (List ℕ)) (rest : List ℕ) : Type 0 where
  pub whole : bytes ≡ journal_of bodies ++ rest
  pub each : All IsBody bodies
  pub no_more : LacksRecord rest
