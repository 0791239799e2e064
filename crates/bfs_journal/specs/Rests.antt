-- What stands behind the last whole record: nothing, a front of a record, as a cut write leaves it, or damage.
use Rattle.std.specs.Prelude.{◌≡◌, ◌⊎◌, ℕ, ◌+◌, ◌==◌, ◌&&◌, ◌||◌, Bool, false, nat_le, nat_lt, List, [], ◌∷◌, length, take, drop, Option, None, Some, if◌then◌else◌}
use Rattle.std.specs.Int.{from_be_bytes, w32}
use Rattle.bfs_journal.specs.Records.{most_body_bytes, record_of}
use Rattle.bfs_journal.specs.declared.rest.Rest.{Rest}
use Rattle.bfs_journal.specs.declared.rest.Rest.TheVariants.{Empty, Cut, Damaged}

-- bytes of a record before its body: two lengths and a digest
abbrev pub head_bytes : ℕ
head_bytes = 40

-- the number in four bytes from a place on
abbrev pub word_at : ℕ → List ℕ → ℕ
word_at place bytes = from_be_bytes w32 (take 4 (drop place bytes))

-- the length of a body that a record at the front of the bytes tells, if both times it is the same one, of a body
abbrev pub told_length : List ℕ → Option ℕ
told_length bytes = if (word_at 0 bytes == word_at 4 bytes) && nat_le (word_at 0 bytes) most_body_bytes then Some (word_at 0 bytes) else None

-- where a record at the front of the bytes has its digest
abbrev pub digest_at : List ℕ → List ℕ
digest_at bytes = take 32 (drop 8 bytes)

-- so many bytes are fewer than those of a record with that length of its body
abbrev pub is_below : ℕ → Option ℕ → Bool
is_below count None = false
is_below count (Some len) = nat_lt count (head_bytes + len)

-- fewer bytes than the record has that they begin with, or too few to tell its length
abbrev pub is_front_of_record : List ℕ → Bool
is_front_of_record bytes = nat_lt (length bytes) 8 || is_below (length bytes) (told_length bytes)

-- which of the three the bytes are that stand behind the last whole record
abbrev pub rest_of : List ℕ → Rest
rest_of [] = Empty
rest_of (byte ∷ bytes) = if is_front_of_record (byte ∷ bytes) then Cut else Damaged

-- as many bytes as the record of the body, of which one of the two lengths is still that record's
pub record IsChanged (body bytes : List ℕ) : Type 0 where
  pub as_long : length bytes ≡ length (record_of body)
  pub told : (word_at 0 bytes ≡ length body) ⊎ (word_at 4 bytes ≡ length body)
