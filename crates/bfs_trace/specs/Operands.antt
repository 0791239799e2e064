-- The words behind a verb: handles, numbers, texts and settings, each with the words behind it.
use Rattle.std.specs.Prelude.{ℕ, ◌==◌, List, [], ◌∷◌, length, Option, Some, None, option_map, bytes_eq, codes, if◌then◌else◌}
use Rattle.bfs_model.specs.Bytes.Arguments.{Settings}
use Rattle.bfs_model.specs.Bytes.Call.{◌>>=◌}
use Rattle.bfs_model.specs.Server.Tree.{Time}
use Rattle.bfs_trace.specs.Texts.{data_spelled, text_spelled}
use Rattle.bfs_trace.specs.Words.{digits_spelled, number_spelled, only_word, parts, word_in}

-- the largest number of 32 bits
abbrev pub most_number : ℕ
most_number = 4294967295

-- Times --------------------------------------------------------------------------------------------------------------

-- `S.UUUUUU`: seconds below 2^32, and the microseconds by six digits
abbrev pub time_in_parts : List (List ℕ) → Option Time
time_in_parts [] = None
time_in_parts (seconds ∷ rest) = do
  useconds ← only_word rest
  if length useconds == 6 then (do
    s ← number_spelled most_number seconds
    u ← number_spelled 999999 useconds
    Some (record { seconds = s; useconds = u })) else None

unfoldable pub time_spelled : List ℕ → Option Time
time_spelled word = time_in_parts (parts 46 word)

-- Handles and numbers --------------------------------------------------------------------------------------------------

-- `H`: `#` and a fileid
unfoldable pub file_spelled : List ℕ → Option ℕ
file_spelled [] = None
file_spelled (mark ∷ digits) = if mark == 35 then number_spelled most_number digits else None

abbrev pub file_in : List (List ℕ) → Option (ℕ × List (List ℕ))
file_in words = do
  word ← word_in words
  file ← file_spelled word.0
  Some (file, word.1)

abbrev pub number_in : List (List ℕ) → Option (ℕ × List (List ℕ))
number_in words = do
  word ← word_in words
  number ← number_spelled most_number word.0
  Some (number, word.1)

-- Names, paths and bytes ---------------------------------------------------------------------------------------------

abbrev pub text_in : List (List ℕ) → Option (List ℕ × List (List ℕ))
text_in words = do
  word ← word_in words
  text ← text_spelled word.0
  Some (text, word.1)

abbrev pub data_in : List (List ℕ) → Option (List ℕ × List (List ℕ))
data_in words = do
  word ← word_in words
  bytes ← data_spelled word.0
  Some (bytes, word.1)

-- Settings (RFC 1094 section 2.3.6, sattr) -----------------------------------------------------------------------------

-- a setting: `-` is not set
abbrev pub setting_spelled : {A : Type 0} → (List ℕ → Option A) → List ℕ → Option (Option A)
setting_spelled value word = if bytes_eq word (codes "-") then Some None else option_map (λ set. Some set) (value word)

-- the time at which the call is carried out: 1,000,000 microseconds
abbrev pub time_of_call : Time
time_of_call = record { seconds = 0; useconds = 1000000 }

-- a time that is set: `now`, or `S.UUUUUU`
unfoldable pub set_time_spelled : List ℕ → Option Time
set_time_spelled word = if bytes_eq word (codes "now") then Some time_of_call else time_spelled word

unfoldable pub mode_in : List (List ℕ) → Option (Option ℕ × List (List ℕ))
mode_in words = do
  word ← word_in words
  mode ← setting_spelled (digits_spelled 8 most_number) word.0
  Some (mode, word.1)

unfoldable pub number_setting_in : List (List ℕ) → Option (Option ℕ × List (List ℕ))
number_setting_in words = do
  word ← word_in words
  number ← setting_spelled (number_spelled most_number) word.0
  Some (number, word.1)

unfoldable pub time_setting_in : List (List ℕ) → Option (Option Time × List (List ℕ))
time_setting_in words = do
  word ← word_in words
  time ← setting_spelled set_time_spelled word.0
  Some (time, word.1)

-- `SATTR`: mode by octal digits, uid, gid, size, atime and mtime
unfoldable pub settings_in : List (List ℕ) → Option (Settings × List (List ℕ))
settings_in words = do
  mode ← mode_in words
  uid ← number_setting_in mode.1
  gid ← number_setting_in uid.1
  size ← number_setting_in gid.1
  atime ← time_setting_in size.1
  mtime ← time_setting_in atime.1
  Some (record { mode = mode.0; uid = uid.0; gid = gid.0; size = size.0; atime = atime.0; mtime = mtime.0 }, mtime.1)
