-- The words that spell bytes: names and paths, and what is written to a file.
use Rattle.std.specs.Prelude.{ℕ, ◌*◌, ◌==◌, ◌&&◌, ◌++◌, Bool, List, [], ◌∷◌, length, Option, Some, None, nat_le, nat_lt, bytes_eq, codes, if◌then◌else◌}
use Rattle.std.specs.List.{list_all}
use Rattle.std.specs.Result.{result_ok}
use Rattle.hex.specs.Hex.{decode_of, decode_sized}
use Rattle.bfs_model.specs.Bytes.Call.{◌>>=◌}
use Rattle.bfs_model.specs.Server.Limits.{most_request_bytes}
use Rattle.bfs_trace.specs.Words.{parts}

-- Names and paths --------------------------------------------------------------------------------------------------

-- printable ASCII, but for the space
abbrev pub is_printable : ℕ → Bool
is_printable byte = nat_le 33 byte && nat_le byte 126

abbrev pub are_printable : List ℕ → Bool
are_printable bytes = list_all is_printable bytes

-- what stands behind a `%`: a byte by two hexadecimal digits of both cases, and printable bytes
unfoldable pub escape_spelled : List ℕ → Option (List ℕ)
escape_spelled (high ∷ low ∷ plain) = do
  byte ← result_ok (decode_sized (high ∷ low ∷ []) 1)
  if are_printable plain then Some (byte ++ plain) else None
escape_spelled _ = None

-- a text with what further parts spell, each of which stands behind a `%`
unfoldable pub text_after : List ℕ → List (List ℕ) → Option (List ℕ)
text_after text [] = Some text
text_after text (part ∷ parts) = do
  bytes ← escape_spelled part
  text_after (text ++ bytes) parts

-- the text of the parts between the `%`
abbrev pub text_in_parts : List (List ℕ) → Option (List ℕ)
text_in_parts [] = None
text_in_parts (plain ∷ escapes) = if are_printable plain then text_after plain escapes else None

-- bytes that a request might hold
abbrev pub within_request : List ℕ → Option (List ℕ)
within_request bytes = if nat_lt most_request_bytes (length bytes) then None else Some bytes

-- `NAME` and `PATH`: printable bytes, and `%` with two hexadecimal digits for any byte; the word `%` is no bytes
unfoldable pub text_spelled : List ℕ → Option (List ℕ)
text_spelled [] = None
text_spelled word = if bytes_eq word (codes "%") then Some [] else (text_in_parts (parts 37 word) >>= within_request)

-- What is written to a file ------------------------------------------------------------------------------------------

-- `BYTES`: `x`, and two hexadecimal digits of both cases for each byte
unfoldable pub data_spelled : List ℕ → Option (List ℕ)
data_spelled [] = None
data_spelled (mark ∷ digits) =
    if mark == 120 then (if nat_lt (2 * most_request_bytes) (length digits) then None else result_ok (decode_of digits)) else None
