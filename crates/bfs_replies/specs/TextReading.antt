-- How the text of a table is read, strictly. It is proved that this reads just the texts that are written, so nothing here has to be
-- believed.
use Rattle.std.specs.Prelude.{◌≡◌, ℕ, List, ◌++◌, length, Option, Some, None, nat_lt, if◌then◌else◌}
use Rattle.std.specs.Option.{option_map}
use Rattle.bfs_model.specs.Bytes.Call.{◌>>=◌}
use Rattle.bfs_model.specs.Bytes.Formats.{Reading, word_from, hyper_from, boolean_from, bytes_from, items_from}
use Rattle.bfs_model.specs.Server.Limits.{most_clients, most_reply_bytes}
use Rattle.bfs_model.specs.Server.Stored.{AreBytes}
use Rattle.bfs_replies.specs.Tables.{Last, Table, IsKept}
use Rattle.bfs_replies.specs.Texts.{table_text}

unfoldable pub reply_from : List ℕ → Reading (Option Last)
reply_from bytes = do
  timestamp ← hyper_from bytes
  reply ← bytes_from most_reply_bytes timestamp.1
  Some (Some (record { timestamp = timestamp.0; reply = reply.0 }), reply.1)

unfoldable pub last_from : List ℕ → Reading (Option Last)
last_from bytes = do
  executed ← boolean_from bytes
  if executed.0 then reply_from executed.1 else Some (None, executed.1)

-- the table whose text the bytes begin with, and the bytes behind it
unfoldable pub table_from : List ℕ → Reading Table
table_from bytes = do
  count ← word_from bytes
  if nat_lt most_clients count.0 then None else items_from last_from count.0 count.1

-- how many things were read, and the bytes behind them
abbrev pub passed : {A : Type 0} → Reading (List A) → Option (ℕ × List ℕ)
passed reading = option_map {U = ℕ × List ℕ} (λ read. (length read.0, read.1)) reading

-- a table's text is read again, whatever follows it
abbrev pub TablesAreReadAgain : Type 0
TablesAreReadAgain = (table : Table) (rest : List ℕ) → IsKept table → table_from (table_text table ++ rest) ≡ Some (table, rest)

-- where a table is read from bytes, they begin with its text
abbrev pub TablesWereWritten : Type 0
TablesWereWritten = (bytes : List ℕ) (table : Table) (rest : List ℕ) → AreBytes bytes → table_from bytes ≡ Some (table, rest) → (bytes ≡ table_text table ++ rest) × IsKept table
