-- How what the code reads of a text answers to a reading of the definitions.
use Rattle.std.specs.Prelude.{◌≡◌, true, Option, Some, None, Result, Ok, Err}
use Rattle.std.specs.Option.{option_map}
use Rattle.bfs_model.specs.Bytes.Formats.{Reading}
use Rattle.bfs_model.specs.Bytes.Items.{Input}
use Rattle.bfs_replies.specs.Tables as model
use Rattle.bfs_replies.specs.declared.reading.LastText.{LastText}

-- a strict reader gave what is read from its place, and stands behind it; or nothing can be read
abbrev pub Reads : {X Y E : Type 0} → (X → Y) → (new : Input) → Result X E → Reading Y → Type 0
Reads view new (Ok x) reading = (reading ≡ Some (view x, new.left)) × (new.strict ≡ true)
Reads view new (Err e) reading = reading ≡ None

abbrev pub last_seen : Option LastText → Option model.Last
last_seen last = option_map (λ text. record { timestamp = text.timestamp; reply = text.reply.now }) last
