-- Tables of TOML, and what they have at a key.
use Rattle.std.specs.Prelude.{ℕ, ◌^◌, ◌&&◌, Bool, true, List, Option, Some, None, bytes_eq, nat_lt, pos, if◌then◌else◌}
use Rattle.std.specs.List.{list_any}
use Rattle.std.specs.Str.{is_utf8}
use Rattle.toml.specs.Data.{Data, integer, Members, no_members, member}
use Rattle.toml.specs.Parse.{parse_document}

-- the table that a document spells, which is in UTF-8
unfoldable pub table_spelled : List ℕ → Option Members
table_spelled document = if is_utf8 document then parse_document document else None

-- each key is one of these
abbrev pub has_only : (keys : List (List ℕ)) → Members → Bool
has_only keys no_members = true
has_only keys (member key value more) = list_any (bytes_eq key) keys && has_only keys more

-- a whole number of 32 bits
abbrev pub number_in : Data → Option ℕ
number_in (integer (pos number)) = if nat_lt number (2 ^ 32) then Some number else None
number_in _ = None

-- what a key says, or the default where it isn't there
abbrev pub said_or : {A : Type 0} → (default : A) → (Data → Option A) → Option Data → Option A
said_or default read None = Some default
said_or default read (Some value) = read value
