-- Where tallies stand in a list, found by client and timestamp.
use Rattle.std.specs.Prelude.{◌≡◌, ℕ, ◌<◌, ◌==◌, Bool, true, ◌&&◌, List, [], Option, Some, None, fold, length, slice_get, slice_index_or, slice_set}
use Rattle.std.specs.List.{filter_map, list_any}
use Rattle.std.specs.Option.{option_map}
use Rattle.std.specs.BTreeMap.{is_at}
use Rattle.std.specs.Map.{lookup}
use Rattle.std.specs.Global.{Vec}
use Rattle.std.specs.declared.cmp.Ordering.{Ordering}
use Rattle.bfs_clients.specs.Tallies.{Tally}
use Rattle.bfs_clients.specs.declared.tallies.Name.{Name}
use Rattle.bfs_clients.specs.contracts.tallies.NameOrd.TheImpl as name_ord

abbrev pub name_cmp : Name → Name → Ordering
name_cmp = (name_ord.ghosts).cmp

abbrev pub same_name : Name → Name → Bool
same_name name other = (name.client == other.client) && (name.timestamp == other.timestamp)

abbrev pub name_of : Tally → Name
name_of tally = record { client = tally.client; timestamp = tally.timestamp }

abbrev pub row_in : Option (Vec ℕ) → List ℕ
row_in None = []
row_in (Some row) = row.items

-- the places that stand under a name
abbrev pub row_at : List (Name × Vec ℕ) → Name → List ℕ
row_at rows name = row_in (lookup (is_at (name_cmp name)) rows)

abbrev pub has_place : (place : ℕ) → List ℕ → Bool
has_place place places = list_any (λ other. place == other) places

-- each tally's place stands under its name
abbrev pub AreFound : List (Name × Vec ℕ) → List Tally → Type 0
AreFound rows tallies = (place : ℕ) (none : Tally) → place < length tallies → has_place place (row_at rows (name_of (slice_index_or tallies place none))) ≡ true

-- Changing those at some places ---------------------------------------------------------------------------------------

abbrev pub changed_at : (change : Tally → Tally) → List Tally → (place : ℕ) → Option (ℕ × Tally)
changed_at change tallies place = option_map (λ tally. (place, change tally)) (slice_get tallies place)

-- what becomes of the tallies at those places, each with its place
abbrev pub changes : (change : Tally → Tally) → List Tally → (places : List ℕ) → List (ℕ × Tally)
changes change tallies places = filter_map (changed_at change tallies) places

abbrev pub put_all : List Tally → List (ℕ × Tally) → List Tally
put_all tallies changed = fold (λ all one. slice_set all one.0 one.1) tallies changed
