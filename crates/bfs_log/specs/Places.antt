-- What a log's index has: what was said at each place.
use Rattle.std.specs.Prelude.{◌≡◌, ℕ, ◌<◌, ◌==◌, Bool, ◌&&◌, ◌||◌, not, max, length, List, [], ◌∷◌, map, filter, All, Option, Some, None, nat_lt, bytes_eq, if◌then◌else◌}
use Rattle.std.specs.declared.cmp.Ordering.{Ordering}
use Rattle.std.specs.Global.{Vec}
use Rattle.std.specs.BTreeMap.{BTreeMap, get}
use Rattle.bfs_model.specs.Server.Limits.{most_replicas}
use Rattle.bfs_votes.specs.Votes.{Header, SlotsDiffer}
use Rattle.bfs_log.specs.Batches.{Said}
use Rattle.bfs_log.specs.Headers.{header}
use Rattle.bfs_log.specs.Logs.{Log, headers, said_in}
use Rattle.bfs_log.specs.declared.places.Place.{Place}
use Rattle.bfs_log.specs.contracts.places.PlaceOrd.TheImpl as place_ord
use Rattle.bfs_votes.specs.Tags.{checkpoint_tag, pre_prepare_tag}

abbrev pub place_cmp : Place → Place → Ordering
place_cmp = (place_ord.ghosts).cmp

abbrev pub Index : Type 0
Index = BTreeMap Place (Vec Said)

abbrev pub row_in : Option (Vec Said) → List Said
row_in None = []
row_in (Some row) = row.items

-- what the index has at a place
abbrev pub row_at : Index → Place → List Said
row_at places place = row_in (get place_cmp places place)

abbrev pub same_place : Place → Place → Bool
same_place p q = (p.number == q.number) && ((p.view == q.view) && (p.tag == q.tag))

abbrev pub place_of : Header → Place
place_of h = record { number = h.number; view = h.view; tag = h.tag }

abbrev pub is_at : Place → Header → Bool
is_at place h = same_place (place_of h) place

-- what the messages of a log say at a place
abbrev pub said_at : Place → Log → List Said
said_at place log = map said_in (filter (λ m. is_at place (header m)) log)

abbrev pub IsIndex : Index → Log → Type 0
IsIndex places log = (place : Place) → row_at places place ≡ said_at place log

-- the place of the CHECKPOINTs of a number
abbrev pub checkpoint_place : (number : ℕ) → Place
checkpoint_place number = record { number = number; view = 0; tag = checkpoint_tag }

-- above a checkpoint, or where CHECKPOINTs tell it
abbrev pub is_above : (number : ℕ) → Place → Bool
is_above number p = same_place (checkpoint_place number) p || nat_lt number p.number

-- what of a row stays once a checkpoint is stable
abbrev pub row_kept : (number : ℕ) → List ℕ → Place → List Said → List Said
row_kept number digest p row =
    if same_place (checkpoint_place number) p then filter (λ said. bytes_eq said.digest digest) row else
    (if nat_lt number p.number then row else [])

-- PRE-PREPAREs of a view stand at a place
abbrev pub is_proposed : (view : ℕ) → Place × Vec Said → Bool
is_proposed view entry = ((entry.0.tag == pre_prepare_tag) && (entry.0.view == view)) && not (length entry.1.items == 0)

-- the greatest number of such a place, 0 where there is none
abbrev pub greatest_in : (view : ℕ) → List (Place × Vec Said) → ℕ
greatest_in view [] = 0
greatest_in view (entry ∷ entries) = if is_proposed view entry then max entry.0.number (greatest_in view entries) else greatest_in view entries

-- each message is in a slot of its own, its sender can be a replica, and the index has what it says
pub record IsIndexed (log : Log) (places : Index) : Type 0 where
  pub differ : SlotsDiffer (headers log)
  pub senders : All (λ m. (header m).sender < most_replicas) log
  pub index : IsIndex places log
