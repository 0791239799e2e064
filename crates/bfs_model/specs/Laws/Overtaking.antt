-- Requests of a group may overtake each other.
use Rattle.std.specs.Prelude.{◌≡◌, ◌<◌, ℕ, zero, suc, List, [], ◌∷◌, length, map}
use Rattle.bfs_model.specs.Server.Tree.{Time, Inodes, FileSystem}
use Rattle.bfs_model.specs.Server.Serial.{ordinal_after, answer, inodes_after, replies_to}
use Rattle.bfs_model.specs.Server.Footprints.{Footprint, known, footprint_of}
use Rattle.bfs_model.specs.Server.Conflicts.{put_back}
use Rattle.bfs_model.specs.Server.Shares.{moved_for}
use Rattle.bfs_model.specs.Server.WellFormed.{IsWellFormed}
use Rattle.bfs_model.specs.Server.Groups.{footprints_at, AreDisjoint, IsCut}
use Rattle.bfs_model.specs.Server.Events.{Slot, waiting, taken, finished, World, Event, MayBegin, Steps, InTurn, InLevels, start, IsComplete}

-- a request with its ordinal and the time of its batch
pub record Asked : Type 0 where
  pub ordinal : ℕ
  pub time : Time
  pub bytes : List ℕ

abbrev pub answered : Asked → Inodes → Inodes × List ℕ
answered request inodes = answer inodes request.ordinal request.time request.bytes

-- the requests by number, from an ordinal on
abbrev pub asked_at : (ordinal : ℕ) → Time → List (List ℕ) → ℕ → Asked
asked_at ordinal time [] k = record { ordinal = ordinal; time = time; bytes = [] }
asked_at ordinal time (request ∷ requests) zero = record { ordinal = ordinal; time = time; bytes = request }
asked_at ordinal time (request ∷ requests) (suc k) = asked_at (ordinal_after ordinal 1) time requests k

abbrev pub footprint_at : List Footprint → ℕ → Footprint
footprint_at [] k = known [] []
footprint_at (footprint ∷ footprints) zero = footprint
footprint_at (footprint ∷ footprints) (suc k) = footprint_at footprints k

-- the first slots
abbrev pub slots_of : {R : Type 0} → ℕ → (ℕ → Slot R) → List (Slot R)
slots_of zero slots = []
slots_of (suc n) slots = slots 0 ∷ slots_of n (λ k. slots (suc k))

-- The words of events, of the requests of a group ---------------------------------------------------------------------------

module _ (inodes : Inodes) (ordinal : ℕ) (time : Time) (requests : List (List ℕ)) where
  -- each request's footprint, found on the inodes at the group's start
  abbrev pub plan : ℕ → Footprint
  plan = footprint_at (footprints_at inodes ordinal time requests)

  abbrev pub calls : ℕ → Asked
  calls = asked_at ordinal time requests

  -- none is begun
  abbrev pub at_first : World (List ℕ)
  at_first = start answered (length requests) calls plan inodes

  abbrev pub EventsLead : List Event → World (List ℕ) → Type 0
  EventsLead events last = Steps answered (length requests) calls plan at_first events last

  abbrev pub TurnsLead : (order : List ℕ) → World (List ℕ) → Type 0
  TurnsLead order last = InTurn answered (length requests) calls plan at_first order last

  abbrev pub LevelsLead : List (List ℕ × List (ℕ × Inodes)) → World (List ℕ) → Type 0
  LevelsLead levels last = InLevels answered (length requests) calls plan at_first levels last

  abbrev pub AllAreDone : World (List ℕ) → Type 0
  AllAreDone last = IsComplete answered (length requests) calls plan last

  abbrev pub MayBeTaken : World (List ℕ) → ℕ → Type 0
  MayBeTaken world i = MayBegin answered (length requests) calls plan world i

  -- on these inodes the request has the footprint found at first
  abbrev pub HasItsFootprint : Inodes → ℕ → Type 0
  HasItsFootprint others i = footprint_of others (calls i).ordinal (calls i).time (calls i).bytes ≡ plan i

  -- inodes and replies are those of the batch's order
  abbrev pub IsAsInOrder : World (List ℕ) → Type 0
  IsAsInOrder last = (last.home ≡ inodes_after inodes ordinal time requests) × (slots_of (length requests) last.slots ≡ map finished (replies_to inodes ordinal time requests))

-- a group of a well-formed file system: no request resolves a name in a directory that an earlier one writes
abbrev pub IsGroup : FileSystem → Time → List (List ℕ) → Type 0
IsGroup files time requests = IsWellFormed files × IsCut (footprints_at files.tree files.next_ordinal time requests) requests

-- The laws -----------------------------------------------------------------------------------------------------------------

-- whatever the order in which requests of a group overtake each other, inodes and replies are those of the batch's order
abbrev pub RequestsOvertake : Type 0
RequestsOvertake = (files : FileSystem) (time : Time) (requests : List (List ℕ)) → IsGroup files time requests
    → (events : List Event) (last : World (List ℕ)) → EventsLead files.tree files.next_ordinal time requests events last → AllAreDone files.tree files.next_ordinal time requests last
    → IsAsInOrder files.tree files.next_ordinal time requests last

-- on every map, where none conflicts with another
abbrev pub DisjointRequestsOvertake : Type 0
DisjointRequestsOvertake = (inodes : Inodes) (ordinal : ℕ) (time : Time) (requests : List (List ℕ)) → AreDisjoint (footprints_at inodes ordinal time requests)
    → (events : List Event) (last : World (List ℕ)) → EventsLead inodes ordinal time requests events last → AllAreDone inodes ordinal time requests last → IsAsInOrder inodes ordinal time requests last

-- the same where they are carried out one after another, each when all earlier ones that conflict with it are done
abbrev pub LegalOrdersAreAsTheBatch : Type 0
LegalOrdersAreAsTheBatch = (files : FileSystem) (time : Time) (requests : List (List ℕ)) → IsGroup files time requests
    → (order : List ℕ) (last : World (List ℕ)) → TurnsLead files.tree files.next_ordinal time requests order last → AllAreDone files.tree files.next_ordinal time requests last
    → IsAsInOrder files.tree files.next_ordinal time requests last

-- and level after level
abbrev pub LevelsAreAsTheBatch : Type 0
LevelsAreAsTheBatch = (files : FileSystem) (time : Time) (requests : List (List ℕ)) → IsGroup files time requests
    → (levels : List (List ℕ × List (ℕ × Inodes))) (last : World (List ℕ)) → LevelsLead files.tree files.next_ordinal time requests levels last → AllAreDone files.tree files.next_ordinal time requests last
    → IsAsInOrder files.tree files.next_ordinal time requests last

-- At each point, a request that may be taken while nothing is away, and one that is taken, has the footprint found at first: on the
-- inodes at home, and on these with its own put back
abbrev pub FootprintsHold : Type 0
FootprintsHold = (files : FileSystem) (time : Time) (requests : List (List ℕ)) → IsGroup files time requests
    → (events : List Event) (world : World (List ℕ)) → EventsLead files.tree files.next_ordinal time requests events world → (i : ℕ) → i < length requests
    → (MayBeTaken files.tree files.next_ordinal time requests world i → ((j : ℕ) (away : Inodes) → j < length requests → world.slots j ≡ taken away → ⊥)
    → HasItsFootprint files.tree files.next_ordinal time requests world.home i)
    × ((away : Inodes) → world.slots i ≡ taken away
    → HasItsFootprint files.tree files.next_ordinal time requests (put_back (moved_for (plan files.tree files.next_ordinal time requests i)) away world.home) i)

-- and at each point of a legal order each request that still waits
abbrev pub WaitingFootprintsHold : Type 0
WaitingFootprintsHold = (files : FileSystem) (time : Time) (requests : List (List ℕ)) → IsGroup files time requests
    → (order : List ℕ) (world : World (List ℕ)) → TurnsLead files.tree files.next_ordinal time requests order world
    → (i : ℕ) → i < length requests → world.slots i ≡ waiting → HasItsFootprint files.tree files.next_ordinal time requests world.home i
