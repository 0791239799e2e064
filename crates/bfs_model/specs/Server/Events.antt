-- Calls that overtake each other: a call is taken when all earlier ones that conflict with it are finished.
use Rattle.std.specs.Prelude.{◌≡◌, ℕ, zero, suc, ◌<◌, ◌==◌, Bool, true, false, IsTrue, IsFalse, List, [], ◌∷◌, map, if◌then◌else◌}
use Rattle.std.specs.List.{AllByRecursion}
use Rattle.std.specs.FinMap.{retain_keys}
use Rattle.bfs_model.specs.Server.Tree.{Inodes}
use Rattle.bfs_model.specs.Server.Footprints.{Footprint}
use Rattle.bfs_model.specs.Server.Conflicts.{among, conflict, AgreeOn, put_back, closed}
use Rattle.bfs_model.specs.Server.Shares.{moved_for, without}

pub data Slot (R : Type 0) : Type 0 where
  waiting : Slot R
  taken : (away : Inodes) → Slot R
  finished : (reply : R) → Slot R

abbrev pub is_done : {R : Type 0} → Slot R → Bool
is_done waiting = false
is_done (taken away) = false
is_done (finished reply) = true

abbrev pub is_begun : {R : Type 0} → Slot R → Bool
is_begun waiting = false
is_begun (taken away) = true
is_begun (finished reply) = true

-- the inodes at home, and how far each call is
pub record World (R : Type 0) : Type 0 where
  pub home : Inodes
  pub slots : ℕ → Slot R

abbrev pub put_slot : {R : Type 0} → (ℕ → Slot R) → ℕ → Slot R → ℕ → Slot R
put_slot slots i slot j = if i == j then slot else slots j

pub data Event : Type 0 where
  Take : ℕ → Event
  Finish : ℕ → Event

-- what is moved away
abbrev pub moved : List ℕ → Inodes → Inodes
moved ids inodes = retain_keys inodes (λ id. among ids id)

module _ {C R : Type 0} (run : C → Inodes → Inodes × R) (count : ℕ) (calls : ℕ → C) (plan : ℕ → Footprint) where
  -- the inodes in the order of the batch
  abbrev pub state : Inodes → ℕ → Inodes
  state inodes zero = inodes
  state inodes (suc k) = (run (calls k) (state inodes k)).0

  abbrev pub IsFree : (ℕ → Slot R) → ℕ → Type 0
  IsFree slots i = (j : ℕ) → j < i → IsFalse (is_done (slots j)) → IsFalse (conflict (plan j) (plan i))

  -- a call that waits, and each earlier one that conflicts with it is finished
  abbrev pub MayBegin : World R → ℕ → Type 0
  MayBegin world i = (i < count) × (world.slots i ≡ waiting) × IsFree world.slots i

  abbrev pub took : World R → ℕ → World R
  took world i = record { home = without (moved_for (plan i)) world.home; slots = put_slot world.slots i (taken (moved (moved_for (plan i)) world.home)) }

  abbrev pub ended : World R → ℕ → Inodes → World R
  ended world i own = record { home = closed (plan i) (run (calls i) own).0 world.home; slots = put_slot world.slots i (finished (run (calls i) own).1) }

  abbrev pub Step : World R → Event → World R → Type 0
  Step world (Take i) next = MayBegin world i × (next ≡ took world i)
  -- the call is carried out on any inodes that are, where it looks, those at home with its own put back
  Step world (Finish i) next =
      (away : Inodes) × (own : Inodes) × (i < count) × (world.slots i ≡ taken away) × AgreeOn (plan i) (put_back (moved_for (plan i)) away world.home) own × (next ≡ ended world i own)

  abbrev pub Steps : World R → List Event → World R → Type 0
  Steps world [] last = last ≡ world
  Steps world (event ∷ events) last = (next : World R) × Step world event next × Steps next events last

  abbrev pub start : Inodes → World R
  start inodes = record { home = inodes; slots = λ i. waiting }

  abbrev pub IsComplete : World R → Type 0
  IsComplete world = (i : ℕ) → i < count → IsTrue (is_done (world.slots i))

  -- every call has the reply of batch order, and so are the inodes
  abbrev pub IsInOrder : Inodes → World R → Type 0
  IsInOrder inodes world = (world.home ≡ state inodes count) × ((i : ℕ) → i < count → world.slots i ≡ finished (run (calls i) (state inodes i)).1)

  -- Legal orders -------------------------------------------------------------------------------------------------------

  -- a call is carried out on the inodes at home
  abbrev pub carried_out : World R → ℕ → World R
  carried_out world i = record { home = (run (calls i) world.home).0; slots = put_slot world.slots i (finished (run (calls i) world.home).1) }

  -- calls are carried out one after another, each when it may begin
  abbrev pub InTurn : World R → List ℕ → World R → Type 0
  InTurn world [] last = last ≡ world
  InTurn world (i ∷ order) last = MayBegin world i × InTurn (carried_out world i) order last

  -- Levels -------------------------------------------------------------------------------------------------------------

  abbrev pub took_all : World R → List ℕ → World R
  took_all world [] = world
  took_all world (i ∷ level) = took_all (took world i) level

  -- each is finished on inodes of its own
  abbrev pub ended_all : World R → List (ℕ × Inodes) → World R
  ended_all world [] = world
  ended_all world (job ∷ jobs) = ended_all (ended world job.0 job.1) jobs

  abbrev pub AreDistinct : List ℕ → Type 0
  AreDistinct [] = Unit {0}
  AreDistinct (i ∷ others) = AllByRecursion (λ other. IsFalse (i == other)) others × AreDistinct others

  -- the calls of a level, each of which may begin, are taken in one order and finished in another, each on inodes that are, where it
  -- looks, those that were at home when the level began
  abbrev pub IsLevel : World R → (level : List ℕ) → (jobs : List (ℕ × Inodes)) → Type 0
  IsLevel world level jobs =
      AreDistinct level × AllByRecursion (MayBegin world) level
      × AreDistinct (map (λ job. job.0) jobs) × AllByRecursion (λ i. IsTrue (among (map (λ job. job.0) jobs) i)) level
      × AllByRecursion (λ job. IsTrue (among level job.0) × AgreeOn (plan job.0) world.home job.1) jobs

  -- level after level
  abbrev pub InLevels : World R → List (List ℕ × List (ℕ × Inodes)) → World R → Type 0
  InLevels world [] last = last ≡ world
  InLevels world (level ∷ levels) last = IsLevel world level.0 level.1 × InLevels (ended_all (took_all world level.0) level.1) levels last
