-- Lives of replicas: each life begins as the node that is recovered of what the folder holds, takes turns, and ends at any moment.
use Rattle.std.specs.Prelude.{◌≡◌, ◌⊎◌, ◌<◌, ◌==◌, ℕ, false, List, [], ◌∷◌}
use Rattle.std.specs.List.{AllByRecursion}
use Rattle.bfs_auth.specs.Keys.{Keys}
use Rattle.bfs_frames.specs.Parcels.{Told}
use Rattle.bfs_frames.specs.declared.frames.Turn.{Turn}
use Rattle.bfs_node.specs.Nodes.{Node}
use Rattle.bfs_nodes_agree.specs.Nodes.Replicas.{Beginning, Keyring, beginning_node}
use Rattle.bfs_service.specs.Processes.{AreAgreed, HaveTurned, Processes, ProcessTurn, new_processes}
use Rattle.bfs_votes.specs.Votes.{replicas}
use Rattle.bfs_recovery.specs.Holding.{AreDue, Held, IsHeld}
use Rattle.bfs_recovery.specs.Turns.{Begins, IsTaken, IsUntold, Living}

-- What happens -------------------------------------------------------------------------------------------------------------

pub data Event : Type 0 where
  -- a turn is taken and answered
  Answers : ProcessTurn → Event
  -- a process ends before it has answered that turn, and the next one begins
  Restarts : (who : ℕ) → Turn → Event

abbrev pub who_of : Event → ℕ
who_of (Answers t) = t.who
who_of (Restarts who turn) = who

-- each by its number
abbrev pub Lives : Type 0
Lives = ℕ → Living

-- the next process begins as the node that is recovered of what the folder holds, if that is held
pub record IsRestarted (keys : Keys) (turn : Turn) (old new : Living) : Type 0 where
  pub held : Held
  pub left : IsUntold old turn held
  pub node : Node
  pub recovered : (kept : Node) → IsHeld keys held kept → node ≡ kept
  pub begins : Begins node new

-- with one of them it is so, and the others stay as they are
pub record Changes (P : Living → Living → Type 0) (who : ℕ) (before after : Lives) : Type 0 where
  pub here : P (before who) (after who)
  pub others : (k : ℕ) → (k == who) ≡ false → after k ≡ before k

abbrev pub Happens : Keyring → Lives → Event → Lives → Type 0
Happens keys before (Answers t) after = Changes (λ old new. IsTaken old t.turn t.told new) t.who before after
Happens keys before (Restarts who turn) after = Changes (IsRestarted (keys who) turn) who before after

-- one event after another
abbrev pub HaveHappened : Keyring → Lives → List Event → Lives → Type 0
HaveHappened keys before [] after = (k : ℕ) → after k ≡ before k
HaveHappened keys before (event ∷ events) after = (next : Lives) × Happens keys before event next × HaveHappened keys next events after

-- What is said of it -------------------------------------------------------------------------------------------------------

-- they have done nothing yet, and each folder holds that
pub record AreNew (f : ℕ) (keys : Keyring) (start : Beginning) (lives : Lives) : Type 0 where
  pub acting : (k : ℕ) → (lives k).acting ≡ new_processes f keys start k
  pub held : (k : ℕ) → k < replicas f → IsHeld (keys k) (lives k).held (beginning_node f keys start k)
  pub due : (k : ℕ) → (lives k).due ≡ []

-- a process of that replica ends
abbrev pub Ends : (who : ℕ) → List Event → Type 0
Ends who [] = ⊥
Ends who (Answers t ∷ events) = Ends who events
Ends who (Restarts other turn ∷ events) = (other ≡ who) ⊎ Ends who events

-- a process told nothing of the turn, and ended
pub record IsLost (t : ProcessTurn) (events : List Event) : Type 0 where
  pub silent : t.told ≡ []
  pub ended : Ends t.who events

-- all turns of which anything was told, and all others but what a process did behind those before it ended; and of each process that ended at most the turn
-- that it had not answered
abbrev pub AreKept : List Event → List ProcessTurn → Type 0
AreKept [] turns = turns ≡ []
AreKept (Answers t ∷ events) turns = ((rest : List ProcessTurn) × (turns ≡ t ∷ rest) × AreKept events rest) ⊎ (IsLost t events × AreKept events turns)
AreKept (Restarts who turn ∷ events) turns =
    AreKept events turns ⊎ ((told : List Told) × (rest : List ProcessTurn) × (turns ≡ record { who = who; turn = turn; told = told } ∷ rest) × AreKept events rest)

abbrev pub acting_in : Lives → Processes
acting_in lives k = (lives k).acting

-- a folder holds what the process is, but for what is due
abbrev pub IsHeldOrDue : Keys → Living → Type 0
IsHeldOrDue keys living = (settled : Node) × IsHeld keys living.held settled × AreDue settled living.due living.acting.node

-- Whenever processes end, there are turns without any end that make of them the same and tell all that was told: a crash is a pause. So of processes that crash
-- holds what is proved of processes
abbrev pub LivesAgree : Type 0
LivesAgree = (f : ℕ) (keys : Keyring) (start : Beginning) (events : List Event) (before after : Lives)
    → AreNew f keys start before
    → AllByRecursion (λ event. who_of event < replicas f) events
    → HaveHappened keys before events after
    → (turns : List ProcessTurn) × AreKept events turns
    × HaveTurned (new_processes f keys start) turns (acting_in after)
    × AreAgreed f keys start turns (acting_in after)
    × ((k : ℕ) → k < replicas f → IsHeldOrDue (keys k) (after k))
