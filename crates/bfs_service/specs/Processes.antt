-- Processes of replicas, turn by turn, and what they are to nodes, of which agreement is proved. A faulty replica takes no turn here: what it sends is
-- in the frames that others get.
use Rattle.std.specs.Prelude.{◌≡◌, ◌<◌, ◌⊎◌, ℕ, Bool, true, false, List, [], ◌∷◌, ◌++◌, ◌==◌}
use Rattle.bfs_agreement.specs.Histories.{IsIn, FewAreFaulty}
use Rattle.bfs_frames.specs.Parcels.{Told}
use Rattle.bfs_frames.specs.declared.frames.Frame.{Frame}
use Rattle.bfs_frames.specs.declared.frames.Turn.{Turn}
use Rattle.bfs_messages.specs.Messages as model
use Rattle.bfs_messages.specs.Signing.{as_message}
use Rattle.bfs_messages.specs.declared.message.Message.{Message}
use Rattle.bfs_messages.specs.declared.message.Message.TheVariants.{NewView}
use Rattle.bfs_messages.specs.declared.signed.Signed.{Signed}
use Rattle.bfs_nodes_agree.specs.Nodes.Laws.{Agree, BatchesDontCollide}
use Rattle.bfs_nodes_agree.specs.Nodes.Premises.{AreAuthentic, AreShared, HasSaid, StatesDontCollide}
use Rattle.bfs_nodes_agree.specs.Nodes.Replicas.{Beginning, Keyring, NodeReplicas, NodeTurn, after_node_turns, beginning_node, new_node_replicas}
use Rattle.bfs_nodes_agree.specs.Nodes.Resending.{HasComeTo}
use Rattle.bfs_nodes_agree.specs.Nodes.Steps.{NodeStep, Delivers, TakesRequests, TakesOffered}
use Rattle.bfs_service.specs.Acting.{Acting, IsOwn}
use Rattle.bfs_service.specs.Telling.{IsGiven, is_note, message_given, message_told}
use Rattle.bfs_service.specs.Turns.{Turned, is_message}

-- a turn of one process, and what it told
pub record ProcessTurn : Type 0 where
  pub who : ℕ
  pub turn : Turn
  pub told : List Told

-- each by its number
abbrev pub Processes : Type 0
Processes = ℕ → Acting

-- which have done nothing yet
abbrev pub new_processes : (f : ℕ) → Keyring → Beginning → Processes
new_processes f keys start = λ k. record { node = beginning_node f keys start k; sent = [] }

-- one of them takes a turn, and the others stay as they are
pub record HasTurned (before : Processes) (t : ProcessTurn) (after : Processes) : Type 0 where
  pub turned : Turned t.turn (before t.who) (after t.who) t.told
  pub others : (k : ℕ) → (k == t.who) ≡ false → after k ≡ before k

-- one turn after another, whoever takes it
abbrev pub HaveTurned : Processes → List ProcessTurn → Processes → Type 0
HaveTurned before [] after = (k : ℕ) → after k ≡ before k
HaveTurned before (t ∷ turns) after = (next : Processes) × HasTurned before t next × HaveTurned next turns after

-- bytes that are delivered to a node are those of a frame that is to hold a message of a replica
abbrev pub IsStepOf : Turn → NodeStep → Type 0
IsStepOf turn (Delivers bytes) = (frame : Frame) × IsIn frame turn.frames.items × (is_message frame ≡ true) × (bytes ≡ frame.payload.items)
IsStepOf turn (TakesRequests messages) = Unit {0}
IsStepOf turn (TakesOffered request) = Unit {0}
IsStepOf turn step = IsOwn turn.time step

-- a process did it in one of its turns
abbrev pub IsOfTurns : List ProcessTurn → NodeTurn → Type 0
IsOfTurns turns step = (t : ProcessTurn) × IsIn t turns × (t.who ≡ step.who) × IsStepOf t.turn step.step

-- a process has told a message to those who are to have it
abbrev pub HasTold : List ProcessTurn → (who : ℕ) → Signed Message → Type 0
HasTold turns who m = (t : ProcessTurn) × IsIn t turns × (t.who ≡ who) × IsIn (message_told m) t.told

-- its node gave it to be sent
abbrev pub IsSent : NodeReplicas → (who : ℕ) → Told → Type 0
IsSent w who x = (m : Signed Message) × IsIn m (w who).sent × (x ≡ message_told m)

-- or gave it again behind some of these steps, to one that was so far
pub record IsSentAgain (w : NodeReplicas) (steps : List NodeTurn) (who : ℕ) (x : Told) : Type 0 where
  pub first : List NodeTurn
  pub others : List NodeTurn
  pub steps_are : steps ≡ first ++ others
  pub given : IsGiven (after_node_turns w first who).node x

-- what processes have done is what these steps of nodes do, and what they have told is what these gave to be sent, also once more
pub record AreNodes (f : ℕ) (keys : Keyring) (start : Beginning) (turns : List ProcessTurn) (after : Processes) (steps : List NodeTurn) : Type 0 where
  pub of_turns : (step : NodeTurn) → IsIn step steps → IsOfTurns turns step
  pub nodes : (k : ℕ) → (after_node_turns (new_node_replicas f keys start) steps k).node ≡ (after k).node
  pub told : (k : ℕ) (m : Signed Message) → IsIn m (after_node_turns (new_node_replicas f keys start) steps k).sent → HasTold turns k m
  pub sent : (t : ProcessTurn) (x : Told) → IsIn t turns → IsIn x t.told → is_note x.kind ≡ false
      → IsSent (after_node_turns (new_node_replicas f keys start) steps) t.who x ⊎ IsSentAgain (new_node_replicas f keys start) steps t.who x

-- a NEW-VIEW that its node gave to be sent, or that came to it
abbrev pub IsPassedOn : NodeReplicas → List NodeTurn → (who : ℕ) → Signed Message → Type 0
IsPassedOn w steps who m = (new : Signed model.NewView) × (m ≡ as_message NewView new) × (IsIn m (w who).sent ⊎ HasComeTo who steps m)

-- once more to one replica, it says what its node gave to be sent, or is such a NEW-VIEW
abbrev pub IsSaidBefore : NodeReplicas → List NodeTurn → (who : ℕ) → Told → Type 0
IsSaidBefore w steps who x = (number : ℕ) × (m : Signed Message) × (x ≡ message_given number m) × (HasSaid (w who).sent m.message ⊎ IsPassedOn w steps who m)

-- a correct process tells what its node gave to be sent, and again nothing but what was said before
abbrev pub TellsWhatWasSaid : (faulty : ℕ → Bool) → List ProcessTurn → NodeReplicas → List NodeTurn → Type 0
TellsWhatWasSaid faulty turns w steps = (t : ProcessTurn) (x : Told) → IsIn t turns → IsIn x t.told → is_note x.kind ≡ false → faulty t.who ≡ false
    → IsSent w t.who x ⊎ IsSaidBefore w steps t.who x

-- there are steps of nodes that are the same; so of them holds what is proved of every list of steps: replicas agree, and where there are others, what one tells
-- again was said before
abbrev pub AreAgreed : (f : ℕ) → Keyring → Beginning → List ProcessTurn → Processes → Type 0
AreAgreed f keys start turns after =
    (steps : List NodeTurn) × AreNodes f keys start turns after steps
    × ((faulty : ℕ → Bool) → AreShared f keys → FewAreFaulty f faulty
    → AreAuthentic faulty (new_node_replicas f keys start) steps
    → BatchesDontCollide faulty (after_node_turns (new_node_replicas f keys start) steps)
    → StatesDontCollide faulty (after_node_turns (new_node_replicas f keys start) steps)
    → Agree start faulty (after_node_turns (new_node_replicas f keys start) steps))
    × ((faulty : ℕ → Bool) → 0 < f → AreShared f keys
    → AreAuthentic faulty (new_node_replicas f keys start) steps
    → TellsWhatWasSaid faulty turns (after_node_turns (new_node_replicas f keys start) steps) steps)

-- whatever turns processes take
abbrev pub ProcessesAgree : Type 0
ProcessesAgree = (f : ℕ) (keys : Keyring) (start : Beginning) (turns : List ProcessTurn) (after : Processes)
    → HaveTurned (new_processes f keys start) turns after
    → AreAgreed f keys start turns after
