-- Replicas with their states: executing in order, CHECKPOINTs, and adopting the state of a stable one (OSDI 1999 section 4.3).
use Rattle.std.specs.Prelude.{◌≡◌, ℕ, zero, suc, ◌+◌, ◌*◌, ◌≤◌, ◌==◌, Bool, false, ◌&&◌, ◌||◌, List, [], ◌∷◌, bytes_eq, if◌then◌else◌}
use Rattle.std.specs.List.{list_any}
use Rattle.bfs_votes.specs.Votes.{Header, count_below, replicas}
use Rattle.bfs_agreement.specs.Histories.{IsIn, History, World, Executed}
use Rattle.bfs_agreement.specs.Moves.{Move, Executes, after_move, IsAllowed, new_history}
use Rattle.bfs_agreement.specs.Calls.{HeaderCall, moves_of, IsAuthentic}

-- a CHECKPOINT of its own
pub record Checkpoint : Type 0 where
  pub number : ℕ
  pub digest : List ℕ

abbrev pub has_checkpoint : List Checkpoint → (number : ℕ) → List ℕ → Bool
has_checkpoint cs number digest = list_any (λ c. (c.number == number) && bytes_eq c.digest digest) cs

-- one move after another
abbrev pub after_moves : (f me : ℕ) → History → List Move → History
after_moves f me p [] = p
after_moves f me p (move ∷ moves) = after_moves f me (after_move f me p move) moves

-- any deterministic service: its first state, the state after a batch with that digest, and the digest of a state; a state is its text
pub record Service : Type 0 where
  pub first : List ℕ
  pub next : List ℕ → List ℕ → List ℕ
  pub hash : List ℕ → List ℕ

-- the state after the batches up to a number
pub record Snapshot : Type 0 where
  pub number : ℕ
  pub state : List ℕ

pub record ServiceNode : Type 0 where
  pub history : History
  -- the number last executed, and the state
  pub here : Snapshot
  -- each that there was
  pub reached : List Snapshot
  -- CHECKPOINTs that it has sent
  pub checkpoints : List Checkpoint

abbrev pub ServiceNodes : Type 0
ServiceNodes = ℕ → ServiceNode

abbrev pub histories : ServiceNodes → World
histories w = λ k. (w k).history

pub data ServiceCall : Type 0 where
  -- any call of the order; `Continues` executes with the state
  Calls : HeaderCall → ServiceCall
  -- the batch with that PRE-PREPARE is executed, which is that of the next number
  Continues : Header → ServiceCall
  -- it sends a CHECKPOINT
  Reports : ServiceCall
  -- a state with a stable CHECKPOINT is adopted
  Adopts : Snapshot → ServiceCall

abbrev pub after_service_call : Service → (f : ℕ) (null : List ℕ) (me : ℕ) → ServiceNode → ServiceCall → ServiceNode
after_service_call service f null me node (Calls call) =
    record node { history = after_moves f me node.history (moves_of f null me node.history.now call) }
after_service_call service f null me node (Continues h) =
    let here : Snapshot = record { number = suc node.here.number; state = service.next node.here.state h.digest } in
    record node { history = after_move f me node.history (Executes h); here = here; reached = here ∷ node.reached }
after_service_call service f null me node Reports =
    record node { checkpoints = record { number = node.here.number; digest = service.hash node.here.state } ∷ node.checkpoints }
after_service_call service f null me node (Adopts snapshot) = record node { here = snapshot; reached = snapshot ∷ node.reached }

-- two texts don't have one digest unless they are the same
abbrev pub DontCollide : (hash : List ℕ → List ℕ) → (one other : List ℕ) → Type 0
DontCollide hash one other = hash one ≡ hash other → one ≡ other

-- CHECKPOINTs of its digest from 2f + 1 replicas, and no other state that a correct one had at that number has its digest
-- (OSDI 1999 section 4.3)
pub record MayAdopt (service : Service) (f : ℕ) (faulty : ℕ → Bool) (w : ServiceNodes) (snapshot : Snapshot) : Type 0 where
  pub stable : 2 * f + 1
      ≤ count_below (λ k. faulty k || has_checkpoint (w k).checkpoints snapshot.number (service.hash snapshot.state)) (replicas f)
  pub no_collision : (k : ℕ) (state : List ℕ) → faulty k ≡ false → IsIn (record { number = snapshot.number; state = state }) (w k).reached
      → DontCollide service.hash snapshot.state state

abbrev pub MayCallService : Service → (f : ℕ) (faulty : ℕ → Bool) → ServiceNodes → (me : ℕ) → ServiceNode → ServiceCall → Type 0
MayCallService service f faulty w me node (Calls call) = IsAuthentic faulty (histories w) call
MayCallService service f faulty w me node (Continues h) =
    IsAllowed f faulty (histories w) me node.history (Executes h) × (h.number ≡ suc node.here.number)
MayCallService service f faulty w me node Reports = Unit {0}
MayCallService service f faulty w me node (Adopts snapshot) = MayAdopt service f faulty w snapshot

-- a call of one node
pub record ServiceTurn : Type 0 where
  pub who : ℕ
  pub call : ServiceCall

abbrev pub with_node : ServiceNodes → ℕ → ServiceNode → ServiceNodes
with_node w i node = λ j. if j == i then node else w j

abbrev pub after_service_turns : Service → (f : ℕ) (null : List ℕ) → ServiceNodes → List ServiceTurn → ServiceNodes
after_service_turns service f null w [] = w
after_service_turns service f null w (turn ∷ turns) =
    after_service_turns service f null (with_node w turn.who (after_service_call service f null turn.who (w turn.who) turn.call)) turns

-- each call may be made where it comes
abbrev pub MayTakeServiceTurns : Service → (f : ℕ) (null : List ℕ) (faulty : ℕ → Bool) → ServiceNodes → List ServiceTurn → Type 0
MayTakeServiceTurns service f null faulty w [] = Unit {0}
MayTakeServiceTurns service f null faulty w (turn ∷ turns) =
    MayCallService service f faulty w turn.who (w turn.who) turn.call
    × MayTakeServiceTurns service f null faulty (with_node w turn.who (after_service_call service f null turn.who (w turn.who) turn.call)) turns

abbrev pub new_node : Service → ServiceNode
new_node service =
    record {
      history = new_history;
      here = record { number = 0; state = service.first };
      reached = record { number = 0; state = service.first } ∷ [];
      checkpoints = [];
    }

abbrev pub new_nodes : Service → ServiceNodes
new_nodes service = λ k. new_node service

-- the state after batches that were executed as numbers 1 to n, each by some replica
abbrev pub ComesOfBatches : Service → ServiceNodes → (number : ℕ) → List ℕ → Type 0
ComesOfBatches service w zero state = state ≡ service.first
ComesOfBatches service w (suc number) state = (before : List ℕ) × (i : ℕ) × (h : Header) × ComesOfBatches service w number before
    × Executed (w i).history h × (h.number ≡ suc number) × (state ≡ service.next before h.digest)
