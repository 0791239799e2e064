-- The statements that are proved of the definitions: contracts of functions of src/laws.rt, which do nothing.
use Rattle.std.specs.Prelude.{◌≡◌, ℕ, ◌+◌, ◌*◌, ◌<◌, ◌≤◌, Bool, true, false, ◌||◌, List}
use Rattle.bfs_votes.specs.Votes.{Header, told, Told, count_below, replicas, primary, tellers, committed}
use Rattle.bfs_agreement.specs.Histories.{IsIn, ViewChange, NewView, Execution, World, Executed, FewAreFaulty, HasSaid, IsChoice}
use Rattle.bfs_agreement.specs.Moves.{Step, after_steps, AreAllowed, new_world}
use Rattle.bfs_agreement.specs.Choice.{chosen}
use Rattle.bfs_agreement.specs.Calls.{HeaderTurn, after_header_turns, AreAuthentic}
use Rattle.bfs_agreement.specs.Nodes.{Service, ServiceTurn, DontCollide, after_service_turns, MayTakeServiceTurns, new_nodes, ComesOfBatches}
use Rattle.bfs_votes.specs.Tags.{commit_tag, pre_prepare_tag}

-- Across views ---------------------------------------------------------------------------------------------------------

-- 2f + 1 replicas have sent a COMMIT of the digest, or are faulty
abbrev pub HasQuorum : (f : ℕ) (faulty : ℕ → Bool) → World → (view number : ℕ) → List ℕ → Type 0
HasQuorum f faulty w view number digest = 2 * f + 1 ≤ count_below (λ k. faulty k || told (w k).sent 4 k view number digest) (replicas f)

-- then each NEW-VIEW of a later view by which a correct replica has entered has the digest, or begins behind the number
abbrev pub Carries : (f : ℕ) (faulty : ℕ → Bool) → World → (view number : ℕ) → List ℕ → (later : ℕ) → Type 0
Carries f faulty w view number digest later = (k : ℕ) (r : NewView) → faulty k ≡ false → IsIn r (w k).entered
    → r.view ≡ later → r.min_s < number → view < later → Told r.proposals pre_prepare_tag (primary f later) later number digest

abbrev pub QuorumsAreCarried : Type 0
QuorumsAreCarried = (f : ℕ) (faulty : ℕ → Bool) (steps : List Step) (view number later : ℕ) (digest : List ℕ)
    → FewAreFaulty f faulty → AreAllowed f faulty new_world steps → HasQuorum f faulty (after_steps f new_world steps) view number digest
    → Carries f faulty (after_steps f new_world steps) view number digest later

-- any two that execute a batch for a number, in whatever views, execute one digest
abbrev pub AgreesEverywhere : World → Type 0
AgreesEverywhere w = (i j : ℕ) (one other : Header) → Executed (w i) one → Executed (w j) other → one.number ≡ other.number → one.digest ≡ other.digest

-- over every list of moves
abbrev pub MovesAgree : Type 0
MovesAgree = (f : ℕ) (faulty : ℕ → Bool) (steps : List Step) → FewAreFaulty f faulty → AreAllowed f faulty new_world steps
    → AgreesEverywhere (after_steps f new_world steps)

-- over every list of calls and deliveries
abbrev pub CallsAgree : Type 0
CallsAgree = (f : ℕ) (null : List ℕ) (faulty : ℕ → Bool) (turns : List HeaderTurn) → FewAreFaulty f faulty → AreAuthentic f null faulty new_world turns
    → AgreesEverywhere (after_header_turns f null new_world turns)

-- the batches are equal where no two texts of them have one digest
abbrev pub BatchesAgree : Type 0
BatchesAgree = (f : ℕ) (null : List ℕ) (faulty : ℕ → Bool) (turns : List HeaderTurn) → FewAreFaulty f faulty → AreAuthentic f null faulty new_world turns
    → (hash : List ℕ → List ℕ) (i j : ℕ) (one other : Header) (text text' : List ℕ)
    → Executed (after_header_turns f null new_world turns i) one → Executed (after_header_turns f null new_world turns j) other → one.number ≡ other.number
    → one.digest ≡ hash text → other.digest ≡ hash text' → DontCollide hash text text' → text ≡ text'

-- any two that reach a number, by executing or adopting, in whatever views, have one state there, that of batches which were executed
abbrev pub StatesAgree : Type 0
StatesAgree = (service : Service) (f : ℕ) (null : List ℕ) (faulty : ℕ → Bool) (turns : List ServiceTurn)
    → FewAreFaulty f faulty → MayTakeServiceTurns service f null faulty (new_nodes service) turns
    → (i j number : ℕ) (state other : List ℕ)
    → IsIn (record { number = number; state = state }) (after_service_turns service f null (new_nodes service) turns i).reached
    → IsIn (record { number = number; state = other }) (after_service_turns service f null (new_nodes service) turns j).reached
    → (state ≡ other) × ComesOfBatches service (after_service_turns service f null (new_nodes service) turns) number state

-- In one view -----------------------------------------------------------------------------------------------------------

-- for each number the PRE-PREPAREs, PREPAREs and COMMITs that a correct replica sends in a view tell one digest
abbrev pub TellsOneDigest : (faulty : ℕ → Bool) → World → Type 0
TellsOneDigest faulty w = (k one other view number : ℕ) (digest digest' : List ℕ) → faulty k ≡ false
    → HasSaid (w k) one k view number digest → HasSaid (w k) other k view number digest' → digest ≡ digest'

abbrev pub SaysOneDigest : Type 0
SaysOneDigest = (f : ℕ) (null : List ℕ) (faulty : ℕ → Bool) (turns : List HeaderTurn) → AreAuthentic f null faulty new_world turns
    → TellsOneDigest faulty (after_header_turns f null new_world turns)

-- a batch is executed where the log has it committed, so with COMMITs of its digest from 2f + 1 replicas
abbrev pub ExecutesCommitted : Type 0
ExecutesCommitted = (f : ℕ) (null : List ℕ) (faulty : ℕ → Bool) (turns : List HeaderTurn) → AreAuthentic f null faulty new_world turns
    → (k : ℕ) (x : Execution) → IsIn x (after_header_turns f null new_world turns k).executions
    → (committed f k x.log x.proposal.view x.proposal.number x.proposal.digest ≡ true)
    × (2 * f + 1 ≤ tellers f x.log commit_tag x.proposal.view x.proposal.number x.proposal.digest)

-- any two that execute a batch for a number in one view execute one digest
abbrev pub AgreesInView : Type 0
AgreesInView = (f : ℕ) (null : List ℕ) (faulty : ℕ → Bool) (turns : List HeaderTurn) → FewAreFaulty f faulty → AreAuthentic f null faulty new_world turns
    → (i j view number : ℕ) (one other : Header)
    → Executed (after_header_turns f null new_world turns i) one → Executed (after_header_turns f null new_world turns j) other
    → one.view ≡ view → other.view ≡ view → one.number ≡ number → other.number ≡ number → one.digest ≡ other.digest

-- The choice ------------------------------------------------------------------------------------------------------------

abbrev pub ChoiceIsByItsRule : Type 0
ChoiceIsByItsRule = (f view : ℕ) (null : List ℕ) (ms : List ViewChange) → IsChoice f (chosen f view null ms)
