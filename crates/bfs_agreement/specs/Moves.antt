-- What a replica may do next, in a world of 3f + 1 of them. Each call of a replica is a list of these moves.
use Rattle.std.specs.Prelude.{◌≡◌, ℕ, ◌+◌, ◌<◌, ◌≤◌, ◌==◌, Bool, true, false, ◌&&◌, List, [], ◌∷◌, ◌++◌, nat_lt, nat_le, if◌then◌else◌}
use Rattle.bfs_votes.specs.Votes.{Header, is_taken, Told, primary, prepared, committed}
use Rattle.bfs_agreement.specs.Histories.{IsIn, Certificate, ViewChange, NewView, State, History, World, WasSent, IsValidNewView}
use Rattle.bfs_votes.specs.Tags.{commit_tag, pre_prepare_tag, prepare_tag}

pub data Move : Type 0 where
  -- a message of another, or its own that comes back
  Accepts : Header → Move
  -- a PRE-PREPARE, PREPARE or COMMIT of its own
  Says : Header → Move
  -- the low mark rises, and the log up to it goes
  Drops : (number : ℕ) → Move
  -- with the VIEW-CHANGE that it sends
  Leaves : ViewChange → Move
  -- by a NEW-VIEW of another, or its own
  Enters : NewView → Move
  -- the batch with that PRE-PREPARE
  Executes : Header → Move

-- of the view entered while no later one is asked for, within the marks, and nothing is there yet (OSDI 1999 sections 4.2 and 4.4)
pub record IsOpen (s : State) (h : Header) : Type 0 where
  pub view : h.view ≡ s.view
  pub asked : s.asked ≡ s.view
  pub low : s.low < h.number
  pub min_s : s.min_s < h.number
  pub high : h.number ≤ s.low + 32
  pub free : is_taken s.log h ≡ false

pub record MayAccept (faulty : ℕ → Bool) (w : World) (s : State) (h : Header) : Type 0 where
  pub opened : IsOpen s h
  pub authentic : WasSent faulty w h.tag h.sender h.view h.number h.digest

-- a primary proposes above what the NEW-VIEW had; a backup answers the PRE-PREPARE; who is prepared sends a COMMIT (OSDI 1999 section 4.2)
pub data Reason (f me : ℕ) (s : State) (h : Header) : Type 0 where
  Proposes : h.tag ≡ pre_prepare_tag → me ≡ primary f h.view → s.handed < h.number → Reason f me s h
  Prepares : h.tag ≡ prepare_tag → Told s.log pre_prepare_tag (primary f h.view) h.view h.number h.digest → Reason f me s h
  Commits : h.tag ≡ commit_tag → prepared f me s.log h.view h.number h.digest ≡ true → Reason f me s h

pub record MaySay (f me : ℕ) (s : State) (h : Header) : Type 0 where
  pub opened : IsOpen s h
  pub own : h.sender ≡ me
  pub reason : Reason f me s h

-- for a view above all asked for before, with the low mark and a certificate for all that is prepared above it (OSDI 1999 section 4.4)
pub record MayLeave (f me : ℕ) (s : State) (m : ViewChange) : Type 0 where
  pub asked : s.asked < m.view
  pub stable : m.stable ≡ s.low
  pub all : (view number : ℕ) (digest : List ℕ) → prepared f me s.log view number digest ≡ true → s.low < number
      → (c : Certificate) × IsIn c m.certificates × (c.proposal.number ≡ number) × (view ≤ c.proposal.view)

-- a view above the one entered, and not below the one asked for
pub record MayEnter (f : ℕ) (faulty : ℕ → Bool) (w : World) (s : State) (r : NewView) : Type 0 where
  pub above : s.view < r.view
  pub asked : s.asked ≤ r.view
  pub valid : IsValidNewView f faulty w r

-- what is above a number
abbrev pub kept_above : (number : ℕ) → List Header → List Header
kept_above number [] = []
kept_above number (h ∷ log) = if nat_lt number h.number then h ∷ kept_above number log else kept_above number log

-- the log with what is handed over within the marks: there all of it is taken, and what is beyond is passed over
abbrev pub taken_in : (low : ℕ) (handed log : List Header) → List Header
taken_in low [] log = log
taken_in low (h ∷ hs) log = if nat_lt low h.number && nat_le h.number (low + 32) then h ∷ taken_in low hs log else taken_in low hs log

abbrev pub after_move : (f me : ℕ) → History → Move → History
after_move f me p (Accepts h) = record p { now = record p.now { log = h ∷ p.now.log } }
after_move f me p (Says h) = record p { now = record p.now { log = h ∷ p.now.log }; sent = h ∷ p.sent }
after_move f me p (Drops number) = record p { now = record p.now { low = number; log = kept_above number p.now.log } }
after_move f me p (Leaves m) = record p { now = record p.now { asked = m.view }; changes = m ∷ p.changes }
after_move f me p (Enters r) =
    record p {
      now = record p.now { view = r.view; asked = r.view; min_s = r.min_s; handed = r.top; log = taken_in p.now.low r.proposals p.now.log };
      offers = if me == primary f r.view then r.proposals ++ p.offers else p.offers;
      entered = r ∷ p.entered;
    }
after_move f me p (Executes h) = record p { executions = record { proposal = h; log = p.now.log } ∷ p.executions }

-- what the rules of the order and the authenticators let a replica do
abbrev pub IsAllowed : (f : ℕ) (faulty : ℕ → Bool) → World → (me : ℕ) → History → Move → Type 0
IsAllowed f faulty w me p (Accepts h) = MayAccept faulty w p.now h
IsAllowed f faulty w me p (Says h) = MaySay f me p.now h
IsAllowed f faulty w me p (Drops number) = p.now.low < number
IsAllowed f faulty w me p (Leaves m) = MayLeave f me p.now m
IsAllowed f faulty w me p (Enters r) = MayEnter f faulty w p.now r
IsAllowed f faulty w me p (Executes h) = committed f me p.now.log h.view h.number h.digest ≡ true

-- a move of one replica
pub record Step : Type 0 where
  pub who : ℕ
  pub move : Move

-- one replica's history is another one
abbrev pub with_history : World → ℕ → History → World
with_history w i p = λ j. if j == i then p else w j

abbrev pub after_step : (f : ℕ) → World → Step → World
after_step f w step = with_history w step.who (after_move f step.who (w step.who) step.move)

abbrev pub after_steps : (f : ℕ) → World → List Step → World
after_steps f w [] = w
after_steps f w (step ∷ steps) = after_steps f (after_step f w step) steps

-- each step is allowed where it comes
abbrev pub AreAllowed : (f : ℕ) (faulty : ℕ → Bool) → World → List Step → Type 0
AreAllowed f faulty w [] = Unit {0}
AreAllowed f faulty w (step ∷ steps) = IsAllowed f faulty w step.who (w step.who) step.move × AreAllowed f faulty (after_step f w step) steps

-- of a replica that has done nothing, in view 0
abbrev pub new_history : History
new_history =
    record {
      now = record { view = 0; asked = 0; low = 0; min_s = 0; handed = 0; log = [] };
      sent = [];
      offers = [];
      changes = [];
      entered = [];
      executions = [];
    }

abbrev pub new_world : World
new_world = λ k. new_history
