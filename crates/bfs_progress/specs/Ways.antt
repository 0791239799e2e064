-- Ways on: what members can do by themselves.
use Rattle.std.specs.Prelude.{◌≡◌, ℕ, ◌<◌, ◌≤◌, Bool, true, List, [], ◌∷◌, ◌⊎◌}
use Rattle.bfs_votes.specs.Votes.{committed}
use Rattle.bfs_agreement.specs.Histories.{World}
use Rattle.bfs_agreement.specs.Calls.{HeaderCall, Receives, Orders, Settles, TimesOut, ChangesView, Runs, HeaderTurn, after_header_turn, AreAuthentic}
use Rattle.bfs_progress.specs.Premises.{AreOffered}

-- each turn is a member's
abbrev pub AreTurnsOf : (members : ℕ → Bool) → List HeaderTurn → Type 0
AreTurnsOf members [] = Unit {0}
AreTurnsOf members (turn ∷ turns) = (members turn.who ≡ true) × AreTurnsOf members turns

-- each has all above its low mark up to a number committed in its view, and so can execute them one after another (OSDI 1999 section 4.2)
abbrev pub CanExecute : (f : ℕ) (members : ℕ → Bool) → World → (number : ℕ) → Type 0
CanExecute f members w number = (k n : ℕ) → members k ≡ true → (w k).now.low < n → n ≤ number
    → (digest : List ℕ) × (committed f k (w k).now.log (w k).now.view n digest ≡ true)

-- a number is stable at some member, or each can execute up to it, and so comes to tell of it (OSDI 1999 section 4.3)
abbrev pub CanBeStable : (f : ℕ) (members : ℕ → Bool) → World → (number : ℕ) → Type 0
CanBeStable f members w number = ((k : ℕ) × (members k ≡ true) × (number ≤ (w k).now.low)) ⊎ CanExecute f members w number

-- a call takes no other number for stable
abbrev pub MaySettle : (f : ℕ) (members : ℕ → Bool) → World → HeaderCall → Type 0
MaySettle f members w (Receives h) = Unit {0}
MaySettle f members w (Orders digest) = Unit {0}
MaySettle f members w (Settles number) = CanBeStable f members w number
MaySettle f members w TimesOut = Unit {0}
MaySettle f members w (ChangesView view changes) = Unit {0}
MaySettle f members w (Runs h) = Unit {0}

-- nor does any turn
abbrev pub MaySettleAll : (f : ℕ) (null : List ℕ) (members : ℕ → Bool) → World → List HeaderTurn → Type 0
MaySettleAll f null members w [] = Unit {0}
MaySettleAll f null members w (turn ∷ turns) = MaySettle f members w turn.call × MaySettleAll f null members (after_header_turn f null w turn) turns

-- turns of members, in which nothing comes but what was sent, and nothing is taken for stable that can't be
pub record IsWay (f : ℕ) (null : List ℕ) (faulty members : ℕ → Bool) (w : World) (turns : List HeaderTurn) : Type 0 where
  pub of_members : AreTurnsOf members turns
  pub authentic : AreAuthentic f null faulty w turns
  pub offered : AreOffered f null faulty w turns
  pub settled : MaySettleAll f null members w turns
