-- What the laws ask of calls and deliveries.
use Rattle.std.specs.Prelude.{◌≡◌, ℕ, ◌<◌, ◌==◌, Bool, false, List, [], ◌∷◌}
use Rattle.bfs_votes.specs.Votes.{Told, primary}
use Rattle.bfs_votes.specs.Tags.{pre_prepare_tag}
use Rattle.bfs_agreement.specs.Histories.{World, WasSent, FewAreFaulty}
use Rattle.bfs_agreement.specs.Moves.{new_world}
use Rattle.bfs_agreement.specs.Choice.{chosen}
use Rattle.bfs_agreement.specs.Calls.{HeaderCall, Receives, Orders, Settles, TimesOut, ChangesView, Runs, HeaderTurn, after_header_turn, after_header_turns, AreAuthentic}

-- the PRE-PREPAREs of a NEW-VIEW under a correct primary's name were sent by it: authenticators aren't forged (OSDI 1999 section 2)
abbrev pub IsOffered : (f : ℕ) (null : List ℕ) (faulty : ℕ → Bool) → World → (who : ℕ) → HeaderCall → Type 0
IsOffered f null faulty w who (Receives h) = Unit {0}
IsOffered f null faulty w who (Orders digest) = Unit {0}
IsOffered f null faulty w who (Settles number) = Unit {0}
IsOffered f null faulty w who TimesOut = Unit {0}
IsOffered f null faulty w who (ChangesView v changes) = (who == primary f v) ≡ false → (sender view number : ℕ) (digest : List ℕ)
    → Told (chosen f v null changes).proposals pre_prepare_tag sender view number digest → WasSent faulty w pre_prepare_tag sender view number digest
IsOffered f null faulty w who (Runs h) = Unit {0}

-- so it is at each turn
abbrev pub AreOffered : (f : ℕ) (null : List ℕ) (faulty : ℕ → Bool) → World → List HeaderTurn → Type 0
AreOffered f null faulty w [] = Unit {0}
AreOffered f null faulty w (turn ∷ turns) = IsOffered f null faulty w turn.who turn.call × AreOffered f null faulty (after_header_turn f null w turn) turns

-- calls and deliveries that the laws speak of: at most f replicas lie, and nothing is forged (OSDI 1999 section 2)
pub record IsARun (f : ℕ) (null : List ℕ) (faulty : ℕ → Bool) (turns : List HeaderTurn) : Type 0 where
  pub others : 0 < f
  pub few : FewAreFaulty f faulty
  pub authentic : AreAuthentic f null faulty new_world turns
  pub offered : AreOffered f null faulty new_world turns

-- all replicas after calls and deliveries, from the beginning
abbrev pub reached : (f : ℕ) (null : List ℕ) → List HeaderTurn → World
reached f null turns = after_header_turns f null new_world turns
