-- The laws of a share's reach.
use Rattle.std.specs.Prelude.{◌≡◌, ℕ, true, false, not, ◌||◌, ⊤, List, is_some}
use Rattle.std.proofs.Common.{ap, true≢false, sym}
use Rattle.std.specs.Ordering.{nat_cmp}
use Rattle.std.specs.FinMap.{FinMap, get}
use Rattle.bfs_model.specs.Server.Tree.{Inodes}
use Rattle.bfs_handover.specs.Loans.{reach_with}

pub knows_owned : (lent : FinMap nat_cmp ⊤) (home : Inodes) (ids : List ℕ) (id : ℕ) → (reach_with lent home ids).owned id ≡ true → (reach_with lent home ids).known id ≡ true
knows_owned lent home ids id owned = ap (λ b. b || not (is_some (get lent id))) owned

pub never_whole : {A : Type 0} → false ≡ true → A
never_whole whole = absurd (true≢false (sym whole))
