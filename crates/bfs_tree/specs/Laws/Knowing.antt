-- The laws of a tree's reach.
use Rattle.std.specs.Prelude.{◌≡◌, ℕ, true, not, ⊤, is_some}
use Rattle.std.proofs.Common.{ap, ◌∙◌, eqb-true}
use Rattle.std.specs.Ordering.{nat_cmp}
use Rattle.std.specs.FinMap.{FinMap, get, len, empty_of_len, get-empty}
use Rattle.bfs_tree.specs.Tree.{reach_without}

pub knows_all : (lent : FinMap nat_cmp ⊤) → (reach_without lent).whole ≡ true → (id : ℕ) → (reach_without lent).known id ≡ true
knows_all lent whole id = ap (λ m. not (is_some (get m id))) (empty_of_len lent (eqb-true (len lent) 0 whole)) ∙ ap (λ o. not (is_some o)) (get-empty nat_cmp id)
