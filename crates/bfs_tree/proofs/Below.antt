-- The ways that a step of the walk up the tree goes.
use Rattle.std.proofs.Common.{◌≡◌, ℕ, zero, suc, ◌+◌, ◌==◌, true, false, Some, None, refl, ap, add-one}
use Rattle.std.specs.Option.{option_map_or}
use Rattle.bfs_model.specs.Server.Tree.{Inodes, parent_of}
use Rattle.bfs_model.specs.Server.Procedures.Renaming.{is_within}

pub met : (m : Inodes) (steps id other : ℕ) → (id == other) ≡ true → is_within m steps id other ≡ true
unfolding is_within
met m zero id other is = is
met m (suc steps) id other is = rw is refl

pub at_the_top : (m : Inodes) (steps id other : ℕ) → (id == other) ≡ false → parent_of m id ≡ None → is_within m steps id other ≡ false
unfolding is_within
at_the_top m zero id other apart top = apart
at_the_top m (suc steps) id other apart top = rw apart (ap (λ o. option_map_or (λ parent. is_within m steps parent other) o false) top)

pub one_up : (m : Inodes) (steps left id other parent : ℕ) → steps ≡ left + 1 → (id == other) ≡ false → parent_of m id ≡ Some parent → is_within m steps id other ≡ is_within m left parent other
unfolding is_within
one_up m steps left id other parent is apart up = rw (is, add-one, apart) (ap (λ o. option_map_or (λ parent. is_within m left parent other) o false) up)

pub at_the_end : (m : Inodes) (steps id other : ℕ) → steps ≡ 0 → is_within m steps id other ≡ (id == other)
unfolding is_within
at_the_end m steps id other is = rw is refl
