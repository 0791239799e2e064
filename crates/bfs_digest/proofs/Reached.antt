-- What a step on the way up to the root knows.
use Rattle.std.proofs.Common.{◌≡◌, ℕ, Bool, true, false, cond, true≢false, IsTrue, Option, Some, None, refl, sym, ap, subst, ◌∙◌, eqb-true}
use Rattle.std.specs.Prelude.{◌↔◌}
use Rattle.std.specs.BTreeSet.{BTreeSet, contains, IsEmpty, Updates}
use Rattle.std.specs.List.{list_any}
use Rattle.std.specs.Ordering.{nat_cmp, is_eq}
use Rattle.std.specs.FinMap.{len, nat_cmp-IsAntisymmetric}
use Rattle.std.proofs.lemmas.Map.Views.{tells_apart}
use Rattle.bfs_model.specs.Server.Tree.{Inodes, root_id, parent_of}
use Rattle.bfs_model.specs.Server.Procedures.Renaming.{is_within}
use Rattle.bfs_model.specs.Server.WellFormed.{ReachesRoot, at_root, step}
use Rattle.bfs_model.proofs.Public.{reaches_within}
use Rattle.bfs_digest.specs.Inside.Formation.{AreReached}
use Rattle.bfs_tree.proofs.Public.{at_the_end}

-- one step up
pub up_from : (above : ℕ → Option ℕ) (id parent : ℕ) → above id ≡ Some parent → (id ≡ root_id → ⊥) → ReachesRoot above id → ReachesRoot above parent
up_from above id parent up apart (at_root is) = absurd (apart is)
up_from above id parent up apart (step other is way) = let same : other ≡ parent = cc in subst (ReachesRoot above) same way

pub no_way : (above : ℕ → Option ℕ) (id : ℕ) → above id ≡ None → (id ≡ root_id → ⊥) → ReachesRoot above id → ⊥
no_way above id top apart (at_root is) = apart is
no_way above id top apart (step parent is way) = absurd cc

-- what is not reached is not the root
pub apart_from_root : (m : Inodes) (has : ℕ → Bool) (id : ℕ) → AreReached m has → has id ≡ false → id ≡ root_id → ⊥
apart_from_root m has id reached out is = true≢false (sym reached.root ∙ ap has (sym is) ∙ out)

-- a step up from what is not reached
pub further : (m : Inodes) (has : ℕ → Bool) (first id parent : ℕ) → AreReached m has → has id ≡ false → parent_of m id ≡ Some parent → (ReachesRoot (parent_of m) id ↔ ReachesRoot (parent_of m) first)
    → ReachesRoot (parent_of m) parent ↔ ReachesRoot (parent_of m) first
further m has first id parent reached out up so_far = (λ way. so_far.0 (step parent up way), λ way. up_from (parent_of m) id parent up (apart_from_root m has id reached out) (so_far.1 way))

pub found : (m : Inodes) (has : ℕ → Bool) (first id : ℕ) → AreReached m has → has id ≡ true → (ReachesRoot (parent_of m) id ↔ ReachesRoot (parent_of m) first) → IsTrue true ↔ ReachesRoot (parent_of m) first
found m has first id reached in_it so_far = (λ _. so_far.0 (reached.way id in_it), λ _. refl)

pub ended : (m : Inodes) (has : ℕ → Bool) (first id : ℕ) → AreReached m has → has id ≡ false → parent_of m id ≡ None → (ReachesRoot (parent_of m) id ↔ ReachesRoot (parent_of m) first) → IsTrue false ↔ ReachesRoot (parent_of m) first
ended m has first id reached out top so_far = (λ is. absurd (true≢false (sym is)), λ way. absurd (no_way (parent_of m) id top (apart_from_root m has id reached out) (so_far.1 way)))

-- after as many steps as there are inodes
pub walked : (m : Inodes) (has : ℕ → Bool) (first id steps : ℕ) (b : Bool) → steps ≡ 0 → AreReached m has → has id ≡ b → (ReachesRoot (parent_of m) id ↔ ReachesRoot (parent_of m) first) → is_within m steps id root_id ≡ is_within m (len m) first root_id
    → IsTrue b ↔ ReachesRoot (parent_of m) first
walked m has first id steps true none reached is so_far left = found m has first id reached is so_far
walked m has first id steps false none reached is so_far left = (
  λ no. absurd (true≢false (sym no)),
  λ way. absurd (apart_from_root m has id reached is (eqb-true id root_id (sym (at_the_end m steps id root_id none) ∙ left ∙ reaches_within m first way))),
)

-- at first the root alone
first_by : (m : Inodes) (q : ℕ) (b : Bool) → is_eq (nat_cmp root_id q) ≡ b → cond b true false ≡ true → ReachesRoot (parent_of m) q
first_by m q true same in_it = at_root (sym (tells_apart nat_cmp-IsAntisymmetric root_id q same))
first_by m q false same in_it = absurd (true≢false (sym in_it))

pub first_reached : (m : Inodes) (before after : BTreeSet ℕ) (root : ℕ) → root ≡ root_id → IsEmpty before → Updates nat_cmp before after root true → AreReached m (contains nat_cmp after)
first_reached m before after root is none updates =
    let here : Updates nat_cmp before after root_id true = subst (λ k. Updates nat_cmp before after k true) is updates in
    record {
      root = here.1;
      way = λ q in_it. first_by m q (is_eq (nat_cmp root_id q)) refl (ap (λ keys. cond (is_eq (nat_cmp root_id q)) true (list_any (λ k. is_eq (nat_cmp q k)) keys)) (sym none) ∙ sym (here.0 q) ∙ in_it);
    }
