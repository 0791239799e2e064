-- Walks up the tree: the way from a directory to the root, and the bounded walk of RENAME's table.
use Rattle.std.proofs.Common.{◌≡◌, ℕ, zero, suc, ◌+◌, ◌-◌, ◌<◌, ◌≤◌, ◌==◌, ◌||◌, Bool, true, false, cond, true≢false, IsTrue, Option, Some, None, is_some, refl, sym, ap, subst, ◌∙◌, arith, eqb-true, eq-eqb}
use Rattle.std.specs.Option.{option_map_or}
use Rattle.std.specs.Ordering.{nat_cmp, eq_by_cmp}
use Rattle.std.specs.Cmp.{nat_cmp_total}
use Rattle.std.specs.FinMap.{get, remove, len, get-remove, get-empty, len-remove, empty_of_len, nat_cmp-IsAntisymmetric}
use Rattle.std.proofs.lemmas.Map.Views.{tells_apart}
use Rattle.std.proofs.lemmas.Bool.{or_parts, or_right}
use Rattle.bfs_model.specs.Server.Tree.{Inode, Inodes, root_id, is_directory, parent_at, parent_of}
use Rattle.bfs_model.specs.Server.Procedures.Renaming.{is_within}
use Rattle.bfs_model.specs.Server.WellFormed.{ReachesRoot, at_root, step}
use Rattle.bfs_model.proofs.WellFormed.Sums.{WellFormed, cut}

-- How long a way is ---------------------------------------------------------------------------------------------------

abbrev pub depth : {above : ℕ → Option ℕ} {id : ℕ} → ReachesRoot above id → ℕ
depth (at_root is) = 0
depth (step parent is way) = depth way + 1

same_parent : {o : Option ℕ} (p q : ℕ) → o ≡ Some p → o ≡ Some q → p ≡ q
same_parent p q is also = cc

no_parent : {o : Option ℕ} (p : ℕ) → o ≡ None → o ≡ Some p → ⊥
no_parent p none is = cc

-- all ways from an id are of one length, if none goes on from the root
pub same_depth : (above : ℕ → Option ℕ) → above root_id ≡ None → (id other : ℕ) → id ≡ other → (way : ReachesRoot above id) (also : ReachesRoot above other) → depth way ≡ depth also
same_depth above none id other same (at_root is) (at_root are) = refl
same_depth above none id other same (at_root is) (step parent to way) = absurd (no_parent parent none (ap above (sym is ∙ same) ∙ to))
same_depth above none id other same (step parent to way) (at_root is) = absurd (no_parent parent none (ap above (sym is ∙ sym same) ∙ to))
same_depth above none id other same (step parent to way) (step next goes also) =
    ap (λ n. n + 1) (same_depth above none parent next (same_parent parent next to (ap above same ∙ goes)) way also)

-- Pigeonhole ----------------------------------------------------------------------------------------------------------

-- one that is there
there_counted : (n : ℕ) (m : Inodes) (id : ℕ) → len m ≡ n → is_some (get m id) ≡ true → 1 ≤ n
there_counted zero m id none there =
    absurd (nothing_there (get m id) (ap (λ (o : Inodes). get o id) (empty_of_len m none) ∙ get-empty nat_cmp id) there)
  where
    nothing_there : (o : Option Inode) → o ≡ None → is_some o ≡ true → ⊥
    nothing_there o e t = cc (ap is_some e)
there_counted (suc n) m id some there = omega arith

removed_counted : (m : Inodes) (id : ℕ) → is_some (get m id) ≡ true → len (remove m id) + 1 ≡ len m
removed_counted m id there =
    let least : 1 ≤ len m = there_counted (len m) m id refl there in
    let less : len (remove m id) ≡ len m - 1 = len-remove nat_cmp_total m id ∙ ap (λ b. cond b (len m - 1) (len m)) there in
    omega arith

kept_there : (b : Bool) (o : Option Inode) → b ≡ false → is_some o ≡ true → is_some (cond b None o) ≡ true
kept_there true o other there = absurd (true≢false other)
kept_there false o other there = there

-- what has a way that is not the longest is not at its end
shorter_apart : (above : ℕ → Option ℕ) → above root_id ≡ None → (id other : ℕ) (way : ReachesRoot above id) (also : ReachesRoot above other) → depth also < depth way → (b : Bool) → eq_by_cmp nat_cmp other id ≡ b → b ≡ false
shorter_apart above none id other way also less true is =
    let alike : depth way ≡ depth also = same_depth above none id other (sym (tells_apart nat_cmp-IsAntisymmetric other id is)) way also in
    absurd (omega arith)
shorter_apart above none id other way also less false is = refl

-- a way has no more steps than a map has inodes that holds what is on it, but for the root
pub depth_within : (above : ℕ → Option ℕ) → above root_id ≡ None → {id : ℕ} (way : ReachesRoot above id) (m : Inodes)
    → ((other parent : ℕ) → above other ≡ Some parent → (also : ReachesRoot above other) → depth also ≤ depth way → is_some (get m other) ≡ true)
    → depth way ≤ len m
depth_within above none (at_root is) m there = omega arith
depth_within above none {id = id} (step parent to way) m there =
    let less : len (remove m id) + 1 ≡ len m = removed_counted m id (there id parent to (step parent to way) (omega arith)) in
    let rest : depth way ≤ len (remove m id) = depth_within above none way (remove m id) still_there in
    omega arith
  where
    still_there : (other next : ℕ) → above other ≡ Some next → (also : ReachesRoot above other) → depth also ≤ depth way → is_some (get (remove m id) other) ≡ true
    still_there other next goes also no_deeper =
        let apart : eq_by_cmp nat_cmp other id ≡ false = shorter_apart above none id other (step parent to way) also (omega arith) (eq_by_cmp nat_cmp other id) refl in
        rw (get-remove nat_cmp_total m id other) (kept_there (eq_by_cmp nat_cmp other id) (get m other) apart (there other next goes also (omega arith)))

-- The bounded walk ----------------------------------------------------------------------------------------------------

-- what has a parent is there
has_parent : (o : Option Inode) (b : Bool) (parent : ℕ) → cond b None (parent_at o) ≡ Some parent → is_some o ≡ true
has_parent None true parent to = cc
has_parent None false parent to = cc
has_parent (Some inode) b parent to = refl

root_ends : (m : Inodes) → parent_of m root_id ≡ None
root_ends m = refl

-- no way up is longer than there are inodes
pub depth_counted : (m : Inodes) (id : ℕ) (way : ReachesRoot (parent_of m) id) → depth way ≤ len m
depth_counted m id way = depth_within (parent_of m) (root_ends m) way m (λ other parent to also no_deeper. has_parent (get m other) (other == root_id) parent to)

is_within-step : (m : Inodes) (steps id other parent : ℕ) → parent_of m id ≡ Some parent → is_within m (suc steps) id other ≡ (id == other || is_within m steps parent other)
unfolding is_within
is_within-step m steps id other parent to = ap (λ o. id == other || option_map_or (λ p. is_within m steps p other) o false) to

is_within-same : (m : Inodes) (steps id other : ℕ) → id ≡ other → is_within m steps id other ≡ true
unfolding is_within
is_within-same m zero id other same = eq-eqb id other same
is_within-same m (suc steps) id other same = rw (eq-eqb id other same) refl

-- a walk that is long enough and does not meet an id reaches the root also where the way is cut there
pub way_past : (m : Inodes) (apart : ℕ) {id : ℕ} (way : ReachesRoot (parent_of m) id) (steps : ℕ) → depth way ≤ steps → is_within m steps id apart ≡ false → ReachesRoot (cut (parent_of m) apart) id
way_past m apart (at_root is) steps enough past = at_root is
way_past m apart (step parent to way) zero enough past = absurd (omega arith)
way_past m apart {id = id} (step parent to way) (suc steps) enough past =
    let tests = or_parts (id == apart) (is_within m steps parent apart) (sym (is_within-step m steps id apart parent to) ∙ past) in
    step parent (ap (λ b. cond b None (parent_of m id)) tests.0 ∙ to) (way_past m apart way steps (omega arith) tests.1)

-- a walk that is long enough meets the root
pub walk_met : (m : Inodes) {id : ℕ} (way : ReachesRoot (parent_of m) id) (steps : ℕ) → depth way ≤ steps → is_within m steps id root_id ≡ true
walk_met m {id = id} (at_root is) steps enough = is_within-same m steps id root_id is
walk_met m (step parent to way) zero enough = absurd (omega arith)
walk_met m {id = id} (step parent to way) (suc steps) enough =
    is_within-step m steps id root_id parent to ∙ ap (λ b. id == root_id || b) (walk_met m way steps (omega arith)) ∙ or_right (id == root_id) true refl

-- by the first test, and where it fails by the parent
through : (above : ℕ → Option ℕ) (meets : ℕ → Bool) (id other : ℕ) → ReachesRoot above other → ((parent : ℕ) → meets parent ≡ true → ReachesRoot above parent)
    → (b : Bool) → (id == other) ≡ b → (o : Option ℕ) → above id ≡ o → (b || option_map_or meets o false) ≡ true → ReachesRoot above id
through above meets id other way again true is o to met = subst (ReachesRoot above) (sym (eqb-true id other is)) way
through above meets id other way again false is None to met = absurd (true≢false (sym met))
through above meets id other way again false is (Some parent) to met = step parent to (again parent met)

-- a walk that meets what reaches the root reaches it
pub way_through : (m : Inodes) (steps id other : ℕ) → is_within m steps id other ≡ true → ReachesRoot (parent_of m) other → ReachesRoot (parent_of m) id
unfolding is_within
way_through m zero id other met way = subst (ReachesRoot (parent_of m)) (sym (eqb-true id other met)) way
way_through m (suc steps) id other met way =
    through (parent_of m) (λ parent. is_within m steps parent other) id other way (λ parent meets. way_through m steps parent other meets way) (id == other) refl (parent_of m id) refl met

-- What a tree's walks tell --------------------------------------------------------------------------------------------

pub way_met : (m : Inodes) (steps id : ℕ) → is_within m steps id root_id ≡ true → ReachesRoot (parent_of m) id
way_met m steps id met = way_through m steps id root_id met (at_root refl)

pub reaches_within : (m : Inodes) (id : ℕ) → ReachesRoot (parent_of m) id → is_within m (len m) id root_id ≡ true
reaches_within m id way = walk_met m way (len m) (depth_counted m id way)

-- what is not below a directory reaches the root without it
pub way_not_below : (m : Inodes) (id apart : ℕ) → ReachesRoot (parent_of m) id → is_within m (len m) id apart ≡ false → ReachesRoot (cut (parent_of m) apart) id
way_not_below m id apart way past = way_past m apart way (len m) (depth_counted m id way) past

pub not_below : (m : Inodes) → WellFormed m → (id apart : ℕ) → IsTrue (is_directory (get m id)) → is_within m (len m) id apart ≡ false → ReachesRoot (cut (parent_of m) apart) id
not_below m formed id apart folder past = way_not_below m id apart (formed.reaches id folder) past
