-- An ordinal that is new at each inode is fresh, whatever is touched.
use Rattle.std.proofs.Common.{◌≡◌, ℕ, ◌<◌, Bool, true, false, ◌||◌, List, [], ◌∷◌, Option, Some, None, is_some, refl, inr, ◌∙◌}
use Rattle.std.specs.Prelude.{All}
use Rattle.std.specs.List.{AllByRecursion, list_any}
use Rattle.std.specs.Ordering.{nat_cmp, eq_by_cmp}
use Rattle.std.specs.FinMap.{get, keys, contains_key, contains_key-keys, nat_cmp-IsAntisymmetric}
use Rattle.std.proofs.lemmas.List.Elements.{All-nil, recursion_from_All}
use Rattle.std.proofs.lemmas.Map.Views.{tells_apart}
use Rattle.bfs_model.specs.Server.Tree.{Entry, Inode, Inodes, first_ordinal, new_tree, entries_at}
use Rattle.bfs_model.proofs.Public.{fresh_where_numbered, new_is_numbered}
use Rattle.bfs_model.specs.Server.Footprints.{Footprint, known, whole, IsNewAt, IsNewIn, IsFreshFor}

-- where there is no inode
new_at_none : (m : Inodes) (o id : ℕ) (found : Option Inode) → get m id ≡ found → is_some found ≡ false → IsNewAt m o id
new_at_none m o id None there none = rw there ((λ is. refl), All-nil (λ (entry : Entry). entry.cookie < o))
new_at_none m o id (Some inode) there none = absurd (cc none)

among : (m : Inodes) (o id first : ℕ) (b rest : Bool) → eq_by_cmp nat_cmp id first ≡ b → (b || rest) ≡ true → IsNewAt m o first → (rest ≡ true → IsNewAt m o id) → IsNewAt m o id
among m o id first true rest is any new later = rw (tells_apart nat_cmp-IsAntisymmetric id first is) new
among m o id first false rest is any new later = later any

found_among : (m : Inodes) (o id : ℕ) (ids : List ℕ) → list_any (eq_by_cmp nat_cmp id) ids ≡ true → AllByRecursion (IsNewAt m o) ids → IsNewAt m o id
found_among m o id [] any each = absurd (cc any)
found_among m o id (first ∷ ids) any each =
    among m o id first (eq_by_cmp nat_cmp id first) (list_any (eq_by_cmp nat_cmp id) ids) refl any each.0 (λ later. found_among m o id ids later each.1)

new_at : (m : Inodes) (o : ℕ) → AllByRecursion (IsNewAt m o) (keys m) → (id : ℕ) → IsNewAt m o id
new_at m o each id = by (list_any (eq_by_cmp nat_cmp id) (keys m)) refl
  where
    by : (b : Bool) → list_any (eq_by_cmp nat_cmp id) (keys m) ≡ b → IsNewAt m o id
    by true any = found_among m o id (keys m) any each
    by false any = new_at_none m o id (get m id) refl (contains_key-keys m id ∙ any)

new_at_each : (m : Inodes) (o : ℕ) → ((id : ℕ) → IsNewAt m o id) → (ids : List ℕ) → AllByRecursion (IsNewAt m o) ids
new_at_each m o new [] = tt
new_at_each m o new (id ∷ ids) = (new id, new_at_each m o new ids)

new_in : (m : Inodes) (o : ℕ) → ((id : ℕ) → IsNewAt m o id) → (footprint : Footprint) → IsNewIn m o footprint
new_in m o new (known reads writes) = new_at_each m o new writes
new_in m o new whole = new

pub fresh_where_new : (m : Inodes) (o : ℕ) → All (IsNewAt m o) (keys m) → (footprint : Footprint) → IsFreshFor m o footprint
fresh_where_new m o each footprint = inr (new_in m o (new_at m o (recursion_from_All (IsNewAt m o) (keys m) each)) footprint)

-- the first ordinal is, on a new tree
pub first_is_fresh : (m : Inodes) → m ≡ new_tree → (footprint : Footprint) → IsFreshFor m first_ordinal footprint
first_is_fresh m is footprint = rw is (fresh_where_numbered new_tree first_ordinal footprint new_is_numbered)
