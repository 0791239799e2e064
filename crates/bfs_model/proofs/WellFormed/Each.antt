-- What holds of each inode, and how it goes through the changes of the inodes by fileid.
use Rattle.std.proofs.Common.{◌≡◌, ℕ, ◌<◌, ◌≤◌, Bool, true, false, cond, Option, Some, None, refl, sym, ap, subst, ◌∙◌, arith}
use Rattle.std.specs.Prelude.{nat_le}
use Rattle.std.specs.Ordering.{nat_cmp, eq_by_cmp}
use Rattle.std.specs.Option.{option_map_or}
use Rattle.std.specs.FinMap.{get, insert, remove, nat_cmp-IsAntisymmetric}
use Rattle.std.proofs.lemmas.Bool.{leb-false}
use Rattle.std.proofs.lemmas.Cmp.{eq_by_cmp_equiv}
use Rattle.std.specs.Cmp.{nat_cmp_total}
use Rattle.std.proofs.lemmas.Map.Views.{tells_apart}
use Rattle.std.proofs.lemmas.Option.{same_Some}
use Rattle.bfs_model.specs.Server.Tree.{Time, Inode, Inodes}
use Rattle.bfs_model.specs.Server.Changes.{with_link_less, changed, link_lost_of, link_lost}
use Rattle.bfs_model.proofs.Maps.{got, got_removed}

abbrev pub Each : (P : ℕ → Inode → Type 0) → Inodes → Type 0
Each P m = (id : ℕ) (inode : Inode) → get m id ≡ Some inode → P id inode

-- of one inode, where it is there
abbrev pub At : (at : ℕ) → (Inode → Type 0) → Inodes → Type 0
At at Q m = Each (λ id inode. id ≡ at → Q inode) m

pub at_found : (Q : Inode → Type 0) (m : Inodes) (at : ℕ) (found : Inode) → get m at ≡ Some found → Q found → At at Q m
at_found Q m at found there holds id inode here is = subst Q (same_Some found inode (sym there ∙ ap (get m) (sym is) ∙ here)) holds

-- One more, and one less -----------------------------------------------------------------------------------------------

put_by : (P : ℕ → Inode → Type 0) (test : Bool) (id k : ℕ) (v inode : Inode) (old : Option Inode)
    → (test ≡ true → id ≡ k) → P k v → (old ≡ Some inode → P id inode) → cond test (Some v) old ≡ Some inode → P id inode
put_by P true id k v inode old key new others e = subst (λ (x : Inode). P id x) (same_Some v inode e) (subst (λ (q : ℕ). P q v) (sym (key refl)) new)
put_by P false id k v inode old key new others e = others e

pub each_inserted : (P : ℕ → Inode → Type 0) (m : Inodes) → Each P m → (k : ℕ) (v : Inode) → P k v → Each P (insert m k v)
each_inserted P m each k v new id inode there =
    put_by P (eq_by_cmp nat_cmp id k) id k v inode (get m id) (tells_apart nat_cmp-IsAntisymmetric id k) new (each id inode) (sym (got m k v id) ∙ there)

-- in place of an inode of which what holds is kept
pub at_inserted : (at : ℕ) (Q : Inode → Type 0) (m : Inodes) → At at Q m → (k : ℕ) (v x : Inode) → get m k ≡ Some x → (Q x → Q v) → At at Q (insert m k v)
at_inserted at Q m each k v x there keeps = each_inserted (λ id inode. id ≡ at → Q inode) m each k v (λ is. keeps (each k x there is))

taken_by : (test : Bool) (inode : Inode) (old : Option Inode) → cond test None old ≡ Some inode → old ≡ Some inode
taken_by true inode old e = absurd cc
taken_by false inode old e = e

pub each_removed : (P : ℕ → Inode → Type 0) (m : Inodes) → Each P m → (k : ℕ) → Each P (remove m k)
each_removed P m each k id inode there = each id inode (taken_by (eq_by_cmp nat_cmp id k) inode (get m id) (sym (got_removed m k id) ∙ there))

-- Changes --------------------------------------------------------------------------------------------------------------

changed_by : (P : ℕ → Inode → Type 0) (m : Inodes) → Each P m → (k : ℕ) (change : Inode → Inode) (found : Option Inode) → ((x : Inode) → found ≡ Some x → P k (change x))
    → Each P (option_map_or (λ inode. insert m k (change inode)) found m)
changed_by P m each k change None new = each
changed_by P m each k change (Some x) new = each_inserted P m each k (change x) (new x refl)

pub each_changed : (P : ℕ → Inode → Type 0) (m : Inodes) → Each P m → (k : ℕ) (change : Inode → Inode) → ((x : Inode) → get m k ≡ Some x → P k (change x)) → Each P (changed m k change)
unfolding changed
each_changed P m each k change new = changed_by P m each k change (get m k) new

-- a change that keeps what holds of it
pub at_changed : (at : ℕ) (Q : Inode → Type 0) (m : Inodes) → At at Q m → (k : ℕ) (change : Inode → Inode) → ((x : Inode) → Q x → Q (change x)) → At at Q (changed m k change)
at_changed at Q m each k change keeps = each_changed (λ id inode. id ≡ at → Q inode) m each k change (λ x there is. keeps x (each k x there is))

lost_by : (P : ℕ → Inode → Type 0) (m : Inodes) → Each P m → (now : Time) (k : ℕ) (x : Inode) (test : Bool) → (test ≡ false → P k (with_link_less now x))
    → Each P (cond test (remove m k) (insert m k (with_link_less now x)))
lost_by P m each now k x true new = each_removed P m each k
lost_by P m each now k x false new = each_inserted P m each k (with_link_less now x) (new refl)

link_lost_by : (P : ℕ → Inode → Type 0) (m : Inodes) → Each P m → (now : Time) (k : ℕ) (found : Option Inode) → ((x : Inode) → found ≡ Some x → 2 ≤ x.links → P k (with_link_less now x))
    → Each P (option_map_or (link_lost_of m now k) found m)
link_lost_by P m each now k None new = each
link_lost_by P m each now k (Some x) new = lost_by P m each now k x (nat_le x.links 1) (λ more. let many : 1 < x.links = leb-false x.links 1 more in new x refl (omega arith))

pub each_link_lost : (P : ℕ → Inode → Type 0) (m : Inodes) → Each P m → (now : Time) (k : ℕ) → ((x : Inode) → get m k ≡ Some x → 2 ≤ x.links → P k (with_link_less now x)) → Each P (link_lost m now k)
unfolding link_lost
each_link_lost P m each now k new = link_lost_by P m each now k (get m k) new

pub at_link_lost : (at : ℕ) (Q : Inode → Type 0) (m : Inodes) → At at Q m → (now : Time) (k : ℕ) → ((x : Inode) → Q x → Q (with_link_less now x)) → At at Q (link_lost m now k)
at_link_lost at Q m each now k keeps = each_link_lost (λ id inode. id ≡ at → Q inode) m each now k (λ x there many is. keeps x (each k x there is))

-- Where it is put or changed -----------------------------------------------------------------------------------------------

here_by : (at : ℕ) (Q : Inode → Type 0) (m : Inodes) (change : Inode → Inode) (found : Option Inode) → get m at ≡ found → ((x : Inode) → found ≡ Some x → Q (change x))
    → At at Q (option_map_or (λ inode. insert m at (change inode)) found m)
here_by at Q m change None there new = λ id inode here is. absurd (cc (ap (get m) is))
here_by at Q m change (Some x) there new =
    at_found Q (insert m at (change x)) at (change x) (got m at (change x) at ∙ rw ((eq_by_cmp_equiv nat_cmp_total).refl at) refl) (new x refl)

pub at_changed_here : (at : ℕ) (Q : Inode → Type 0) (m : Inodes) (change : Inode → Inode) → ((x : Inode) → get m at ≡ Some x → Q (change x)) → At at Q (changed m at change)
unfolding changed
at_changed_here at Q m change new = here_by at Q m change (get m at) refl new

pub at_changed_other : (at : ℕ) (Q : Inode → Type 0) (m : Inodes) → At at Q m → (k : ℕ) (change : Inode → Inode) → (k ≡ at → ⊥) → At at Q (changed m k change)
at_changed_other at Q m each k change apart = each_changed (λ id inode. id ≡ at → Q inode) m each k change (λ x there is. absurd (apart is))

pub at_removed : (at : ℕ) (Q : Inode → Type 0) (m : Inodes) → At at Q m → (k : ℕ) → At at Q (remove m k)
at_removed at Q m each k = each_removed (λ id inode. id ≡ at → Q inode) m each k
