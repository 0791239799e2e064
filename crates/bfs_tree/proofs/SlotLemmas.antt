-- What the changes of the slots do to what is at home and to what is lent out.
use Rattle.std.proofs.Common.{◌≡◌, ℕ, ◌+◌, ◌≤◌, Bool, true, false, not, cond, Option, Some, None, is_some, refl, ap, sym, ◌∙◌, arith, true≢false}
use Rattle.std.specs.Prelude.{⊤, ◌==◌, IsTrue}
use Rattle.std.specs.Option.{option_and_then}
use Rattle.std.specs.BTreeMap.{BTreeMap, btree_map_len, IsOrdered}
use Rattle.std.specs.Ordering.{nat_cmp, eq_by_cmp}
use Rattle.std.specs.FinMap.{FinMap, contains_key, entries, get, insert, remove, len, get-insert, get-remove, empty, get-empty, len-empty, same_map, nat_cmp-IsAntisymmetric}
use Rattle.std.proofs.lemmas.Cmp.{nat_cmp_total}
use Rattle.std.proofs.lemmas.Option.{none-some}
use Rattle.std.proofs.lemmas.Map.Views.{tells_apart}
use Rattle.bfs_model.proofs.Public.{itself}
use Rattle.bfs_model.specs.Server.Tree.{Inode}
use Rattle.bfs_tree.specs.declared.slots.Slot.{Slot}
use Rattle.bfs_tree.specs.declared.slots.Slot.TheVariants.{Home, Free, Lent}
use Rattle.bfs_tree.specs.declared.counts.Counts.{Counts}
use Rattle.bfs_tree.specs.Maps.{map_of, picked, picked_entries}
use Rattle.bfs_tree.specs.Slots.{Slots, inode_in, loan_in, with_inode}
use Rattle.bfs_tree.specs.Tree.{at_home, lent, reach_of, reach_without, with_inode_at, with_inode_in}
use Rattle.bfs_tree.specs.Inside.Counting.{Adds, AreCounted, Includes, inodes_in, loans_in}
use Rattle.bfs_tree.proofs.Laws.{insert_same}
use Rattle.bfs_tree.proofs.MapLemmas.{len-map_of}
use Rattle.bfs_tree.proofs.Picking.{entries-picked, few_picked, get-picked, picked-insert, picked-none, picked-remove, len-picked-insert, len-picked-remove}

absent_at : {X : Type 0} (m : FinMap nat_cmp X) (k q : ℕ) (b : Bool) → get m k ≡ None → eq_by_cmp nat_cmp q k ≡ b → cond b None (get m q) ≡ get m q
absent_at m k q true none e = sym none ∙ ap (get m) (sym (tells_apart nat_cmp-IsAntisymmetric q k e))
absent_at m k q false none e = refl

-- to remove what is not there is to change nothing
pub remove_absent : {X : Type 0} (m : FinMap nat_cmp X) (k : ℕ) → get m k ≡ None → remove m k ≡ m
remove_absent m k none = same_map nat_cmp_total nat_cmp-IsAntisymmetric _ _ (λ q. get-remove nat_cmp_total m k q ∙ absent_at m k q (eq_by_cmp nat_cmp q k) none refl)

none_of : {X : Type 0} (o : Option X) → not (is_some o) ≡ true → o ≡ None
none_of None is = refl
none_of (Some x) is = absurd (true≢false (sym is))

-- what a slot says of the inode, and of the loan
pub home_at : (s : Slots) (k : ℕ) (slot : Slot) → get s k ≡ Some slot → get (at_home s) k ≡ inode_in slot
home_at s k slot is = get-picked inode_in s k ∙ ap (option_and_then inode_in) is

pub no_home_at : (s : Slots) (k : ℕ) → get s k ≡ None → get (at_home s) k ≡ None
no_home_at s k is = get-picked inode_in s k ∙ ap (option_and_then inode_in) is

pub loan_at : (s : Slots) (k : ℕ) (slot : Slot) → get s k ≡ Some slot → get (lent s) k ≡ loan_in slot
loan_at s k slot is = get-picked loan_in s k ∙ ap (option_and_then loan_in) is

pub no_loan_at : (s : Slots) (k : ℕ) → get s k ≡ None → get (lent s) k ≡ None
no_loan_at s k is = get-picked loan_in s k ∙ ap (option_and_then loan_in) is

has_place : (s : Slots) (k : ℕ) (o : Option Slot) → get s k ≡ o → IsTrue (contains_key (lent s) k) → IsTrue (contains_key s k)
has_place s k None is loan = absurd (true≢false (sym loan ∙ ap is_some (no_loan_at s k is)))
has_place s k (Some slot) is loan = ap is_some is

-- what is lent out has its place
pub loan_has_place : (s : Slots) (k : ℕ) → IsTrue (contains_key (lent s) k) → IsTrue (contains_key s k)
loan_has_place s k loan = has_place s k (get s k) refl loan

pub has_inserted : (s : Slots) (k : ℕ) (slot : Slot) → IsTrue (contains_key (insert s k slot) k)
has_inserted s k slot = ap is_some (get-insert nat_cmp_total s k slot k) ∙ ap (λ b. is_some (cond b (Some slot) (get s k))) (itself k)

pub home_entries : (s : Slots) → entries (at_home s) ≡ picked_entries inode_in (entries s)
home_entries s = entries-picked inode_in s

pub home_insert : (s : Slots) (k : ℕ) (x : Inode) → at_home (insert s k (Home x)) ≡ insert (at_home s) k x
home_insert s k x = picked-insert inode_in s k (Home x) x refl

pub home_lent : (s : Slots) (k : ℕ) → at_home (insert s k Lent) ≡ remove (at_home s) k
home_lent s k = picked-none inode_in s k Lent refl

pub home_free : (s : Slots) (k : ℕ) → at_home (insert s k Free) ≡ remove (at_home s) k
home_free s k = picked-none inode_in s k Free refl

pub home_remove : (s : Slots) (k : ℕ) → at_home (remove s k) ≡ remove (at_home s) k
home_remove s k = picked-remove inode_in s k

pub lent_lent : (s : Slots) (k : ℕ) → lent (insert s k Lent) ≡ insert (lent s) k tt
lent_lent s k = picked-insert loan_in s k Lent tt refl

pub lent_insert : (s : Slots) (k : ℕ) (x : Inode) → lent (insert s k (Home x)) ≡ remove (lent s) k
lent_insert s k x = picked-none loan_in s k (Home x) refl

pub lent_free : (s : Slots) (k : ℕ) → lent (insert s k Free) ≡ remove (lent s) k
lent_free s k = picked-none loan_in s k Free refl

pub lent_remove : (s : Slots) (k : ℕ) → lent (remove s k) ≡ remove (lent s) k
lent_remove s k = picked-remove loan_in s k

-- what is reserved, what leaves, and what comes home
pub ruleset reserving = (home_free, lent_free, no_home_at, no_loan_at, remove_absent, has_inserted)

pub ruleset leaving = (home_at, no_home_at, home_lent, lent_lent)

pub ruleset coming = (home_insert, home_remove, lent_insert, lent_remove)

-- the reach stays where what is changed is not lent out
pub reach_insert : (s : Slots) (k : ℕ) (x : Inode) → IsTrue ((reach_of s).owned k) → reach_of (insert s k (Home x)) ≡ reach_of s
reach_insert s k x owned = ap reach_without (lent_insert s k x ∙ remove_absent (lent s) k (none_of (get (lent s) k) owned))

pub reach_remove : (s : Slots) (k : ℕ) → IsTrue ((reach_of s).owned k) → reach_of (remove s k) ≡ reach_of s
reach_remove s k owned = ap reach_without (lent_remove s k ∙ remove_absent (lent s) k (none_of (get (lent s) k) owned))

-- what a lent inode leaves of what is at home, and of the reach
home_with : (s : Slots) (k : ℕ) (o : Option Slot) (x w : Inode) → get s k ≡ o → get (at_home s) k ≡ Some x → at_home (with_inode_in s k o w) ≡ insert (at_home s) k w
home_with s k (Some (Home y)) x w is at = home_insert s k w
home_with s k (Some Free) x w is at = absurd (none-some x (sym (home_at s k Free is) ∙ at))
home_with s k (Some Lent) x w is at = absurd (none-some x (sym (home_at s k Lent is) ∙ at))
home_with s k None x w is at = absurd (none-some x (sym (no_home_at s k is) ∙ at))

pub home_back : (s : Slots) (k : ℕ) (x w : Inode) → get (at_home s) k ≡ Some x → at_home (with_inode_at s k w) ≡ insert (at_home s) k w
home_back s k x w at = home_with s k (get s k) x w refl at

reach_with : (s : Slots) (k : ℕ) (o : Option Slot) (w : Inode) → get s k ≡ o → reach_of (with_inode_in s k o w) ≡ reach_of s
reach_with s k (Some (Home x)) w is = ap reach_without (lent_insert s k w ∙ remove_absent (lent s) k (loan_at s k (Home x) is))
reach_with s k (Some Free) w is = ap reach_of (insert_same s k Free is)
reach_with s k (Some Lent) w is = ap reach_of (insert_same s k Lent is)
reach_with s k None w is = refl

pub reach_back : (s : Slots) (k : ℕ) (w : Inode) → reach_of (with_inode_at s k w) ≡ reach_of s
reach_back s k w = reach_with s k (get s k) w refl

-- the counts: no more than there are slots, and after the changes of the slots
pub few_counted : (m : BTreeMap ℕ Slot) (counts : Counts) → IsOrdered nat_cmp m → AreCounted (map_of m) counts → (counts.home ≤ btree_map_len m) × (counts.lent ≤ btree_map_len m)
few_counted m counts ordered are =
    let all = len-map_of m ordered in
    (omega (arith, are.0, few_picked inode_in (map_of m), all), omega (arith, are.1, few_picked loan_in (map_of m), all))

pub counted_insert : (s : Slots) (k : ℕ) (slot : Slot) (was : Option Slot) (before more : Counts) → get s k ≡ was → AreCounted s before → Adds before (Some slot) more
    → Includes more was × ((after : Counts) → Adds after was more → AreCounted (insert s k slot) after)
counted_insert s k slot was before more is are adds =
    let home = ap inodes_in is in
    let loan = ap loans_in is in (
      (omega (arith, home, are.0, adds.0, len-picked-insert inode_in s k slot), omega (arith, loan, are.1, adds.1, len-picked-insert loan_in s k slot)),
      λ after less. (omega (arith, home, are.0, adds.0, less.0, len-picked-insert inode_in s k slot), omega (arith, loan, are.1, adds.1, less.1, len-picked-insert loan_in s k slot)),
    )

pub counted_remove : (s : Slots) (k : ℕ) (was : Option Slot) (before : Counts) → get s k ≡ was → AreCounted s before → Includes before was × ((after : Counts) → Adds after was before → AreCounted (remove s k) after)
counted_remove s k was before is are =
    let home = ap inodes_in is in
    let loan = ap loans_in is in (
      (omega (arith, home, are.0, len-picked-remove inode_in s k), omega (arith, loan, are.1, len-picked-remove loan_in s k)),
      λ after less. (omega (arith, home, are.0, less.0, len-picked-remove inode_in s k), omega (arith, loan, are.1, less.1, len-picked-remove loan_in s k)),
    )

-- with another inode a slot counts for as much as before
same_kind : (counts : Counts) (slot : Slot) (w : Inode) → Adds counts (Some slot) (record { home = counts.home + inodes_in (Some (with_inode slot w)); lent = counts.lent + loans_in (Some (with_inode slot w)) })
same_kind counts (Home x) w = (refl, refl)
same_kind counts Free w = (refl, refl)
same_kind counts Lent w = (refl, refl)

pub counted_back : (s : Slots) (k : ℕ) (slot : Slot) (w : Inode) (counts : Counts) → get s k ≡ Some slot → AreCounted s counts → AreCounted (insert s k (with_inode slot w)) counts
counted_back s k slot w counts at are = (counted_insert s k (with_inode slot w) (Some slot) counts _ at are (refl, refl)).1 counts (same_kind counts slot w)

same_empty : {X Y : Type 0} (pick : X → Option Y) → picked pick empty ≡ empty
same_empty pick = same_map nat_cmp_total nat_cmp-IsAntisymmetric _ _ (λ q. get-picked pick empty q ∙ ap (option_and_then pick) (get-empty nat_cmp q) ∙ sym (get-empty nat_cmp q))

pub home_empty : at_home empty ≡ empty
home_empty = same_empty inode_in

pub lent_empty : lent empty ≡ empty
lent_empty = same_empty loan_in

-- with no slots none is lent out
pub none_is_whole : IsTrue ((reach_of empty).whole)
none_is_whole = ap (λ m. len m == 0) lent_empty ∙ ap (λ n. n == 0) (len-empty nat_cmp ⊤)

-- with one inode at home none is lent out
pub one_is_whole : (k : ℕ) (x : Inode) → IsTrue ((reach_of (insert empty k (Home x))).whole)
one_is_whole k x = ap (λ m. len m == 0) (lent_insert empty k x ∙ ap (λ m. remove m k) lent_empty ∙ remove_absent empty k (get-empty nat_cmp k)) ∙ ap (λ n. n == 0) (len-empty nat_cmp ⊤)

pub none_counted : (s : Slots) → s ≡ empty → AreCounted s (record { home = 0; lent = 0 })
none_counted s is = (
  sym (ap (λ m. len (at_home m)) is ∙ ap len home_empty ∙ len-empty nat_cmp Inode),
  sym (ap (λ m. len (lent m)) is ∙ ap len lent_empty ∙ len-empty nat_cmp ⊤),
)
