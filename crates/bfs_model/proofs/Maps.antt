-- Maps of inodes that are written out: two are equal if they have the same entries.
use Rattle.std.proofs.Common.{◌≡◌, ℕ, Bool, true, false, cond, [], length, Option, Some, None, is_some, ◌+◌, refl, sym, ap, ◌∙◌}
use Rattle.std.specs.Ordering.{nat_cmp, eq_by_cmp}
use Rattle.std.specs.Cmp.{nat_cmp_total}
use Rattle.std.specs.FinMap.{put, len, get, empty, insert, remove, entries, from_sorted, entries-insert, len-insert, len-empty, get-insert, get-remove, get-empty, entries-from_sorted, empty_of_len, len-entries, same_map, same_entries_map, nat_cmp-IsAntisymmetric}
use Rattle.std.proofs.lemmas.Cmp.{eq_by_cmp_equiv}
use Rattle.std.proofs.lemmas.Map.Views.{tells_apart}
use Rattle.bfs_model.specs.Server.Tree.{Inode, Inodes}
use Rattle.bfs_model.specs.Bytes.Replies.{Reply}
use Rattle.bfs_model.specs.Server.Refusals.{Outcome}

abbrev none : Inodes
none = empty

pub entries-none : entries none ≡ []
entries-none = ap entries (sym (empty_of_len (from_sorted []) (len-entries (from_sorted []) ∙ ap length (entries-from_sorted nat_cmp [] tt)))) ∙ entries-from_sorted nat_cmp [] tt

-- what is removed from a map with an inode
removed_at : (a b : Bool) (v : Inode) (old : Option Inode) → cond a None (cond a (Some v) old) ≡ cond a None old
removed_at true b v old = refl
removed_at false b v old = refl

remove_same : (m : Inodes) (k : ℕ) (v : Inode) → remove (insert m k v) k ≡ remove m k
remove_same m k v = same_map nat_cmp_total nat_cmp-IsAntisymmetric _ _ (λ q. simp (get-remove {X = Inode} nat_cmp_total, get-insert {X = Inode} nat_cmp_total) (removed_at (eq_by_cmp nat_cmp q k) true v (get m q)))

swapped : (a b : Bool) (v : Option Inode) (old : Option Inode) → (a ≡ true → b ≡ false) → cond a None (cond b v old) ≡ cond b v (cond a None old)
swapped true true v old apart = absurd (cc (apart refl))
swapped true false v old apart = refl
swapped false true v old apart = refl
swapped false false v old apart = refl

remove_other : (m : Inodes) (k : ℕ) (v : Inode) (j : ℕ) → eq_by_cmp nat_cmp j k ≡ false → remove (insert m k v) j ≡ insert (remove m j) k v
remove_other m k v j apart = same_map nat_cmp_total nat_cmp-IsAntisymmetric _ _ (λ q. simp (get-remove {X = Inode} nat_cmp_total, get-insert {X = Inode} nat_cmp_total)
    (swapped (eq_by_cmp nat_cmp q j) (eq_by_cmp nat_cmp q k) (Some v) (get m q) (λ is. rw (tells_apart nat_cmp-IsAntisymmetric q j is) apart)))

by_key : (b : Bool) (m : Inodes) (k : ℕ) (v : Inode) (j : ℕ) → eq_by_cmp nat_cmp j k ≡ b → remove (insert m k v) j ≡ cond b (remove m j) (insert (remove m j) k v)
by_key true m k v j is = rw (tells_apart nat_cmp-IsAntisymmetric j k is) (remove_same m k v)
by_key false m k v j is = remove_other m k v j is

pub remove-insert : (m : Inodes) (k : ℕ) (v : Inode) (j : ℕ) → remove (insert m k v) j ≡ cond (eq_by_cmp nat_cmp j k) (remove m j) (insert (remove m j) k v)
remove-insert m k v j = by_key (eq_by_cmp nat_cmp j k) m k v j refl

pub remove-none : (j : ℕ) → remove none j ≡ none
remove-none j = same_map nat_cmp_total nat_cmp-IsAntisymmetric _ _ (λ q. get-remove nat_cmp_total none j q ∙ all_none (eq_by_cmp nat_cmp q j) q)
  where
    all_none : (b : Bool) (q : ℕ) → cond b None (get none q) ≡ get none q
    all_none true q = sym (get-empty nat_cmp q)
    all_none false q = refl

-- the same outcome, where the inodes have the same entries
pub same : {m n : Inodes} {reply told : Reply} → entries m ≡ entries n → reply ≡ told → ◌≡◌ {A = Outcome} (m, reply) (n, told)
same {m = m} {n = n} e f = rw (same_entries_map m n e, f) refl

-- What `simp` computes of maps that are written out: their inodes and how many, and their entries ----------------------

pub got : (m : Inodes) (k : ℕ) (v : Inode) (q : ℕ) → get (insert m k v) q ≡ cond (eq_by_cmp nat_cmp q k) (Some v) (get m q)
got m k v q = get-insert nat_cmp_total m k v q

-- at a fileid where one was put
pub got_put : (m : Inodes) (k : ℕ) (v : Inode) → get (insert m k v) k ≡ Some v
got_put m k v = got m k v k ∙ rw ((eq_by_cmp_equiv nat_cmp_total).refl k) refl

pub got_of_none : (q : ℕ) → get none q ≡ None
got_of_none q = get-empty nat_cmp q

pub got_removed : (m : Inodes) (k q : ℕ) → get (remove m k) q ≡ cond (eq_by_cmp nat_cmp q k) None (get m q)
got_removed m k q = get-remove nat_cmp_total m k q

pub counted : (m : Inodes) (k : ℕ) (v : Inode) → len (insert m k v) ≡ cond (is_some (get m k)) (len m) (len m + 1)
counted m k v = len-insert nat_cmp_total m k v

pub none_counted : len none ≡ 0
none_counted = len-empty nat_cmp Inode

pub listed : (m : Inodes) (k : ℕ) (v : Inode) → entries (insert m k v) ≡ put nat_cmp k v (entries m)
listed m k v = entries-insert nat_cmp_total m k v

pub ruleset inode_gets = (got, got_of_none, got_removed, counted, none_counted)

pub ruleset inode_entries = (listed, entries-none, remove-insert, remove-none)
