-- What is named by an entry is named in the whole.
use Rattle.std.proofs.Common.{◌≡◌, ℕ, ◌+◌, ◌≤◌, Bool, true, false, cond, List, [], ◌∷◌, length, nat_le, Option, Some, refl, sym, ap, subst, ◌∙◌, arith}
use Rattle.std.specs.Prelude.{◌==◌, sum_by, bytes_eq}
use Rattle.std.specs.Ordering.{nat_cmp, eq_by_cmp}
use Rattle.std.specs.FinMap.{find, get, entries, get-entries}
use Rattle.std.proofs.lemmas.Bool.{eq-eqb, leb-false}
use Rattle.std.proofs.lemmas.List.Sums.{sum_by-cons}
use Rattle.std.proofs.lemmas.Option.{same_Some}
use Rattle.bfs_model.specs.Server.Tree.{Entry, Body, file, directory, link, Inode, Inodes, entries_in, entries_at}
use Rattle.bfs_model.specs.Server.Directories.{entry_named}
use Rattle.bfs_model.specs.Server.Procedures.Removing.{has_entries}
use Rattle.bfs_model.specs.Server.WellFormed.{times, named}

-- what is found in a list counts in its sum
found_by : (test : Bool) (weight : Inode → ℕ) (first x : Inode) (further : Option Inode) (rest : ℕ) → cond test (Some first) further ≡ Some x → (further ≡ Some x → weight x ≤ rest) → weight x ≤ weight first + rest
found_by true weight first x further rest e le = let same : weight first ≡ weight x = ap weight (same_Some first x e) in omega arith
found_by false weight first x further rest e le = let most : weight x ≤ rest = le e in omega arith

found_counts : (weight : Inode → ℕ) (id : ℕ) (x : Inode) (inodes : List (ℕ × Inode)) → find nat_cmp id inodes ≡ Some x → weight x ≤ sum_by (λ (inode : ℕ × Inode). weight inode.1) inodes
found_counts weight id x [] e = absurd cc
found_counts weight id x (inode ∷ inodes) e = subst (λ (sum : ℕ). weight x ≤ sum) (sym (sum_by-cons (λ (inode : ℕ × Inode). weight inode.1) inode inodes))
    (found_by (eq_by_cmp nat_cmp id inode.0) weight inode.1 x (find nat_cmp id inodes) (sum_by (λ (inode : ℕ × Inode). weight inode.1) inodes) e (found_counts weight id x inodes))

-- the entries of one directory that name an inode are among all that do
pub named_in_one : (m : Inodes) (dir : ℕ) (x : Inode) → get m dir ≡ Some x → (id : ℕ) → times id (entries_in x.body) ≤ named m id
named_in_one m dir x there id = found_counts (λ inode. times id (entries_in inode.body)) dir x (entries m) (sym (get-entries m dir) ∙ there)

child_by : (test : Bool) (first entry : Entry) (further : Option Entry) (rest : ℕ) → cond test (Some first) further ≡ Some entry → (further ≡ Some entry → 1 ≤ rest) → 1 ≤ cond (first.child == entry.child) 1 0 + rest
child_by true first entry further rest e le = subst (λ (found : Entry). 1 ≤ cond (first.child == found.child) 1 0 + rest) (same_Some first entry e) (rw (eq-eqb first.child first.child refl) (omega arith))
child_by false first entry further rest e le = let least : 1 ≤ rest = le e in omega arith

-- the entry of a name names its child
pub found_named : (name : List ℕ) (entries : List Entry) (entry : Entry) → entry_named name entries ≡ Some entry → 1 ≤ times entry.child entries
found_named name [] entry e = absurd cc
found_named name (first ∷ entries) entry e = child_by (bytes_eq first.name name) first entry (entry_named name entries) (times entry.child entries) e (found_named name entries entry)

pub held_there : (m : Inodes) (dir : ℕ) (x : Inode) (name : List ℕ) (entry : Entry) → get m dir ≡ Some x → entry_named name (entries_in x.body) ≡ Some entry → 1 ≤ times entry.child (entries_at (get m dir))
held_there m dir x name entry there found = subst (λ o. 1 ≤ times entry.child (entries_at o)) (sym there) (found_named name (entries_in x.body) entry found)

-- what RMDIR and RENAME take for empty has no entries
no_length : (es : List Entry) → nat_le 1 (length es) ≡ false → es ≡ []
no_length [] is = refl
no_length (e ∷ es) is = absurd (let few = leb-false 1 (length (e ∷ es)) is in omega arith)

pub bare_of : (b : Body) → has_entries b ≡ false → entries_in b ≡ []
bare_of (file bytes) is = refl
bare_of (directory l) is = no_length l.entries is
bare_of (link path) is = refl
