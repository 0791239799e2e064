-- Of each inode of a map, and of each entry of a directory.
use Rattle.std.proofs.Common.{◌≡◌, ℕ, ◌+◌, ◌≤◌, Bool, true, false, cond, not, T, List, [], ◌∷◌, length, Option, Some, refl, sym, ap, subst, ◌∙◌, arith, eqb-true, eq-eqb}
use Rattle.std.specs.Prelude.{◌==◌, count_by, nat_le}
use Rattle.std.specs.List.{AllByRecursion, list_all}
use Rattle.std.specs.Ordering.{nat_cmp, eq_by_cmp}
use Rattle.std.specs.FinMap.{find, is_sorted, get, entries, entries_sorted, get-entries, nat_cmp-IsAntisymmetric}
use Rattle.std.proofs.lemmas.Bool.{cond-true, cond-false, and_parts, and_from, not-true, leb-true, le-leb}
use Rattle.std.proofs.lemmas.List.Recursion.{is_count_by}
use Rattle.std.proofs.lemmas.Map.Views.{tells_apart}
use Rattle.std.proofs.lemmas.Option.{same_Some}
use Rattle.bfs_model.specs.Server.Tree.{Entry, Inode, Inodes, is_directory}
use Rattle.bfs_model.specs.Server.Directories.{is_bad_name}
use Rattle.bfs_model.specs.Server.Limits.{most_name_bytes}
use Rattle.bfs_model.specs.Server.WellFormed.{times, directories_among, NamesDiffer, HasNames}
use Rattle.bfs_model.proofs.Public.{split, itself, sums_apart as apart}
use Rattle.bfs_tree.specs.Inside.WellFormed.{is_good_name}

-- Inodes -----------------------------------------------------------------------------------------------------------------

first_or_further : (P : ℕ × Inode → Type 0) (e : ℕ × Inode) (id : ℕ) (x : Inode) (further : Option Inode) (test : Bool) → (test ≡ true → id ≡ e.0) → P e → (further ≡ Some x → P (id, x))
    → cond test (Some e.1) further ≡ Some x → P (id, x)
first_or_further P e id x further true key here others is = subst (λ (q : ℕ). P (q, x)) (sym (key refl)) (subst (λ (y : Inode). P (e.0, y)) (same_Some e.1 x is) here)
first_or_further P e id x further false key here others is = others is

found_of_all : (P : ℕ × Inode → Type 0) (es : List (ℕ × Inode)) → AllByRecursion P es → (id : ℕ) (x : Inode) → find nat_cmp id es ≡ Some x → P (id, x)
found_of_all P [] all id x is = absurd cc
found_of_all P (e ∷ es) all id x is =
    first_or_further P e id x (find nat_cmp id es) (eq_by_cmp nat_cmp id e.0) (tells_apart nat_cmp-IsAntisymmetric id e.0) all.0 (found_of_all P es all.1 id x) is

all_of_found : (P : ℕ × Inode → Type 0) (es : List (ℕ × Inode)) → T (is_sorted nat_cmp es) → ((id : ℕ) (x : Inode) → find nat_cmp id es ≡ Some x → P (id, x)) → AllByRecursion P es
all_of_found P [] sorted each = tt
all_of_found P (e ∷ es) sorted each =
    let parts = split _ _ sorted in (
      each e.0 e.1 (cond-true (eq_by_cmp nat_cmp e.0 e.0) (Some e.1) (find nat_cmp e.0 es) (itself e.0)),
      all_of_found P es parts.1 (λ id x is. each id x (cond-false (eq_by_cmp nat_cmp id e.0) (Some e.1) (find nat_cmp id es) (apart e.0 id es x parts.0 is (eq_by_cmp nat_cmp id e.0) refl) ∙ is)),
    )

-- what holds of all holds at each fileid
pub each_of_all : (P : ℕ × Inode → Type 0) (m : Inodes) → AllByRecursion P (entries m) → (id : ℕ) (x : Inode) → get m id ≡ Some x → P (id, x)
each_of_all P m all id x is = found_of_all P (entries m) all id x (sym (get-entries m id) ∙ is)

pub all_of_each : (P : ℕ × Inode → Type 0) (m : Inodes) → ((id : ℕ) (x : Inode) → get m id ≡ Some x → P (id, x)) → AllByRecursion P (entries m)
all_of_each P m each = all_of_found P (entries m) (entries_sorted m) (λ id x is. each id x (get-entries m id ∙ is))

-- Entries ----------------------------------------------------------------------------------------------------------------

named_by : (test : ℕ → Bool) (child : ℕ) (e : Entry) (es : List Entry) (b : Bool) → (e.child == child) ≡ b → test e.child ≡ true → (1 ≤ times child es → test child ≡ true) → 1 ≤ cond b 1 0 + times child es → test child ≡ true
named_by test child e es true is here further some = subst (λ (c : ℕ). test c ≡ true) (eqb-true e.child child is) here
named_by test child e es false is here further some = further (omega arith)

-- what holds of all that entries name holds of each that one of them names
pub named_of_all : (test : ℕ → Bool) (es : List Entry) → list_all (λ entry. test entry.child) es ≡ true → (child : ℕ) → 1 ≤ times child es → test child ≡ true
named_of_all test [] all child some = absurd (omega arith)
named_of_all test (e ∷ es) all child some =
    let parts = and_parts (test e.child) (list_all (λ entry. test entry.child) es) all in
    named_by test child e es (e.child == child) refl parts.0 (named_of_all test es parts.1 child) some

pub all_of_named : (test : ℕ → Bool) (es : List Entry) → ((child : ℕ) → 1 ≤ times child es → test child ≡ true) → list_all (λ entry. test entry.child) es ≡ true
all_of_named test [] each = refl
all_of_named test (e ∷ es) each =
    and_from _ _ (each e.child (rw (eq-eqb e.child e.child refl) (omega arith)))
    (all_of_named test es (λ child some. each child (let more : times child es ≤ times child (e ∷ es) = omega arith in omega arith)))

counted_by : (test : Bool) (rest : ℕ) → cond test 1 0 + rest ≡ cond test (1 + rest) rest
counted_by true rest = refl
counted_by false rest = omega arith

-- how many entries name one child
pub times_counted : (child : ℕ) (es : List Entry) → count_by (λ entry. entry.child == child) es ≡ times child es
times_counted child es = sym (is_count_by (times child) (λ entry. entry.child == child) refl (λ e rest. counted_by (e.child == child) (times child rest)) es)

-- how many name a directory
pub directories_counted : (m : Inodes) (es : List Entry) → count_by (λ entry. is_directory (get m entry.child)) es ≡ directories_among m es
directories_counted m es = sym (is_count_by (directories_among m) (λ entry. is_directory (get m entry.child)) refl (λ e rest. counted_by (is_directory (get m e.child)) (directories_among m rest)) es)

-- the names of a directory differ, so that they are good where each one is
pub names_from : (es : List Entry) → NamesDiffer es → list_all (λ entry. is_good_name entry.name) es ≡ true → HasNames es
names_from [] differ all = tt
names_from (e ∷ es) differ all =
    let parts = and_parts (is_good_name e.name) (list_all (λ entry. is_good_name entry.name) es) all in
    let good = and_parts (not (is_bad_name e.name)) (nat_le (length e.name) most_name_bytes) parts.0 in
    (not-true (is_bad_name e.name) good.0, leb-true (length e.name) most_name_bytes good.1, differ.0, names_from es differ.1 parts.1)

pub names_of : (es : List Entry) → HasNames es → list_all (λ entry. is_good_name entry.name) es ≡ true
names_of [] h = refl
names_of (e ∷ es) h =
    and_from (is_good_name e.name) _ (and_from (not (is_bad_name e.name)) (nat_le (length e.name) most_name_bytes) (ap not h.0) (le-leb (length e.name) most_name_bytes h.1)) (names_of es h.3)
