-- A tree is well formed just if its root is a directory, each inode is placed and named as often as it should be, and going up from
-- each directory leads to the root.
use Rattle.std.proofs.Common.{◌≡◌, ℕ, ◌≤◌, Bool, true, false, cond, not, true≢false, IsTrue, min, Option, Some, None, inl, inr, refl, sym, ap, ◌∙◌, arith, eqb-true, eq-eqb, ne_eqb}
use Rattle.std.specs.Prelude.{◌==◌, ◌||◌, ◌↔◌}
use Rattle.std.specs.List.{AllByRecursion, list_all}
use Rattle.std.specs.FinMap.{get, entries}
use Rattle.std.proofs.lemmas.Bool.{and_parts, and_from, cases_eq}
use Rattle.bfs_model.specs.Server.Tree.{Time, Body, file, directory, link, Inode, Inodes, FileSystem, root_id, first_ordinal, spent_ordinal, is_directory_body, is_directory, entries_in, entries_at, parent_of}
use Rattle.bfs_model.specs.Server.Limits.{most_links}
use Rattle.bfs_model.specs.Server.WellFormed.{times, named, IsTree, IsWellFormed, ReachesRoot}
use Rattle.bfs_tree.specs.Inside.WellFormed.{is_child}
use Rattle.bfs_digest.specs.Inside.Formation.{IsPlaced, LeadsToRoot, TellsPlaced, is_named, is_named_so}
use Rattle.bfs_digest.specs.Inside.Names.{Counted, counted_at, most_counted}
use Rattle.bfs_tree.proofs.Public.{all_of_each, children_of, each_of_all, in_parent, named_of_all, root_unnamed, there_at}
use Rattle.bfs_digest.proofs.Placed.{each_from, all_from}

-- counts go further than links
same_test : (count k : ℕ) → k ≤ most_links → (min count most_counted == k) ≡ (count == k)
same_test count k few = elim (cases_eq count k) [
  | inl same ↦ eq-eqb (min count most_counted) k (omega arith) ∙ sym (eq-eqb count k same)
  | inr apart ↦ ne_eqb (min count most_counted) k (λ same. apart (omega arith)) ∙ sym (ne_eqb count k apart)
]

abbrev Count : Inodes → Counted → Type 0
Count m names = (id : ℕ) → counted_at names id ≡ min (named m id) most_counted

same_so : (m : Inodes) (names : Counted) (id links : ℕ) (b : Bool) → Count m names → links ≤ most_links
    → cond b (id == root_id || counted_at names id == 1) (counted_at names id == links) ≡ cond b (id == root_id || named m id == 1) (named m id == links)
same_so m names id links true counts few = ap (λ test. id == root_id || test) (ap (λ n. n == 1) (counts id) ∙ same_test (named m id) 1 (omega arith))
same_so m names id links false counts few = ap (λ n. n == links) (counts id) ∙ same_test (named m id) links few

abbrev IsNamed : Counted → ℕ × Inode → Type 0
IsNamed names inode = is_named names inode ≡ true

-- From what was looked at ------------------------------------------------------------------------------------------------

linked_by : (links among : ℕ) (b : Bool) → (not b || links == among) ≡ true → b ≡ true → links ≡ among
linked_by links among true is folder = eqb-true links among is
linked_by links among false is folder = absurd (true≢false (sym folder))

links_by : (id links count : ℕ) (b : Bool) → cond b (id == root_id || count == 1) (count == links) ≡ true → b ≡ false → links ≡ count
links_by id links count true is plain = absurd (true≢false plain)
links_by id links count false is plain = sym (eqb-true count links is)

once_by : (id links count : ℕ) (b : Bool) → cond b (id == root_id || count == 1) (count == links) ≡ true → b ≡ true → (id ≡ root_id → ⊥) → count ≡ 1
once_by id links count true is folder other = eqb-true count 1 (ap (λ a. a || count == 1) (sym (ne_eqb id root_id other)) ∙ is)
once_by id links count false is folder other = absurd (true≢false (sym folder))

module _ (m : Inodes) (ordinal : ℕ) (names : Counted) (root : IsTrue (is_directory (get m root_id))) (taken : TellsPlaced (Some names) m ordinal) (all_named : list_all (is_named names) (entries m) ≡ true) (leads : AllByRecursion (LeadsToRoot m) (entries m)) where
  place : (id : ℕ) (x : Inode) → get m id ≡ Some x → IsPlaced m ordinal (id, x)
  place = each_of_all (IsPlaced m ordinal) m taken.0

  so : (id : ℕ) (x : Inode) → get m id ≡ Some x → is_named_so (named m id) (id, x) ≡ true
  so id x is =
      sym (same_so m names id x.links (is_directory_body x.body) taken.1 (place id x is).limited.links)
      ∙ each_of_all (IsNamed names) m (each_from (is_named names) (IsNamed names) (λ x is. is) (entries m) all_named) id x is

  child_in : (dir child : ℕ) (x : Inode) → get m dir ≡ Some x → 1 ≤ times child (entries_in x.body) → is_child m dir child ≡ true
  child_in dir child x is some = named_of_all (is_child m dir) (entries_in x.body) (and_parts _ _ (place dir x is).holds).0 child some

  once_at : (id : ℕ) (o : Option Inode) → get m id ≡ o → IsTrue (is_directory o) → (id ≡ root_id → ⊥) → named m id ≡ 1
  once_at id None is folder other = absurd (true≢false (sym folder))
  once_at id (Some x) is folder other = once_by id x.links (named m id) (is_directory_body x.body) (so id x is) folder other

  way_at : (id : ℕ) (o : Option Inode) → get m id ≡ o → IsTrue (is_directory o) → ReachesRoot (parent_of m) id
  way_at id None is folder = absurd (true≢false (sym folder))
  way_at id (Some x) is folder = each_of_all (LeadsToRoot m) m leads id x is folder

  tree_from : IsTree m
  tree_from = record {
    root = root;
    there = there_at m root child_in;
    links = λ id x is plain. links_by id x.links (named m id) (is_directory_body x.body) (so id x is) plain;
    directory_links = λ id x is folder. linked_by x.links _ (is_directory_body x.body) (and_parts _ _ (place id x is).holds).1 folder;
    root_unnamed = root_unnamed m root child_in;
    named_once = λ id folder other. once_at id (get m id) refl folder other;
    in_parent = in_parent m root child_in;
    reaches = λ id folder. way_at id (get m id) refl folder;
  }

  pub well_formed : (first_ordinal ≤ ordinal) × (ordinal ≤ spent_ordinal) → (last_time : Time) → IsWellFormed (record { tree = m; next_ordinal = ordinal; last_time = last_time })
  well_formed within last_time = record {
    tree = record { tree = tree_from; limited = λ id x is. (place id x is).limited };
    numbered = λ id x is. (place id x is).numbered;
    ordinal = within;
  }

-- From the file system ---------------------------------------------------------------------------------------------------

module _ (files : FileSystem) (formed : IsWellFormed files) where
  abbrev m : Inodes
  m = files.tree

  children_by : (id : ℕ) (x : Inode) (body : Body) → get m id ≡ Some x → x.body ≡ body → list_all (λ entry. is_child m id entry.child) (entries_in body) ≡ true
  children_by id x (file bytes) is held = refl
  children_by id x (directory listing) is held = children_of m formed.tree.tree id listing (ap entries_at is ∙ ap entries_in held)
  children_by id x (link path) is held = refl

  linked : (links among : ℕ) (b : Bool) → (b ≡ true → links ≡ among) → (not b || links == among) ≡ true
  linked links among true same = eq-eqb links among (same refl)
  linked links among false same = refl

  once : (id : ℕ) (b : Bool) → (id == root_id) ≡ b → IsTrue (is_directory (get m id)) → (b || named m id == 1) ≡ true
  once id true root folder = refl
  once id false apart folder = eq-eqb (named m id) 1 (formed.tree.tree.named_once id folder (λ same. true≢false (sym (eq-eqb id root_id same) ∙ apart)))

  so_by : (id : ℕ) (x : Inode) (b : Bool) → get m id ≡ Some x → is_directory_body x.body ≡ b → cond b (id == root_id || named m id == 1) (named m id == x.links) ≡ true
  so_by id x true is folder = once id (id == root_id) refl (ap is_directory is ∙ folder)
  so_by id x false is plain = eq-eqb (named m id) x.links (sym (formed.tree.tree.links id x is plain))

  pub all_placed : AllByRecursion (IsPlaced m files.next_ordinal) (entries m)
  all_placed = all_of_each (IsPlaced m files.next_ordinal) m (λ id x is. record {
    limited = formed.tree.limited id x is;
    numbered = formed.numbered id x is;
    holds = and_from _ _ (children_by id x x.body is refl) (linked x.links _ (is_directory_body x.body) (formed.tree.tree.directory_links id x is));
  })

  pub all_named : (names : Counted) → Count m names → list_all (is_named names) (entries m) ≡ true
  all_named names counts = all_from (is_named names) (IsNamed names) (λ x is. is) (entries m) (all_of_each (IsNamed names) m (λ id x is.
      same_so m names id x.links (is_directory_body x.body) counts (formed.tree.limited id x is).links ∙ so_by id x (is_directory_body x.body) is refl))

  pub all_lead : AllByRecursion (LeadsToRoot m) (entries m)
  all_lead = all_of_each (LeadsToRoot m) m (λ id x is folder. formed.tree.tree.reaches id (ap is_directory is ∙ folder))

-- Both ways --------------------------------------------------------------------------------------------------------------

abbrev Told : (told : Bool) → Inodes → (ordinal : ℕ) → Type 0
Told told m ordinal = (last_time : Time) → IsTrue told ↔ IsWellFormed (record { tree = m; next_ordinal = ordinal; last_time = last_time })

module _ (m : Inodes) (ordinal : ℕ) where
  pub misplaced : TellsPlaced None m ordinal → Told false m ordinal
  misplaced refused last_time = (λ yes. absurd (true≢false (sym yes)), λ formed. absurd (refused (all_placed _ formed)))

  pub misnamed : (names : Counted) → TellsPlaced (Some names) m ordinal → list_all (is_named names) (entries m) ≡ false → Told false m ordinal
  misnamed names taken fails last_time = (λ yes. absurd (true≢false (sym yes)), λ formed. absurd (true≢false (sym (all_named _ formed names taken.1) ∙ fails)))

  pub told_by_ways : (names : Counted) (lead : Bool) → (first_ordinal ≤ ordinal) × (ordinal ≤ spent_ordinal) → IsTrue (is_directory (get m root_id)) → TellsPlaced (Some names) m ordinal → list_all (is_named names) (entries m) ≡ true
      → (IsTrue lead ↔ AllByRecursion (LeadsToRoot m) (entries m)) → Told lead m ordinal
  told_by_ways names lead within root taken so ways last_time = (λ yes. well_formed m ordinal names root taken so (ways.0 yes) within last_time, λ formed. ways.1 (all_lead _ formed))
