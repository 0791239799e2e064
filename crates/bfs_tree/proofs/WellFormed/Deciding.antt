-- A tree is well formed just if its root is a directory and each inode is in order.
use Rattle.std.proofs.Common.{◌≡◌, ℕ, ◌+◌, ◌≤◌, Bool, true, false, cond, not, true≢false, IsTrue, IsFalse, List, Option, Some, None, is_some, inl, inr, refl, sym, ap, subst, ◌∙◌, arith, eqb-true, eq-eqb, ne_eqb}
use Rattle.std.specs.Prelude.{◌==◌, ◌||◌}
use Rattle.std.specs.List.{AllByRecursion, list_all}
use Rattle.std.specs.Option.{option_map_or}
use Rattle.std.specs.FinMap.{get, entries, len, remove}
use Rattle.std.proofs.lemmas.Bool.{cases_lt, and_parts, and_from}
use Rattle.bfs_model.specs.Server.Tree.{Entry, Listing, Body, file, directory, link, Inode, Inodes, root_id, is_directory_body, is_directory, entries_in, entries_at, parent_in, parent_at, parent_of}
use Rattle.bfs_model.specs.Server.Procedures.Renaming.{is_within}
use Rattle.bfs_model.specs.Server.WellFormed.{times, named, directories_among, IsTree, IsWellFormedTree}
use Rattle.bfs_model.proofs.Public.{formed_from, get-set_at, named-set, named_at_least, reaches_within, way_met, weigh_zero}
use Rattle.bfs_tree.specs.Inside.WellFormed.{may_name, is_child, is_directory_in_place, is_in_place, IsInOrder}
use Rattle.bfs_tree.proofs.WellFormed.Lists.{each_of_all, all_of_each, named_of_all, all_of_named}

-- From the tests ---------------------------------------------------------------------------------------------------------

-- what a directory in its place says
record Placed (m : Inodes) (id count : ℕ) (listing : Listing) : Type 0 where
  children : list_all (λ entry. is_child m id entry.child) listing.entries ≡ true
  links : count ≡ 2 + directories_among m listing.entries
  once : (id == root_id || times id (entries_at (get m listing.parent)) == 1) ≡ true
  way : is_within m (len m) id root_id ≡ true

placed_from : (m : Inodes) (id links : ℕ) (listing : Listing) → IsTrue (is_directory_in_place m id links listing) → Placed m id links listing
placed_from m id links listing is =
    let third = and_parts _ (is_within m (len m) id root_id) is in
    let second = and_parts _ (id == root_id || times id (entries_at (get m listing.parent)) == 1) third.0 in
    let first = and_parts (list_all (λ entry. is_child m id entry.child) listing.entries) (links == 2 + directories_among m listing.entries) second.0 in
    record { children = first.0; links = eqb-true links _ first.1; once = second.1; way = third.1 }

child_by_body : (m : Inodes) (dir links child : ℕ) (body : Body) → IsTrue (is_in_place m dir links body) → 1 ≤ times child (entries_in body) → is_child m dir child ≡ true
child_by_body m dir links child (file bytes) is some = absurd (omega arith)
child_by_body m dir links child (directory listing) is some = named_of_all (is_child m dir) listing.entries (placed_from m dir links listing is).children child some
child_by_body m dir links child (link path) is some = absurd (omega arith)

links_by_body : (m : Inodes) (id links : ℕ) (body : Body) → IsTrue (is_in_place m id links body) → IsFalse (is_directory_body body) → links ≡ named m id
links_by_body m id links (file bytes) is plain = eqb-true links (named m id) is
links_by_body m id links (directory listing) is plain = absurd (true≢false plain)
links_by_body m id links (link path) is plain = eqb-true links (named m id) is

directory_links_by_body : (m : Inodes) (id links : ℕ) (body : Body) → IsTrue (is_in_place m id links body) → IsTrue (is_directory_body body) → links ≡ 2 + directories_among m (entries_in body)
directory_links_by_body m id links (file bytes) is folder = absurd (true≢false (sym folder))
directory_links_by_body m id links (directory listing) is folder = (placed_from m id links listing is).links
directory_links_by_body m id links (link path) is folder = absurd (true≢false (sym folder))

way_by_body : (m : Inodes) (id links : ℕ) (body : Body) → IsTrue (is_in_place m id links body) → IsTrue (is_directory_body body) → is_within m (len m) id root_id ≡ true
way_by_body m id links (file bytes) is folder = absurd (true≢false (sym folder))
way_by_body m id links (directory listing) is folder = (placed_from m id links listing is).way
way_by_body m id links (link path) is folder = absurd (true≢false (sym folder))

-- a directory that is not the root has a parent, which names it once
once_by_body : (m : Inodes) (id links : ℕ) (body : Body) → (id == root_id) ≡ false → IsTrue (is_in_place m id links body) → IsTrue (is_directory_body body)
    → (parent : ℕ) × (parent_in body ≡ Some parent) × (times id (entries_at (get m parent)) ≡ 1)
once_by_body m id links (file bytes) apart is folder = absurd (true≢false (sym folder))
once_by_body m id links (directory listing) apart is folder =
    let once : (times id (entries_at (get m listing.parent)) == 1) ≡ true = ap (λ b. b || times id (entries_at (get m listing.parent)) == 1) (sym apart) ∙ (placed_from m id links listing is).once in
    (listing.parent, refl, eqb-true (times id (entries_at (get m listing.parent))) 1 once)
once_by_body m id links (link path) apart is folder = absurd (true≢false (sym folder))

there_of : (test : Inode → Bool) (o : Option Inode) → option_map_or test o false ≡ true → IsTrue (is_some o)
there_of test None is = absurd (true≢false (sym is))
there_of test (Some x) is = refl

-- a child that has a parent has the directory as its parent
parent_by_body : (dir child parent : ℕ) (root : Bool) (body : Body) → may_name dir child body ≡ true → cond root None (parent_in body) ≡ Some parent → parent ≡ dir
parent_by_body dir child parent true body is up = absurd cc
parent_by_body dir child parent false (file bytes) is up = absurd cc
parent_by_body dir child parent false (link path) is up = absurd cc
parent_by_body dir child parent false (directory listing) is up =
    let same : listing.parent ≡ parent = cc in
    sym same ∙ eqb-true listing.parent dir (and_parts (not (child == root_id)) _ is).1

parent_by : (dir child parent : ℕ) (root : Bool) (o : Option Inode) → option_map_or (λ inode. may_name dir child inode.body) o false ≡ true → cond root None (parent_at o) ≡ Some parent → parent ≡ dir
parent_by dir child parent root None is up = absurd (true≢false (sym is))
parent_by dir child parent root (Some x) is up = parent_by_body dir child parent root x.body is up

-- the root is no child
root_by_body : (dir : ℕ) (body : Body) → may_name dir root_id body ≡ true → IsTrue (is_directory_body body) → ⊥
root_by_body dir (file bytes) is folder = true≢false (sym folder)
root_by_body dir (directory listing) is folder = true≢false (sym is)
root_by_body dir (link path) is folder = true≢false (sym folder)

root_by : (dir : ℕ) (o : Option Inode) → option_map_or (λ inode. may_name dir root_id inode.body) o false ≡ true → IsTrue (is_directory o) → ⊥
root_by dir None is folder = true≢false (sym is)
root_by dir (Some x) is folder = root_by_body dir x.body is folder

module _ (m : Inodes) (root : IsTrue (is_directory (get m root_id))) (child_in : (dir child : ℕ) (x : Inode) → get m dir ≡ Some x → 1 ≤ times child (entries_in x.body) → is_child m dir child ≡ true) where
  pub child_at : (dir child : ℕ) (o : Option Inode) → get m dir ≡ o → 1 ≤ times child (entries_at o) → is_child m dir child ≡ true
  child_at dir child None is some = absurd (omega arith)
  child_at dir child (Some x) is some = child_in dir child x is some

  pub in_parent : (dir child parent : ℕ) → 1 ≤ times child (entries_at (get m dir)) → parent_of m child ≡ Some parent → parent ≡ dir
  in_parent dir child parent some up = parent_by dir child parent (child == root_id) (get m child) (child_at dir child (get m dir) refl some) up

  pub unnamed_root : (dir : ℕ) (x : Inode) → get m dir ≡ Some x → times root_id (entries_in x.body) ≡ 0
  unnamed_root dir x is = elim (cases_lt 0 (times root_id (entries_in x.body))) [
    | inl some ↦ absurd (root_by dir (get m root_id) (child_at dir root_id (Some x) is some) root)
    | inr none ↦ omega arith
  ]

  -- what has a parent is not named elsewhere
  elsewhere : (child parent q : ℕ) (x : Inode) (b : Bool) → parent_of m child ≡ Some parent → (parent == q) ≡ b → cond b None (get m q) ≡ Some x → times child (entries_in x.body) ≡ 0
  elsewhere child parent q x true up same is = absurd cc
  elsewhere child parent q x false up apart is = elim (cases_lt 0 (times child (entries_in x.body))) [
    | inl some ↦
        let here : 1 ≤ times child (entries_at (get m q)) = subst (λ (o : Option Inode). 1 ≤ times child (entries_at o)) (sym is) some in
        absurd (true≢false (sym (eq-eqb parent q (in_parent q child parent here up)) ∙ apart))
    | inr none ↦ omega arith
  ]

  pub there_at : (dir id : ℕ) → 1 ≤ times id (entries_at (get m dir)) → IsTrue (is_some (get m id))
  there_at dir id some = there_of _ (get m id) (child_at dir id (get m dir) refl some)

  pub root_unnamed : named m root_id ≡ 0
  root_unnamed = weigh_zero (λ k x. times root_id (entries_in x.body)) m unnamed_root

module _ (m : Inodes) (root : IsTrue (is_directory (get m root_id))) (order : (id : ℕ) (x : Inode) → get m id ≡ Some x → IsTrue (is_in_place m id x.links x.body)) where
  child_in : (dir child : ℕ) (x : Inode) → get m dir ≡ Some x → 1 ≤ times child (entries_in x.body) → is_child m dir child ≡ true
  child_in dir child x is some = child_by_body m dir x.links child x.body (order dir x is) some

  once_at : (child : ℕ) (o : Option Inode) → get m child ≡ o → IsTrue (is_directory o) → (child ≡ root_id → ⊥) → named m child ≡ 1
  once_at child None is folder other = absurd (true≢false (sym folder))
  once_at child (Some x) is folder other =
      let apart : (child == root_id) ≡ false = ne_eqb child root_id other in
      let once = once_by_body m child x.links x.body apart (order child x is) folder in
      let parent = once.0 in
      let here : times child (entries_at (get m parent)) ≡ 1 = once.2 in
      let up : parent_of m child ≡ Some parent = ap (λ b. cond b None (parent_at (get m child))) apart ∙ ap parent_at is ∙ once.1 in
      let law : named (remove m parent) child + times child (entries_at (get m parent)) ≡ named m child + 0 = named-set m parent None child in
      let rest : named (remove m parent) child ≡ 0 = weigh_zero (λ k y. times child (entries_in y.body)) (remove m parent) (λ q y at. elsewhere m root child_in child parent q y (parent == q) up refl (sym (get-set_at m parent None q) ∙ at)) in
      omega arith

  way_at : (id : ℕ) (o : Option Inode) → get m id ≡ o → IsTrue (is_directory o) → is_within m (len m) id root_id ≡ true
  way_at id None is folder = absurd (true≢false (sym folder))
  way_at id (Some x) is folder = way_by_body m id x.links x.body (order id x is) folder

  tree_from : IsTree m
  tree_from = record {
    root = root;
    there = there_at m root child_in;
    links = λ id inode is plain. links_by_body m id inode.links inode.body (order id inode is) plain;
    directory_links = λ id inode is folder. directory_links_by_body m id inode.links inode.body (order id inode is) folder;
    root_unnamed = root_unnamed m root child_in;
    named_once = λ id folder other. once_at id (get m id) refl folder other;
    in_parent = in_parent m root child_in;
    reaches = λ id folder. way_met m (len m) id (way_at id (get m id) refl folder);
  }

-- From the tree ----------------------------------------------------------------------------------------------------------

module _ (m : Inodes) (tree : IsTree m) where
  unnamed : (dir : ℕ) → 1 ≤ times root_id (entries_at (get m dir)) → ⊥
  unnamed dir some =
      let least : times root_id (entries_at (get m dir)) ≤ named m root_id = named_at_least m dir root_id in
      let none : named m root_id ≡ 0 = tree.root_unnamed in
      absurd (omega arith)

  may_by_body : (dir child : ℕ) (b : Bool) (body : Body) → (child == root_id) ≡ b → parent_of m child ≡ cond b None (parent_in body) → 1 ≤ times child (entries_at (get m dir)) → may_name dir child body ≡ true
  may_by_body dir child b (file bytes) test up some = refl
  may_by_body dir child b (link path) test up some = refl
  may_by_body dir child true (directory listing) test up some =
      absurd (unnamed dir (subst (λ (c : ℕ). 1 ≤ times c (entries_at (get m dir))) (eqb-true child root_id test) some))
  may_by_body dir child false (directory listing) test up some =
      and_from (not (child == root_id)) (listing.parent == dir) (ap not test) (eq-eqb listing.parent dir (tree.in_parent dir child listing.parent some up))

  may_by : (dir child : ℕ) (o : Option Inode) → get m child ≡ o → 1 ≤ times child (entries_at (get m dir)) → option_map_or (λ inode. may_name dir child inode.body) o false ≡ true
  may_by dir child None is some = absurd (true≢false (sym (tree.there dir child some) ∙ ap is_some is))
  may_by dir child (Some x) is some = may_by_body dir child (child == root_id) x.body refl (ap (λ o. cond (child == root_id) None (parent_at o)) is) some

  pub children_of : (id : ℕ) (listing : Listing) → entries_at (get m id) ≡ listing.entries → list_all (λ entry. is_child m id entry.child) listing.entries ≡ true
  children_of id listing inside = all_of_named (is_child m id) listing.entries (λ child some. may_by id child (get m child) refl (subst (λ (es : List Entry). 1 ≤ times child es) (sym inside) some))

  -- a directory that is not the root is named once in its parent
  once : (id : ℕ) (listing : Listing) (b : Bool) → IsTrue (is_directory (get m id)) → parent_of m id ≡ cond b None (Some listing.parent) → (id == root_id) ≡ b → (b || times id (entries_at (get m listing.parent)) == 1) ≡ true
  once id listing true folder up root = refl
  once id listing false folder up apart =
      let held : 1 ≤ times id (entries_at (get m listing.parent)) = (formed_from tree).held id listing.parent up refl in
      let least : times id (entries_at (get m listing.parent)) ≤ named m id = named_at_least m listing.parent id in
      let one : named m id ≡ 1 = tree.named_once id folder (λ same. true≢false (sym (eq-eqb id root_id same) ∙ apart)) in
      eq-eqb (times id (entries_at (get m listing.parent))) 1 (omega arith)

  place_by_body : (id : ℕ) (x : Inode) (body : Body) → get m id ≡ Some x → x.body ≡ body → is_in_place m id x.links body ≡ true
  place_by_body id x (file bytes) is held = eq-eqb x.links (named m id) (tree.links id x is (ap is_directory_body held))
  place_by_body id x (link path) is held = eq-eqb x.links (named m id) (tree.links id x is (ap is_directory_body held))
  place_by_body id x (directory listing) is held =
      let folder : IsTrue (is_directory (get m id)) = ap is_directory is ∙ ap is_directory_body held in
      let inside : entries_at (get m id) ≡ listing.entries = ap entries_at is ∙ ap entries_in held in
      let among : x.links ≡ 2 + directories_among m listing.entries = tree.directory_links id x is (ap is_directory_body held) ∙ ap (λ body. 2 + directories_among m (entries_in body)) held in
      let up : parent_of m id ≡ cond (id == root_id) None (Some listing.parent) = ap (λ o. cond (id == root_id) None (parent_at o)) is ∙ ap (λ body. cond (id == root_id) None (parent_in body)) held in
      and_from _ (is_within m (len m) id root_id)
      (and_from _ (id == root_id || times id (entries_at (get m listing.parent)) == 1)
      (and_from (list_all (λ entry. is_child m id entry.child) listing.entries) (x.links == 2 + directories_among m listing.entries)
      (children_of id listing inside) (eq-eqb x.links (2 + directories_among m listing.entries) among))
      (once id listing (id == root_id) folder up refl))
      (reaches_within m id (tree.reaches id folder))

-- Both ways --------------------------------------------------------------------------------------------------------------

pub well_formed : (m : Inodes) → IsTrue (is_directory (get m root_id)) → AllByRecursion (IsInOrder m) (entries m) → IsWellFormedTree m
well_formed m root all = record {
  tree = tree_from m root (λ id x is. (each_of_all (IsInOrder m) m all id x is).1);
  limited = λ id x is. (each_of_all (IsInOrder m) m all id x is).0;
}

pub in_order : (m : Inodes) → IsWellFormedTree m → AllByRecursion (IsInOrder m) (entries m)
in_order m formed = all_of_each (IsInOrder m) m (λ id x is. (formed.limited id x is, place_by_body m formed.tree id x x.body is refl))
