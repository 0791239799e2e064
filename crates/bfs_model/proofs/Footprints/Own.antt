-- A call has the same footprint where what it touches is the same, and after a call that writes no directory in which it
-- resolves names.
use Rattle.std.proofs.Common.{◌≡◌, ℕ, Bool, true, false, ◌&&◌, ◌||◌, not, List, [], ◌∷◌, ◌++◌, Option, Some, None, option_map, option_and_then, refl, ap, ◌∙◌, eqb, eq-eqb, if◌then◌else◌, ⊎_elim, sym, subst}
use Rattle.std.specs.Option.{option_map_or}
use Rattle.std.specs.FinMap.{get}
use Rattle.std.proofs.lemmas.Bool.{or_left, or_right, or_cases}
use Rattle.bfs_model.specs.Server.Tree.{Inode, Inodes, is_directory, entries_at, listing_at}
use Rattle.bfs_model.specs.Server.Context.{Context}
use Rattle.bfs_model.specs.Bytes.Call.{Credential}
use Rattle.bfs_model.specs.Server.Access.{may_search, may_change_entries}
use Rattle.bfs_model.specs.Server.Directories.{entry_named}
use Rattle.bfs_model.specs.Bytes.Arguments.{Call, look_up, remove as remove_file, rename, remove_directory}
use Rattle.bfs_model.specs.Server.Procedures.Names.{child_named}
use Rattle.bfs_model.specs.Server.Footprints.{Footprint, known, whole, ids_in, child_at, id_found, lets, lets_search, lets_change, lets_rename, moves_a_directory, footprint_of_removing, footprint}
use Rattle.bfs_model.specs.Server.Conflicts.{moved_by, among, is_touched, resolved_in, AgreeOn}
use Rattle.bfs_model.specs.Laws.Footprints.{FootprintsFollow, FootprintsAgree, ResolvedIsTouched}

-- What is among ids --------------------------------------------------------------------------------------------------------

pub among_left : (xs ys : List ℕ) (id : ℕ) → among xs id ≡ true → among (xs ++ ys) id ≡ true
among_left [] ys id is = absurd cc
among_left (x ∷ xs) ys id is = ⊎_elim (or_left (eqb x id) (among (xs ++ ys) id)) (λ later. or_right (eqb x id) _ (among_left xs ys id later)) (or_cases (eqb x id) (among xs id) is)

pub among_right : (xs ys : List ℕ) (id : ℕ) → among ys id ≡ true → among (xs ++ ys) id ≡ true
among_right [] ys id is = is
among_right (x ∷ xs) ys id is = or_right (eqb x id) (among (xs ++ ys) id) (among_right xs ys id is)

pub itself_among : (id : ℕ) (ids : List ℕ) → among (id ∷ ids) id ≡ true
itself_among id ids = or_left (eqb id id) (among ids id) (eq-eqb id id refl)

-- The footprint depends on the directories in which names are resolved, and on whether RENAME moves a directory ------------

module _ (m others : Inodes) where
  abbrev AreSame : List ℕ → Type 0
  AreSame ids = (id : ℕ) → among ids id ≡ true → get others id ≡ get m id

  child_same : (dir : Option ℕ) (name : List ℕ) → AreSame (ids_in dir) → child_at others dir name ≡ child_at m dir name
  child_same None name same = refl
  child_same (Some dir) name same = ap (λ there. option_map (λ entry. entry.child) (entry_named name (entries_at there))) (same dir (itself_among dir []))

  found_same : (dir : Option ℕ) (name : List ℕ) → AreSame (ids_in dir) → id_found others dir name ≡ id_found m dir name
  found_same None name same = refl
  found_same (Some dir) name same = ap (λ there. option_and_then (λ listing. child_named dir listing name) (listing_at there)) (same dir (itself_among dir []))

  abbrev pub IsSameKind : Option ℕ → Type 0
  IsSameKind child = is_directory (option_and_then (get others) child) ≡ is_directory (option_and_then (get m) child)

  moves_same : (from : Option ℕ) (from_name : List ℕ) (to : Option ℕ) → AreSame (ids_in from) → IsSameKind (child_at m from from_name) → moves_a_directory others from from_name to ≡ moves_a_directory m from from_name to
  moves_same None from_name to same kind = refl
  moves_same (Some from) from_name to same kind =
      ap (λ b. b && option_map_or (λ other. not (eqb from other)) to true) (ap (λ child. is_directory (option_and_then (get others) child)) (child_same (Some from) from_name same) ∙ kind)

  lets_same : (may : Credential → Inode → Bool) (caller : Credential) (dir : Option ℕ) → AreSame (ids_in dir) → lets may caller (option_and_then (get others) dir) ≡ lets may caller (option_and_then (get m) dir)
  lets_same may caller None same = refl
  lets_same may caller (Some dir) same = ap (lets may caller) (same dir (itself_among dir []))

  kind_same : (dir : Option ℕ) → AreSame (ids_in dir) → IsSameKind dir
  kind_same None same = refl
  kind_same (Some dir) same = ap is_directory (same dir (itself_among dir []))

  lets_rename_same : (caller : Credential) (from to : Option ℕ) → AreSame (ids_in from) → AreSame (ids_in to) → lets_rename others caller from to ≡ lets_rename m caller from to
  lets_rename_same caller from to same_from same_to i =
      not (kind_same from same_from i && kind_same to same_to i) || lets_same may_change_entries caller from same_from i && lets_same may_change_entries caller to same_to i

  -- what RENAME moves is of one kind, where the caller is let
  abbrev pub MovesAlike : Context → Call → Type 0
  MovesAlike c (rename from from_name to to_name) = lets_rename m c.caller from to ≡ true → IsSameKind (child_at m from from_name)
  MovesAlike c other = Unit {0}

  removing_same : (c : Context) (dir : Option ℕ) (name : List ℕ) → AreSame (ids_in dir) → footprint_of_removing others c dir name ≡ footprint_of_removing m c dir name
  removing_same c dir name same i = if lets_same may_change_entries c.caller dir same i then known [] (ids_in dir ++ ids_in (child_same dir name same i)) else known (ids_in dir) []

  -- what depends on another thing only where the caller is let
  where_let : (let_in : Bool) (refused one other : Footprint) → (let_in ≡ true → other ≡ one) → (if not let_in then refused else other) ≡ (if not let_in then refused else one)
  where_let true refused one other same = same refl
  where_let false refused one other same = refl

  footprint_same : (c : Context) (call : Call) → AreSame (resolved_in call) → MovesAlike c call → footprint others c call ≡ footprint m c call
  footprint_same c (look_up dir name) same kind = λ i. if lets_same may_search c.caller dir same i then known (ids_in dir ++ ids_in (found_same dir name same i)) [] else known (ids_in dir) []
  footprint_same c (remove_file dir name) same kind = removing_same c dir name same
  footprint_same c (rename from from_name to to_name) same kind =
      let same_from : AreSame (ids_in from) = λ id is. same id (among_left (ids_in from) (ids_in to) id is) in
      let same_to : AreSame (ids_in to) = λ id is. same id (among_right (ids_in from) (ids_in to) id is) in
      let refused : Footprint = known (ids_in from ++ ids_in to) [] in
      let moved : Inodes → Footprint = λ n. if moves_a_directory n from from_name to then whole else known [] (ids_in from ++ ids_in to ++ ids_in (child_at n from from_name) ++ ids_in (child_at n to to_name)) in
      ap (λ let_in. if not let_in then refused else moved others) (lets_rename_same c.caller from to same_from same_to)
      ∙ where_let (lets_rename m c.caller from to) refused (moved m) (moved others) (λ let_in i.
      if moves_same from from_name to same_from (kind let_in) i then whole else known [] (ids_in from ++ ids_in to ++ ids_in (child_same from from_name same_from i) ++ ids_in (child_same to to_name same_to i)))
  footprint_same c (remove_directory dir name) same kind = removing_same c dir name same
  footprint_same c other same kind = refl

-- Both are touched ---------------------------------------------------------------------------------------------------------

-- a call that is refused by a directory reads it
read_touched : (let_in : Bool) (dirs more : List ℕ) (id : ℕ) → among dirs id ≡ true → is_touched (if let_in then known (dirs ++ more) [] else known dirs []) id ≡ true
read_touched true dirs more id is = or_left (among (dirs ++ more) id) false (among_left dirs more id is)
read_touched false dirs more id is = or_left (among dirs id) false is

removing_touched : (let_in : Bool) (dirs more : List ℕ) (id : ℕ) → among dirs id ≡ true → is_touched (if let_in then known [] (dirs ++ more) else known dirs []) id ≡ true
removing_touched true dirs more id is = among_left dirs more id is
removing_touched false dirs more id is = or_left (among dirs id) false is

all_touched : (moves : Bool) (writes : List ℕ) (id : ℕ) → among writes id ≡ true → is_touched (if moves then whole else known [] writes) id ≡ true
all_touched true writes id is = refl
all_touched false writes id is = is

handles_touched : (from to rest more : List ℕ) (id : ℕ) → among (from ++ to) id ≡ true → among (from ++ to ++ rest ++ more) id ≡ true
handles_touched from to rest more id is = among_left (from ++ to ++ rest) more id (among_left (from ++ to) rest id is)

renaming_touched : (let_in moves : Bool) (dirs writes : List ℕ) (id : ℕ) → among dirs id ≡ true → among writes id ≡ true → is_touched (if not let_in then known dirs [] else (if moves then whole else known [] writes)) id ≡ true
renaming_touched false moves dirs writes id is all = or_left (among dirs id) false is
renaming_touched true moves dirs writes id is all = all_touched moves writes id all

pub resolved_is_touched : ResolvedIsTouched
resolved_is_touched m c (look_up dir name) id is = read_touched (lets_search m c.caller dir) (ids_in dir) (ids_in (id_found m dir name)) id is
resolved_is_touched m c (remove_file dir name) id is = removing_touched (lets_change m c.caller dir) (ids_in dir) (ids_in (child_at m dir name)) id is
resolved_is_touched m c (rename from from_name to to_name) id is =
    renaming_touched (lets_rename m c.caller from to) (moves_a_directory m from from_name to) (ids_in from ++ ids_in to) (ids_in from ++ ids_in to ++ ids_in (child_at m from from_name) ++ ids_in (child_at m to to_name)) id is
    (handles_touched (ids_in from) (ids_in to) (ids_in (child_at m from from_name)) (ids_in (child_at m to to_name)) id is)
resolved_is_touched m c (remove_directory dir name) id is = removing_touched (lets_change m c.caller dir) (ids_in dir) (ids_in (child_at m dir name)) id is
resolved_is_touched m c other id is = absurd cc

-- what RENAME moves is among what it touches, where the caller is let
moved_is_touched : (m : Inodes) (c : Context) (from : Option ℕ) (from_name : List ℕ) (to : Option ℕ) (to_name : List ℕ) (id : ℕ) → lets_rename m c.caller from to ≡ true → among (ids_in (child_at m from from_name)) id ≡ true
    → is_touched (footprint m c (rename from from_name to to_name)) id ≡ true
moved_is_touched m c from from_name to to_name id let_in is =
    let writes : List ℕ = ids_in from ++ ids_in to ++ ids_in (child_at m from from_name) ++ ids_in (child_at m to to_name) in
    subst (λ b. is_touched (if not b then known (ids_in from ++ ids_in to) [] else (if moves_a_directory m from from_name to then whole else known [] writes)) id ≡ true) (sym let_in)
    (all_touched (moves_a_directory m from from_name to) writes id
    (among_left (ids_in from ++ ids_in to ++ ids_in (child_at m from from_name)) (ids_in (child_at m to to_name)) id (among_right (ids_in from ++ ids_in to) (ids_in (child_at m from from_name)) id is)))

kind_of : (m others : Inodes) (child : Option ℕ) → ((id : ℕ) → among (ids_in child) id ≡ true → get others id ≡ get m id) → IsSameKind m others child
kind_of m others None same = refl
kind_of m others (Some id) same = ap is_directory (same id (itself_among id []))

moved_kind : (m others : Inodes) (c : Context) (call : Call) → AgreeOn (footprint m c call) m others → MovesAlike m others c call
moved_kind m others c (rename from from_name to to_name) agree = λ let_in. kind_of m others (child_at m from from_name) (λ id is. agree id (moved_is_touched m c from from_name to to_name id let_in is))
moved_kind m others c other agree = tt

kind_follows : (m others : Inodes) (c : Context) (call : Call) → IsSameKind m others (moved_by m call) → MovesAlike m others c call
kind_follows m others c (rename from from_name to to_name) kind = λ let_in. kind
kind_follows m others c other kind = tt

pub footprints_agree : FootprintsAgree
footprints_agree m others c call agree = footprint_same m others c call (λ id is. agree id (resolved_is_touched m c call id is)) (moved_kind m others c call agree)

pub footprints_follow : FootprintsFollow
footprints_follow m others c call same kind = footprint_same m others c call same (kind_follows m others c call kind)
