-- A footprint stays after a call that writes no directory in which its call resolves names.
use Rattle.std.proofs.Common.{◌≡◌, ℕ, ◌≤◌, ◌<◌, All, Bool, true, false, inl, inr, List, [], ◌∷◌, Option, Some, None, option_map, IsTrue, is_some, refl, sym, ap, subst, ◌∙◌}
use Rattle.std.specs.List.{AllByRecursion}
use Rattle.std.specs.FinMap.{get}
use Rattle.std.proofs.lemmas.Bool.{cases_Bool, or_right}
use Rattle.bfs_model.specs.Server.Tree.{Entry, Body, file, directory, link, Inode, Inodes, is_directory, is_directory_body, entries_at}
use Rattle.bfs_model.specs.Server.Context.{Context}
use Rattle.bfs_model.specs.Bytes.Attributes.{FileType, regular, directory_type, symbolic_link, type_of}
use Rattle.bfs_model.specs.Server.Directories.{entry_named}
use Rattle.bfs_model.specs.Bytes.Arguments.{Call, rename}
use Rattle.bfs_model.specs.Server.WellFormed.{times, IsTree}
use Rattle.bfs_model.specs.Server.Refusals.{Outcome}
use Rattle.bfs_model.specs.Server.Procedures.{procedure}
use Rattle.bfs_model.specs.Server.Footprints.{Footprint, known, whole, ids_in, child_at, footprint, IsNewAt, IsNewIn}
use Rattle.bfs_model.specs.Server.Conflicts.{moved_by, is_written, among, resolved_in, AgreeOn, outcome_on}
use Rattle.bfs_model.specs.Laws.Footprints.{AddedIsWritten, CallsCommute, FootprintsStay, FreshOrdinalsAgree}
use Rattle.bfs_model.proofs.Added.{types_kept}
use Rattle.bfs_model.proofs.WellFormed.Trees.{tree_kept}
use Rattle.bfs_model.proofs.WellFormed.Named.{found_named}
use Rattle.bfs_model.proofs.Footprints.Agreement.{calls_keep_to_footprints}
use Rattle.bfs_model.proofs.Footprints.Apart as apart
use Rattle.bfs_model.proofs.Footprints.Own.{among_left, itself_among, IsSameKind, footprints_agree, footprints_follow}

-- Calls as they are made ---------------------------------------------------------------------------------------------------

pub record Made : Type 0 where
  pub context : Context
  pub call : Call

abbrev run : Made → Inodes → Outcome
run made m = procedure m made.context made.call

abbrev feet : Made → Inodes → Footprint
feet made m = footprint m made.context made.call

sound : (made : Made) (m others : Inodes) → AgreeOn (feet made m) m others → run made others ≡ outcome_on (feet made m) others (run made m)
sound made m others = calls_keep_to_footprints m others made.context made.call

abbrev made_by : Context → Call → Made
made_by c call = record { context = c; call = call }

pub calls_commute : CallsCommute
calls_commute m c call later other none = apart.commute run feet sound (made_by c call) (made_by later other) m none

-- what a call does not write stays
stays : (m : Inodes) (c : Context) (call : Call) (id : ℕ) → is_written (footprint m c call) id ≡ false → get (procedure m c call).0 id ≡ get m id
stays m c call = apart.stays run feet sound (made_by c call) m

-- Kinds stay --------------------------------------------------------------------------------------------------------------

abbrev is_directory_type : FileType → Bool
is_directory_type regular = false
is_directory_type directory_type = true
is_directory_type symbolic_link = false

kind_by_type : (body : Body) → is_directory_body body ≡ is_directory_type (type_of body)
kind_by_type (file bytes) = refl
kind_by_type (directory listing) = refl
kind_by_type (link path) = refl

same_kind : (before after : Option Inode) → IsTrue (is_some before) → IsTrue (is_some after) → ((old new : Inode) → before ≡ Some old → after ≡ Some new → type_of new.body ≡ type_of old.body)
    → is_directory after ≡ is_directory before
same_kind None after is also types = absurd cc
same_kind (Some old) None is also types = absurd cc
same_kind (Some old) (Some new) is also types = kind_by_type new.body ∙ ap is_directory_type (types old new refl refl) ∙ sym (kind_by_type old.body)

module _ (m n : Inodes) (tree : IsTree m) (then : IsTree n) (types : (id : ℕ) (old new : Inode) → get m id ≡ Some old → get n id ≡ Some new → type_of new.body ≡ type_of old.body) where
  entry_kind : (dir : ℕ) (name : List ℕ) (found : Option Entry) → entry_named name (entries_at (get m dir)) ≡ found → get n dir ≡ get m dir → IsSameKind m n (option_map (λ entry. entry.child) found)
  entry_kind dir name None is same = refl
  entry_kind dir name (Some entry) is same =
      let names : 1 ≤ times entry.child (entries_at (get m dir)) = found_named name (entries_at (get m dir)) entry is in
      same_kind (get m entry.child) (get n entry.child) (tree.there dir entry.child names) (then.there dir entry.child (subst (λ there. 1 ≤ times entry.child (entries_at there)) (sym same) names)) (types entry.child)

  child_kind : (dir : Option ℕ) (name : List ℕ) → ((id : ℕ) → among (ids_in dir) id ≡ true → get n id ≡ get m id) → IsSameKind m n (child_at m dir name)
  child_kind None name same = refl
  child_kind (Some dir) name same = entry_kind dir name (entry_named name (entries_at (get m dir))) refl (same dir (itself_among dir []))

  pub moved_kind : (call : Call) → ((id : ℕ) → among (resolved_in call) id ≡ true → get n id ≡ get m id) → IsSameKind m n (moved_by m call)
  moved_kind (rename from from_name to to_name) same = child_kind from from_name (λ id is. same id (among_left (ids_in from) (ids_in to) id is))
  moved_kind other same = refl

pub footprints_stay : FootprintsStay
footprints_stay m c call later other tree fresh leaves =
    let n = (procedure m c call).0 in
    let same : (id : ℕ) → among (resolved_in other) id ≡ true → get n id ≡ get m id = λ id is. stays m c call id (leaves id is) in
    footprints_follow m n later other same (moved_kind m n tree (tree_kept m c call fresh tree) (types_kept m c call fresh) other same)

-- Fresh ordinals ------------------------------------------------------------------------------------------------------------

-- what makes an ordinal new, by the inode that is there
abbrev IsNewThere : (o id : ℕ) → Option Inode → Type 0
IsNewThere o id there = (id ≡ o → there ≡ None) × All (λ entry. entry.cookie < o) (entries_at there)

new_there : (o : ℕ) (m others : Inodes) (ids : List ℕ) → ((id : ℕ) → among ids id ≡ true → get others id ≡ get m id) → AllByRecursion (IsNewAt m o) ids → AllByRecursion (IsNewAt others o) ids
new_there o m others [] same new = tt
new_there o m others (id ∷ ids) same new =
    (subst (λ there. IsNewThere o id there) (sym (same id (itself_among id ids))) new.0, new_there o m others ids (λ other is. same other (or_right _ (among ids other) is)) new.1)

pub new_in : (o : ℕ) (m others : Inodes) (f : Footprint) → AgreeOn f m others → IsNewIn m o f → IsNewIn others o f
new_in o m others (known reads writes) agree new = new_there o m others writes (λ id is. agree id (or_right (among reads id) (among writes id) is)) new
new_in o m others whole agree new = λ id. subst (λ there. IsNewThere o id there) (sym (agree id refl)) (new id)

pub fresh_ordinals_agree : FreshOrdinalsAgree
fresh_ordinals_agree m others c call agree (inl spent) = inl spent
fresh_ordinals_agree m others c call agree (inr new) = inr (subst (IsNewIn others c.ordinal) (sym (footprints_agree m others c call agree)) (new_in c.ordinal m others (footprint m c call) agree new))

-- Added -----------------------------------------------------------------------------------------------------------------------

pub added_is_written : AddedIsWritten
added_is_written m c call id none there = elim (cases_Bool (is_written (footprint m c call) id)) [
  | inl is ↦ is
  | inr is ↦ absurd (let wrong : false ≡ true = sym (ap is_some (stays m c call id is ∙ none)) ∙ there in cc)
]
