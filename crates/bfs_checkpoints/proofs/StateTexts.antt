-- The text of a state is read just where it was written.
use Rattle.std.proofs.Common.{◌≡◌, ℕ, ◌==◌, length, Bool, true, false, List, [], ◌∷◌, ◌++◌, Option, Some, None, Result, Ok, Err, refl, sym, ap, ap₂, subst, ◌∙◌}
use Rattle.std.specs.Prelude.{IfOk, IsTrue, is_some, ◌↔◌}
use Rattle.std.specs.Result.{IsErrOf}
use Rattle.std.specs.Option.{ForSome, option_map}
use Rattle.std.proofs.lemmas.Bool.{eqb-true}
use Rattle.std.proofs.lemmas.List.{nil_from_length}
use Rattle.std.proofs.lemmas.Option.{same_Some}
use Rattle.bfs_model.specs.Bytes.Items.{word}
use Rattle.bfs_model.specs.Server.Stored.{AreBytes, IsLive}
use Rattle.bfs_model.specs.Server.Tree.{FileSystem}
use Rattle.bfs_model.specs.Server.WellFormed.{IsWellFormed}
use Rattle.bfs_model.proofs.Public.{some_is}
use Rattle.bfs_digest.proofs.Public.{live_is_spellable, one_file_system, spelled_has_no_other_version, spelled_latest, spells_latest}
use Rattle.bfs_digest.specs.Outcomes.{HasOtherVersion, IsMalformed, IsRestored, SpellsIllFormed}
use Rattle.bfs_digest.specs.Text.{Spells, latest_version, snapshot_text, text_in}
use Rattle.bfs_digest.specs.declared.errors.RestoreError.{RestoreError}
use Rattle.bfs_digest.specs.declared.errors.RestoreError.TheVariants.{Malformed, WrongVersion, NotWellFormed, Memory}
use Rattle.bfs_replies.specs.Tables.{Table, IsKept}
use Rattle.bfs_replies.specs.Texts.{table_text}
use Rattle.bfs_replies.specs.TextReading.{table_from}
use Rattle.bfs_replies.proofs.Public.{tables_again, tables_written}
use Rattle.bfs_checkpoints.specs.Snapshots.{IsReadAs, IsTaken, Snapshot, snapshot_of}
use Rattle.bfs_checkpoints.specs.States.{AreFilesReadAs, IsStateReadAs, files_text, state_text}
use Rattle.bfs_checkpoints.specs.Texts.{node_text}

pub live_where_told : (files : Option FileSystem) (told : Bool) → told ≡ is_some files → (IsTrue told → ForSome files IsLive) → ForSome files IsLive
live_where_told None told is live files e = absurd cc
live_where_told (Some one) told is live files e = live is files e

pub files_put : (files : Option FileSystem) (before now text : List ℕ) → option_map snapshot_text files ≡ Some text → now ≡ before ++ text → now ≡ before ++ files_text files
files_put None before now text is put = absurd cc
files_put (Some live) before now text is put = put ∙ ap (λ t. before ++ t) (sym (same_Some _ _ is))

-- The file system ----------------------------------------------------------------------------------------------------

-- the text of a file system is not empty
some_text : (files : FileSystem) → [] ≡ snapshot_text files → ⊥
unfolding text_in word
some_text files e = absurd cc

spells_live : (bytes : List ℕ) (files : FileSystem) → IsLive files → bytes ≡ snapshot_text files → Spells latest_version bytes files
spells_live bytes files live e = spells_latest bytes files (record { spellable = live_is_spellable files live; spelled = e })

pub files_read : (bytes : List ℕ) (found : Option FileSystem) → IsRestored latest_version bytes found → bytes ≡ files_text found
files_read bytes None restored = absurd restored
files_read bytes (Some files) restored = (spelled_latest bytes files restored.0).spelled

files_same : (bytes : List ℕ) (found files : Option FileSystem) → IsRestored latest_version bytes found → ForSome files IsLive → bytes ≡ files_text files → found ≡ files
files_same bytes None files restored live e = absurd restored
files_same bytes (Some one) None restored live e = absurd (some_text one (sym e ∙ (spelled_latest bytes one restored.0).spelled))
files_same bytes (Some one) (Some files) restored live e = ap Some (one_file_system latest_version latest_version bytes one files restored.0 (spells_live bytes files (live files refl) e)).0

not_refused : (bytes : List ℕ) (e : RestoreError) (files : Option FileSystem) → ForSome files IsLive → bytes ≡ files_text files → (bytes ≡ [] → ⊥)
    → (e ≡ Malformed → IsMalformed latest_version bytes) → (e ≡ WrongVersion → HasOtherVersion latest_version bytes) → (e ≡ NotWellFormed → SpellsIllFormed latest_version bytes) → e ≡ Memory
not_refused bytes e None live is some malformed other ill = absurd (some is)
not_refused bytes Malformed (Some files) live is some malformed other ill = absurd ((malformed refl).1 files (spells_live bytes files (live files refl) is))
not_refused bytes WrongVersion (Some files) live is some malformed other ill = absurd (spelled_has_no_other_version latest_version bytes files (spells_live bytes files (live files refl) is) (other refl))
not_refused bytes NotWellFormed (Some files) live is some malformed other ill =
    let wrong = ill refl in
    let own = live files refl in
    absurd (wrong.ill_formed (subst IsWellFormed (sym (one_file_system latest_version latest_version bytes wrong.files files wrong.spells (spells_live bytes files own is)).0) own.formed))
not_refused bytes Memory (Some files) live is some malformed other ill = refl

-- what is made of bytes that are some
pub restored_as : (bytes : List ℕ) (result : Result (Option FileSystem) RestoreError) → IfOk result (IsRestored latest_version bytes) → (IsErrOf result Malformed ↔ IsMalformed latest_version bytes)
    → (IsErrOf result WrongVersion ↔ HasOtherVersion latest_version bytes) → (IsErrOf result NotWellFormed → SpellsIllFormed latest_version bytes) → (bytes ≡ [] → ⊥)
    → (files : Option FileSystem) → ForSome files IsLive → bytes ≡ files_text files → AreFilesReadAs files result
restored_as bytes (Ok found) ok malformed other ill some files live is = files_same bytes found files ok live is
restored_as bytes (Err e) ok malformed other ill some files live is =
    not_refused bytes e files live is some (λ told. malformed.0 (ap Err told)) (λ told. other.0 (ap Err told)) (λ told. ill (ap Err told))

pub text_restored : (bytes : List ℕ) (result : Result (Option FileSystem) RestoreError) → IfOk result (IsRestored latest_version bytes) → IfOk result (λ files. bytes ≡ files_text files)
text_restored bytes (Ok found) ok = files_read bytes found ok
text_restored bytes (Err e) ok = tt

-- where there are no bytes, the file system has failed
pub none_there : (bytes : List ℕ) (files : Option FileSystem) → bytes ≡ [] → bytes ≡ files_text files → None ≡ files
none_there bytes None is e = refl
none_there bytes (Some files) is e = absurd (some_text files (sym is ∙ e))

-- The state ----------------------------------------------------------------------------------------------------------

pub state_read : (bytes rest : List ℕ) (files : Option FileSystem) (table : Table) → AreBytes bytes → table_from bytes ≡ Some (table, rest) → rest ≡ files_text files → bytes ≡ state_text files table
state_read bytes rest files table fits found is = (tables_written bytes table rest fits found).0 ∙ ap (λ behind. table_text table ++ behind) is

pub record Parts (rest : List ℕ) (found table : Table) (files : Option FileSystem) : Type 0 where
  pub table_is : found ≡ table
  pub rest_is : rest ≡ files_text files

pub parts : (bytes rest : List ℕ) (found table : Table) (files : Option FileSystem) → table_from bytes ≡ Some (found, rest) → IsKept table → bytes ≡ state_text files table → Parts rest found table files
parts bytes rest found table files is kept e =
    let same = some_is {A = Table × List ℕ} (found, rest) (table, files_text files) (sym is ∙ ap table_from e ∙ tables_again table (files_text files) kept) in
    record { table_is = ap (λ (p : Table × List ℕ). p.0) same; rest_is = ap (λ (p : Table × List ℕ). p.1) same }

pub some_table : (bytes : List ℕ) (table : Table) (files : Option FileSystem) → table_from bytes ≡ None → IsKept table → bytes ≡ state_text files table → ⊥
some_table bytes table files none kept e =
    let found = sym none ∙ ap table_from e ∙ tables_again table (files_text files) kept in
    absurd cc

-- Snapshots ----------------------------------------------------------------------------------------------------------

pub snapshot_text_is : (bytes : List ℕ) (files : Option FileSystem) (table : Table) (snapshot : Snapshot) → bytes ≡ state_text files table → option_map (λ live. snapshot_of live table) files ≡ Some snapshot → snapshot.text ≡ bytes
unfolding node_text
snapshot_text_is bytes None table snapshot e is = absurd cc
snapshot_text_is bytes (Some live) table snapshot e is = ap (λ (s : Snapshot). s.text) (sym (same_Some _ _ is)) ∙ sym e

-- the state of one that was taken
pub record IsOf (snapshot : Snapshot) (files : Option FileSystem) (table : Table) : Type 0 where
  pub live : ForSome files IsLive
  pub kept : IsKept table
  pub text : snapshot.text ≡ state_text files table
  pub is : option_map (λ live. snapshot_of live table) files ≡ Some snapshot

pub taken_of : (snapshot : Snapshot) (taken : IsTaken snapshot) → IsOf snapshot (Some taken.files) taken.table
unfolding node_text
taken_of snapshot taken = record {
  live = λ files e. subst IsLive (same_Some _ _ e) taken.live;
  kept = taken.kept;
  text = ap (λ (s : Snapshot). s.text) taken.is;
  is = ap Some (sym taken.is);
}

-- the same state has the same snapshot
pub same_state : (snapshot read : Snapshot) (files found : Option FileSystem) (table other : Table) → IsOf snapshot files table → found ≡ files → other ≡ table
    → option_map (λ live. snapshot_of live other) found ≡ Some read → read ≡ snapshot
same_state snapshot read files found table other of e d is =
    same_Some _ _ (sym is ∙ ap₂ (λ (f : Option FileSystem) (t : Table). option_map (λ live. snapshot_of live t) f) e d ∙ of.is)

-- No bytes -----------------------------------------------------------------------------------------------------------

pub are_none : (bytes : List ℕ) (none : Bool) → none ≡ (length bytes == 0) → none ≡ true → bytes ≡ []
are_none bytes none is told = nil_from_length bytes (eqb-true (length bytes) 0 (sym is ∙ told))

pub are_some : (bytes : List ℕ) (none : Bool) → none ≡ (length bytes == 0) → none ≡ false → bytes ≡ [] → ⊥
are_some [] none is told e = absurd cc
are_some (b ∷ bytes) none is told e = absurd cc
