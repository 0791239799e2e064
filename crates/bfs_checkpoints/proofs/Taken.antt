-- Snapshots that are taken, and those that are adopted.
use Rattle.std.proofs.Common.{◌≡◌, ℕ, not, List, [], ◌++◌, Option, Some, None, Result, Ok, Err, true, false, Bool, refl, sym, ap, ◌∙◌}
use Rattle.std.specs.Prelude.{bytes_eq}
use Rattle.std.specs.Result.{IsErrAnd, IsErrOf}
use Rattle.std.proofs.lemmas.Bool.{both_ways, not-true}
use Rattle.std.proofs.lemmas.Slice.Eq.{bytes_eq-Decides}
use Rattle.std.specs.Option.{ForSome, option_map}
use Rattle.std.proofs.lemmas.Option.{same_Some}
use Rattle.bfs_model.specs.Server.Stored.{IsLive}
use Rattle.bfs_model.specs.Server.Tree.{FileSystem}
use Rattle.bfs_digest.specs.declared.errors.RestoreError.{RestoreError}
use Rattle.bfs_digest.specs.declared.errors.RestoreError.TheVariants as restore
use Rattle.sha2.specs.Sha256.{sha256}
use Rattle.bfs_digest.specs.Frozen.{FrozenFiles, frozen_files}
use Rattle.bfs_replies.specs.Tables.{Table, IsKept}
use Rattle.bfs_replies.specs.Texts.{table_text}
use Rattle.bfs_checkpoints.specs.Adoption.{HasDigest, HasOtherDigest, refusal_of}
use Rattle.bfs_checkpoints.specs.Outcomes.{IsRead}
use Rattle.bfs_checkpoints.specs.Snapshots.{IsSnapshot, IsTaken, Snapshot, snapshot_of}
use Rattle.bfs_checkpoints.specs.Texts.{node_digest, node_text}
use Rattle.bfs_checkpoints.specs.declared.adoption.AdoptError.{AdoptError}
use Rattle.bfs_checkpoints.specs.declared.adoption.AdoptError.TheVariants as error

same_snapshot : (text other digest told : List ℕ) → text ≡ other → digest ≡ told → ◌≡◌ {A = Snapshot} (record { text = text; digest = digest }) (record { text = other; digest = told })
same_snapshot text other digest told e h = rw (e, h)

pub taken : (files : Option FileSystem) (table : Table) (frozen : FrozenFiles) (digest : List ℕ) → option_map frozen_files files ≡ Some frozen → digest ≡ sha256 (frozen.digest ++ table_text table)
    → option_map (λ live. snapshot_of live table) files ≡ Some (record { text = table_text table ++ frozen.text; digest = digest })
unfolding node_digest node_text
taken None table frozen digest is hashed = absurd cc
taken (Some live) table frozen digest is hashed =
    let same = same_Some (frozen_files live) frozen is in
    ap Some (same_snapshot (node_text live table) (table_text table ++ frozen.text) (node_digest live table) digest (ap (λ (f : FrozenFiles). table_text table ++ f.text) same) (ap (λ (f : FrozenFiles). sha256 (f.digest ++ table_text table)) same ∙ sym hashed))

pub is_taken : (files : Option FileSystem) (table : Table) (snapshot : Snapshot) → ForSome files IsLive → IsKept table → option_map (λ live. snapshot_of live table) files ≡ Some snapshot → IsTaken snapshot
is_taken None table snapshot live kept is = absurd cc
is_taken (Some files) table snapshot live kept is = record { files = files; table = table; live = live files refl; kept = kept; is = sym (same_Some _ _ is) }

-- its text and its digest are of one state
pub of_one_state : (snapshot : Snapshot) → IsTaken snapshot → IsSnapshot snapshot
of_one_state snapshot taken = record { files = taken.files; table = taken.table; is = taken.is }

-- its digest is that of the state
pub has_digest : (files : Option FileSystem) (table : Table) (snapshot : Snapshot) → option_map (λ live. snapshot_of live table) files ≡ Some snapshot → HasDigest files table snapshot.digest
has_digest None table snapshot is = absurd cc
has_digest (Some live) table snapshot is = ap (λ (s : Snapshot). Some s.digest) (same_Some _ _ is)

-- what `!=` of two digests tells
pub differ : (ne : Bool) (found digest : List ℕ) → ne ≡ not (bytes_eq found digest) → ne ≡ true → found ≡ digest → ⊥
differ ne found digest is told e = both_ways (bytes_eq found digest) (not-true (bytes_eq found digest) (sym is ∙ told)) ((bytes_eq-Decides found digest).1 e)

pub other_digest : (clients : ℕ) (bytes found digest : List ℕ) (files : Option FileSystem) (table : Table) → IsRead clients bytes files table → HasDigest files table found → (found ≡ digest → ⊥) → HasOtherDigest clients bytes digest
other_digest clients bytes found digest None table read hashed differ = absurd read
other_digest clients bytes found digest (Some live) table read hashed differ = record {
  files = live;
  table = table;
  spells = read.0;
  live = read.1;
  other = λ e. differ (sym (same_Some _ _ hashed) ∙ e);
}

is_ill_formed : (refused : RestoreError) → refusal_of refused ≡ error.NotWellFormed → refused ≡ restore.NotWellFormed
is_ill_formed restore.Malformed e = absurd cc
is_ill_formed restore.WrongVersion e = absurd cc
is_ill_formed restore.NotWellFormed e = refl
is_ill_formed restore.Memory e = absurd cc

-- only a file system that is not well formed is refused as such
pub refused_ill_formed : {A : Type 0} (result : Result A AdoptError) (refused : RestoreError) → IsErrAnd result (λ told. told ≡ refusal_of refused) → IsErrOf result error.NotWellFormed → refused ≡ restore.NotWellFormed
refused_ill_formed (Ok x) refused told is = absurd cc
refused_ill_formed (Err e) refused told is = let same : e ≡ error.NotWellFormed = cc in is_ill_formed refused (sym told ∙ same)
