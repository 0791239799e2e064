-- The snapshots that a replica keeps (OSDI 1999 section 4.3).
use Rattle.std.specs.Prelude.{◌≡◌, ℕ, ◌==◌, Bool, ◌&&◌, List, [], ◌∷◌, ◌++◌, filter, find, Option, Some, None, nat_lt, nat_le, bytes_eq, if◌then◌else◌}
use Rattle.std.specs.List.{list_any}
use Rattle.std.specs.Option.{option_map}
use Rattle.bfs_model.specs.Server.Tree.{FileSystem}
use Rattle.bfs_log.specs.Certificates.{MakesStable, StableCheckpoint}
use Rattle.bfs_replies.specs.Tables.{Table}
use Rattle.bfs_checkpoints.specs.Snapshots.{Snapshot}
use Rattle.bfs_checkpoints.specs.Texts.{node_digest, node_text}

-- a snapshot, and the number of its checkpoint
pub record Kept : Type 0 where
  pub number : ℕ
  pub snapshot : Snapshot

-- in the order in which they came, with what makes one of them stable: none as long as none is
pub record Keeping : Type 0 where
  pub f : ℕ
  pub kept : List Kept
  pub stable : Option StableCheckpoint

abbrev pub nothing_kept : (f : ℕ) → Keeping
nothing_kept f = record { f = f; kept = []; stable = None }

abbrev pub with_snapshot : Keeping → (number : ℕ) → Snapshot → Keeping
with_snapshot keeping number snapshot = record keeping { kept = keeping.kept ++ record { number = number; snapshot = snapshot } ∷ [] }

abbrev pub is_of : (number : ℕ) → (digest : List ℕ) → Kept → Bool
is_of number digest kept = (kept.number == number) && bytes_eq kept.snapshot.digest digest

-- the first one of a number, stable or not
abbrev pub snapshot_at : (number : ℕ) → Keeping → Option Snapshot
snapshot_at number keeping = option_map (λ kept. kept.snapshot) (find (λ kept. kept.number == number) keeping.kept)

-- 0 where none is
abbrev pub stable_number : Option StableCheckpoint → ℕ
stable_number None = 0
stable_number (Some c) = c.number

-- of a snapshot that is kept, and above the stable one
abbrev pub settles : StableCheckpoint → Keeping → Bool
settles c keeping = nat_lt (stable_number keeping.stable) c.number && list_any (is_of c.number c.digest) keeping.kept

-- once a checkpoint is stable of which a snapshot is kept, what is below it is dropped (OSDI 1999 section 4.3)
abbrev pub settled : StableCheckpoint → Keeping → Keeping
settled c keeping =
    if settles c keeping then record keeping { kept = filter (λ kept. nat_le c.number kept.number) keeping.kept; stable = Some c } else keeping

-- the text of the snapshot, and what makes it stable
abbrev pub stable_of : List Kept → Option StableCheckpoint → Option (List ℕ × StableCheckpoint)
stable_of kept None = None
stable_of kept (Some c) = option_map {U = List ℕ × StableCheckpoint} (λ one. (one.snapshot.text, c)) (find (is_of c.number c.digest) kept)

abbrev pub stable : Keeping → Option (List ℕ × StableCheckpoint)
stable keeping = stable_of keeping.kept keeping.stable

-- the text of a replica's state, of whose digest there are 2f + 1 CHECKPOINTs
pub record IsStable (f : ℕ) (text : List ℕ) (c : StableCheckpoint) : Type 0 where
  pub files : FileSystem
  pub table : Table
  pub text_is : text ≡ node_text files table
  pub digest_is : c.digest ≡ node_digest files table
  pub certified : MakesStable f c

abbrev pub MayBeKept : (f : ℕ) → Option StableCheckpoint → Type 0
MayBeKept f None = Unit {0}
MayBeKept f (Some c) = MakesStable f c
