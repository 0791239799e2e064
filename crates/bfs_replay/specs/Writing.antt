-- What a run writes to, and what is written there.
use Rattle.std.specs.Prelude.{◌≡◌, ℕ, Bool, true, List, ◌++◌, Option, Result, Ok, Err}
use Rattle.std.specs.Io.KnownBytes.{Appends}
use Rattle.bfs_replay.specs.declared.run.ReplayError.{ReplayError}
use Rattle.bfs_replay.specs.declared.run.ReplayError.TheVariants.{WriteFault, Memory}

-- the bytes that a writer holds, where they are known, and whether it has refused some
pub record Written : Type 0 where
  pub contents : Option (List ℕ)
  pub refused : Bool

-- none is refused
abbrev pub Writes : (old new : Written) → (bytes : List ℕ) → Type 0
Writes old new bytes = Appends old.contents new.contents bytes × (new.refused ≡ old.refused)

abbrev pub IsBeginning : (written bytes : List ℕ) → Type 0
IsBeginning written bytes = (rest : List ℕ) × (bytes ≡ written ++ rest)

-- a fault only where the writer has refused bytes, and want of memory only where it has refused none meanwhile
abbrev pub IsTold : ReplayError → (old new : Written) → Type 0
IsTold WriteFault old new = new.refused ≡ true
IsTold Memory old new = new.refused ≡ old.refused

-- what was written until an error is a part that may be
abbrev pub Stops : ReplayError → (old new : Written) → (Part : List ℕ → Type 0) → Type 0
Stops error old new Part = (written : List ℕ) × Part written × Appends old.contents new.contents written × IsTold error old new

-- all bytes are written, or, at an error, a beginning of them
abbrev pub Prints : Result Unit ReplayError → (old new : Written) → (bytes : List ℕ) → Type 0
Prints (Ok done) old new bytes = Writes old new bytes
Prints (Err error) old new bytes = Stops error old new (λ written. IsBeginning written bytes)
