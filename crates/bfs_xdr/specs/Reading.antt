-- How a read of the code answers to a reading of the model.
use Rattle.std.specs.Prelude.{◌≡◌, List, ℕ, Result, Ok, Err}
use Rattle.bfs_model.specs.Bytes.Items.{Fault, Input}
use Rattle.bfs_xdr.specs.declared.error.XdrError.{XdrError}
use Rattle.bfs_xdr.specs.Faults.{fault_of}

-- the code gave what the model does, seen as the model's by two views
abbrev pub Gives : {X Y E F : Type 0} → (X → Y) → (E → F) → Result X E → Result Y F → Type 0
Gives view fault (Ok x) read = read ≡ Ok (view x)
Gives view fault (Err e) read = read ≡ Err (fault e)

-- a reader gave what the model reads from its place and stands behind it, or gave the model's fault and stands where it
-- stood
abbrev pub Reads : {X Y : Type 0} → (X → Y) → (old new : Input) → Result X XdrError → Result (Y × List ℕ) Fault → Type 0
Reads view old new (Ok x) read = (read ≡ Ok (view x, new.left)) × (new.strict ≡ old.strict)
Reads view old new (Err e) read = (read ≡ Err (fault_of e)) × (new ≡ old)
