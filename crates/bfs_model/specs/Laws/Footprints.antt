-- What footprints tell of calls, on every finite map of inodes, well formed or not.
use Rattle.std.specs.Prelude.{◌≡◌, ℕ, IsTrue, IsFalse, List, None, is_some, option_and_then}
use Rattle.std.specs.FinMap.{get}
use Rattle.bfs_model.specs.Server.Tree.{Time, Inodes, is_directory}
use Rattle.bfs_model.specs.Server.Context.{Context}
use Rattle.bfs_model.specs.Bytes.Arguments.{Call}
use Rattle.bfs_model.specs.Server.Procedures.{procedure}
use Rattle.bfs_model.specs.Server.Serial.{answer}
use Rattle.bfs_model.specs.Server.Footprints.{footprint, footprint_of, IsFresh, IsFreshFor}
use Rattle.bfs_model.specs.Server.Conflicts.{moved_by, is_written, is_touched, among, conflict, resolved_in, resolved_of, AgreeOn, outcome_on}
use Rattle.bfs_model.specs.Server.WellFormed.{IsTree}

-- where other inodes are the same at what a call touches, the call does the same: it replies the same, leaves the same where it
-- writes, and leaves all else as it was there
abbrev pub CallsKeepToFootprints : Type 0
CallsKeepToFootprints = (inodes others : Inodes) (context : Context) (call : Call) → AgreeOn (footprint inodes context call) inodes others
    → procedure others context call ≡ outcome_on (footprint inodes context call) others (procedure inodes context call)

-- and it has the same footprint there
abbrev pub FootprintsAgree : Type 0
FootprintsAgree = (inodes others : Inodes) (context : Context) (call : Call) → AgreeOn (footprint inodes context call) inodes others → footprint others context call ≡ footprint inodes context call

-- the directories in which a call resolves names are among what it touches
abbrev pub ResolvedIsTouched : Type 0
ResolvedIsTouched = (inodes : Inodes) (context : Context) (call : Call) (id : ℕ) → IsTrue (among (resolved_in call) id) → IsTrue (is_touched (footprint inodes context call) id)

-- calls that do not conflict may change places
abbrev pub CallsCommute : Type 0
CallsCommute = (inodes : Inodes) (context : Context) (call : Call) (later : Context) (other : Call) → IsFalse (conflict (footprint inodes context call) (footprint inodes later other))
    → let first = procedure inodes context call in
    let second = procedure inodes later other in
    ((procedure first.0 later other).0 ≡ (procedure second.0 context call).0) × ((procedure first.0 later other).1 ≡ second.1) × ((procedure second.0 context call).1 ≡ first.1)

-- a call that writes no directory in which another call resolves names leaves it its footprint
abbrev pub FootprintsStay : Type 0
FootprintsStay = (inodes : Inodes) (context : Context) (call : Call) (later : Context) (other : Call) → IsTree inodes → IsFresh inodes context call
    → ((id : ℕ) → IsTrue (among (resolved_in other) id) → IsFalse (is_written (footprint inodes context call) id))
    → footprint (procedure inodes context call).0 later other ≡ footprint inodes later other

-- a fresh ordinal is fresh where other inodes are the same at what the call touches
abbrev pub FreshOrdinalsAgree : Type 0
FreshOrdinalsAgree = (inodes others : Inodes) (context : Context) (call : Call) → AgreeOn (footprint inodes context call) inodes others → IsFresh inodes context call → IsFresh others context call

-- an inode that a call adds is among what it writes
abbrev pub AddedIsWritten : Type 0
AddedIsWritten = (inodes : Inodes) (context : Context) (call : Call) (id : ℕ) → get inodes id ≡ None → IsTrue (is_some (get (procedure inodes context call).0 id)) → IsTrue (is_written (footprint inodes context call) id)

-- the footprint is the same where the directories in which the call resolves names are, and what RENAME moves is a directory or none
abbrev pub FootprintsFollow : Type 0
FootprintsFollow = (inodes others : Inodes) (context : Context) (call : Call)
    → ((id : ℕ) → IsTrue (among (resolved_in call) id) → get others id ≡ get inodes id)
    → is_directory (option_and_then (get others) (moved_by inodes call)) ≡ is_directory (option_and_then (get inodes) (moved_by inodes call))
    → footprint others context call ≡ footprint inodes context call

-- Of requests ------------------------------------------------------------------------------------------------------------

abbrev pub RequestsKeepToFootprints : Type 0
RequestsKeepToFootprints = (inodes others : Inodes) (ordinal : ℕ) (time : Time) (bytes : List ℕ)
    → AgreeOn (footprint_of inodes ordinal time bytes) inodes others → answer others ordinal time bytes ≡ outcome_on (footprint_of inodes ordinal time bytes) others (answer inodes ordinal time bytes)

abbrev pub RequestFootprintsAgree : Type 0
RequestFootprintsAgree = (inodes others : Inodes) (ordinal : ℕ) (time : Time) (bytes : List ℕ) → AgreeOn (footprint_of inodes ordinal time bytes) inodes others
    → footprint_of others ordinal time bytes ≡ footprint_of inodes ordinal time bytes

abbrev pub RequestFootprintsStay : Type 0
RequestFootprintsStay = (inodes : Inodes) (ordinal : ℕ) (time : Time) (bytes : List ℕ) (later : ℕ) (now : Time) (other : List ℕ)
    → IsTree inodes → IsFreshFor inodes ordinal (footprint_of inodes ordinal time bytes)
    → ((id : ℕ) → IsTrue (among (resolved_of other) id) → IsFalse (is_written (footprint_of inodes ordinal time bytes) id))
    → footprint_of (answer inodes ordinal time bytes).0 later now other ≡ footprint_of inodes later now other

-- and it leaves a tree of directories, files and symbolic links one
abbrev pub RequestsKeepTrees : Type 0
RequestsKeepTrees = (inodes : Inodes) (ordinal : ℕ) (time : Time) (bytes : List ℕ) → IsTree inodes → IsFreshFor inodes ordinal (footprint_of inodes ordinal time bytes) → IsTree (answer inodes ordinal time bytes).0

abbrev pub ResolvedIsTouchedByRequests : Type 0
ResolvedIsTouchedByRequests = (inodes : Inodes) (ordinal : ℕ) (time : Time) (bytes : List ℕ) (id : ℕ)
    → IsTrue (among (resolved_of bytes) id) → IsTrue (is_touched (footprint_of inodes ordinal time bytes) id)

abbrev pub RequestsCommute : Type 0
RequestsCommute = (inodes : Inodes) (time : Time) (ordinal : ℕ) (bytes : List ℕ) (later : ℕ) (other : List ℕ)
    → IsFalse (conflict (footprint_of inodes ordinal time bytes) (footprint_of inodes later time other))
    → let first = answer inodes ordinal time bytes in
    let second = answer inodes later time other in
    ((answer first.0 later time other).0 ≡ (answer second.0 ordinal time bytes).0) × ((answer first.0 later time other).1 ≡ second.1) × ((answer second.0 ordinal time bytes).1 ≡ first.1)
