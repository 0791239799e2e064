-- Tests in front of others, and what is refused before what comes next is looked at.
use Rattle.std.proofs.Common.{◌≡◌, ℕ, Bool, true, false, not, List, [], ◌∷◌, ◌++◌, if◌then◌else◌, Option, Some, Result, Ok, Err, refl, ap}
use Rattle.std.specs.Bool.{⊤}
use Rattle.std.specs.Option.{ok_or}
use Rattle.std.specs.FinMap.{get}
use Rattle.bfs_model.specs.Bytes.Items.{◌>>=◌}
use Rattle.bfs_model.specs.Bytes.Arguments.{Settings}
use Rattle.bfs_model.specs.Bytes.Replies.{Status, perm, noent, acces}
use Rattle.bfs_model.specs.Server.Access.{may_change_entries}
use Rattle.bfs_model.specs.Server.Context.{Context}
use Rattle.bfs_model.specs.Server.Directories.{is_bad_name, entry_named}
use Rattle.bfs_model.specs.Server.Procedures.Attributes.{set_refusals, attributes_set}
use Rattle.bfs_model.specs.Server.Procedures.Removing.{child_found, file_removed, directory_removed}
use Rattle.bfs_model.specs.Server.Refusals.{FoundDirectory, checked, inode_found}
use Rattle.bfs_model.specs.Server.Tree.{Listing, Inode, Inodes, listing_in}
use Rattle.bfs_procs.specs.Answers.{name_leads}

go_on : (fails : Bool) (status : Status) (rest : Result ⊤ Status) → (if fails then Err status else rest) ≡ Ok tt → (fails ≡ false) × (rest ≡ Ok tt)
go_on true status rest is = absurd cc
go_on false status rest is = (refl, is)

-- tests that are passed leave those behind them
pub passed_first : (tests more : List (Bool × Status)) → checked tests ≡ Ok tt → checked (tests ++ more) ≡ checked more
passed_first [] more is = refl
passed_first (test ∷ tests) more is =
    let passed = go_on test.0 test.1 (checked tests) is in
    rw passed.0 (passed_first tests more passed.1)

refused_by : (fails : Bool) (first status : Status) (rest longer : Result ⊤ Status) → (rest ≡ Err status → longer ≡ Err status) → (if fails then Err first else rest) ≡ Err status → (if fails then Err first else longer) ≡ Err status
refused_by true first status rest longer on is = is
refused_by false first status rest longer on is = on is

-- .. and a refusal stands whatever comes behind
pub refused_first : (tests more : List (Bool × Status)) (status : Status) → checked tests ≡ Err status → checked (tests ++ more) ≡ Err status
refused_first [] more status is = absurd cc
refused_first (test ∷ tests) more status is = refused_by test.0 test.1 status (checked tests) (checked (tests ++ more)) (refused_first tests more status) is

-- what is refused before a value is used is refused whatever comes of the value
pub refused_anyway : {X Y Z : Type 0} (tests : Result ⊤ Status) (found : Result X Status) (made : X → Y) (next : X → Result Z Status) (status : Status)
    → (tests >>= λ _. found >>= λ x. Ok (made x)) ≡ Err status → (tests >>= λ _. found >>= next) ≡ Err status
refused_anyway (Err other) found made next status is = let same : other ≡ status = cc in ap Err same
refused_anyway (Ok passed) (Err other) made next status is = let same : other ≡ status = cc in ap Err same
refused_anyway (Ok passed) (Ok x) made next status is = absurd cc

-- What is refused ------------------------------------------------------------------------------------------------------

pub not_set : (m : Inodes) (c : Context) (handle : Option ℕ) (settings : Settings) (id : ℕ) (inode : Inode) (status : Status) → handle ≡ Some id → get m id ≡ Some inode → checked (set_refusals c inode settings) ≡ Err status
    → attributes_set m c handle settings ≡ Err status
not_set m c handle settings id inode status led there refused = rw (led, there, refused) refl

module _ (m : Inodes) (c : Context) (handle : Option ℕ) (name : List ℕ) (id : ℕ) (inode : Inode) (listing : Listing) (status : Status)
    (led : handle ≡ Some id) (there : get m id ≡ Some inode) (holds : listing_in inode.body ≡ Some listing) where
  abbrev dir : FoundDirectory
  dir = record { id = id; inode = inode; listing = listing }

  no_child : name_leads c dir name ≡ Err status → child_found m c handle name ≡ Err status
  no_child refused =
      rw (led, there, holds) (refused_anyway (checked ((not (may_change_entries c.caller inode), acces) ∷ (is_bad_name name, perm) ∷ []))
      (ok_or (entry_named name listing.entries) noent) (λ entry. entry.child) (λ entry. inode_found m (Some entry.child) >>= λ child. Ok (dir, child)) status refused)

  pub not_removed : name_leads c dir name ≡ Err status → file_removed m c handle name ≡ Err status
  not_removed refused = rw (no_child refused) refl

  pub directory_not_removed : name_leads c dir name ≡ Err status → directory_removed m c handle name ≡ Err status
  directory_not_removed refused = rw (no_child refused) refl
