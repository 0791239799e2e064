-- Where the ordinal of a call that makes an inode is fresh, no inode has it.
use Rattle.std.proofs.Common.{◌≡◌, ℕ, Bool, false, inl, inr, List, [], ◌++◌, Option, Some, None, Ok, refl}
use Rattle.std.specs.Bool.{⊤}
use Rattle.std.specs.FinMap.{get}
use Rattle.bfs_model.specs.Server.Tree.{Inodes}
use Rattle.bfs_model.specs.Server.Context.{Context}
use Rattle.bfs_model.specs.Bytes.Replies.{Status}
use Rattle.bfs_model.specs.Server.Refusals.{FoundDirectory, checked, is_spent}
use Rattle.bfs_model.specs.Server.Procedures.Making.{new_name_refusals}
use Rattle.bfs_model.specs.Server.Footprints.{known, ids_in, new_ids, IsFreshFor}
use Rattle.bfs_model.proofs.WellFormed.NewNames.{new_name}

-- what is fresh where a call writes a directory and a new inode
pub new_is_none : (m : Inodes) (ordinal : ℕ) (handle : Option ℕ) → is_spent ordinal ≡ false → IsFreshFor m ordinal (known [] (ids_in handle ++ new_ids ordinal)) → get m ordinal ≡ None
new_is_none m ordinal handle left (inl spent) = absurd cc
new_is_none m ordinal None left (inr new) = (rw left at new).0.0 refl
new_is_none m ordinal (Some dir) left (inr new) = (rw left at new).1.0.0 refl

pub made_is_none : (m : Inodes) (c : Context) (handle : Option ℕ) (dir : FoundDirectory) (name : List ℕ) (of_owners more : List (Bool × Status)) (allowed : ⊤)
    → IsFreshFor m c.ordinal (known [] (ids_in handle ++ new_ids c.ordinal)) → checked (new_name_refusals c dir name of_owners ++ more) ≡ Ok allowed → get m c.ordinal ≡ None
made_is_none m c handle dir name of_owners more allowed fresh passed = new_is_none m c.ordinal handle (new_name c dir name of_owners more allowed passed).left fresh
