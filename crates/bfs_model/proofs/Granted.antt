-- What a footprint says of a caller, where a directory is found.
use Rattle.std.proofs.Common.{◌≡◌, ℕ, Bool, true, false, ◌&&◌, Option, Some, option_and_then, refl, ap, ◌∙◌}
use Rattle.std.proofs.lemmas.Bool.{both_ways}
use Rattle.std.specs.FinMap.{get}
use Rattle.bfs_model.specs.Server.Tree.{Inode, Inodes, is_directory}
use Rattle.bfs_model.specs.Bytes.Call.{Credential}
use Rattle.bfs_model.specs.Server.Access.{may_change_entries}
use Rattle.bfs_model.specs.Server.Refusals.{FoundDirectory}
use Rattle.bfs_model.specs.Server.Footprints.{lets, lets_rename}
use Rattle.bfs_model.proofs.Found.{IsDirectoryAt}

module _ (m : Inodes) (caller : Credential) where
  pub lets_is : (may : Credential → Inode → Bool) (handle : Option ℕ) (dir : FoundDirectory) → IsDirectoryAt m handle dir → lets may caller (option_and_then (get m) handle) ≡ may caller dir.inode
  lets_is may handle dir at = rw (at.led, at.there, at.holds) refl

  -- who may not do it is not let
  pub kept_out : (may : Credential → Inode → Bool) (handle : Option ℕ) (dir : FoundDirectory) → lets may caller (option_and_then (get m) handle) ≡ false → IsDirectoryAt m handle dir → may caller dir.inode ≡ true → ⊥
  kept_out may handle dir closed at passed = both_ways (lets may caller (option_and_then (get m) handle)) closed (lets_is may handle dir at ∙ passed)

  directory_there : (handle : Option ℕ) (dir : FoundDirectory) → IsDirectoryAt m handle dir → is_directory (option_and_then (get m) handle) ≡ true
  directory_there handle dir at = rw (at.led, at.there, at.holds) refl

  pub lets_both : (from to : Option ℕ) (a b : FoundDirectory) → IsDirectoryAt m from a → IsDirectoryAt m to b → may_change_entries caller a.inode ≡ true → may_change_entries caller b.inode ≡ true → lets_rename m caller from to ≡ true
  lets_both from to a b from_at to_at from_may to_may =
      rw (directory_there from a from_at, directory_there to b to_at, lets_is may_change_entries from a from_at ∙ from_may, lets_is may_change_entries to b to_at ∙ to_may) refl
