-- The inode that a call adds is that of its ordinal, and the others that stay are of the types that they were of.
use Rattle.std.proofs.Common.{◌≡◌, ℕ, Bool, true, false, ◌⊎◌, inl, inr, List, [], ◌∷◌, Option, Some, None, Ok, is_some, IsTrue, nat_lt, unwrap_or, refl, subst}
use Rattle.std.specs.FinMap.{get, insert}
use Rattle.bfs_model.specs.Server.Limits.{most_file_bytes}
use Rattle.bfs_model.specs.Server.Tree.{Inode, Inodes}
use Rattle.bfs_model.specs.Server.Context.{Context}
use Rattle.bfs_model.specs.Server.Access.{owner_refusals}
use Rattle.bfs_model.specs.Bytes.Attributes.{type_of}
use Rattle.bfs_model.specs.Bytes.Arguments.{Call, set_attributes, write, create, remove, rename, make_link, make_symbolic_link, make_directory, remove_directory}
use Rattle.bfs_model.specs.Bytes.Replies.{fbig, nospc}
use Rattle.bfs_model.specs.Server.Changes.{without_entry, with_parent, with_link, with_link_less, with_ctime}
use Rattle.bfs_model.specs.Server.Refusals.{FoundDirectory, has_most_links, directory_found}
use Rattle.bfs_model.specs.Server.Procedures.{procedure}
use Rattle.bfs_model.specs.Server.Procedures.Making.{with_name, entry_made}
use Rattle.bfs_model.specs.Server.Procedures.Renaming.{Renaming, Replaced, moves_directory, name_lost, name_cleared, moved_below, renamed, renaming_of}
use Rattle.bfs_model.specs.Server.Footprints.{IsFresh}
use Rattle.bfs_model.specs.Laws.Procedures.{NoOtherInodeIsAdded, TypesStay}
use Rattle.bfs_model.proofs.Found.{inode_at, directory_at, file_at}
use Rattle.bfs_model.proofs.Attempts.{IfChanged, kept}
use Rattle.bfs_model.proofs.Fresh.{made_is_none}
use Rattle.bfs_model.proofs.Follows.{IsFollowed, Follows, follows_itself, follows_then, insert_follows, remove_follows, made_follows, changed_follows, link_lost_follows, type_with_settings, type_with_bytes, type_with_entry, type_without_entry, type_with_parent}

-- What RENAME does -----------------------------------------------------------------------------------------------------------

lost_follows : (m : Inodes) (c : Context) (to replaced : ℕ) (is_directory : Bool) → Follows m (name_lost m c to replaced is_directory)
lost_follows m c to replaced true = follows_then m _ _ (remove_follows m replaced) (changed_follows _ to (with_link_less c.time) (λ inode. refl))
lost_follows m c to replaced false = link_lost_follows m c.time replaced

cleared_follows : (m : Inodes) (c : Context) (to : ℕ) (to_name : List ℕ) (replaced : Option Replaced) → Follows m (name_cleared m c to to_name replaced)
cleared_follows m c to to_name None = follows_itself m
cleared_follows m c to to_name (Some replaced) =
    follows_then m _ _ (changed_follows m to (without_entry c.time to_name) (type_without_entry c.time to_name)) (lost_follows _ c to replaced.id replaced.is_directory)

below_follows : (m : Inodes) (c : Context) (from to moved : ℕ) (moves : Bool) → Follows m (moved_below m c from to moved moves)
below_follows m c from to moved false = follows_itself m
below_follows m c from to moved true =
    follows_then m _ _ (changed_follows m moved (with_parent to) (type_with_parent to))
    (follows_then _ _ _ (changed_follows _ to (with_link c.time) (λ inode. refl)) (changed_follows _ from (with_link_less c.time) (λ inode. refl)))

renamed_follows : (m : Inodes) (c : Context) (from_name to_name : List ℕ) (r : Renaming) → Follows m (renamed m c from_name to_name r)
renamed_follows m c from_name to_name r =
    follows_then m _ _ (changed_follows m r.from (without_entry c.time from_name) (type_without_entry c.time from_name))
    (follows_then _ _ _ (cleared_follows _ c r.to to_name r.replaced)
    (follows_then _ _ _ (below_follows _ c r.from r.to r.moved (moves_directory r))
    (follows_then _ _ _ (changed_follows _ r.to (with_name c to_name r.moved) (type_with_entry c.time (entry_made c to_name r.moved)))
    (changed_follows _ r.moved (with_ctime c.time) (λ inode. refl)))))

-- Every call -----------------------------------------------------------------------------------------------------------------

module _ (m : Inodes) (c : Context) where
  -- each inode follows one before, or is that of the ordinal, where none was if it is fresh
  abbrev Adds : (Fresh : Type 0) → Inodes → Type 0
  Adds Fresh n = (id : ℕ) → ((id ≡ c.ordinal) × (Fresh → get m c.ordinal ≡ None)) ⊎ IsFollowed (get m id) (get n id)

  adds_none : (Fresh : Type 0) (n : Inodes) → Follows m n → Adds Fresh n
  adds_none Fresh n follows id = inr (follows id)

  -- a directory is changed, and an inode made
  makes : (Fresh : Type 0) (handle : Option ℕ) (dir : FoundDirectory) (after new : Inode) → directory_found m handle ≡ Ok dir → type_of after.body ≡ type_of dir.inode.body
      → (Fresh → get m c.ordinal ≡ None) → Adds Fresh (insert (insert m dir.id after) c.ordinal new)
  makes Fresh handle dir after new found same none id =
      elim (made_follows m (insert m dir.id after) c.ordinal new (insert_follows m dir.id dir.inode after (directory_at m handle dir found).there same) id) [
        | inl is ↦ inl (is, none)
        | inr follows ↦ inr follows
      ]

  call_adds : (call : Call) → IfChanged m c (Adds (IsFresh m c call)) call
  call_adds (set_attributes handle settings) = λ x allowed found passed. adds_none _ _ (insert_follows m x.id x.inode _ (inode_at m handle x found).there (type_with_settings c.time settings x.inode))
  call_adds (write handle offset written) = λ x small found passed. adds_none _ _ (insert_follows m x.id x.inode _ (file_at m handle x found).there (type_with_bytes c.time offset written x.inode))
  call_adds (create handle name settings) = λ dir allowed found passed.
      makes _ handle dir _ _ found (type_with_entry c.time (entry_made c name c.ordinal) dir.inode) (λ fresh. made_is_none m c handle dir name (owner_refusals c.caller settings) ((nat_lt most_file_bytes (unwrap_or settings.size 0), fbig) ∷ []) allowed fresh passed)
  call_adds (remove handle name) = λ dir entry child plain at passed.
      adds_none _ _ (follows_then m _ _ (insert_follows m dir.id dir.inode _ at.in_it.there (type_without_entry c.time name dir.inode)) (link_lost_follows _ c.time child.id))
  call_adds (rename from from_name to to_name) = λ a b entry moved at replaced allowed onto passed. adds_none _ _ (renamed_follows m c from_name to_name (renaming_of a b moved replaced))
  call_adds (make_link handle in_directory name) = λ x plain dir allowed found no_directory dir_is passed.
      adds_none _ _ (follows_then m _ _ (insert_follows m dir.id dir.inode _ (directory_at m in_directory dir dir_is).there (type_with_entry c.time (entry_made c name x.id) dir.inode)) (changed_follows _ x.id (with_link c.time) (λ inode. refl)))
  call_adds (make_symbolic_link handle name target settings) = λ dir allowed found passed.
      makes _ handle dir _ _ found (type_with_entry c.time (entry_made c name c.ordinal) dir.inode) (λ fresh. made_is_none m c handle dir name (owner_refusals c.caller settings) [] allowed fresh passed)
  call_adds (make_directory handle name settings) = λ dir allowed found passed.
      makes _ handle dir _ _ found (type_with_entry c.time (entry_made c name c.ordinal) dir.inode) (λ fresh. made_is_none m c handle dir name (owner_refusals c.caller settings) ((has_most_links dir.inode.links, nospc) ∷ []) allowed fresh passed)
  call_adds (remove_directory handle name) = λ dir entry child empty at passed.
      adds_none _ _ (follows_then m _ _ (insert_follows m dir.id dir.inode _ at.in_it.there (type_without_entry c.time name dir.inode))
      (follows_then _ _ _ (remove_follows _ child.id) (changed_follows _ dir.id (with_link_less c.time) (λ inode. refl))))
  call_adds call = tt

  procedure_adds : (call : Call) → Adds (IsFresh m c call) (procedure m c call).0
  procedure_adds call = kept m c (Adds (IsFresh m c call)) (adds_none _ m (follows_itself m)) call (call_adds call)

-- The laws -------------------------------------------------------------------------------------------------------------------

none_added : (before after : Option Inode) → before ≡ None → IsTrue (is_some after) → IsFollowed before after → ⊥
none_added before None none there follows = absurd cc
none_added None (Some inode) none there follows = follows
none_added (Some old) (Some inode) none there follows = absurd cc

pub none_other_added : NoOtherInodeIsAdded
none_other_added m c call id none there = elim (procedure_adds m c call id) [ inl made ↦ made.0 | inr follows ↦ absurd (none_added _ _ none there follows) ]

none_there : (m : Inodes) (o id : ℕ) (old : Inode) → get m o ≡ None → id ≡ o → get m id ≡ Some old → ⊥
none_there m o id old none is there = cc

pub types_kept : TypesStay
types_kept m c call fresh id old new was is =
    elim (procedure_adds m c call id) [
      | inl made ↦ absurd (none_there m c.ordinal id old (made.1 fresh) made.0 was)
      | inr follows ↦ subst (λ (p : Option Inode × Option Inode). IsFollowed p.0 p.1) (λ i. (was i, is i)) follows
    ]
