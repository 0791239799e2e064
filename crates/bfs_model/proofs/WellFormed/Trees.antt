-- Every procedure keeps a tree.
use Rattle.std.proofs.Common.{◌≡◌, ℕ, ◌≤◌, Bool, not, IsTrue, IsFalse, List, [], ◌∷◌, Option, Some, None, inl, inr, nat_lt, unwrap_or, refl, sym, ap, ◌∙◌, arith}
use Rattle.std.specs.FinMap.{get, insert, remove as remove_at}
use Rattle.std.proofs.lemmas.Bool.{not-false}
use Rattle.bfs_model.specs.Server.Tree.{Time, Entry, Body, file, directory, link, Inode, Inodes, is_directory_body, entries_in, entries_at, parent_in}
use Rattle.bfs_model.specs.Server.Context.{Context}
use Rattle.bfs_model.specs.Server.Access.{owner_refusals}
use Rattle.bfs_model.specs.Server.Limits.{most_file_bytes}
use Rattle.bfs_model.specs.Bytes.Arguments.{Settings, Call, set_attributes, write, create, remove, rename, make_link, make_symbolic_link, make_directory, remove_directory}
use Rattle.bfs_model.specs.Bytes.Replies.{Status, isdir, notdir, notempty, fbig, nospc}
use Rattle.bfs_model.specs.Server.Directories.{entry_named}
use Rattle.bfs_model.specs.Server.Changes.{with_size, with_settings, with_bytes, resized_body, overwritten_body, without_entry, with_link_less, changed, link_lost}
use Rattle.bfs_model.specs.Server.Refusals.{FoundInode, FoundDirectory, has_most_links}
use Rattle.bfs_model.specs.Server.Procedures.Making.{entry_made, new_file, new_directory, new_symbolic_link}
use Rattle.bfs_model.specs.Server.Procedures.Removing.{has_entries}
use Rattle.bfs_model.specs.Server.Footprints.{IsFresh}
use Rattle.bfs_model.specs.Server.WellFormed.{times, named}
use Rattle.bfs_model.specs.Laws.Procedures.{TreesStay}
use Rattle.bfs_model.proofs.Found.{fails, inode_at, directory_at, file_at, IsChildAt}
use Rattle.bfs_model.proofs.Fresh.{made_is_none}
use Rattle.bfs_model.proofs.Attempts.{IfChanged, kept}
use Rattle.bfs_model.proofs.WellFormed.Sums.{WellFormed}
use Rattle.bfs_model.proofs.WellFormed.Words.{formed_from, words_from}
use Rattle.bfs_model.proofs.WellFormed.Steps.{Alike, alike_kept}
use Rattle.bfs_model.proofs.WellFormed.Named.{held_there, bare_of}
use Rattle.bfs_model.proofs.WellFormed.Facts.{named_at_least, root_unnamed, holder, childless}
use Rattle.bfs_model.proofs.WellFormed.Effects.{created_keeps, made_directory_keeps, linked_keeps, removed_keeps, removed_directory_keeps}
use Rattle.bfs_model.proofs.WellFormed.Renames.{renamed_keeps}

-- SETATTR and WRITE ------------------------------------------------------------------------------------------------------

-- what a tree reads of a body is the same
abbrev AlikeBody : Body → Body → Type 0
AlikeBody b d = (is_directory_body d ≡ is_directory_body b) × (parent_in d ≡ parent_in b) × (entries_in d ≡ entries_in b)

resized_alike : (size : ℕ) (b : Body) → AlikeBody b (resized_body size b)
resized_alike size (file bytes) = (refl, refl, refl)
resized_alike size (directory listing) = (refl, refl, refl)
resized_alike size (link path) = (refl, refl, refl)

overwritten_alike : (offset : ℕ) (written : List ℕ) (b : Body) → AlikeBody b (overwritten_body offset written b)
overwritten_alike offset written (file bytes) = (refl, refl, refl)
overwritten_alike offset written (directory listing) = (refl, refl, refl)
overwritten_alike offset written (link path) = (refl, refl, refl)

sized_alike : (now : Time) (size : Option ℕ) (x : Inode) → ((with_size now size x).links ≡ x.links) × AlikeBody x.body (with_size now size x).body
sized_alike now None x = (refl, (refl, refl, refl))
sized_alike now (Some size) x = (refl, resized_alike size x.body)

set_alike : (now : Time) (settings : Settings) (x : Inode) → Alike x (with_settings now settings x)
set_alike now settings x = let sized = sized_alike now settings.size x in record { links = sized.0; kind = sized.1.0; parent = sized.1.1; entries = sized.1.2 }

written_alike : (now : Time) (offset : ℕ) (written : List ℕ) (x : Inode) → Alike x (with_bytes now offset written x)
written_alike now offset written x = let body = overwritten_alike offset written x.body in record { links = refl; kind = body.0; parent = body.1; entries = body.2 }

-- REMOVE and RMDIR -------------------------------------------------------------------------------------------------------

module _ (m : Inodes) (w : WellFormed m) (c : Context) (handle : Option ℕ) (name : List ℕ) (dir : FoundDirectory) (entry : Entry) (child : FoundInode) (at : IsChildAt m c handle name dir entry child) where
  folder : IsTrue (is_directory_body dir.inode.body)
  folder = ap is_directory_body at.in_it.holds

  found : entry_named name (entries_in dir.inode.body) ≡ Some entry
  found = ap (λ body. entry_named name (entries_in body)) at.in_it.holds ∙ at.named

  here : get m entry.child ≡ Some child.inode
  here = ap (get m) (sym at.is) ∙ at.there

  file_goes : IsFalse (is_directory_body child.inode.body) → WellFormed (link_lost (insert m dir.id (without_entry c.time name dir.inode)) c.time child.id)
  file_goes plain = rw at.is (removed_keeps w dir.id dir.inode c.time name entry child.inode at.in_it.there folder found here plain)

  directory_goes : IsTrue (is_directory_body child.inode.body) → entries_in child.inode.body ≡ []
      → WellFormed (changed (remove_at (insert m dir.id (without_entry c.time name dir.inode)) child.id) dir.id (with_link_less c.time))
  directory_goes is bare =
      let held : 1 ≤ times entry.child (entries_at (get m dir.id)) = held_there m dir.id dir.inode name entry at.in_it.there found in
      let least : times entry.child (entries_at (get m dir.id)) ≤ named m entry.child = named_at_least m dir.id entry.child in
      rw at.is (removed_directory_keeps w dir.id dir.inode c.time name entry child.inode at.in_it.there folder found here is bare
      (root_unnamed m w entry.child (omega arith)) (holder m w dir.id entry.child child.inode here is held) (childless m w entry.child (ap entries_at here ∙ bare)))

-- Every call -------------------------------------------------------------------------------------------------------------

changes_keep : (m : Inodes) (c : Context) → WellFormed m → (call : Call) → IsFresh m c call → IfChanged m c WellFormed call
changes_keep m c w (set_attributes handle settings) fresh = λ x allowed is passed. alike_kept w x.id x.inode (with_settings c.time settings x.inode) (inode_at m handle x is).there (set_alike c.time settings x.inode)
changes_keep m c w (write handle offset written) fresh = λ x small is passed. alike_kept w x.id x.inode (with_bytes c.time offset written x.inode) (file_at m handle x is).there (written_alike c.time offset written x.inode)
changes_keep m c w (create handle name settings) fresh = λ dir allowed is passed.
    let at = directory_at m handle dir is in
    let new = made_is_none m c handle dir name (owner_refusals c.caller settings) ((nat_lt most_file_bytes (unwrap_or settings.size 0), fbig) ∷ []) allowed fresh passed in
    created_keeps m w dir.id dir.inode c.time (entry_made c name c.ordinal) (new_file c settings) at.there (ap is_directory_body at.holds) new refl refl
changes_keep m c w (make_symbolic_link handle name target settings) fresh = λ dir allowed is passed.
    let at = directory_at m handle dir is in
    let new = made_is_none m c handle dir name (owner_refusals c.caller settings) [] allowed fresh passed in
    created_keeps m w dir.id dir.inode c.time (entry_made c name c.ordinal) (new_symbolic_link c settings target) at.there (ap is_directory_body at.holds) new refl refl
changes_keep m c w (make_directory handle name settings) fresh = λ dir allowed is passed.
    let at = directory_at m handle dir is in
    let new = made_is_none m c handle dir name (owner_refusals c.caller settings) ((has_most_links dir.inode.links, nospc) ∷ []) allowed fresh passed in
    made_directory_keeps m w dir.id dir.inode c.time (entry_made c name c.ordinal) (new_directory c settings dir.id) at.there (ap is_directory_body at.holds) new refl refl refl refl
changes_keep m c w (make_link handle in_directory name) fresh = λ x plain dir allowed is no_directory dir_is passed.
    let at = directory_at m in_directory dir dir_is in
    linked_keeps m w dir.id dir.inode c.time (entry_made c name x.id) x.inode at.there (ap is_directory_body at.holds) (inode_at m handle x is).there
    (fails (is_directory_body x.inode.body) ((is_directory_body x.inode.body, isdir) ∷ []) plain no_directory (search (inl, inr) depth 9))
changes_keep m c w (remove handle name) fresh = λ dir entry child plain at passed.
    file_goes m w c handle name dir entry child at (fails (is_directory_body child.inode.body) ((is_directory_body child.inode.body, isdir) ∷ []) plain passed (search (inl, inr) depth 9))
changes_keep m c w (remove_directory handle name) fresh = λ dir entry child empty at passed.
    let body = child.inode.body in
    let rows : List (Bool × Status) = (not (is_directory_body body), notdir) ∷ (has_entries body, notempty) ∷ [] in
    directory_goes m w c handle name dir entry child at
    (not-false (is_directory_body body) (fails (not (is_directory_body body)) rows empty passed (search (inl, inr) depth 9)))
    (bare_of body (fails (has_entries body) rows empty passed (search (inl, inr) depth 9)))
changes_keep m c w (rename from from_name to to_name) fresh = λ a b entry moved at. renamed_keeps m w c from from_name to to_name a b entry moved at
changes_keep m c w call fresh = tt

-- where its ordinal is fresh, a call leaves a tree one
pub tree_kept : TreesStay
tree_kept m c call fresh tree = words_from (kept m c WellFormed (formed_from tree) call (changes_keep m c (formed_from tree) call fresh))
