-- Every call does the same through a frame that keeps the inodes which its footprint reads, and is open where it writes.
use Rattle.std.proofs.Common.{◌≡◌, ℕ, Bool, true, false, not, ◌&&◌, ◌==◌, List, [], ◌∷◌, ◌++◌, Option, Some, None, option_map, option_and_then, Ok, nat_lt, unwrap_or, if◌then◌else◌, refl, sym, ap, subst, ◌∙◌}
use Rattle.std.proofs.lemmas.Bool.{both_ways}
use Rattle.std.proofs.lemmas.Option.{same_Some}
use Rattle.std.specs.List.{AllByRecursion}
use Rattle.std.specs.FinMap.{get, insert, remove}
use Rattle.bfs_model.specs.Server.Limits.{most_file_bytes}
use Rattle.bfs_model.specs.Server.Tree.{Entry, Inode, Inodes, is_directory}
use Rattle.bfs_model.specs.Server.Context.{Context}
use Rattle.bfs_model.specs.Server.Access.{may_search, may_change_entries, owner_refusals}
use Rattle.bfs_model.specs.Server.Directories.{entry_named}
use Rattle.bfs_model.specs.Bytes.Arguments.{Call, null, get_attributes, set_attributes, root, look_up, read_link, read, write_cache, write, create, remove as remove_file, rename, make_link, make_symbolic_link, make_directory, remove_directory, read_directory, file_system_status}
use Rattle.bfs_model.specs.Server.Changes.{with_settings, with_bytes, without_entry, with_link, with_link_less, changed, link_lost}
use Rattle.bfs_model.specs.Bytes.Replies.{Reply, fbig, nospc, done}
use Rattle.bfs_model.specs.Server.Refusals.{FoundInode, FoundDirectory, has_most_links, directory_found}
use Rattle.bfs_model.specs.Server.Procedures.{attempted, procedure}
use Rattle.bfs_model.specs.Server.Procedures.Names.{child_named}
use Rattle.bfs_model.specs.Server.Procedures.Making.{with_name, new_file, new_directory, new_symbolic_link}
use Rattle.bfs_model.specs.Server.Procedures.Renaming.{Renaming, Replaced, renaming_of, renaming_found, moves_directory, renamed}
use Rattle.bfs_model.specs.Server.Footprints.{Footprint, known, whole, ids_in, new_ids, child_at as child_in, id_found, lets_search, lets_change, lets_rename, moves_a_directory, footprint}
use Rattle.bfs_model.proofs.Found.{inode_at, directory_at, file_at, IsDirectoryAt, IsChildAt, IsRenamed, IsOnto, onto_none, onto_entry, found_was}
use Rattle.bfs_model.proofs.Granted.{kept_out, lets_both}
use Rattle.bfs_model.proofs.Attempts.{LooksAlike, IfDone, attempts_alike}
use Rattle.bfs_model.proofs.WellFormed.NewNames.{IsNewName, new_name, front_of, back_of, led_of}
use Rattle.bfs_model.proofs.Footprints.Frames.{IsOpen, framed, alike_framed, IsFramed, then_framed, insert_framed, remove_framed, changed_framed, link_lost_framed, renamed_framed}

-- what a name leads to, by the footprint, where the directory is found
child_is : (m : Inodes) (handle : Option ℕ) (name : List ℕ) (dir : FoundDirectory) → IsDirectoryAt m handle dir → child_in m handle name ≡ option_map (λ entry. entry.child) (entry_named name dir.listing.entries)
child_is m handle name dir at = rw (at.led, at.there, at.holds) refl

found_is : (m : Inodes) (handle : Option ℕ) (name : List ℕ) (dir : FoundDirectory) → IsDirectoryAt m handle dir → id_found m handle name ≡ child_named dir.id dir.listing name
found_is m handle name dir at = rw (at.led, at.there, at.holds) refl

module _ (h : Inodes → Inodes) (m : Inodes) where
  -- a fileid whose inode is kept
  abbrev pub IsSeen : ℕ → Type 0
  IsSeen id = get (h m) id ≡ get m id

  -- the frame keeps what a call reads, and is open where it writes
  abbrev pub IsCovered : Footprint → Type 0
  IsCovered (known reads writes) = AllByRecursion IsSeen reads × AllByRecursion (IsOpen h) writes
  IsCovered whole = (n : Inodes) → h n ≡ n

  module _ (c : Context) where
    abbrev AllOpen : List ℕ → Type 0
    AllOpen = AllByRecursion (IsOpen h)

    -- what is done through the frame
    walked : (call : Call) → LooksAlike m (h m) c call → IfDone m (h m) (λ outcome through. through ≡ framed h outcome) c call → procedure (h m) c call ≡ framed h (procedure m c call)
    walked call looks if_done = alike_framed h m (attempted m c call) (attempted (h m) c call) (attempts_alike m (h m) (λ outcome through. through ≡ framed h outcome) c call looks if_done)

    seen : (handle : Option ℕ) → AllByRecursion IsSeen (ids_in handle) → (id : ℕ) → handle ≡ Some id → IsSeen id
    seen handle all id is = led_of IsSeen handle id is all

    opened : (handle : Option ℕ) → AllOpen (ids_in handle) → (id : ℕ) → handle ≡ Some id → IsOpen h id
    opened handle all id is = led_of (IsOpen h) handle id is all

    shown : (handle : Option ℕ) → AllOpen (ids_in handle) → (id : ℕ) → handle ≡ Some id → IsSeen id
    shown handle all id is = (opened handle all id is).gets m

    -- the step is done through the frame, and the reply is the same
    stepped : (step : Inodes → Inodes) (reply : Reply) → IsFramed h step → ◌≡◌ {A = Inodes × Reply} (step (h m), reply) (h (step m), reply)
    stepped step reply same = ap (λ n. (n, reply)) (same m)

    module _ (handle : Option ℕ) (name : List ℕ) (dir : FoundDirectory) (at : directory_found m handle ≡ Ok dir) where
      -- the inode that a name leads to
      shown_in : AllOpen (ids_in (child_in m handle name)) → (id : ℕ) → option_map (λ entry. entry.child) (entry_named name dir.listing.entries) ≡ Some id → IsSeen id
      shown_in all id is = shown (child_in m handle name) all id (child_is m handle name dir (directory_at m handle dir at) ∙ is)

    open_child : (handle : Option ℕ) (name : List ℕ) (dir : FoundDirectory) (entry : Entry) → IsDirectoryAt m handle dir → entry_named name dir.listing.entries ≡ Some entry → AllOpen (ids_in (child_in m handle name)) → IsOpen h entry.child
    open_child handle name dir entry at named all = opened (child_in m handle name) all entry.child (child_is m handle name dir at ∙ ap (option_map (λ e. e.child)) named)

    -- the fileid of the ordinal, where it is not spent
    open_new : (name : List ℕ) (dir : FoundDirectory) → IsNewName c dir.listing name → AllOpen (new_ids c.ordinal) → IsOpen h c.ordinal
    open_new name dir new all = (rw new.left at all).0

    -- a directory is changed, and an inode made
    made : (handle : Option ℕ) (name : List ℕ) (dir : FoundDirectory) (after new : Inode) → directory_found m handle ≡ Ok dir → IsNewName c dir.listing name → AllOpen (ids_in handle ++ new_ids c.ordinal) → IsFramed h (λ n. insert (insert n dir.id after) c.ordinal new)
    made handle name dir after new at is_new all =
        then_framed h _ _ (insert_framed h dir.id after (opened handle (front_of (IsOpen h) (ids_in handle) (new_ids c.ordinal) all) dir.id (directory_at m handle dir at).led))
        (insert_framed h c.ordinal new (open_new name dir is_new (back_of (IsOpen h) (ids_in handle) (new_ids c.ordinal) all)))

    module _ (handle : Option ℕ) (name : List ℕ) (dir : FoundDirectory) (entry : Entry) (child : FoundInode) (at : IsChildAt m c handle name dir entry child) (all : AllOpen (ids_in handle ++ ids_in (child_in m handle name))) where
      -- a directory that is written, and what a name in it leads to
      open_dir : IsOpen h dir.id
      open_dir = opened handle (front_of (IsOpen h) (ids_in handle) (ids_in (child_in m handle name)) all) dir.id at.in_it.led

      open_found : IsOpen h child.id
      open_found = subst (IsOpen h) (sym at.is) (open_child handle name dir entry at.in_it at.named (back_of (IsOpen h) (ids_in handle) (ids_in (child_in m handle name)) all))

    -- all is touched: the frame changes nothing
    whole_framed : (call : Call) → IsCovered whole → procedure (h m) c call ≡ framed h (procedure m c call)
    whole_framed call covered = ap (λ n. procedure n c call) (covered m) ∙ (λ i. (sym (covered (procedure m c call).0) i, (procedure m c call).1))

    -- RENAME -------------------------------------------------------------------------------------------------------------

    module _ (from : Option ℕ) (from_name : List ℕ) (to : Option ℕ) (to_name : List ℕ) where
      -- the footprint and the procedure tell alike whether a directory comes below another one
      moves_same : (a b : FoundDirectory) (entry : Entry) (moved : FoundInode) (replaced : Option Replaced) → IsRenamed m c from from_name to to_name a b entry moved
          → moves_a_directory m from from_name to ≡ moves_directory (renaming_of a b moved replaced)
      moves_same a b entry moved replaced at =
          let its : child_in m (Some a.id) from_name ≡ Some moved.id = ap (λ d. child_in m d from_name) (sym at.from_at.led) ∙ child_is m from from_name a at.from_at ∙ ap (option_map (λ e. e.child)) at.named ∙ ap Some (sym at.is) in
          rw (at.from_at.led, at.to_at.led) (ap (λ child. is_directory (option_and_then (get m) child) && not (a.id == b.id)) its ∙ ap (λ there. is_directory there && not (a.id == b.id)) at.there)

      found_moves : (r : Renaming) → renaming_found m c from from_name to to_name ≡ Ok (Some r) → moves_a_directory m from from_name to ≡ moves_directory r
      found_moves r is =
          let at = found_was m c from from_name to to_name (Some r) is in
          moves_same at.a at.b at.entry at.moved at.planned.replaced at.renamed_it ∙ ap moves_directory at.planned.is

      onto_open : (moved : FoundInode) (existing : Option Entry) (replaced : Option Replaced) → IsOnto m moved existing replaced → ((entry : Entry) → existing ≡ Some entry → IsOpen h entry.child)
          → (x : Replaced) → replaced ≡ Some x → IsOpen h x.id
      onto_open moved None replaced onto_none each x is = absurd cc
      onto_open moved (Some entry) replaced (onto_entry inode other there) each x is = subst (λ (k : Replaced). IsOpen h k.id) (same_Some _ x is) (each entry refl)

      rename_known : moves_a_directory m from from_name to ≡ false → AllOpen (ids_in from ++ ids_in to ++ ids_in (child_in m from from_name) ++ ids_in (child_in m to to_name))
          → procedure (h m) c (rename from from_name to to_name) ≡ framed h (procedure m c (rename from from_name to to_name))
      rename_known stays all =
          let three = front_of (IsOpen h) (ids_in from ++ ids_in to ++ ids_in (child_in m from from_name)) (ids_in (child_in m to to_name)) all in
          let onto = back_of (IsOpen h) (ids_in from ++ ids_in to ++ ids_in (child_in m from from_name)) (ids_in (child_in m to to_name)) all in
          let moves = back_of (IsOpen h) (ids_in from ++ ids_in to) (ids_in (child_in m from from_name)) three in
          let two = front_of (IsOpen h) (ids_in from ++ ids_in to) (ids_in (child_in m from from_name)) three in
          let open_from = opened from (front_of (IsOpen h) (ids_in from) (ids_in to) two) in
          let open_to = opened to (back_of (IsOpen h) (ids_in from) (ids_in to) two) in
          walked (rename from from_name to to_name) (
            (λ id is. (open_from id is).gets m),
            (λ id is. (open_to id is).gets m),
            (λ a b a_is b_is from_may to_may. (shown_in from from_name a a_is moves, shown_in to to_name b b_is onto)),
            (λ r is below. absurd (both_ways (moves_directory r) (sym (found_moves r is) ∙ stays) below)),
          )
          (λ a b entry moved at. (
            refl,
            λ replaced allowed is_onto passed.
                stepped (λ n. renamed n c from_name to_name (renaming_of a b moved replaced)) done
                (renamed_framed h c from_name to_name (renaming_of a b moved replaced) (open_from a.id at.from_at.led) (open_to b.id at.to_at.led)
                (subst (IsOpen h) (sym at.is) (open_child from from_name a entry at.from_at at.named moves))
                (onto_open moved (entry_named to_name b.listing.entries) replaced is_onto (λ old named. open_child to to_name b old at.to_at named onto))),
          ))

      -- where a directory does not let the caller change it, nothing is done
      rename_refused : lets_rename m c.caller from to ≡ false → AllByRecursion IsSeen (ids_in from ++ ids_in to) → procedure (h m) c (rename from from_name to to_name) ≡ framed h (procedure m c (rename from from_name to to_name))
      rename_refused closed all =
          let none : (a b : FoundDirectory) → IsDirectoryAt m from a → IsDirectoryAt m to b → may_change_entries c.caller a.inode ≡ true → may_change_entries c.caller b.inode ≡ true → ⊥ =
          λ a b from_at to_at from_may to_may. both_ways (lets_rename m c.caller from to) closed (lets_both m c.caller from to a b from_at to_at from_may to_may) in
          walked (rename from from_name to to_name) (
            seen from (front_of IsSeen (ids_in from) (ids_in to) all),
            seen to (back_of IsSeen (ids_in from) (ids_in to) all),
            (λ a b a_is b_is from_may to_may. absurd (none a b (directory_at m from a a_is) (directory_at m to b b_is) from_may to_may)),
            (λ r is below. let at = (found_was m c from from_name to to_name (Some r) is).renamed_it in absurd (none _ _ at.from_at at.to_at at.from_changes at.to_changes)),
          )
          (λ a b entry moved at. (refl, λ replaced allowed is_onto passed. absurd (none a b at.from_at at.to_at at.from_changes at.to_changes)))

      rename_framed : (let_in moves : Bool) → lets_rename m c.caller from to ≡ let_in → moves_a_directory m from from_name to ≡ moves
          → IsCovered (if not let_in then known (ids_in from ++ ids_in to) [] else (if moves then whole else known [] (ids_in from ++ ids_in to ++ ids_in (child_in m from from_name) ++ ids_in (child_in m to to_name))))
          → procedure (h m) c (rename from from_name to to_name) ≡ framed h (procedure m c (rename from from_name to to_name))
      rename_framed false moves closed is covered = rename_refused closed covered.0
      rename_framed true true let_in is covered = whole_framed (rename from from_name to to_name) covered
      rename_framed true false let_in is covered = rename_known is covered.1

    -- LOOKUP, REMOVE and RMDIR --------------------------------------------------------------------------------------------

    module _ (handle : Option ℕ) (name : List ℕ) where
      looked_up_framed : (let_in : Bool) → lets_search m c.caller handle ≡ let_in → IsCovered (if let_in then known (ids_in handle ++ ids_in (id_found m handle name)) [] else known (ids_in handle) [])
          → procedure (h m) c (look_up handle name) ≡ framed h (procedure m c (look_up handle name))
      looked_up_framed true is covered = walked (look_up handle name) (
        seen handle (front_of IsSeen (ids_in handle) (ids_in (id_found m handle name)) covered.0),
        (λ dir at may id same. seen (id_found m handle name) (back_of IsSeen (ids_in handle) (ids_in (id_found m handle name)) covered.0) id (found_is m handle name dir (directory_at m handle dir at) ∙ same)),
      )
          (λ x there. refl)
      looked_up_framed false is covered = walked (look_up handle name) (
        seen handle covered.0,
        (λ dir at may. absurd (kept_out m c.caller may_search handle dir is (directory_at m handle dir at) may)),
      )
          (λ x there. refl)

      -- what is removed where the directory lets the caller change it, and what both maps have in common then
      abbrev FootprintOfRemoving : Bool → Footprint
      FootprintOfRemoving let_in = if let_in then known [] (ids_in handle ++ ids_in (child_in m handle name)) else known (ids_in handle) []

      nobody_removes : lets_change m c.caller handle ≡ false → (dir : FoundDirectory) (entry : Entry) (child : FoundInode) → IsChildAt m c handle name dir entry child → ⊥
      nobody_removes closed dir entry child at = kept_out m c.caller may_change_entries handle dir closed at.in_it at.changes

      removing_looks : (let_in : Bool) → lets_change m c.caller handle ≡ let_in → IsCovered (FootprintOfRemoving let_in) → LooksAlike m (h m) c (remove_file handle name)
      removing_looks true is covered = (
        shown handle (front_of (IsOpen h) (ids_in handle) (ids_in (child_in m handle name)) covered.1),
        (λ dir at may. shown_in handle name dir at (back_of (IsOpen h) (ids_in handle) (ids_in (child_in m handle name)) covered.1)),
      )
      removing_looks false is covered = (
        seen handle covered.0,
        (λ dir at may. absurd (kept_out m c.caller may_change_entries handle dir is (directory_at m handle dir at) may)),
      )

      file_removed_framed : (let_in : Bool) → lets_change m c.caller handle ≡ let_in → IsCovered (FootprintOfRemoving let_in) → procedure (h m) c (remove_file handle name) ≡ framed h (procedure m c (remove_file handle name))
      file_removed_framed true is covered = walked (remove_file handle name) (removing_looks true is covered) (λ dir entry child plain at passed.
          stepped (λ n. link_lost (insert n dir.id (without_entry c.time name dir.inode)) c.time child.id) done
          (then_framed h _ _ (insert_framed h dir.id _ (open_dir handle name dir entry child at covered.1)) (link_lost_framed h c child.id (open_found handle name dir entry child at covered.1))))
      file_removed_framed false is covered = walked (remove_file handle name) (removing_looks false is covered) (λ dir entry child plain at passed. absurd (nobody_removes is dir entry child at))

      directory_removed_framed : (let_in : Bool) → lets_change m c.caller handle ≡ let_in → IsCovered (FootprintOfRemoving let_in) → procedure (h m) c (remove_directory handle name) ≡ framed h (procedure m c (remove_directory handle name))
      directory_removed_framed true is covered = walked (remove_directory handle name) (removing_looks true is covered) (λ dir entry child empty at passed.
          let open_it = open_dir handle name dir entry child at covered.1 in
          stepped (λ n. changed (remove (insert n dir.id (without_entry c.time name dir.inode)) child.id) dir.id (with_link_less c.time)) done
          (then_framed h _ _ (insert_framed h dir.id _ open_it) (then_framed h _ _ (remove_framed h child.id (open_found handle name dir entry child at covered.1)) (changed_framed h dir.id (with_link_less c.time) open_it))))
      directory_removed_framed false is covered = walked (remove_directory handle name) (removing_looks false is covered) (λ dir entry child empty at passed. absurd (nobody_removes is dir entry child at))

    -- Every call ---------------------------------------------------------------------------------------------------------

    pub procedure_framed : (call : Call) → IsCovered (footprint m c call) → procedure (h m) c call ≡ framed h (procedure m c call)
    procedure_framed null covered = refl
    procedure_framed (get_attributes handle) covered = walked (get_attributes handle) (seen handle covered.0) (λ x at. refl)
    procedure_framed (set_attributes handle settings) covered = walked (set_attributes handle settings) (shown handle covered.1) (λ x allowed at passed.
        stepped (λ n. insert n x.id (with_settings c.time settings x.inode)) _ (insert_framed h x.id _ (opened handle covered.1 x.id (inode_at m handle x at).led)))
    procedure_framed root covered = refl
    procedure_framed (look_up handle name) covered = looked_up_framed handle name (lets_search m c.caller handle) refl covered
    procedure_framed (read_link handle) covered = walked (read_link handle) (seen handle covered.0) (λ x target at holds. refl)
    procedure_framed (read handle offset count) covered = walked (read handle offset count) (seen handle covered.0) (λ x at. refl)
    procedure_framed write_cache covered = refl
    procedure_framed (write handle offset written) covered = walked (write handle offset written) (shown handle covered.1) (λ x small at passed.
        stepped (λ n. insert n x.id (with_bytes c.time offset written x.inode)) _ (insert_framed h x.id _ (opened handle covered.1 x.id (file_at m handle x at).led)))
    procedure_framed (create handle name settings) covered = walked (create handle name settings) (shown handle (front_of (IsOpen h) (ids_in handle) (new_ids c.ordinal) covered.1)) (λ dir allowed at passed.
        stepped (λ n. insert (insert n dir.id (with_name c name c.ordinal dir.inode)) c.ordinal (new_file c settings)) _
        (made handle name dir _ _ at (new_name c dir name (owner_refusals c.caller settings) ((nat_lt most_file_bytes (unwrap_or settings.size 0), fbig) ∷ []) allowed passed) covered.1))
    procedure_framed (remove_file handle name) covered = file_removed_framed handle name (lets_change m c.caller handle) refl covered
    procedure_framed (rename from from_name to to_name) covered = rename_framed from from_name to to_name (lets_rename m c.caller from to) (moves_a_directory m from from_name to) refl refl covered
    procedure_framed (make_link handle in_directory name) covered =
        let open_file = opened handle (front_of (IsOpen h) (ids_in handle) (ids_in in_directory) covered.1) in
        let open_in = opened in_directory (back_of (IsOpen h) (ids_in handle) (ids_in in_directory) covered.1) in
        walked (make_link handle in_directory name) ((λ id is. (open_file id is).gets m), (λ id is. (open_in id is).gets m)) (λ x plain dir allowed at no_directory dir_at passed.
        stepped (λ n. changed (insert n dir.id (with_name c name x.id dir.inode)) x.id (with_link c.time)) done
        (then_framed h _ _ (insert_framed h dir.id _ (open_in dir.id (directory_at m in_directory dir dir_at).led)) (changed_framed h x.id (with_link c.time) (open_file x.id (inode_at m handle x at).led))))
    procedure_framed (make_symbolic_link handle name target settings) covered = walked (make_symbolic_link handle name target settings) (shown handle (front_of (IsOpen h) (ids_in handle) (new_ids c.ordinal) covered.1)) (λ dir allowed at passed.
        stepped (λ n. insert (insert n dir.id (with_name c name c.ordinal dir.inode)) c.ordinal (new_symbolic_link c settings target)) done
        (made handle name dir _ _ at (new_name c dir name (owner_refusals c.caller settings) [] allowed passed) covered.1))
    procedure_framed (make_directory handle name settings) covered = walked (make_directory handle name settings) (shown handle (front_of (IsOpen h) (ids_in handle) (new_ids c.ordinal) covered.1)) (λ dir allowed at passed.
        stepped (λ n. insert (insert n dir.id (with_link c.time (with_name c name c.ordinal dir.inode))) c.ordinal (new_directory c settings dir.id)) _
        (made handle name dir _ _ at (new_name c dir name (owner_refusals c.caller settings) ((has_most_links dir.inode.links, nospc) ∷ []) allowed passed) covered.1))
    procedure_framed (remove_directory handle name) covered = directory_removed_framed handle name (lets_change m c.caller handle) refl covered
    procedure_framed (read_directory handle cookie count) covered = walked (read_directory handle cookie count) (seen handle covered.0) (λ dir at. refl)
    procedure_framed (file_system_status handle) covered = whole_framed (file_system_status handle) covered
