-- What is done on two maps of inodes that are alike where a call looks: it is refused on both alike, or done on both. All that
-- holds of every procedure is an instance of this.
use Rattle.std.proofs.Common.{◌≡◌, ℕ, ◌+◌, ◌-◌, Bool, true, false, not, List, [], ◌∷◌, ◌++◌, length, Option, Some, None, unwrap_or, Result, Ok, Err, nat_lt, IsTrue, if◌then◌else◌, refl, ap, subst, ◌∙◌, inl, inr}
use Rattle.std.specs.Bool.{⊤}
use Rattle.std.specs.Option.{ok_or, option_map_or}
use Rattle.std.specs.Prelude.{option_map}
use Rattle.std.specs.FinMap.{get, insert, remove}
use Rattle.std.proofs.lemmas.Bool.{not-false}
use Rattle.bfs_model.specs.Bytes.Items.{◌>>=◌}
use Rattle.bfs_model.specs.Server.Limits.{most_file_bytes}
use Rattle.bfs_model.specs.Server.Tree.{Entry, Inodes, listing_in, is_directory_body}
use Rattle.bfs_model.specs.Server.Context.{Context}
use Rattle.bfs_model.specs.Server.Access.{may_read, may_search, may_change_entries, may_read_file, may_write_file, owner_refusals}
use Rattle.bfs_model.specs.Bytes.Attributes.{attributes_of, total_blocks}
use Rattle.bfs_model.specs.Server.FileBytes.{bytes_from}
use Rattle.bfs_model.specs.Server.Directories.{is_bad_name, is_no_name, entry_named, all_listed, listed_behind}
use Rattle.bfs_model.specs.Bytes.Arguments.{Call, null, get_attributes, set_attributes, root, look_up, read_link, read, write_cache, write, create, remove as remove_file, rename, make_link, make_symbolic_link, make_directory, remove_directory, read_directory, file_system_status}
use Rattle.bfs_model.specs.Server.Changes.{with_settings, with_bytes, without_entry, with_link, with_link_less, changed, link_lost}
use Rattle.bfs_model.specs.Bytes.Replies.{Status, perm, noent, acces, isdir, notdir, notempty, fbig, nospc, stale, void, refused, done, attributes, found, path, contents, free_blocks}
use Rattle.bfs_model.specs.Server.Refusals.{Outcome, FoundInode, FoundDirectory, FoundFile, checked, has_most_links, inode_found, directory_found, bytes_in, file_found}
use Rattle.bfs_model.specs.Server.Procedures.{attempted, procedure, or_refused}
use Rattle.bfs_model.specs.Server.Procedures.Attributes.{set_refusals}
use Rattle.bfs_model.specs.Server.Procedures.Names.{child_named, page_listed}
use Rattle.bfs_model.specs.Server.Procedures.Data.{path_in}
use Rattle.bfs_model.specs.Server.Procedures.Making.{new_name_refusals, with_name, new_file, new_directory, new_symbolic_link}
use Rattle.bfs_model.specs.Server.Procedures.Removing.{child_found, has_entries}
use Rattle.bfs_model.specs.Server.Procedures.Renaming.{Renaming, Replaced, name_refusals, renaming_refusals, renamed, replaced_by, moves_directory, renaming_of, renaming_found, if_allowed, renaming_planned}
use Rattle.bfs_model.specs.Server.Procedures.Status.{used_blocks}
use Rattle.bfs_model.proofs.Found.{fails, was_there, inode_at, child_at, IsChildAt, IsRenamed, IsOnto, IsPlanned, planned_was}

-- Attempts that are alike --------------------------------------------------------------------------------------------

-- both are done, with outcomes that are related, or both are refused alike
abbrev pub Alike : (Outcome → Outcome → Type 0) → (one other : Result Outcome Status) → Type 0
Alike R (Ok one) (Ok other) = R one other
Alike R (Err status) (Err other) = other ≡ status
Alike R (Ok one) (Err status) = ⊥
Alike R (Err status) (Ok other) = ⊥

pub then_alike : (R : Outcome → Outcome → Type 0) {X : Type 0} (found other : Result X Status) (next further : X → Result Outcome Status)
    → other ≡ found → ((x : X) → found ≡ Ok x → Alike R (next x) (further x)) → Alike R (found >>= next) (other >>= further)
then_alike R (Ok x) other next further same each = rw same (each x refl)
then_alike R (Err status) other next further same each = rw same refl

-- Two maps that are alike where a call looks ---------------------------------------------------------------------------

module _ (m n : Inodes) where
  -- a fileid at which both have the same inode, or none
  abbrev pub IsSame : ℕ → Type 0
  IsSame id = get n id ≡ get m id

  abbrev pub SameAt : Option ℕ → Type 0
  SameAt handle = (id : ℕ) → handle ≡ Some id → IsSame id

  inode_same : (handle : Option ℕ) → SameAt handle → inode_found n handle ≡ inode_found m handle
  inode_same None same = refl
  inode_same (Some id) same = ap (λ there. ok_or there stale >>= λ inode. Ok (record { id = id; inode = inode })) (same id refl)

  directory_same : (handle : Option ℕ) → SameAt handle → directory_found n handle ≡ directory_found m handle
  directory_same handle same = ap (λ at. at >>= λ at. ok_or (listing_in at.inode.body) notdir >>= λ listing. Ok (record { id = at.id; inode = at.inode; listing = listing })) (inode_same handle same)

  file_same : (handle : Option ℕ) → SameAt handle → file_found n handle ≡ file_found m handle
  file_same handle same = ap (λ at. at >>= λ at. bytes_in at.inode.body >>= λ bytes. Ok (record { id = at.id; inode = at.inode; bytes = bytes })) (inode_same handle same)

  then_same : {X Y : Type 0} (one other : Result X Status) (next further : X → Result Y Status) → other ≡ one → ((x : X) → one ≡ Ok x → further x ≡ next x) → (other >>= further) ≡ (one >>= next)
  then_same (Ok x) other next further same each = rw same (each x refl)
  then_same (Err status) other next further same each = rw same refl

  -- where a caller passes a test, it may do what the test asks
  let_by : (may : Bool) (status : Status) (rows : List (Bool × Status)) (passed : ⊤) → checked ((not may, status) ∷ rows) ≡ Ok passed → may ≡ true
  let_by may status rows passed is = not-false may (fails (not may) ((not may, status) ∷ rows) passed is (inl refl))

  child_same : (c : Context) (handle : Option ℕ) (name : List ℕ) → SameAt handle
      → ((dir : FoundDirectory) → directory_found m handle ≡ Ok dir → may_change_entries c.caller dir.inode ≡ true → SameAt (option_map (λ entry. entry.child) (entry_named name dir.listing.entries)))
      → child_found n c handle name ≡ child_found m c handle name
  child_same c handle name same child =
      then_same (directory_found m handle) _ _ _ (directory_same handle same) (λ dir is.
      then_same (checked ((not (may_change_entries c.caller dir.inode), acces) ∷ (is_bad_name name, perm) ∷ [])) _ _ _ refl (λ good passed.
      then_same (ok_or (entry_named name dir.listing.entries) noent) _ _ _ refl (λ entry named.
      then_same (inode_found m (Some entry.child)) _ _ _
      (inode_same (Some entry.child) (λ id is_id. child dir is (let_by (may_change_entries c.caller dir.inode) acces ((is_bad_name name, perm) ∷ []) good passed) id (ap (option_map (λ e. e.child)) (was_there (entry_named name dir.listing.entries) noent entry named) ∙ is_id))) (λ x found_it. refl))))

  -- Where a call looks -------------------------------------------------------------------------------------------------

  -- the child of a name
  abbrev pub child_in : (dir : FoundDirectory) (name : List ℕ) → Option ℕ
  child_in dir name = option_map (λ entry. entry.child) (entry_named name dir.listing.entries)

  -- .. in a directory that the caller may change
  abbrev pub ChildIsSame : Context → Option ℕ → (name : List ℕ) → Type 0
  ChildIsSame c handle name = (dir : FoundDirectory) → directory_found m handle ≡ Ok dir → may_change_entries c.caller dir.inode ≡ true → SameAt (child_in dir name)

  -- .. and the children of both names of RENAME, where the caller may change both directories
  abbrev pub ChildrenAreSame : Context → (from : Option ℕ) (from_name : List ℕ) (to : Option ℕ) (to_name : List ℕ) → Type 0
  ChildrenAreSame c from from_name to to_name = (a b : FoundDirectory) → directory_found m from ≡ Ok a → directory_found m to ≡ Ok b
      → may_change_entries c.caller a.inode ≡ true → may_change_entries c.caller b.inode ≡ true → SameAt (child_in a from_name) × SameAt (child_in b to_name)

  -- both maps have the same inode at each fileid where a call looks
  abbrev pub LooksAlike : Context → Call → Type 0
  LooksAlike c null = Unit {0}
  LooksAlike c (get_attributes handle) = SameAt handle
  LooksAlike c (set_attributes handle settings) = SameAt handle
  LooksAlike c root = Unit {0}
  LooksAlike c (look_up handle name) = SameAt handle × ((dir : FoundDirectory) → directory_found m handle ≡ Ok dir → may_search c.caller dir.inode ≡ true → SameAt (child_named dir.id dir.listing name))
  LooksAlike c (read_link handle) = SameAt handle
  LooksAlike c (read handle offset count) = SameAt handle
  LooksAlike c write_cache = Unit {0}
  LooksAlike c (write handle offset written) = SameAt handle
  LooksAlike c (create handle name settings) = SameAt handle
  LooksAlike c (remove_file handle name) = SameAt handle × ChildIsSame c handle name
  LooksAlike c (rename from from_name to to_name) = SameAt from × SameAt to × ChildrenAreSame c from from_name to to_name
      × ((r : Renaming) → renaming_found m c from from_name to to_name ≡ Ok (Some r) → IsTrue (moves_directory r) → n ≡ m)
  LooksAlike c (make_link handle in_directory name) = SameAt handle × SameAt in_directory
  LooksAlike c (make_symbolic_link handle name target settings) = SameAt handle
  LooksAlike c (make_directory handle name settings) = SameAt handle
  LooksAlike c (remove_directory handle name) = SameAt handle × ChildIsSame c handle name
  LooksAlike c (read_directory handle cookie count) = SameAt handle
  LooksAlike c (file_system_status handle) = n ≡ m

  -- RENAME is planned alike
  onto_same : (a b : FoundDirectory) (moved : FoundInode) (existing : Option Entry) → SameAt (option_map (λ entry. entry.child) existing) → (same : Bool)
      → (if same then Ok None else (replaced_by n existing >>= λ replaced. Ok (Some (renaming_of a b moved replaced)))) ≡ (if same then Ok None else (replaced_by m existing >>= λ replaced. Ok (Some (renaming_of a b moved replaced))))
  onto_same a b moved existing there true = refl
  onto_same a b moved None there false = refl
  onto_same a b moved (Some entry) there false =
      ap (λ at. (at >>= λ x. Ok (Some (record { id = x.id; is_directory = is_directory_body x.inode.body; has_entries = has_entries x.inode.body }))) >>= λ replaced. Ok (Some (renaming_of a b moved replaced))) (inode_same (Some entry.child) there)

  found_same : (c : Context) (from : Option ℕ) (from_name : List ℕ) (to : Option ℕ) (to_name : List ℕ) → LooksAlike c (rename from from_name to to_name) → renaming_found n c from from_name to to_name ≡ renaming_found m c from from_name to to_name
  found_same c from from_name to to_name looks =
      then_same (directory_found m from) _ _ _ (directory_same from looks.0) (λ a a_is.
      then_same (directory_found m to) _ _ _ (directory_same to looks.1) (λ b b_is.
      then_same (checked (name_refusals c a b from_name to_name)) _ _ _ refl (λ good passed.
      let from_changes = not-false (may_change_entries c.caller a.inode) (fails (not (may_change_entries c.caller a.inode)) (name_refusals c a b from_name to_name) good passed (inl refl)) in
      let to_changes = not-false (may_change_entries c.caller b.inode) (fails (not (may_change_entries c.caller b.inode)) (name_refusals c a b from_name to_name) good passed (inr (inl refl))) in
      let children = looks.2 a b a_is b_is from_changes to_changes in
      then_same (ok_or (entry_named from_name a.listing.entries) noent) _ _ _ refl (λ entry held.
      let named : entry_named from_name a.listing.entries ≡ Some entry = was_there (entry_named from_name a.listing.entries) noent entry held in
      then_same (inode_found m (Some entry.child)) _ _ _ (inode_same (Some entry.child) (λ id is. children.0 id (ap (option_map (λ e. e.child)) named ∙ is))) (λ moved found_it.
      onto_same a b moved (entry_named to_name b.listing.entries) children.1 _)))))

  rows_same : (c : Context) (r : Renaming) (moves : Bool) → moves_directory r ≡ moves → (IsTrue (moves_directory r) → n ≡ m) → renaming_refusals n c r ≡ renaming_refusals m c r
  rows_same c r true is above = ap (λ k. renaming_refusals k c r) (above is)
  rows_same c r false is above = rw is refl

  allowed_same : (c : Context) (held : Option Renaming) → ((r : Renaming) → held ≡ Some r → IsTrue (moves_directory r) → n ≡ m) → if_allowed n c held ≡ if_allowed m c held
  allowed_same c None above = refl
  allowed_same c (Some r) above = ap (λ rows. checked rows >>= λ allowed. Ok (Some r)) (rows_same c r (moves_directory r) refl (above r refl))

  planned_same : (c : Context) (from : Option ℕ) (from_name : List ℕ) (to : Option ℕ) (to_name : List ℕ) → LooksAlike c (rename from from_name to to_name)
      → renaming_planned n c from from_name to to_name ≡ renaming_planned m c from from_name to to_name
  planned_same c from from_name to to_name looks =
      then_same (renaming_found m c from from_name to to_name) _ _ _ (found_same c from from_name to to_name looks) (λ held is. allowed_same c held (λ r same moves. looks.3 r (is ∙ ap Ok same) moves))

  -- What is done -------------------------------------------------------------------------------------------------------

  module _ (R : Outcome → Outcome → Type 0) (c : Context) where
    -- what is asked of R: that it holds of what each call does, where the call is not refused
    abbrev pub IfDone : Call → Type 0
    IfDone null = R (m, void) (n, void)
    IfDone (get_attributes handle) = (x : FoundInode) → inode_found m handle ≡ Ok x → R (m, attributes (attributes_of x.id x.inode)) (n, attributes (attributes_of x.id x.inode))
    IfDone (set_attributes handle settings) = (x : FoundInode) (allowed : ⊤) → inode_found m handle ≡ Ok x → checked (set_refusals c x.inode settings) ≡ Ok allowed
        → let new = with_settings c.time settings x.inode in R (insert m x.id new, attributes (attributes_of x.id new)) (insert n x.id new, attributes (attributes_of x.id new))
    IfDone root = R (m, void) (n, void)
    IfDone (look_up handle name) = (x : FoundInode) → get m x.id ≡ Some x.inode → R (m, found x.id (attributes_of x.id x.inode)) (n, found x.id (attributes_of x.id x.inode))
    IfDone (read_link handle) = (x : FoundInode) (target : List ℕ) → inode_found m handle ≡ Ok x → path_in x.inode.body ≡ Some target → R (m, path target) (n, path target)
    IfDone (read handle offset count) = (x : FoundFile) → file_found m handle ≡ Ok x
        → let reply = contents (attributes_of x.id x.inode) (bytes_from offset count x.bytes) in R (m, reply) (n, reply)
    IfDone write_cache = R (m, void) (n, void)
    IfDone (write handle offset written) = (x : FoundFile) (small : ⊤) → file_found m handle ≡ Ok x
        → checked ((not (may_write_file c.caller x.inode), acces) ∷ (nat_lt most_file_bytes (offset + length written), fbig) ∷ []) ≡ Ok small
        → let new = with_bytes c.time offset written x.inode in R (insert m x.id new, attributes (attributes_of x.id new)) (insert n x.id new, attributes (attributes_of x.id new))
    IfDone (create handle name settings) = (dir : FoundDirectory) (allowed : ⊤) → directory_found m handle ≡ Ok dir
        → checked (new_name_refusals c dir name (owner_refusals c.caller settings) ++ (nat_lt most_file_bytes (unwrap_or settings.size 0), fbig) ∷ []) ≡ Ok allowed
        → let o = c.ordinal in let new = new_file c settings in
        R (insert (insert m dir.id (with_name c name o dir.inode)) o new, found o (attributes_of o new)) (insert (insert n dir.id (with_name c name o dir.inode)) o new, found o (attributes_of o new))
    IfDone (remove_file handle name) = (dir : FoundDirectory) (entry : Entry) (child : FoundInode) (plain : ⊤) → IsChildAt m c handle name dir entry child → checked ((is_directory_body child.inode.body, isdir) ∷ []) ≡ Ok plain
        → R (link_lost (insert m dir.id (without_entry c.time name dir.inode)) c.time child.id, done) (link_lost (insert n dir.id (without_entry c.time name dir.inode)) c.time child.id, done)
    IfDone (rename from from_name to to_name) = (a b : FoundDirectory) (entry : Entry) (moved : FoundInode) → IsRenamed m c from from_name to to_name a b entry moved
        → R (m, done) (n, done)
        × ((replaced : Option Replaced) (allowed : ⊤) → IsOnto m moved (entry_named to_name b.listing.entries) replaced → let r = renaming_of a b moved replaced in checked (renaming_refusals m c r) ≡ Ok allowed
        → R (renamed m c from_name to_name r, done) (renamed n c from_name to_name r, done))
    IfDone (make_link handle in_directory name) = (x : FoundInode) (plain : ⊤) (dir : FoundDirectory) (allowed : ⊤) → inode_found m handle ≡ Ok x → checked ((is_directory_body x.inode.body, isdir) ∷ []) ≡ Ok plain
        → directory_found m in_directory ≡ Ok dir → checked (new_name_refusals c dir name [] ++ (has_most_links x.inode.links, nospc) ∷ []) ≡ Ok allowed
        → R (changed (insert m dir.id (with_name c name x.id dir.inode)) x.id (with_link c.time), done) (changed (insert n dir.id (with_name c name x.id dir.inode)) x.id (with_link c.time), done)
    IfDone (make_symbolic_link handle name target settings) = (dir : FoundDirectory) (allowed : ⊤) → directory_found m handle ≡ Ok dir → checked (new_name_refusals c dir name (owner_refusals c.caller settings)) ≡ Ok allowed
        → let o = c.ordinal in let new = new_symbolic_link c settings target in
        R (insert (insert m dir.id (with_name c name o dir.inode)) o new, done) (insert (insert n dir.id (with_name c name o dir.inode)) o new, done)
    IfDone (make_directory handle name settings) = (dir : FoundDirectory) (allowed : ⊤) → directory_found m handle ≡ Ok dir
        → checked (new_name_refusals c dir name (owner_refusals c.caller settings) ++ (has_most_links dir.inode.links, nospc) ∷ []) ≡ Ok allowed
        → let o = c.ordinal in let new = new_directory c settings dir.id in
        R (insert (insert m dir.id (with_link c.time (with_name c name o dir.inode))) o new, found o (attributes_of o new)) (insert (insert n dir.id (with_link c.time (with_name c name o dir.inode))) o new, found o (attributes_of o new))
    IfDone (remove_directory handle name) = (dir : FoundDirectory) (entry : Entry) (child : FoundInode) (empty : ⊤) → IsChildAt m c handle name dir entry child
        → checked ((not (is_directory_body child.inode.body), notdir) ∷ (has_entries child.inode.body, notempty) ∷ []) ≡ Ok empty
        → R (changed (remove (insert m dir.id (without_entry c.time name dir.inode)) child.id) dir.id (with_link_less c.time), done)
        (changed (remove (insert n dir.id (without_entry c.time name dir.inode)) child.id) dir.id (with_link_less c.time), done)
    IfDone (read_directory handle cookie count) = (dir : FoundDirectory) → directory_found m handle ≡ Ok dir
        → let reply = page_listed count (listed_behind cookie (all_listed dir.id dir.listing)) in R (m, reply) (n, reply)
    IfDone (file_system_status handle) = (x : FoundInode) → inode_found m handle ≡ Ok x → R (m, free_blocks (total_blocks - used_blocks m)) (n, free_blocks (total_blocks - used_blocks n))

    -- The table --------------------------------------------------------------------------------------------------------

    child_alike : (handle : Option ℕ) (name : List ℕ) (next further : FoundDirectory × FoundInode → Result Outcome Status) → SameAt handle → ChildIsSame c handle name
        → ((dir : FoundDirectory) (entry : Entry) (child : FoundInode) → IsChildAt m c handle name dir entry child → Alike R (next (dir, child)) (further (dir, child)))
        → Alike R (child_found m c handle name >>= next) (child_found n c handle name >>= further)
    child_alike handle name next further same child each =
        then_alike R (child_found m c handle name) _ next further (child_same c handle name same child) (λ x is.
        let at = child_at m c handle name x.0 x.1 is in each x.0 at.0 x.1 at.1)

    planned_alike : (from : Option ℕ) (from_name : List ℕ) (to : Option ℕ) (to_name : List ℕ) (plan : Option Renaming) → IsPlanned m c from from_name to to_name plan → IfDone (rename from from_name to to_name)
        → R (option_map_or (renamed m c from_name to_name) plan m, done) (option_map_or (renamed n c from_name to_name) plan n, done)
    planned_alike from from_name to to_name None p if_done = (if_done p.a p.b p.entry p.moved p.renamed_it).0
    planned_alike from from_name to to_name (Some r) p if_done =
        subst (λ k. R (renamed m c from_name to_name k, done) (renamed n c from_name to_name k, done)) p.planned.is
        ((if_done p.a p.b p.entry p.moved p.renamed_it).1 p.planned.replaced p.planned.allowed p.planned.onto p.planned.passed)

    pub attempts_alike : (call : Call) → LooksAlike c call → IfDone call → Alike R (attempted m c call) (attempted n c call)
    attempts_alike null looks if_done = if_done
    attempts_alike (get_attributes handle) looks if_done = then_alike R (inode_found m handle) _ _ _ (inode_same handle looks) (λ x is. if_done x is)
    attempts_alike (set_attributes handle settings) looks if_done =
        then_alike R (inode_found m handle) _ _ _ (inode_same handle looks) (λ x is.
        then_alike R (checked (set_refusals c x.inode settings)) _ _ _ refl (λ allowed passed. if_done x allowed is passed))
    attempts_alike root looks if_done = if_done
    attempts_alike (look_up handle name) looks if_done =
        then_alike R (directory_found m handle) _ _ _ (directory_same handle looks.0) (λ dir is.
        then_alike R (checked ((not (may_search c.caller dir.inode), acces) ∷ (is_no_name name, perm) ∷ [])) _ _ _ refl (λ good passed.
        let searches = let_by (may_search c.caller dir.inode) acces ((is_no_name name, perm) ∷ []) good passed in
        then_alike R (ok_or (child_named dir.id dir.listing name) noent) _ _ _ refl (λ id named.
        then_alike R (inode_found m (Some id)) _ _ _ (inode_same (Some id) (λ other same_id. looks.1 dir is searches other (was_there (child_named dir.id dir.listing name) noent id named ∙ same_id))) (λ x found_it.
        if_done x (inode_at m (Some id) x found_it).there))))
    attempts_alike (read_link handle) looks if_done =
        then_alike R (inode_found m handle) _ _ _ (inode_same handle looks) (λ x is.
        then_alike R (ok_or (path_in x.inode.body) perm) _ _ _ refl (λ target holds. if_done x target is (was_there (path_in x.inode.body) perm target holds)))
    attempts_alike (read handle offset count) looks if_done = then_alike R (file_found m handle) _ _ _ (file_same handle looks) (λ x is.
        then_alike R (checked ((not (may_read_file c.caller x.inode), acces) ∷ [])) _ _ _ refl (λ allowed passed. if_done x is))
    attempts_alike write_cache looks if_done = if_done
    attempts_alike (write handle offset written) looks if_done =
        then_alike R (file_found m handle) _ _ _ (file_same handle looks) (λ x is.
        then_alike R (checked ((not (may_write_file c.caller x.inode), acces) ∷ (nat_lt most_file_bytes (offset + length written), fbig) ∷ [])) _ _ _ refl (λ small passed. if_done x small is passed))
    attempts_alike (create handle name settings) looks if_done =
        then_alike R (directory_found m handle) _ _ _ (directory_same handle looks) (λ dir is.
        then_alike R (checked (new_name_refusals c dir name (owner_refusals c.caller settings) ++ (nat_lt most_file_bytes (unwrap_or settings.size 0), fbig) ∷ [])) _ _ _ refl (λ allowed passed. if_done dir allowed is passed))
    attempts_alike (remove_file handle name) looks if_done =
        child_alike handle name _ _ looks.0 looks.1 (λ dir entry child at.
        then_alike R (checked ((is_directory_body child.inode.body, isdir) ∷ [])) _ _ _ refl (λ plain passed. if_done dir entry child plain at passed))
    attempts_alike (rename from from_name to to_name) looks if_done =
        then_alike R (renaming_planned m c from from_name to to_name) _ _ _ (planned_same c from from_name to to_name looks) (λ plan is.
        planned_alike from from_name to to_name plan (planned_was m c from from_name to to_name plan is) if_done)
    attempts_alike (make_link handle in_directory name) looks if_done =
        then_alike R (inode_found m handle) _ _ _ (inode_same handle looks.0) (λ x is.
        then_alike R (checked ((is_directory_body x.inode.body, isdir) ∷ [])) _ _ _ refl (λ plain no_directory.
        then_alike R (directory_found m in_directory) _ _ _ (directory_same in_directory looks.1) (λ dir dir_is.
        then_alike R (checked (new_name_refusals c dir name [] ++ (has_most_links x.inode.links, nospc) ∷ [])) _ _ _ refl (λ allowed passed. if_done x plain dir allowed is no_directory dir_is passed))))
    attempts_alike (make_symbolic_link handle name target settings) looks if_done =
        then_alike R (directory_found m handle) _ _ _ (directory_same handle looks) (λ dir is.
        then_alike R (checked (new_name_refusals c dir name (owner_refusals c.caller settings))) _ _ _ refl (λ allowed passed. if_done dir allowed is passed))
    attempts_alike (make_directory handle name settings) looks if_done =
        then_alike R (directory_found m handle) _ _ _ (directory_same handle looks) (λ dir is.
        then_alike R (checked (new_name_refusals c dir name (owner_refusals c.caller settings) ++ (has_most_links dir.inode.links, nospc) ∷ [])) _ _ _ refl (λ allowed passed. if_done dir allowed is passed))
    attempts_alike (remove_directory handle name) looks if_done =
        child_alike handle name _ _ looks.0 looks.1 (λ dir entry child at.
        then_alike R (checked ((not (is_directory_body child.inode.body), notdir) ∷ (has_entries child.inode.body, notempty) ∷ [])) _ _ _ refl (λ empty passed. if_done dir entry child empty at passed))
    attempts_alike (read_directory handle cookie count) looks if_done = then_alike R (directory_found m handle) _ _ _ (directory_same handle looks) (λ dir is.
        then_alike R (checked ((not (may_read c.caller dir.inode), acces) ∷ [])) _ _ _ refl (λ allowed passed. if_done dir is))
    attempts_alike (file_system_status handle) looks if_done = then_alike R (inode_found m handle) _ _ _ (ap (λ k. inode_found k handle) looks) (λ x is. if_done x is)

-- One map ------------------------------------------------------------------------------------------------------------

module _ (m : Inodes) (c : Context) where
  looks_itself : (call : Call) → LooksAlike m m c call
  looks_itself null = tt
  looks_itself (get_attributes handle) = λ id is. refl
  looks_itself (set_attributes handle settings) = λ id is. refl
  looks_itself root = tt
  looks_itself (look_up handle name) = (λ id is. refl, λ dir at may id is. refl)
  looks_itself (read_link handle) = λ id is. refl
  looks_itself (read handle offset count) = λ id is. refl
  looks_itself write_cache = tt
  looks_itself (write handle offset written) = λ id is. refl
  looks_itself (create handle name settings) = λ id is. refl
  looks_itself (remove_file handle name) = (λ id is. refl, λ dir at may id is. refl)
  looks_itself (rename from from_name to to_name) = (λ id is. refl, λ id is. refl, λ a b a_is b_is from_may to_may. (λ id is. refl, λ id is. refl), λ r is moves. refl)
  looks_itself (make_link handle in_directory name) = (λ id is. refl, λ id is. refl)
  looks_itself (make_symbolic_link handle name target settings) = λ id is. refl
  looks_itself (make_directory handle name settings) = λ id is. refl
  looks_itself (remove_directory handle name) = (λ id is. refl, λ dir at may id is. refl)
  looks_itself (read_directory handle cookie count) = λ id is. refl
  looks_itself (file_system_status handle) = refl

  -- what is asked of what holds of outcomes: that it holds of what each call does
  abbrev pub IfItIsDone : (Outcome → Type 0) → Call → Type 0
  IfItIsDone P call = IfDone m m (λ one other. P one) c call

  or_refused_holds : (P : Outcome → Type 0) → ((status : Status) → P (m, refused status)) → (r : Result Outcome Status) → Alike (λ one other. P one) r r → P (or_refused m r)
  or_refused_holds P refusal (Ok outcome) alike = alike
  or_refused_holds P refusal (Err status) alike = refusal status

  -- what holds of each refusal, and of what a call does, holds of its outcome
  pub procedure_holds : (P : Outcome → Type 0) → ((status : Status) → P (m, refused status)) → (call : Call) → IfItIsDone P call → P (procedure m c call)
  procedure_holds P refusal call if_done = or_refused_holds P refusal (attempted m c call) (attempts_alike m m (λ one other. P one) c call (looks_itself call) if_done)

  -- The inodes alone ---------------------------------------------------------------------------------------------------

  -- what is asked of what holds of inodes: that it holds of what each call that changes some leaves
  abbrev pub IfChanged : (Inodes → Type 0) → Call → Type 0
  IfChanged Q (set_attributes handle settings) = IfItIsDone (λ outcome. Q outcome.0) (set_attributes handle settings)
  IfChanged Q (write handle offset written) = IfItIsDone (λ outcome. Q outcome.0) (write handle offset written)
  IfChanged Q (create handle name settings) = IfItIsDone (λ outcome. Q outcome.0) (create handle name settings)
  IfChanged Q (remove_file handle name) = IfItIsDone (λ outcome. Q outcome.0) (remove_file handle name)
  IfChanged Q (rename from from_name to to_name) = (a b : FoundDirectory) (entry : Entry) (moved : FoundInode) → IsRenamed m c from from_name to to_name a b entry moved
      → (replaced : Option Replaced) (allowed : ⊤) → IsOnto m moved (entry_named to_name b.listing.entries) replaced → checked (renaming_refusals m c (renaming_of a b moved replaced)) ≡ Ok allowed
      → Q (renamed m c from_name to_name (renaming_of a b moved replaced))
  IfChanged Q (make_link handle in_directory name) = IfItIsDone (λ outcome. Q outcome.0) (make_link handle in_directory name)
  IfChanged Q (make_symbolic_link handle name target settings) = IfItIsDone (λ outcome. Q outcome.0) (make_symbolic_link handle name target settings)
  IfChanged Q (make_directory handle name settings) = IfItIsDone (λ outcome. Q outcome.0) (make_directory handle name settings)
  IfChanged Q (remove_directory handle name) = IfItIsDone (λ outcome. Q outcome.0) (remove_directory handle name)
  IfChanged Q call = Unit {0}

  done_where_changed : (Q : Inodes → Type 0) → Q m → (call : Call) → IfChanged Q call → IfItIsDone (λ outcome. Q outcome.0) call
  done_where_changed Q held null changes = held
  done_where_changed Q held (get_attributes handle) changes = λ x is. held
  done_where_changed Q held (set_attributes handle settings) changes = changes
  done_where_changed Q held root changes = held
  done_where_changed Q held (look_up handle name) changes = λ x is. held
  done_where_changed Q held (read_link handle) changes = λ x target is holds. held
  done_where_changed Q held (read handle offset count) changes = λ x is. held
  done_where_changed Q held write_cache changes = held
  done_where_changed Q held (write handle offset written) changes = changes
  done_where_changed Q held (create handle name settings) changes = changes
  done_where_changed Q held (remove_file handle name) changes = changes
  done_where_changed Q held (rename from from_name to to_name) changes = λ a b entry moved at. (held, changes a b entry moved at)
  done_where_changed Q held (make_link handle in_directory name) changes = changes
  done_where_changed Q held (make_symbolic_link handle name target settings) changes = changes
  done_where_changed Q held (make_directory handle name settings) changes = changes
  done_where_changed Q held (remove_directory handle name) changes = changes
  done_where_changed Q held (read_directory handle cookie count) changes = λ dir is. held
  done_where_changed Q held (file_system_status handle) changes = λ x is. held

  -- what holds of the inodes before, and of what each call leaves, holds of those after it
  pub kept : (Q : Inodes → Type 0) → Q m → (call : Call) → IfChanged Q call → Q (procedure m c call).0
  kept Q held call changes = procedure_holds (λ outcome. Q outcome.0) (λ status. held) call (done_where_changed Q held call changes)
