-- A call that does not rewrite a file leaves its bytes as they are.
use Rattle.std.proofs.Common.{◌≡◌, ℕ, ◌==◌, ◌&&◌, Bool, true, false, List, [], ◌∷◌, ◌++◌, Option, Some, None, is_some, unwrap_or, Result, Ok, nat_lt, not, ap, arith}
use Rattle.std.specs.Bool.{⊤}
use Rattle.std.specs.Cmp.{nat_cmp_total}
use Rattle.std.specs.FinMap.{get, insert, remove, get-insert, get-remove, nat_cmp-IsAntisymmetric}
use Rattle.std.specs.Option.{option_map_or}
use Rattle.std.proofs.lemmas.Map.Views.{tells_apart}
use Rattle.bfs_model.specs.Bytes.Arguments.{Call, Settings, set_attributes, write, create, remove as remove_file, rename, make_link, make_symbolic_link, make_directory, remove_directory}
use Rattle.bfs_model.specs.Bytes.Items.{◌>>=◌}
use Rattle.bfs_model.specs.Bytes.Replies.{Reply, Status, done, fbig, isdir, nospc, notdir, notempty}
use Rattle.bfs_model.specs.Server.Access.{owner_refusals}
use Rattle.bfs_model.specs.Server.Changes.{with_listing, with_settings, without_entry, with_link, with_link_less, changed, link_lost}
use Rattle.bfs_model.specs.Server.Context.{Context}
use Rattle.bfs_model.specs.Server.Limits.{most_file_bytes}
use Rattle.bfs_model.specs.Server.Procedures.{attempted}
use Rattle.bfs_model.specs.Server.Procedures.Attributes.{set_refusals}
use Rattle.bfs_model.specs.Server.Procedures.Making.{new_directory, new_file, new_name_refusals, new_symbolic_link, with_name}
use Rattle.bfs_model.specs.Server.Procedures.Removing.{child_found, has_entries}
use Rattle.bfs_model.specs.Server.Procedures.Renaming.{Renaming, Replaced, moved_below, name_cleared, name_lost, renamed, renaming_planned}
use Rattle.bfs_model.specs.Server.Refusals.{FoundDirectory, FoundInode, Outcome, checked, directory_found, has_most_links, inode_found}
use Rattle.bfs_model.specs.Server.Tree.{Body, Inode, Inodes, Listing, Time, file, is_directory_body}
use Rattle.bfs_one_server.specs.Reading.{rewrites}

-- what has a fileid, if anything, is a file of these bytes
pub record Keeps (id : ℕ) (bytes : List ℕ) (m : Inodes) : Type 0 where
  pub body : (inode : Inode) → get m id ≡ Some inode → inode.body ≡ file bytes

module _ (id : ℕ) (bytes : List ℕ) where
  -- Changes ----------------------------------------------------------------------------------------------------------------

  inserted : (m : Inodes) → Keeps id bytes m → (k : ℕ) (v : Inode) → (k ≡ id → v.body ≡ file bytes) → Keeps id bytes (insert m k v)
  inserted m held k v new = record { body = λ inode there. grind (arith, held.body, get-insert nat_cmp_total m k v id, tells_apart nat_cmp-IsAntisymmetric id k) }

  removed : (m : Inodes) → Keeps id bytes m → (k : ℕ) → Keeps id bytes (remove m k)
  removed m held k = record { body = λ inode there. grind (arith, held.body, get-remove nat_cmp_total m k id) }

  changed_keeps : (m : Inodes) → Keeps id bytes m → (k : ℕ) (change : Inode → Inode) → ((inode : Inode) → inode.body ≡ file bytes → (change inode).body ≡ file bytes) → Keeps id bytes (changed m k change)
  unfolding changed
  changed_keeps m held k change spares = record { body = λ inode there. grind (arith, held.body, λ (v : Inode). get-insert nat_cmp_total m k v id, tells_apart nat_cmp-IsAntisymmetric id k) }

  lost_keeps : (m : Inodes) → Keeps id bytes m → (now : Time) (k : ℕ) → Keeps id bytes (link_lost m now k)
  unfolding link_lost
  lost_keeps m held now k =
      record { body = λ inode there. grind (arith, held.body, λ (v : Inode). get-insert nat_cmp_total m k v id, get-remove nat_cmp_total m k id, tells_apart nat_cmp-IsAntisymmetric id k) }

  listing_spared : (change : Listing → Listing) (body : Body) → body ≡ file bytes → with_listing change body ≡ file bytes
  listing_spared change body is = ap (with_listing change) is

  settings_spare : (now : Time) (settings : Settings) (x : Inode) → is_some settings.size ≡ false → x.body ≡ file bytes → (with_settings now settings x).body ≡ file bytes
  settings_spare now settings x none is = grind arith

  name_lost_keeps : (m : Inodes) → Keeps id bytes m → (c : Context) (dir k : ℕ) (is_directory : Bool) → Keeps id bytes (name_lost m c dir k is_directory)
  name_lost_keeps m held c dir k true = search (changed_keeps, removed)
  name_lost_keeps m held c dir k false = lost_keeps m held c.time k

  cleared_keeps : (m : Inodes) → Keeps id bytes m → (c : Context) (dir : ℕ) (name : List ℕ) (old : Option Replaced) → Keeps id bytes (name_cleared m c dir name old)
  cleared_keeps m held c dir name None = held
  cleared_keeps m held c dir name (Some old) = search (changed_keeps, listing_spared, name_lost_keeps)

  below_keeps : (m : Inodes) → Keeps id bytes m → (c : Context) (from to moved : ℕ) (moves : Bool) → Keeps id bytes (moved_below m c from to moved moves)
  below_keeps m held c from to moved false = held
  below_keeps m held c from to moved true = search (changed_keeps, listing_spared)

  renamed_keeps : (m : Inodes) → Keeps id bytes m → (c : Context) (from_name to_name : List ℕ) (plan : Option Renaming) → Keeps id bytes (option_map_or (renamed m c from_name to_name) plan m)
  renamed_keeps m held c from_name to_name None = held
  renamed_keeps m held c from_name to_name (Some r) = search (changed_keeps, listing_spared, cleared_keeps, below_keeps) depth 8

  -- Calls, under an ordinal that is not the file's ------------------------------------------------------------------------------

  module _ (m : Inodes) (c : Context) (held : Keeps id bytes m) (older : c.ordinal ≡ id → ⊥) where
    -- what was found, what it has to pass, and what is left then
    step : {X : Type 0} (found : Result X Status) (test : X → Result ⊤ Status) (after : X → Inodes) (reply : X → Reply) (x : Outcome)
        → ((y : X) → found ≡ Ok y → Keeps id bytes (after y)) → (found >>= λ y. test y >>= λ passed. Ok (after y, reply y)) ≡ Ok x → Keeps id bytes x.0
    step found test after reply x each is = grind (arith, each)

    set : (at : ℕ) (settings : Settings) (old : FoundInode) → ((at == id) && is_some settings.size) ≡ false → inode_found m (Some at) ≡ Ok old → Keeps id bytes (insert m old.id (with_settings c.time settings old.inode))
    set at settings old spares is = grind (arith, held.body, inserted, settings_spare)

    -- a directory is none of the file
    entered : (handle : Option ℕ) (dir : FoundDirectory) (v new : Inode) → directory_found m handle ≡ Ok dir → Keeps id bytes (insert (insert m dir.id v) c.ordinal new)
    entered handle dir v new is = grind (arith, held.body, inserted)

    left : (handle : Option ℕ) (name : List ℕ) (x : FoundDirectory × FoundInode) (v : Inode) → child_found m c handle name ≡ Ok x → Keeps id bytes (insert m x.0.id v)
    left handle name x v is = grind (arith, held.body, inserted)

    linked : (handle into : Option ℕ) (plain : FoundInode → Result ⊤ Status) (test : FoundInode → FoundDirectory → Result ⊤ Status) (v : FoundInode → FoundDirectory → Inode) (x : Outcome)
        → (inode_found m handle >>= λ old. plain old >>= λ allowed. directory_found m into >>= λ dir. test old dir >>= λ passed. Ok (changed (insert m dir.id (v old dir)) old.id (with_link c.time), done)) ≡ Ok x → Keeps id bytes x.0
    linked handle into plain test v x is = grind (arith, held.body, inserted, changed_keeps)

    pub attempt_keeps : (call : Call) → rewrites id call ≡ false → (x : Outcome) → attempted m c call ≡ Ok x → Keeps id bytes x.0
    attempt_keeps (set_attributes None settings) spares x is = grind arith
    attempt_keeps (set_attributes (Some at) settings) spares x is = step (inode_found m (Some at)) (λ old. checked (set_refusals c old.inode settings)) _ _ x (λ old found. set at settings old spares found) is
    attempt_keeps (write None offset written) spares x is = grind arith
    attempt_keeps (write (Some at) offset written) spares x is = grind (arith, held.body, inserted)
    attempt_keeps (create handle name settings) spares x is =
        step (directory_found m handle) (λ dir. checked (new_name_refusals c dir name (owner_refusals c.caller settings) ++ (nat_lt most_file_bytes (unwrap_or settings.size 0), fbig) ∷ [])) _ _ x
        (λ dir found. entered handle dir (with_name c name c.ordinal dir.inode) (new_file c settings) found) is
    attempt_keeps (make_symbolic_link handle name path settings) spares x is =
        step (directory_found m handle) (λ dir. checked (new_name_refusals c dir name (owner_refusals c.caller settings))) _ _ x
        (λ dir found. entered handle dir (with_name c name c.ordinal dir.inode) (new_symbolic_link c settings path) found) is
    attempt_keeps (make_directory handle name settings) spares x is =
        step (directory_found m handle) (λ dir. checked (new_name_refusals c dir name (owner_refusals c.caller settings) ++ (has_most_links dir.inode.links, nospc) ∷ [])) _ _ x
        (λ dir found. entered handle dir (with_link c.time (with_name c name c.ordinal dir.inode)) (new_directory c settings dir.id) found) is
    attempt_keeps (remove_file handle name) spares x is =
        step (child_found m c handle name) (λ y. checked ((is_directory_body y.1.inode.body, isdir) ∷ [])) _ _ x
        (λ y found. lost_keeps _ (left handle name y (without_entry c.time name y.0.inode) found) c.time y.1.id) is
    attempt_keeps (remove_directory handle name) spares x is =
        step (child_found m c handle name) (λ y. checked ((not (is_directory_body y.1.inode.body), notdir) ∷ (has_entries y.1.inode.body, notempty) ∷ [])) _ _ x
        (λ y found. changed_keeps _ (removed _ (left handle name y (without_entry c.time name y.0.inode) found) y.1.id) y.0.id (with_link_less c.time) (λ inode same. same)) is
    attempt_keeps (rename from from_name to to_name) spares x is =
        step (renaming_planned m c from from_name to to_name) (λ plan. Ok tt) _ _ x (λ plan found. renamed_keeps m held c from_name to_name plan) is
    attempt_keeps (make_link handle into name) spares x is =
        linked handle into (λ old. checked ((is_directory_body old.inode.body, isdir) ∷ [])) (λ old dir. checked (new_name_refusals c dir name [] ++ (has_most_links old.inode.links, nospc) ∷ []))
        (λ old dir. with_name c name old.id dir.inode) x is
    attempt_keeps call spares x is = grind arith
