-- What a store knows of a call that asks whether a directory lets its caller in.
use Rattle.std.proofs.Common.{◌≡◌, ℕ, Bool, true, false, not, ◌&&◌, ◌||◌, IsTrue, List, [], ◌∷◌, ◌++◌, if◌then◌else◌, Option, Some, option_and_then, refl}
use Rattle.std.specs.FinMap.{get}
use Rattle.std.specs.List.{AllByRecursion}
use Rattle.bfs_model.specs.Bytes.Call.{Credential}
use Rattle.bfs_model.specs.Server.Access.{may_change_entries}
use Rattle.bfs_model.specs.Server.Tree.{Inode, Inodes, is_directory, is_directory_body}
use Rattle.bfs_model.specs.Bytes.Arguments.{rename}
use Rattle.bfs_model.specs.Server.Context.{Context}
use Rattle.bfs_model.specs.Server.Footprints.{known, whole, ids_in, child_at, lets, lets_rename, moves_a_directory, footprint}
use Rattle.bfs_tree.specs.Reach.{Reach, Knows}
use Rattle.bfs_procs.proofs.Fresh.{both, led_to}

or_true : (b : Bool) → (b || true) ≡ true
or_true true = refl
or_true false = refl

module _ (m : Inodes) (caller : Credential) where
  -- who may do it is let in
  pub let_in : (may : Credential → Inode → Bool) (handle : Option ℕ) (id : ℕ) (inode : Inode) → handle ≡ Some id → get m id ≡ Some inode → may caller inode ≡ true → lets may caller (option_and_then (get m) handle) ≡ true
  let_in may handle id inode led there granted = rw (led, there, granted) (or_true (not (is_directory_body inode.body)))

  pub let_in_both : (from to : Option ℕ) → lets may_change_entries caller (option_and_then (get m) from) ≡ true → lets may_change_entries caller (option_and_then (get m) to) ≡ true → lets_rename m caller from to ≡ true
  let_in_both from to let_from let_to = rw (let_from, let_to) (or_true (not (is_directory (option_and_then (get m) from) && is_directory (option_and_then (get m) to))))

module _ (reach : Reach) (knows_owned : (id : ℕ) → reach.owned id ≡ true → reach.known id ≡ true) where
  abbrev IsKnown : ℕ → Type 0
  IsKnown id = IsTrue (reach.known id)

  abbrev IsOwned : ℕ → Type 0
  IsOwned id = IsTrue (reach.owned id)

  all_known : (ids : List ℕ) → AllByRecursion IsOwned ids → AllByRecursion IsKnown ids
  all_known [] all = tt
  all_known (id ∷ ids) all = (knows_owned id all.0, all_known ids all.1)

  -- whether its caller is let in or not, RENAME reads both directories
  renamed_in : (let_in moves : Bool) (dirs moved replaced : List ℕ) → (reach.whole ≡ true → (id : ℕ) → reach.known id ≡ true)
      → Knows reach (if not let_in then known dirs [] else if moves then whole else known [] (dirs ++ moved ++ replaced)) → AllByRecursion IsKnown dirs
  renamed_in false moves dirs moved replaced knows_all knows = knows.0
  renamed_in true true dirs moved replaced knows_all knows = each dirs
    where
      each : (ids : List ℕ) → AllByRecursion IsKnown ids
      each [] = tt
      each (id ∷ ids) = (knows_all knows id, each ids)
  renamed_in true false dirs moved replaced knows_all knows = all_known dirs (both IsOwned dirs moved (both IsOwned (dirs ++ moved) replaced knows.1).0).0

  module _ (m : Inodes) (c : Context) (from : Option ℕ) (from_name : List ℕ) (to : Option ℕ) (to_name : List ℕ) (id : ℕ) (knows_all : reach.whole ≡ true → (at : ℕ) → reach.known at ≡ true)
      (knows : Knows reach (footprint m c (rename from from_name to to_name))) where
    dirs_known : AllByRecursion IsKnown (ids_in from ++ ids_in to)
    dirs_known = renamed_in (lets_rename m c.caller from to) (moves_a_directory m from from_name to) (ids_in from ++ ids_in to) (ids_in (child_at m from from_name)) (ids_in (child_at m to to_name)) knows_all knows

    pub renamed_from : from ≡ Some id → IsKnown id
    renamed_from led = led_to IsKnown from (both IsKnown (ids_in from) (ids_in to) dirs_known).0 id led

    pub renamed_to : to ≡ Some id → IsKnown id
    renamed_to led = led_to IsKnown to (both IsKnown (ids_in from) (ids_in to) dirs_known).1 id led
