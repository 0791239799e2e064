use Rattle.std.proofs.Common.{◌≡◌, Bool, not, List, [], ◌∷◌, ◌++◌, length, is_some, Err, sym, arith}
use Rattle.std.proofs.lemmas.Grind.{common_steps}
use Rattle.bfs_model.specs.Bytes.Replies.{Status, perm, acces, exist, nospc}
use Rattle.bfs_model.specs.Server.Access.{may_change_entries}
use Rattle.bfs_model.specs.Server.Directories.{is_bad_name, entry_named}
use Rattle.bfs_model.specs.Server.Refusals.{checked, is_spent, is_full, has_most_links}
use Rattle.bfs_wire.specs.Replies.{status_seen}
use Rattle.bfs_procs.proofs.Checks.{refused_first}
use Rattle.bfs_procs.proofs.making.takes_link.Goals as goal

pub returns-in_err-takes_name-clause-checked : goal.returns-in_err-takes_name-clause-checked
returns-in_err-takes_name-clause-checked c =
    let tests : List (Bool × Status) = (not (may_change_entries c.args.context.now.caller c.args.dir.now.inode.now), acces) ∷ (is_bad_name c.args.name.now, perm) ∷ (is_some (entry_named c.args.name.now c.args.dir.now.directory.now.entries), exist) ∷ [] in
    let more : List (Bool × Status) = (is_spent c.args.context.now.ordinal, nospc) ∷ (is_full (length c.args.dir.now.directory.now.entries), nospc) ∷ [] ++ (has_most_links c.args.links, nospc) ∷ [] in
    let refused : checked tests ≡ Err (status_seen c.in_err-takes_name.field-0.0) = sym c.in_err-takes_name.ensures.checked in
    let given : c.from_residual.result ≡ Err c.in_err-takes_name.field-0.0 = grind (arith, common_steps) in
    rw given (sym (refused_first tests more (status_seen c.in_err-takes_name.field-0.0) refused))
