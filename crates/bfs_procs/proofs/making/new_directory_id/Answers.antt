use Rattle.std.proofs.Common.{◌≡◌, Bool, List, [], ◌∷◌, Err, sym, arith}
use Rattle.std.proofs.lemmas.Grind.{common_steps}
use Rattle.bfs_model.specs.Bytes.Replies.{Status, nospc}
use Rattle.bfs_model.specs.Server.Access.{owner_refusals}
use Rattle.bfs_model.specs.Server.Procedures.Making.{new_name_refusals}
use Rattle.bfs_model.specs.Server.Refusals.{checked, has_most_links}
use Rattle.bfs_procs.specs.Borrowed.{found_seen}
use Rattle.bfs_wire.specs.Replies.{status_seen}
use Rattle.bfs_procs.proofs.Checks.{refused_first}
use Rattle.bfs_procs.proofs.making.new_directory_id.Goals as goal

pub returns-in_err-id-clause-checked : goal.returns-in_err-id-clause-checked
returns-in_err-id-clause-checked c =
    let tests : List (Bool × Status) = new_name_refusals c.args.context.now (found_seen c.args.dir.now) c.args.name.now (owner_refusals c.args.context.now.caller c.args.settings.now) in
    let refused : checked tests ≡ Err (status_seen c.in_err-id.field-0.0) = sym c.in_err-id.ensures.checked in
    let given : c.from_residual.result ≡ Err c.in_err-id.field-0.0 = grind (arith, common_steps) in
    rw given (sym (refused_first tests ((has_most_links c.args.dir.now.inode.now.links, nospc) ∷ []) (status_seen c.in_err-id.field-0.0) refused))
