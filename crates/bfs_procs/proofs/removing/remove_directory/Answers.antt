use Rattle.std.proofs.Common.{◌≡◌, Err, refl, sym, arith}
use Rattle.std.proofs.lemmas.Grind.{common_steps}
use Rattle.bfs_wire.specs.Replies.{status_seen}
use Rattle.bfs_procs.specs.declared.not_done.NotDone.TheVariants.{Refused}
use Rattle.bfs_procs.proofs.Checks.{directory_not_removed}
use Rattle.bfs_procs.proofs.removing.remove_directory.Goals as goal

pub returns-in_err-id-clause-done : goal.returns-in_err-id-clause-done
returns-in_err-id-clause-done g c =
    let found = c.in-Ok.found in
    let is = c.in-Ok.ensures in
    let given : c.from_residual.result ≡ Err (Refused c.in_err-id.field-0.0) = grind (arith, common_steps) in
    rw given (
      directory_not_removed (g.S.Store.inodes c.args.store.now) c.args.context.now c.args.dir c.args.name.now found.id found.inode.now found.directory.now (status_seen c.in_err-id.field-0.0) is.led is.there is.holds (sym c.in_err-id.ensures),
      refl,
    )
