use Rattle.std.proofs.Common.{sym}
use Rattle.std.proofs.lemmas.List.{map-id}
use Rattle.std.proofs.lemmas.Result.{err_from_is_err_and}
use Rattle.bfs_clients.proofs.tallies.Tallies.add_all.Goals as goal

pub returns-in_err-passes-clause-err : goal.returns-in_err-passes-clause-err
returns-in_err-passes-clause-err g c =
    let p = err_from_is_err_and c.from_residual.result c.from_residual.ensures.1 in
    rw p.1 (0, sym (map-id c.args.self.now))
