use Rattle.std.proofs.Common.{◌∙◌, ◌++◌, List, length, take, sym, ap}
use Rattle.std.proofs.Math.Seq.{take-append_seam}
use Rattle.std.proofs.lemmas.List.Elements.{filter-append}
use Rattle.std.proofs.lemmas.Result.{err_from_is_err_and}
use Rattle.std.specs.Prelude.{filter}
use Rattle.bfs_clients.specs.Tallies.{Tally, waits}
use Rattle.bfs_clients.proofs.tallies.Tallies.append_waiting.Goals as goal

-- those so far are the first ones
pub returns-in_err-push-clause-err : goal.returns-in_err-push-clause-err
returns-in_err-push-clause-err c =
    let before : List Tally = c.loop-tally.yielded in
    let p = err_from_is_err_and c.from_residual.result c.from_residual.ensures.1 in
    rw p.1 (
      length (filter waits before),
      c.in_err-push.ensures.err ∙ c.loop-tally.invariant.so_far
          ∙ ap (λ (first : List Tally). c.args.self.now ++ first)
          (sym (take-append_seam (filter waits before) (filter waits c.loop-tally.tally-iterator.rest.items)) ∙ ap (take (length (filter waits before))) (sym (ap (filter waits) c.loop-tally.invariant.left ∙ filter-append waits before c.loop-tally.tally-iterator.rest.items))),
    )
