use Rattle.std.proofs.Common.{◌+◌, ◌-◌, [], ◌∷◌, ap, length, length-append, arith}
use Rattle.std.proofs.lemmas.Result.{err_from_is_err_and}
use Rattle.bfs_model.proofs.Public.{turn, turns_done}
use Rattle.bfs_codec.proofs.Loops.{fails}
use Rattle.bfs_codec.proofs.reader.MessageReader.parts.Goals as goal

pub returns-in_err-read-clause-read : goal.returns-in_err-read-clause-read
returns-in_err-read-clause-read g c =
    let p = err_from_is_err_and c.from_residual.result c.from_residual.ensures.1 in
    rw (p.1, p.2) (fails g.T.Read.from c.in_err-read.field-0.0 (c.args.count - c.loop-part._part) (c.args.count - (c.loop-part._part + 1)) c.loop-part.self c.loop-part.parts.items _ (omega arith) c.in_err-read.ensures c.loop-part.invariant.1)

pub loop-part-preserved : goal.loop-part-preserved
loop-part-preserved g c =
    let e = c.in_ok-push.ensures.items in
    let x = c.in_ok-read.field-0 in (
      omega (arith, ap length e, length-append c.loop-part.parts.items (x ∷ []), c.loop-part.invariant.0),
      rw e (turn g.T.Read.from (c.args.count - c.loop-part._part) (c.args.count - (c.loop-part._part + 1)) c.loop-part.self c.loop-part.parts.items x c.read.new.reader _ (omega arith) c.in_ok-read.ensures c.loop-part.invariant.1),
    )

pub returns-clause-read : goal.returns-clause-read
returns-clause-read g c = turns_done g.T.Read.from (c.args.count - c.loop-part._part) 0 c.loop-part.self c.loop-part.parts.items _ (omega arith) c.loop-part.invariant.1
