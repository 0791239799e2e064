use Rattle.std.proofs.Common.{◌+◌, ◌-◌, sym, ◌∙◌, arith}
use Rattle.std.proofs.lemmas.Result.{err_from_is_err_and}
use Rattle.bfs_codec.proofs.Passed.{all_passed, one_missing, one_passed}
use Rattle.bfs_codec.proofs.reader.MessageReader.skip_parts.Goals as goal

pub returns-in_err-skip : goal.returns-in_err-skip
returns-in_err-skip g c =
    let p = err_from_is_err_and c.from_residual.result c.from_residual.ensures.1 in
    rw p.1 (sym c.loop-part.invariant ∙ one_missing g.T.Read.from (c.args.count - c.loop-part._part) (c.args.count - (c.loop-part._part + 1)) c.loop-part.self (omega arith) c.in_err-skip.ensures)

pub loop-part-preserved : goal.loop-part-preserved
loop-part-preserved g c =
    sym (one_passed g.T.Read.from (c.args.count - c.loop-part._part) (c.args.count - (c.loop-part._part + 1)) c.loop-part.self c.skip.new.reader (omega arith) c.in_ok-skip.ensures) ∙ c.loop-part.invariant

pub returns : goal.returns
returns g c = sym c.loop-part.invariant ∙ all_passed g.T.Read.from (c.args.count - c.loop-part._part) c.loop-part.self (omega arith)
