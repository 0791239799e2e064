use Rattle.std.proofs.Common.{◌+◌, ◌-◌, [], ◌∷◌, ap, length, length-append, arith}
use Rattle.std.proofs.lemmas.Result.{err_from_is_err_and}
use Rattle.bfs_model.proofs.Public.{turn, turn_none, turns_done}
use Rattle.bfs_codec.specs.Parts.{digest_from}
use Rattle.bfs_codec.proofs.parts.read_entries.Goals as goal

pub returns-in_err-digest : goal.returns-in_err-digest
returns-in_err-digest c =
    let p = err_from_is_err_and c.from_residual.result c.from_residual.ensures.1 in
    rw (p.1, p.2) (turn_none digest_from (c.args.count - c.loop-entry._entry) (c.args.count - (c.loop-entry._entry + 1)) c.loop-entry.reader c.loop-entry.hashes _ (omega arith) c.in_err-digest.ensures c.loop-entry.invariant.1)

pub loop-entry-preserved : goal.loop-entry-preserved
loop-entry-preserved c =
    let e = c.in_ok-push.ensures.ok in
    let x = c.in_ok-digest.field-0 in (
      omega (arith, ap length e, length-append c.loop-entry.hashes (x ∷ []), c.loop-entry.invariant.0),
      rw e (turn digest_from (c.args.count - c.loop-entry._entry) (c.args.count - (c.loop-entry._entry + 1)) c.loop-entry.reader c.loop-entry.hashes x c.digest.new.self _ (omega arith) c.in_ok-digest.ensures c.loop-entry.invariant.1),
    )

pub returns : goal.returns
returns c = turns_done digest_from (c.args.count - c.loop-entry._entry) 0 c.loop-entry.reader c.loop-entry.hashes _ (omega arith) c.loop-entry.invariant.1
