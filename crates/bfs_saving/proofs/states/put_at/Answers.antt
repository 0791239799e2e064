use Rattle.std.proofs.Common.{length, ap, arith}
use Rattle.std.proofs.lemmas.Slice.{drop-put_mid}
use Rattle.bfs_saving.proofs.states.put_at.Goals as goal

pub returns-clause-behind : goal.returns-clause-behind
returns-clause-behind c =
    let long = ap length c.copy_from_slice.ensures.after in
    drop-put_mid c.args.place _ c.args.bytes.now c.copy_from_slice.new.self _ (omega arith) (omega arith) (omega (arith, long))
