use Rattle.std.proofs.Common.{sym, arith}
use Rattle.bfs_signatures.specs.Signature.{most_height}
use Rattle.bfs_signatures.proofs.Heights.{least_is}
use Rattle.bfs_signatures.proofs.tree.height_for.Goals as goal

pub returns : goal.returns
returns c =
    let l = c.loop-height in
    sym (least_is most_height c.args.count l.height l.invariant.few (omega arith) l.invariant.below)
