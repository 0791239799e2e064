use Rattle.std.proofs.Common.{◌∙◌, arith}
use Rattle.bfs_view_change.proofs.Steps.{first_then}
use Rattle.bfs_view_change.proofs.choice.+best_from.Goals as goal

pub returns-in_ok-best-in-len1-up : goal.returns-in_ok-best-in-len1-up
returns-in_ok-best-in-len1-up t c =
    c.in_ok-best-in-len1-up.ensures ∙ first_then c.args.number _ _ c.args.changes.now c.first-item.result c.sender.result c.certificates.result.now (omega (arith, c.in-len1-up.len_at_least)) c.first-item.is c.sender.ensures c.certificates.ensures.value c.in_ok-found-in-len1-up.ensures
