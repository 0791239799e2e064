use Rattle.std.proofs.Common.{◌∙◌}
use Rattle.rayon.proofs.ListFacts.{IfOk-then}
use Rattle.bfs_auth.proofs.Public.{all_given}
use Rattle.bfs_node.specs.Executing.{reply_to, told}
use Rattle.bfs_node.proofs.node.Node.replies_to.Goals as goal

pub returns : goal.returns
returns g c =
    rw (← c.self.view_is)
    (IfOk-then c.gather.result _ _ c.gather.ensures (λ all h.
    h.1 ∙ all_given (λ answer. told c.self.inside.keys (reply_to c.self.inside.order answer)) c.args.answers.now c.in_ok-each.each.items c.in_ok-each.ensures h.0))
