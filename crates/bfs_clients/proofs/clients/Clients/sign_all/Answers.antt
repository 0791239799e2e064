use Rattle.std.proofs.Common.{◌∙◌}
use Rattle.rayon.proofs.ListFacts.{IfOk-then}
use Rattle.bfs_clients.specs.Clients.{signed_request}
use Rattle.bfs_auth.proofs.Public.{all_given}
use Rattle.bfs_clients.proofs.clients.Clients.sign_all.Goals as goal

pub returns : goal.returns
returns g c =
    IfOk-then c.gather.result _ _ c.gather.ensures (λ all h.
    h.1 ∙ all_given (signed_request c.args.self.now) c.args.requests.now c.in_ok-each.each.items c.in_ok-each.ensures h.0)
