use Rattle.std.proofs.Common.{ap, ◌∙◌}
use Rattle.rayon.proofs.ToStd.{slice-map}
use Rattle.bfs_clients.specs.Tallies.{is_signed_reply}
use Rattle.bfs_clients.proofs.clients.Clients.are_signed.Goals as goal

pub returns : goal.returns
returns g c =
    let slice = ap (λ it. it.base.slice.now) c.map.ensures.base ∙ ap (λ it. it.slice.now) c.with_min_len.ensures.base ∙ c.par_iter.ensures in
    let given = c.in_ok-answers.ensures in
    let chain = rw (c.map.ensures.f) at given.1 in
    given.2 ∙ slice-map chain.0 c.args.messages.now (chain.1 ∙ slice) (is_signed_reply c.args.self.now) given.0 chain.2
