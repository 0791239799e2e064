use Rattle.std.proofs.Common.{ap, ◌∙◌}
use Rattle.rayon.proofs.ListFacts.{IfOk-then}
use Rattle.bfs_auth.proofs.Public.{each_answered}
use Rattle.bfs_messages.specs.Signing.{is_signed}
use Rattle.bfs_node.proofs.requests.are_signed.Goals as goal

pub returns : goal.returns
returns g c =
    let slice = ap (λ it. it.base.slice.now) c.map_init.ensures.base ∙ ap (λ it. it.slice.now) c.with_min_len.ensures.base ∙ c.par_iter.ensures in
    IfOk-then c.collect.result _ _ c.collect.ensures (λ v h.
    let chain = rw (c.map_init.ensures.f) at h.1 in
    h.2 ∙ each_answered _ chain.0 c.args.messages.now (chain.1 ∙ slice) (is_signed c.args.keys.now) h.0 chain.2)
