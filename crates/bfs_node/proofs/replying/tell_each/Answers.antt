use Rattle.std.proofs.Common.{◌≡◌, ap, ◌∙◌}
use Rattle.std.specs.Prelude.{IfOk}
use Rattle.rayon.proofs.ListFacts.{IfOk-then}
use Rattle.rayon.proofs.ToStd.{slice-AllZip}
use Rattle.bfs_node.specs.Executing.{reply_to, told}
use Rattle.bfs_node.proofs.replying.tell_each.Goals as goal

pub returns : goal.returns
returns g c =
    let slice = ap (λ it. it.base.slice.now) c.map.ensures.base ∙ ap (λ it. it.slice.now) c.with_min_len.ensures.base ∙ c.par_iter.ensures in
    IfOk-then c.collect.result _ _ c.collect.ensures (λ v h.
    let chain = rw (c.map.ensures.f) at h.1 in
    rw h.2 (slice-AllZip chain.0 c.args.answers.now (chain.1 ∙ slice) (λ answer one. IfOk one (λ signed. signed ≡ told c.args.keys.now (reply_to c.args.order.now answer))) h.0 chain.2))
