use Rattle.std.proofs.Common.{ap, ◌∙◌}
use Rattle.bfs_messages.specs.Signing.{request_is_signed}
use Rattle.bfs_pending.proofs.Asked.{asked}
use Rattle.bfs_pending.proofs.checking.are_all_signed.Goals as goal

pub returns : goal.returns
returns g c =
    let slice = ap (λ it. it.base.slice.now) c.map_init.ensures.base ∙ ap (λ it. it.slice.now) c.with_min_len.ensures.base ∙ c.par_iter.ensures in
    let chain = rw (c.map_init.ensures.f) at c.all.ensures.1 in
    asked _ (request_is_signed c.args.keys.now) chain.0 c.args.requests.now (chain.1 ∙ slice) c.all.ensures.0 chain.2 c.all.result c.all.ensures.2
