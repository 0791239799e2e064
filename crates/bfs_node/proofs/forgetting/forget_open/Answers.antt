use Rattle.std.proofs.Common.{◌≡◌, ◌∙◌, List, ap, sym, take}
use Rattle.std.specs.List.{flat_map}
use Rattle.bfs_messages.specs.Messages.{Request}
use Rattle.bfs_messages.specs.declared.signed.Signed.{Signed}
use Rattle.bfs_pending.specs.Requests.{without_named}
use Rattle.bfs_node.specs.Forgetting.{open_in}
use Rattle.bfs_node.proofs.Waiting.{opened_more, without_both, without_none}
use Rattle.bfs_node.proofs.forgetting.forget_open.Goals as goal

pub loop-signed-init : goal.loop-signed-init
loop-signed-init c = (sym (without_none c.args.pending.now), λ keys passed. passed)

pub loop-signed-preserved : goal.loop-signed-preserved
loop-signed-preserved c =
    let order = c.args.order.now in
    let log = c.log-log.result.now in
    let i = c.loop-signed.signed-index in
    let one = c.signed-item.result in
    let so_far = flat_map (open_in order) (take i log) in (
      c.drop_named.ensures.now
          ∙ ap (without_named c.loop-signed.pending) c.open_in.ensures
          ∙ ap (λ (waiting : List (Signed Request)). without_named waiting (open_in order one)) c.loop-signed.invariant.0
          ∙ without_both c.args.pending.now so_far (open_in order one)
          ∙ ap (without_named c.args.pending.now) (sym (opened_more order log i one c.loop-signed-test.true c.signed-item.is)),
      λ keys passed. c.drop_named.ensures.passed keys (c.loop-signed.invariant.1 keys passed),
    )
