use Rattle.std.proofs.Common.{ap}
use Rattle.bfs_messages.specs.Messages as model
use Rattle.bfs_messages.specs.declared.order_messages.OrderMessage.TheVariants.{Checkpoint}
use Rattle.tests_outcome.proofs.Certified.{certified}
use Rattle.tests_outcome.proofs.keeping.tell.Goals as goal

pub settle-requires : goal.settle-requires
settle-requires c =
    certified c.args.kept.now.f c.faults-faults.result c.args.number c.args.digest.now (record { message = Checkpoint c.new.result; auth = c.new-2.result }) c.args.log.now c.messages.result.now c.push.new.self c.in_ok-certificate.certificate c.is_checkpoint_stable.result
    c.faults-faults.ensures (ap (λ (x : model.Checkpoint). x.number) c.new.ensures) (ap (λ (x : model.Checkpoint). x.digest) c.new.ensures)
    c.messages.ensures c.in_ok-certificate.ensures c.in_ok-push.ensures.ok c.messages_differ.ensures.differ c.is_checkpoint_stable.ensures c.if-is_checkpoint_stable.true
