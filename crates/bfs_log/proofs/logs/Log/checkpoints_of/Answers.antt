use Rattle.std.proofs.Common.{◌≤◌, length, sym, ap, subst}
use Rattle.bfs_model.specs.Server.Limits.{most_replicas}
use Rattle.bfs_votes.specs.Votes.{SlotsDiffer}
use Rattle.bfs_log.specs.Logs.{Log, headers}
use Rattle.bfs_log.proofs.Shown.{few_checkpoints}
use Rattle.bfs_log.proofs.logs.Log.checkpoints_of.Goals as goal

pub returns-clause-few : goal.returns-clause-few
returns-clause-few c =
    subst (λ n. n ≤ most_replicas) (sym (ap length c.in_ok-found.ensures)) (few_checkpoints c.args.f c.args.number c.messages.result.now c.requires (subst (λ (log : Log). SlotsDiffer (headers log)) (sym c.messages.ensures) c.messages_differ.ensures.differ))
