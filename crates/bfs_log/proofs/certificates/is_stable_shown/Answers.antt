use Rattle.std.proofs.Common.{sym, arith}
use Rattle.bfs_log.proofs.Certifying.{too_many}
use Rattle.bfs_log.proofs.certificates.is_stable_shown.Goals as goal

pub returns-then-checkpoints-gt-MOST_REPLICAS : goal.returns-then-checkpoints-gt-MOST_REPLICAS
returns-then-checkpoints-gt-MOST_REPLICAS c =
    sym (too_many c.args.keys.now c.args.f (record { number = c.args.number; digest = c.args.digest.now; checkpoints = c.args.checkpoints.now }) c.requires (omega arith))
