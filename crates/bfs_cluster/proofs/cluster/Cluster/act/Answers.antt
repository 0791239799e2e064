use Rattle.bfs_cluster.specs.Inside.Acts.{deed}
use Rattle.bfs_cluster.proofs.Acting.{goes_on, to_come, wanted}
use Rattle.bfs_cluster.proofs.Wanting.{whatever}
use Rattle.bfs_cluster.proofs.cluster.Cluster.act.Goals as goal

pub loop-number-preserved : goal.loop-number-preserved
loop-number-preserved c = (
  goes_on (deed c.args.act.now) c.args.self.now c.loop-number.self c.act_at.new.self c.loop-number.number c.in_ok-act_at.ensures.ok c.loop-number.invariant.0,
  to_come (deed c.args.act.now) c.args.self.now c.loop-number.self c.act_at.new.self c.loop-number.number c.in_ok-act_at.ensures.ok c.loop-number.invariant.1,
)

pub returns-in_err-act_at-clause-memory : goal.returns-in_err-act_at-clause-memory
returns-in_err-act_at-clause-memory c =
    whatever c.from_residual.result _ (wanted (deed c.args.act.now) c.args.self.now c.loop-number.self c.loop-number.number c.loop-number.invariant.1 c.in_err-act_at.ensures.memory)
