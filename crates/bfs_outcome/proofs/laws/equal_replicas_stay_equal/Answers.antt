use Rattle.bfs_outcome.proofs.Replicas.{come_to_the_outcomes, stay_equal}
use Rattle.bfs_outcome.proofs.laws.equal_replicas_stay_equal.Goals as goal

pub returns : goal.returns
returns c = record { outcomes = come_to_the_outcomes; equal = stay_equal }
