use Rattle.bfs_replay.proofs.run.run_event.Goals as goal

pub returns-in-Block-clause-stops : goal.returns-in-Block-clause-stops
returns-in-Block-clause-stops g c = rw c.in-Block.is c.run_block.ensures.stops

pub returns-in-Timeout-clause-stops : goal.returns-in-Timeout-clause-stops
returns-in-Timeout-clause-stops g c = rw c.in-Timeout.is c.run_timeout.ensures.stops
