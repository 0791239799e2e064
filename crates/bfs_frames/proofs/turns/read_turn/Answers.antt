use Rattle.bfs_frames.proofs.Passing.{given_within}
use Rattle.bfs_frames.proofs.turns.read_turn.Goals as goal

pub returns-clause-memory : goal.returns-clause-memory
returns-clause-memory g c = given_within c.args.limits.now c.in_ok-frames.ensures.frames.all c.in_ok-frames.frames.items c.in_ok-frames.ensures.frames.passed
