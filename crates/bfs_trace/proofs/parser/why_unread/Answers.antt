use Rattle.bfs_trace.proofs.Faults.{no_fault, some_fault}
use Rattle.bfs_trace.proofs.parser.why_unread.Goals as goal

pub returns-in-Some : goal.returns-in-Some
returns-in-Some c = some_fault c.args.population c.args.text.now c.in-Some.number c.in-Some.ensures

pub returns-in-None : goal.returns-in-None
returns-in-None c = no_fault c.args.population c.args.text.now c.in-None.ensures
