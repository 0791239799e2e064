use Rattle.std.proofs.Math.Seq.{take-set-lt}
use Rattle.bfs_trace.proofs.callers.Callers.set.Goals as goal

pub returns-then-caller-self : goal.returns-then-caller-self
returns-then-caller-self c = rw (← c.self.view_is, ← c.caller.view_is) (take-set-lt c.self.inside.clients c.self.inside.creds c.caller.inside.client c.caller.inside.cred c.if-caller-self.true)
