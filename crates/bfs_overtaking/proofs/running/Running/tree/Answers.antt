use Rattle.std.proofs.Common.{ap, ◌∙◌}
use Rattle.bfs_overtaking.specs.Machine.{is_complete}
use Rattle.bfs_overtaking.proofs.Changing.{whole_when_done}
use Rattle.bfs_overtaking.proofs.running.Running.tree.Goals as goal

pub returns-clause-whole : goal.returns-clause-whole
returns-clause-whole c done =
    whole_when_done c.self.inside c.self.invariant.running (ap is_complete c.self.view_is ∙ done)
