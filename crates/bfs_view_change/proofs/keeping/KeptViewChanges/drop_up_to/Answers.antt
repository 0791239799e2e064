use Rattle.bfs_view_change.proofs.Kept.{above_few}
use Rattle.bfs_view_change.proofs.keeping.KeptViewChanges.drop_up_to.Goals as goal

pub invariant_of-self : goal.invariant_of-self
invariant_of-self c = rw c.drop_all_up_to.ensures (above_few c.args.view (record { asked = c.self.inside.asked.items; changes = c.self.inside.changes.items; own = c.self.inside.own }) c.self.invariant)
