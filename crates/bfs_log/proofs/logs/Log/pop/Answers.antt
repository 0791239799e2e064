use Rattle.bfs_log.proofs.Keeping.{popped}
use Rattle.bfs_log.proofs.logs.Log.pop.Goals as goal

pub invariant_of-self : goal.invariant_of-self
invariant_of-self c =
    popped c.pop.new.self.items c.in-Some.signed c.self.inside.places c.pop_at.new.places
    (rw c.in-Some.ensures.items at c.self.invariant)
    (rw c.place_in.ensures at c.pop_at.ensures.last)
    (rw c.place_in.ensures at c.pop_at.ensures.others)
