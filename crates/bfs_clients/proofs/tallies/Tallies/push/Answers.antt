use Rattle.std.proofs.Common.{◌∙◌}
use Rattle.bfs_clients.proofs.Places.{pushed}
use Rattle.bfs_clients.proofs.tallies.Tallies.push.Goals as goal

pub invariant_of-self-2 : goal.invariant_of-self-2
invariant_of-self-2 c =
    rw c.in_ok-push.ensures.items
    (pushed c.self.inside.places.entries c.put.new.places.entries c.self.inside.tallies.items c.args.tally c.of.result c.len-place.result c.of.ensures (c.len-place.ensures ∙ c.self.inside.tallies.ok.0) c.self.invariant c.in_ok-put.ensures.ok)
