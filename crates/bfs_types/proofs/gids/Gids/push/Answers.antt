use Rattle.std.proofs.Common.{◌≡◌, ◌<◌, ℕ, sym, subst, length}
use Rattle.bfs_types.proofs.Padding.{pushed}
use Rattle.bfs_types.proofs.gids.Gids.push.Goals as goal

pub invariant_of-self : goal.invariant_of-self
invariant_of-self c = pushed c.self.inside.ids c.self.inside.count c.args.gid c.self.invariant (subst (λ gids. length gids < 16) (sym c.self.view_is) c.requires)
