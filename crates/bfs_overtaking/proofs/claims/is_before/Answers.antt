use Rattle.std.proofs.Common.{◌∙◌}
use Rattle.std.specs.Map.Iter.{deref}
use Rattle.bfs_overtaking.proofs.Claiming.{first_tells}
use Rattle.bfs_overtaking.proofs.claims.is_before.Goals as goal

pub returns : goal.returns
returns c = c.is_some.ensures ∙ first_tells deref c.args.claims.now c.args.on c.args.place c.range.result c.next.new.self c.next.result c.next.ensures.steps (c.range.ensures.in_range tt)
