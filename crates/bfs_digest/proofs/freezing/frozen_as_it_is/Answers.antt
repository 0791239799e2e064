-- What is frozen is the header and all inodes.
use Rattle.std.proofs.Common.{refl, Some, sym, ap, ◌∙◌}
use Rattle.std.specs.FinMap.{entries}
use Rattle.bfs_tree.specs.Tree.{at_home}
use Rattle.bfs_digest.specs.Frozen.{frozen_inodes}
use Rattle.bfs_digest.proofs.Parts.{frozen_is}
use Rattle.bfs_digest.proofs.freezing.frozen_as_it_is.Goals as goal

pub returns-in-Ok-clause-value : goal.returns-in-Ok-clause-value
returns-in-Ok-clause-value c = frozen_is c.args.files.now c.in-Some.header (at_home c.in-Some.tree.now) (frozen_inodes (entries (at_home c.in-Some.tree.now))) c.in-Some.ensures.header c.in-Some.ensures.tree refl ∙ ap Some (sym c.in-Ok.ensures)
