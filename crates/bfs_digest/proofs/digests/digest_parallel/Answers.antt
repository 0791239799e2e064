-- The digest is that of the header and the inodes.
use Rattle.std.proofs.Common.{Some, sym, ap, ◌∙◌}
use Rattle.bfs_tree.specs.Tree.{at_home}
use Rattle.bfs_digest.proofs.Parts.{digest_is}
use Rattle.bfs_digest.proofs.digests.digest_parallel.Goals as goal

pub returns-in-Ok-clause-value : goal.returns-in-Ok-clause-value
returns-in-Ok-clause-value g c = digest_is c.args.files.now c.in-Some.header (at_home c.in-Some.tree.now) c.in-Some.ensures.header c.in-Some.ensures.tree ∙ ap Some (sym c.digest_with.ensures)
