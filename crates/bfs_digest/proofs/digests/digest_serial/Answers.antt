-- The digest is that of the header and the inodes.
use Rattle.std.proofs.Common.{Some, sym, ap, ◌∙◌}
use Rattle.std.specs.Option.{ok_or}
use Rattle.bfs_tree.specs.Tree.{at_home}
use Rattle.bfs_serial.specs.declared.executor.ExecError.TheVariants as error
use Rattle.bfs_digest.proofs.Parts.{digest_is}
use Rattle.bfs_digest.proofs.digests.digest_serial.Goals as goal

pub returns : goal.returns
returns c = sym (ap (λ o. ok_or o error.Failed) (digest_is c.args.files.now c.in-Some.header (at_home c.in-Some.tree.now) c.in-Some.ensures.header c.in-Some.ensures.tree ∙ ap Some (sym c.digest_with.ensures)))
