-- An inode is built of its head and of what it holds.
use Rattle.std.proofs.Common.{ap, ◌∙◌, arith}
use Rattle.bfs_inode.specs.Inodes.{body_seen}
use Rattle.bfs_digest.specs.Inside.Taking.{head_seen}
use Rattle.bfs_digest.proofs.InodeParts.{inode_built, inode_refused, many_links}
use Rattle.bfs_digest.proofs.inodes.inode_of.Goals as goal

pub returns-in-None : goal.returns-in-None
returns-in-None c = inode_refused c.args.reader.now c.head.new.self (head_seen c.in-Ok.head) c.in-Ok.ensures.value (rw c.in-None.is at c.in_ok-body.ensures)

pub returns-then-head-gt-MOST_LINKS : goal.returns-then-head-gt-MOST_LINKS
returns-then-head-gt-MOST_LINKS c = many_links c.args.reader.now c.head.new.self (head_seen c.in-Ok.head) c.in-Ok.ensures.value (omega arith)

pub returns-in-Some : goal.returns-in-Some
returns-in-Some c = λ inode rest read.
    let b = inode_built c.args.reader.now c.head.new.self c.body_of.new.reader (head_seen c.in-Ok.head) (body_seen c.in-Some.body) c.in-Ok.ensures.value (rw c.in-Some.is at c.in_ok-body.ensures) inode rest read in
    (ap (λ i. (c.in-Ok.head.fileid, i)) c.new.ensures ∙ b.0, b.1)
