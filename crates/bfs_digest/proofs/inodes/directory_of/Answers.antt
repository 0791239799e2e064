-- A directory is built of its parent and its entries.
use Rattle.std.proofs.Common.{ℕ, ap, ◌∙◌}
use Rattle.bfs_model.specs.Server.Tree.{directory}
use Rattle.bfs_digest.proofs.InodeParts.{directory_built, directory_refused, directory_unread}
use Rattle.bfs_digest.proofs.inodes.directory_of.Goals as goal

pub returns-in-Some-2 : goal.returns-in-Some-2
returns-in-Some-2 c = λ body rest read.
    let made = (rw c.in-Some-2.is at c.in_ok-directory-in-Some.ensures).1 in
    let b = directory_built c.args.reader.now c.word.new.self c.word-2.new.self c.entries_of.new.reader c.in-Ok.parent c.in-Ok-word.count c.in-Some.entries.items c.in-Ok.ensures c.in-Ok-word.ensures (rw c.in-Some.is at c.in_ok-entries.ensures) body rest read in
    (ap directory (made ∙ ap (λ (p : ℕ). record { parent = p; entries = c.in-Some.entries.items }) c.new.ensures) ∙ b.0, b.1)

pub returns-in-None : goal.returns-in-None
returns-in-None c = directory_unread c.args.reader.now c.word.new.self c.word-2.new.self c.in-Ok.parent c.in-Ok-word.count c.in-Ok.ensures c.in-Ok-word.ensures (rw c.in-None.is at c.in_ok-entries.ensures)

pub returns-in-None-2 : goal.returns-in-None-2
returns-in-None-2 c = directory_refused c.args.reader.now c.word.new.self c.word-2.new.self c.entries_of.new.reader c.in-Ok.parent c.in-Ok-word.count c.in-Some.entries.items c.in-Ok.ensures c.in-Ok-word.ensures (rw c.in-Some.is at c.in_ok-entries.ensures) (rw c.in-None-2.is at c.in_ok-directory-in-Some.ensures)
