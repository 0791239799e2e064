-- The cookie of the name leads to its entry.
use Rattle.std.proofs.Common.{sym, ap, ◌∙◌}
use Rattle.bfs_model.specs.Server.Directories.{entry_named}
use Rattle.bfs_model.specs.Server.Tree.{Listing}
use Rattle.bfs_inode.proofs.IndexLemmas.{found}
use Rattle.bfs_inode.proofs.directories.Directory.entry.Goals as goal

pub returns-in-Some : goal.returns-in-Some
returns-in-Some c =
    let name = c.args.name.now in
    c.get-in-Some.ensures.value
    ∙ found name 0 c.self.inside.entries.entries c.in-Some.cookie.now c.self.invariant.1.own c.self.invariant.0.rising (sym (c.in-Some.ensures.value ∙ c.self.invariant.1.named name))
    ∙ ap (λ (listing : Listing). entry_named name listing.entries) c.self.view_is
