-- A name behind the last of the index is none of its names.
use Rattle.std.proofs.Common.{rules, sym, ap, ◌∙◌}
use Rattle.bfs_model.specs.Server.Directories.{entry_named}
use Rattle.bfs_model.specs.Server.Tree.{Listing}
use Rattle.bfs_inode.proofs.IndexLemmas.{behind_last, none_found}
use Rattle.bfs_inode.proofs.directories.Directory.is_behind_names.Goals as goal

pub returns-in-Some : goal.returns-in-Some
returns-in-Some c behind =
    let name = c.args.name.now in
    sym (none_found c.self.inside.entries.entries c.self.inside.cookies.entries name c.self.invariant.1 (sym (behind_last name c.in-Some.last.now.items c.self.inside.cookies.entries (search rules) c.in-Some.ensures.all_up_to))
    ∙ ap (λ (listing : Listing). entry_named name listing.entries) c.self.view_is)
