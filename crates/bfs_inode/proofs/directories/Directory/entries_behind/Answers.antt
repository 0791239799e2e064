use Rattle.std.proofs.Common.{ap, ◌∙◌}
use Rattle.std.specs.Map.{values_of}
use Rattle.bfs_model.specs.Server.Directories.{listed_behind}
use Rattle.bfs_model.specs.Server.Tree.{Listing}
use Rattle.bfs_inode.proofs.IndexLemmas.{all_behind}
use Rattle.bfs_inode.proofs.directories.Directory.entries_behind.Goals as goal

pub returns : goal.returns
returns c =
    ap values_of (c.range.ensures.between tt)
    ∙ all_behind c.args.cookie c.self.inside.entries.entries c.self.invariant.1.own
    ∙ ap (λ (listing : Listing). listed_behind c.args.cookie listing.entries) c.self.view_is
