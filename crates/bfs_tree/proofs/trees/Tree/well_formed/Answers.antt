-- A whole tree is well formed just if its root is a directory and each inode is in order.
use Rattle.std.proofs.Common.{IsTrue, sym, subst, ◌∙◌}
use Rattle.std.specs.FinMap.{get}
use Rattle.bfs_model.specs.Server.Tree.{is_directory, root_id}
use Rattle.bfs_tree.specs.Tree.{at_home}
use Rattle.bfs_tree.proofs.WellFormed.Deciding.{well_formed, in_order}
use Rattle.bfs_tree.proofs.trees.Tree.well_formed.Goals as goal

pub returns-then-is_directory : goal.returns-then-is_directory
returns-then-is_directory c =
    let tree = at_home c.args.self.now in
    let root : IsTrue (is_directory (get tree root_id)) = subst (λ id. IsTrue (is_directory (get tree id))) c.root.ensures (sym c.is_directory.ensures ∙ c.if-is_directory.true) in
    let whole = sym c.is_whole.ensures ∙ c.if-not-is_whole.false in
    (λ is. (whole, well_formed tree root (c.are_in_order.ensures.0 is)), λ both. c.are_in_order.ensures.1 (in_order tree both.1))
