-- What each part of the look tells.
use Rattle.std.proofs.Common.{ℕ, sym, ap, ◌∙◌}
use Rattle.std.specs.FinMap.{get}
use Rattle.std.proofs.lemmas.Result.{IfOk-weaker}
use Rattle.bfs_model.specs.Server.Tree.{is_directory}
use Rattle.bfs_tree.specs.Laws.Knowing.{knows_all}
use Rattle.bfs_tree.specs.Tree.{at_home, lent}
use Rattle.bfs_digest.proofs.Indexed.{misplaced, misnamed, told_by_ways}
use Rattle.bfs_digest.proofs.formation.is_well_formed.Goals as goal

-- a tree that is whole knows the root
pub is_directory-requires : goal.is_directory-requires
is_directory-requires c = knows_all (lent c.args.tree.now) c.requires.whole c.root.result

pub returns-in_default : goal.returns-in_default
returns-in_default c = misplaced (at_home c.args.tree.now) c.args.ordinal (rw c.in_default.is at c.in_ok-names.ensures)

pub returns-then-not-are_named : goal.returns-then-not-are_named
returns-then-not-are_named c = misnamed (at_home c.args.tree.now) c.args.ordinal c.in-Some.names (rw c.in-Some.is at c.in_ok-names.ensures) (sym c.are_named.ensures ∙ c.if-not-are_named.true)

pub returns : goal.returns
returns c =
    let root = ap (λ (id : ℕ). is_directory (get (at_home c.args.tree.now) id)) (sym c.root.ensures) ∙ sym c.is_directory.ensures ∙ c.if-not-is_directory.false in
    IfOk-weaker c.all_reach_root.result _ _ (λ lead ways. told_by_ways (at_home c.args.tree.now) c.args.ordinal c.in-Some.names lead c.requires.ordinal root (rw c.in-Some.is at c.in_ok-names.ensures) (sym c.are_named.ensures ∙ c.if-not-are_named.false) ways) c.all_reach_root.ensures
