-- The one result has just what is out for its job, and comes home.
use Rattle.std.proofs.Common.{[], ◌∷◌}
use Rattle.bfs_overtaking.proofs.Bringing.{one_out, one_home}
use Rattle.bfs_overtaking.proofs.loans.carry_out.Goals as goal

pub merge_one-requires : goal.merge_one-requires
merge_one-requires c = one_out c.args.tree.now c.args.job c.in_ok-done.done c.in_ok-done.ensures c.requires.out

pub returns : goal.returns
returns c = one_home c.args.tree.now c.args.job c.in_ok-done.done c.in_ok-done.ensures c.merge_one.new.tree (c.in_ok-done.done.number ∷ []) c.merge_one.result c.merge_one.ensures
