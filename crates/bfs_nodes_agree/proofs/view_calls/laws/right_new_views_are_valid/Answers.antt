use Rattle.bfs_nodes_agree.proofs.Views.Chosen.{right_valid}
use Rattle.bfs_nodes_agree.proofs.view_calls.laws.right_new_views_are_valid.Goals as goal

pub returns : goal.returns
returns c = right_valid c.prepared_is_chosen.ensures.stable c.prepared_is_chosen.ensures.numbers c.prepared_is_chosen.ensures.prepared
