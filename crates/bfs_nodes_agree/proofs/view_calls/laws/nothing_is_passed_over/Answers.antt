use Rattle.bfs_nodes_agree.proofs.Views.Whole.{nothing_passed_over}
use Rattle.bfs_nodes_agree.proofs.view_calls.laws.nothing_is_passed_over.Goals as goal

pub returns : goal.returns
returns c = nothing_passed_over c.prepared_is_chosen.ensures.numbers c.views_begin_behind_what_is_stable.ensures.number
