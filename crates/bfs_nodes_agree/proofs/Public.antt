-- Lemmas that other crates cite.
pub use Rattle.bfs_nodes_agree.proofs.Orders.Lists.{AllIn, any_in, both_in, either_in, filter_in, found, left_in, more_in, none_in, one_in, out_of_filter_map, right_in, some_is}
pub use Rattle.bfs_nodes_agree.proofs.Orders.Logs.{Brings, IsChecked, IsWhole, Offers, Shows, log_keeps, votes_checked, votes_own}
pub use Rattle.bfs_nodes_agree.proofs.Orders.Results.{either_way, not_hit, passed}
pub use Rattle.bfs_nodes_agree.proofs.Orders.Rising.{entered_same, low_rises}
pub use Rattle.bfs_nodes_agree.proofs.Orders.Taking.{IsPlaced, no_answers, of_primary, placed, unsettled}
pub use Rattle.bfs_nodes_agree.proofs.Orders.Dropping.{dropped, each_five, five_pushed, in_kept}
pub use Rattle.bfs_nodes_agree.proofs.Orders.Telling.{any_both, any_said, not_equal, slot_is, slot_same, told_same}
pub use Rattle.bfs_nodes_agree.proofs.Orders.Worlds.{IsFollowed, all_turns, grows_there, new_followed}
pub use Rattle.bfs_nodes_agree.proofs.Views.Batches.{AreSo, chosen_so}
pub use Rattle.bfs_nodes_agree.proofs.Views.Lists.{at_in, in_map, map_in, out_of_map, passes_at, told_in}
pub use Rattle.bfs_nodes_agree.proofs.Views.OfLog.{made_holds, stable_holds}
pub use Rattle.bfs_nodes_agree.proofs.Views.Proved.{enough_senders}
pub use Rattle.bfs_nodes_agree.proofs.Views.Worlds.{AreWindowed, ordered_turns}
pub use Rattle.bfs_nodes_agree.proofs.Nodes.Bounds.{IsBounded, kept, left_bounded, left_later}
pub use Rattle.bfs_nodes_agree.proofs.Nodes.Doing.{BringAll, OfferAll, deeds_keep, deeds_offer, stays_kept}
pub use Rattle.bfs_nodes_agree.proofs.Nodes.Entered.{comes_so, rightly_entered}
pub use Rattle.bfs_nodes_agree.proofs.Nodes.Executing.{next_found}
pub use Rattle.bfs_nodes_agree.proofs.Nodes.Hearing.{IsHeard, IsSaid, change_said, grown, lone_late, offer_tag, reply_is, said_alike, same_header}
pub use Rattle.bfs_nodes_agree.proofs.Nodes.Keeping.{AreKept, enough_for, good_for, good_on, kept_above, kept_with, none_kept}
pub use Rattle.bfs_nodes_agree.proofs.Nodes.Kinds.{Kind, Leaves, Left, Rested, TakesChange, TakesNewView, TookChange, TookNewView, step_kind}
pub use Rattle.bfs_nodes_agree.proofs.Nodes.NewViews.{all_for, is_taken, own_proposals, proposals_are}
pub use Rattle.bfs_nodes_agree.proofs.Nodes.Resending.{change_keeps}
pub use Rattle.bfs_nodes_agree.proofs.Nodes.Resting.{Rests}
pub use Rattle.bfs_nodes_agree.proofs.Nodes.States.{both_at, executed_in, here_after}
pub use Rattle.bfs_nodes_agree.proofs.Nodes.Steps.{after_deeds, begins_open, called, not_refused, not_second, step_leads}
pub use Rattle.bfs_nodes_agree.proofs.Nodes.Turns.{AreRight, at_each, new_right, right_on, step_right}
