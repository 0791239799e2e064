-- What the crates above may cite.
pub use Rattle.bfs_model.proofs.Combined.{as_exact, fits_exact, fixed_exact, if_exact, list_exact, none_exact, spelled_exact, tagged_exact, then_exact, where_exact, whole_again, whole_written, with_exact}
pub use Rattle.bfs_model.proofs.Counts.{replies_counted}
pub use Rattle.bfs_model.proofs.Exact.{AreFew, IsExact, IsShort, behind, boolean_exact, bytes_are, bytes_exact, chosen, go_on, hyper_exact, items_again, items_written, short_bytes, short_exact, some_is, went_on, word_exact}
pub use Rattle.bfs_model.proofs.Footprints.Agreement.{all_among, get-closed, get-put_back, same_inodes, written_is_touched}
pub use Rattle.bfs_model.proofs.Footprints.Apart.{AreApart, apart, none_hit, turned}
pub use Rattle.bfs_model.proofs.Footprints.Grouped.{groups_keep_footprints}
pub use Rattle.bfs_model.proofs.Footprints.Overtaking.{Kept, handed, start_kept, steps_keep}
pub use Rattle.bfs_model.proofs.Footprints.OvertakingRequests.{holds_on, its_own, levels_follow, local, requests_overtake, shifted}
pub use Rattle.bfs_model.proofs.Footprints.Own.{among_left, among_right, itself_among}
pub use Rattle.bfs_model.proofs.Footprints.Parts.{parts_follow}
pub use Rattle.bfs_model.proofs.Footprints.Requests.{request_footprints_agree, requests_keep_to_footprints, resolved_is_touched_by_requests}
pub use Rattle.bfs_model.proofs.Footprints.Shared.{get-without, moved_is_written, runs_come_home, shares_have_footprints, shares_know}
pub use Rattle.bfs_model.proofs.Footprints.Stable.{new_in}
pub use Rattle.bfs_model.proofs.Footprints.Turns.{AllHome, agrees, still_home, turn_keeps}
pub use Rattle.bfs_model.proofs.Found.{IsDirectoryAt, IsOnto, fails, onto_entry, onto_none, planned_was}
pub use Rattle.bfs_model.proofs.Handles.{handle_leads, length_of_handle, other_lengths_lead_nowhere}
pub use Rattle.bfs_model.proofs.Kept.{IsServable, answer_keeps, execute_keeps, formed_again, fresh_for_request, new_is_well_formed, next_is_fresh, reply_is_short, request_keeps, requests_keep, servable}
pub use Rattle.bfs_model.proofs.Laws.{bind_ok, fixed_again, fixed_written, guard_then, opaque_again, word_again, word_written}
pub use Rattle.bfs_model.proofs.Live.{batches_keep_live, new_is_live}
pub use Rattle.bfs_model.proofs.Maps.{got_put}
pub use Rattle.bfs_model.proofs.Turns.{test_done, test_fails, test_turn, turn, turn_none, turns_done, with_front}
pub use Rattle.bfs_model.proofs.WellFormed.Each.{at_changed, at_found}
pub use Rattle.bfs_model.proofs.WellFormed.Entries.{differ_without, no_longer, rising_pushed, rising_without}
pub use Rattle.bfs_model.proofs.WellFormed.Facts.{named_at_least}
pub use Rattle.bfs_model.proofs.WellFormed.Numbered.{fresh_where_numbered, new_is_numbered, numbered_older}
pub use Rattle.bfs_model.proofs.WellFormed.RenamingRoom.{CanRename, HasRoomFor, link_free, room_made}
pub use Rattle.bfs_model.proofs.WellFormed.Steps.{insert_again}
pub use Rattle.bfs_model.proofs.WellFormed.Sums.{apart as sums_apart, get-set_at, itself, named-set, same_test, split, weigh_zero}
pub use Rattle.bfs_model.proofs.WellFormed.Walks.{reaches_within, way_met}
pub use Rattle.bfs_model.proofs.WellFormed.Words.{formed_from}
