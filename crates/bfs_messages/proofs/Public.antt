-- What the crates above may cite.
pub use Rattle.bfs_messages.proofs.Places.{checkpoint_place, commit_place, new_view_place, pre_prepare_place, prepare_place, reply_place, request_place, view_change_place}
