-- What the crates above may cite.
pub use Rattle.bfs_agreement.proofs.Calls.{MaySayAll, Within, allowed, here_itself, in_told, joined_more, said_allowed, say_join, then_said, within_is}
pub use Rattle.bfs_agreement.proofs.Choice.{choice_is_by_its_rule, is_proposed, out_of_all}
pub use Rattle.bfs_agreement.proofs.Kept.{Kept}
pub use Rattle.bfs_agreement.proofs.Logs.{handed_taken, kept_told, log_stays, prepared_more, taken_told, told_join, told_kept}
pub use Rattle.bfs_agreement.proofs.Nodes.{run_at}
pub use Rattle.bfs_agreement.proofs.Said.{moved, says_itself}
pub use Rattle.bfs_agreement.proofs.Told.{Is, says_is, told_cases, told_more}
pub use Rattle.bfs_agreement.proofs.Worlds.{Grows, Sound, at_each, new_view_on, one_digest, run_sound, said_on, start_sound, world_grows}
