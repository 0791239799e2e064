-- Lemmas that other crates cite.
pub use Rattle.bfs_progress.proofs.Answered.{proposed_speaks}
pub use Rattle.bfs_progress.proofs.Following.{apart}
pub use Rattle.bfs_progress.proofs.Heard.{HeardVotes, by_itself}
pub use Rattle.bfs_progress.proofs.Later.{Later, LaterAt, now_later, run_later, then_later}
pub use Rattle.bfs_progress.proofs.Logs.{greatest_le, prepared_is, proposed_le, slot_told, told_slot}
pub use Rattle.bfs_progress.proofs.Numbers.{differs, one_more}
pub use Rattle.bfs_progress.proofs.Premises.{each_present, present_quorum}
pub use Rattle.bfs_progress.proofs.Quiet.{all_heard, own_digest}
pub use Rattle.bfs_progress.proofs.Reached.{Responds}
pub use Rattle.bfs_progress.proofs.Rounds.{AreOpen, in_three, open_between}
pub use Rattle.bfs_progress.proofs.Speaks.{Speaks, answered_speaks, dropped_speaks}
