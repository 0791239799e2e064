-- What the crates above may cite.
pub use Rattle.bfs_log.proofs.Slots.{differ_pushed, differ_kept}
pub use Rattle.bfs_log.proofs.Certifying.{IsVoucher, Vouched, senders_counted, vouched}
pub use Rattle.bfs_log.proofs.Folds.{all_map, any_map}
pub use Rattle.bfs_log.proofs.FreeSlots.{either_left, either_right, neither, same_again, same_slot}
pub use Rattle.bfs_log.proofs.Passed.{numbers_next}
pub use Rattle.bfs_log.proofs.Proposed.{proposed_by}
pub use Rattle.bfs_log.proofs.Shown.{IsOf, backed_by, backups_apart, checkpoints_apart, no_view, of_number, passing}
pub use Rattle.bfs_log.proofs.Telling.{Is, is_said, says_is, slot_is, told_kept}
