-- What the crates above may cite.
pub use Rattle.bfs_view_change.proofs.Certified.{backed_alike, messages_made}
pub use Rattle.bfs_view_change.proofs.Made.{Made, in_window, made_near}
pub use Rattle.bfs_view_change.proofs.Prepared.{near_short, valid_near}
pub use Rattle.bfs_view_change.proofs.Behind.{latest_is, valid_show}
