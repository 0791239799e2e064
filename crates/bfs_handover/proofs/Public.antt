-- What the crates above may cite.
pub use Rattle.bfs_handover.proofs.Carrying.{split_requests_are_carried_out}
pub use Rattle.bfs_handover.proofs.Homecoming.{job_numbers, results_are_out, results_come_home}
pub use Rattle.bfs_handover.proofs.LoanLemmas.{get-put_in, get_borrowed, get_owned}
pub use Rattle.bfs_handover.proofs.MoveLemmas.{among_both, distinct_both, home_out, is_out, none_among}
pub use Rattle.bfs_handover.proofs.NumberLemmas.{complete_results_are_taken}
pub use Rattle.bfs_handover.proofs.SplitLemmas.{found, length-footprints_at, share_seen}
