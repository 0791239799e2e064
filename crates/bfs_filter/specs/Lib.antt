-- What the contracts of bfs_filter cite: runs of a filter (Runs), answers that are cut (Output), and errors (Errors).
pub mod Output
pub mod Errors
pub mod Runs
