-- What the contracts of bfs_journal cite: journals as bytes (Records), what stands behind the last record (Rests), disks (Disk), and laws (Laws).
pub mod Records
pub mod Rests
pub mod Disk
pub mod Laws
