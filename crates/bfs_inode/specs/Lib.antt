pub mod Inodes
pub mod Seen
pub mod Directories
pub mod Pages
pub mod Records
pub mod Frozen
pub mod Rest
pub mod Access
