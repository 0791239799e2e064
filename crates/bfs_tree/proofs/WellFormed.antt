-- Whether a tree is well formed, told inode by inode.
pub mod Lists
pub mod Loops
pub mod Deciding
