-- What is well formed stays so: the tree by two equations for every fileid, and the limits inode by inode.
pub mod Sums
pub mod Walks
pub mod Words
pub mod Changes
pub mod Steps
pub mod Facts
pub mod Effects
pub mod Renames
pub mod Trees
pub mod Entries
pub mod Each
pub mod Named
pub mod RenamingRoom
pub mod Limits
pub mod NewNames
pub mod KeptEach
pub mod Numbered
