-- The statements that are proved of the definitions: contracts of functions of src/ that do nothing.
pub mod Spelling
pub mod Procedures
pub mod Footprints
pub mod Overtaking
pub mod ReplyLengths
pub mod Stored
pub mod Paging
pub mod Groups
pub mod ReplyReading
pub mod Shares
