-- What the bytes of calls and replies say (RFC 4506, RFC 5531, RFC 1094).
pub mod Items
pub mod Call
pub mod Arguments
pub mod Attributes
pub mod Replies
pub mod ReplyReading
pub mod Formats
