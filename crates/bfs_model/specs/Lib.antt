-- What must be believed (Server, Bytes), and the statements that are proved of it (Laws).
pub mod Server
pub mod Bytes
pub mod Laws
