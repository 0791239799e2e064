-- The statements that are proved of the definitions: contracts of functions of src/laws.rt, which do nothing.
pub mod Calls
pub mod Logs
pub mod Clean
pub mod Sent
pub mod Resent
pub mod Executed
pub mod Certificates
