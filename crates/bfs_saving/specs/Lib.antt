-- The text of a saved replica: items (Items), messages (Messages), its parts (Logs, Parts, Certificates), and the whole (Saved).
pub mod Items
pub mod Messages
pub mod Logs
pub mod Parts
pub mod Certificates
pub mod Saved
pub mod Errors
