-- Steps as bytes (Steps), what is read of bytes (Reading), replaying (Replaying), and the laws (Laws).
pub mod Steps
pub mod Reading
pub mod Replaying
pub mod Laws
