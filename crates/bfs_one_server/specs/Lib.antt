-- Clients see one server: what one server does, who takes part and what they do, what is asked of them, and the law.
pub mod Serving
pub mod Worlds
pub mod Premises
pub mod Laws
pub mod Lasts
pub mod Counters
pub mod Examples
pub mod Reading
pub mod Users
pub mod Creating
