pub mod Fresh
pub mod Links
pub mod Checks
pub mod Reached
pub mod CarryingOut
