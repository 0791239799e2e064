pub mod Errors
pub mod Loans
pub mod Jobs
pub mod Moves
pub mod Splitting
pub mod Merging
pub mod Laws
pub mod Inside
