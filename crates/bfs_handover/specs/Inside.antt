-- What contracts of private functions cite.
pub mod Held
pub mod LoanLending
pub mod Places
pub mod Taking
