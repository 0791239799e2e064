pub mod Standing
pub mod Again
pub mod Taken
pub mod StateTexts
pub mod Certifying
pub mod Collected
pub mod Stable
pub mod Public
