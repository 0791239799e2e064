-- What contracts inside this crate speak of.
pub mod Places
