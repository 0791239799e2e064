-- What proofs share.
pub mod Telling
pub mod Saying
pub mod Dropping
pub mod Results
pub mod Taking
pub mod Deeds
pub mod Entering
pub mod Whole
pub mod Rising
pub mod Worlds
pub mod Lists
pub mod Logs
