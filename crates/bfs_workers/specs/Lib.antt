-- Workers, and what comes of the jobs that they run.
pub mod Workers
pub mod Results
pub mod Dealt
pub mod Laws
pub mod Rule
pub mod Alone
pub mod Answered
