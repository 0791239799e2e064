mod Finding
mod Numbered
mod Senders
mod Places
mod Replies
pub mod Public
