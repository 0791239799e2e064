mod Blocks
mod Indexes
mod Numbered
mod Passing
mod SignedTexts
pub mod Public
mod Rooted
