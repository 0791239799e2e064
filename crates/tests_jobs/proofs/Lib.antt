pub mod Nothing
pub mod Numbers
pub mod Out
pub mod Parts
