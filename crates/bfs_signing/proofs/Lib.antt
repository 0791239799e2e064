pub mod Folding
pub mod Texts
pub mod Turning
pub mod Uses
pub mod Rising
pub mod Fitting
pub mod Leaving
