pub mod Bodies
pub mod Making
pub mod Public
