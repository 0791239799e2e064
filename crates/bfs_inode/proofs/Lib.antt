pub mod DirectoryLemmas
pub mod IndexLemmas
pub mod OrderLemmas
pub mod Public
