pub mod BlockLemmas
pub mod PieceLemmas
pub mod PutLemmas
pub mod ReadLemmas
pub mod WriteLemmas
