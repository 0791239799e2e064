pub mod NewOrdinals
pub mod NumberedEntries
