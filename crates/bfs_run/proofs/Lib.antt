-- What proofs share.
mod Carrying
mod Acting
mod Clusters
mod Events
mod Seeing
