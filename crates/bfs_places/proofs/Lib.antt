-- What proofs share.
mod Places
mod Texts
mod Spent
mod Numbers
mod Senders
mod Coming
mod Fresh
mod Once
mod Reached
mod Theorem
