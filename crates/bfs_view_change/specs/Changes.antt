-- From one view to the next: what a replica says of its log, what is right of that, and what a new view takes over (OSDI 1999 section 4.4).
pub mod ViewChanges
pub mod Choice
pub mod NewViews
pub mod Making
pub mod Keeping
pub mod Codes
pub mod Restoring
