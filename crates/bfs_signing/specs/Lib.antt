-- What goes to replicas, with signatures (Requests), the indexes of a key (Indexes), a relay that signs (Signing), its lives (Lives), and where what it tells in them
-- comes from (Origins).
pub mod Requests
pub mod Indexes
pub mod Signing
pub mod Lives
pub mod Origins
