-- A relay: what it answers by itself (Mount, OwnReplies), what it tells (Parcels), whom it asks first (Leaders), the clients that it speaks for (Seats), its
-- steps (Relays), its turns (Turns), views of the code (Views), where its answers come from (Origins), and a relay of given keys (GivenKeys).
pub mod Mount
pub mod OwnReplies
pub mod Parcels
pub mod Leaders
pub mod Seats
pub mod Relays
pub mod Turns
pub mod Views
pub mod Origins
pub mod GivenKeys
