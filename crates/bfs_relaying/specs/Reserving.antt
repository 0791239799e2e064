-- A relay that reserves the timestamps of its requests before it tells them.
use Rattle.std.specs.Prelude.{◌≡◌, ℕ, ◌≤◌, List, [], map, All}
use Rattle.bfs_auth.specs.Keys.{Keys}
use Rattle.bfs_frames.specs.declared.frames.Turn.{Turn}
use Rattle.bfs_frames.specs.declared.parcels.Parcel.{Parcel}
use Rattle.bfs_relay.specs.GivenKeys.{relay_of}
use Rattle.bfs_frames.specs.Parcels.{told_by}
use Rattle.bfs_relay.specs.Relays.{Relay}
use Rattle.bfs_relay.specs.Turns.{turned}

pub record Reserving : Type 0 where
  pub relay : Relay
  -- the number that is kept: timestamps below it may have been used
  pub reserved : ℕ

-- every client's next timestamp is at most that, so those that were used are below it
abbrev pub AreReserved : (reserved : ℕ) → Relay → Type 0
AreReserved reserved relay = All (λ seat. seat.counter.next ≤ reserved) relay.seats

-- The relay takes the turn, and tells what that makes of it, with all timestamps that were used reserved.
pub record Takes (old : Reserving) (turn : Turn) (parcels : List Parcel) (new : Reserving) : Type 0 where
  pub relay : new.relay ≡ record (turned turn old.relay) { told = [] }
  pub told : map told_by parcels ≡ (turned turn old.relay).told
  pub within : AreReserved new.reserved new.relay
  pub grows : old.reserved ≤ new.reserved

-- one that has done nothing; it counts from what is reserved
abbrev pub begun : (f : ℕ) → List Keys → (reserved : ℕ) → Reserving
begun f given reserved = record { relay = relay_of f given reserved; reserved = reserved }
