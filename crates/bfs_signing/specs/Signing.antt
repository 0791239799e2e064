-- A relay that signs what it tells replicas: once a turn, all texts of the turn, by an index of its key that signs nothing else.
use Rattle.std.specs.Prelude.{◌≡◌, ℕ, ◌≤◌, Bool, false, ◌||◌, List, ◌++◌, map}
use Rattle.lms.specs.Signers.{HssKey}
use Rattle.bfs_auth.specs.Keys.{Keys}
use Rattle.bfs_frames.specs.declared.frames.Turn.{Turn}
use Rattle.bfs_frames.specs.declared.parcels.Parcel.{Parcel}
use Rattle.bfs_frames.specs.Parcels.{Told, told_by}
use Rattle.bfs_relay.specs.Turns.{turned}
use Rattle.bfs_relaying.specs.Reserving as relaying
use Rattle.bfs_relaying.specs.Reserving.{Reserving, Takes}
use Rattle.bfs_signing.specs.Indexes.{HasIndex, is_low, next_after, warnings}
use Rattle.bfs_signing.specs.Requests.{signed_texts, signed_told}

pub record Signing : Type 0 where
  pub relay : Reserving
  pub key : HssKey
  -- the next index: those below it were used, or may have been, in this life or an earlier one
  pub next : ℕ
  -- the number that is kept: indexes from it on were never used
  pub reserved : ℕ
  -- whether the operator was told in this life that few indexes are left
  pub warned : Bool

-- what the relay tells in the turn, with keyed hashes
abbrev pub told_in_turn : Signing → Turn → List Told
told_in_turn signing turn = (turned turn signing.relay.relay).told

-- The relay takes the turn. What it tells replicas leaves with signatures, all by the next index, which is reserved; where it tells them nothing, no index is used.
pub record Signs (old : Signing) (turn : Turn) (parcels : List Parcel) (new : Signing) : Type 0 where
  -- what the relay gives
  pub unsigned : List Parcel
  pub taken : Takes old.relay turn unsigned new.relay
  pub told : map told_by parcels ≡ signed_told old.key old.next (told_in_turn old turn) ++ warnings old.warned (is_low old.key new.next)
  pub key : new.key ≡ old.key
  pub next : new.next ≡ next_after old.next (signed_texts (told_in_turn old turn))
  pub has : HasIndex old.key old.next (signed_texts (told_in_turn old turn))
  pub within : new.next ≤ new.reserved
  pub grows : old.reserved ≤ new.reserved
  pub warned : new.warned ≡ (old.warned || is_low old.key new.next)

-- a relay that begins to sign: it counts indexes from what is reserved
abbrev pub signing_with : Reserving → HssKey → (reserved : ℕ) → Signing
signing_with relay key reserved = record { relay = relay; key = key; next = reserved; reserved = reserved; warned = false }

-- one that has done nothing
abbrev pub begun : (f : ℕ) → List Keys → (from : ℕ) → HssKey → (first : ℕ) → Signing
begun f given from key first = signing_with (relaying.begun f given from) key first
