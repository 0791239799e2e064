-- A turn, of its parts.
use Rattle.std.proofs.Common.{◌≡◌, ℕ, ◌≤◌, ◌||◌, List, ◌++◌, map, refl, ap, subst, arith}
use Rattle.bfs_frames.specs.Parcels.{Told, told_by}
use Rattle.bfs_frames.specs.declared.frames.Turn.{Turn}
use Rattle.bfs_frames.specs.declared.parcels.Parcel.{Parcel}
use Rattle.bfs_relaying.specs.Reserving.{Reserving, Takes}
use Rattle.bfs_signing.specs.Indexes.{HasIndex, is_low, next_after, warnings}
use Rattle.bfs_signing.specs.Requests.{signed_texts, signed_told}
use Rattle.bfs_signing.specs.Signing.{Signing, Signs, told_in_turn}

-- the relay behind a turn in which it told these
abbrev pub behind : Signing → Reserving → (reserved : ℕ) → List Told → Signing
behind old relay reserved told = record {
  relay = relay;
  key = old.key;
  next = next_after old.next (signed_texts told);
  reserved = reserved;
  warned = old.warned || is_low old.key (next_after old.next (signed_texts told));
}

pub signs : (old : Signing) (relay : Reserving) (reserved : ℕ) (turn : Turn) (unsigned parcels : List Parcel) (told : List Told)
    → told ≡ told_in_turn old turn
    → Takes old.relay turn unsigned relay
    → map told_by parcels ≡ signed_told old.key old.next told ++ warnings old.warned (is_low old.key (next_after old.next (signed_texts told)))
    → HasIndex old.key old.next (signed_texts told)
    → next_after old.next (signed_texts told) ≤ reserved
    → old.reserved ≤ reserved
    → Signs old turn parcels (behind old relay reserved told)
signs old relay reserved turn unsigned parcels told same takes is has within grows = record {
  unsigned = unsigned;
  taken = takes;
  told = subst (λ (t : List Told). map told_by parcels ≡ signed_told old.key old.next t ++ warnings old.warned (is_low old.key (next_after old.next (signed_texts told))))
      same is;
  key = refl;
  next = ap (λ (t : List Told). next_after old.next (signed_texts t)) same;
  has = subst (λ (t : List Told). HasIndex old.key old.next (signed_texts t)) same has;
  within = within;
  grows = grows;
  warned = refl;
}
