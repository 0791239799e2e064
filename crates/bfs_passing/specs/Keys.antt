-- Keys by which replicas sign, and what they sign.
use Rattle.std.specs.Prelude.{◌≡◌, ℕ, ◌<◌, ◌≤◌, ◌^◌, List, length, slice_get, Some}
use Rattle.lms.specs.Levels.{hss_public_key_bytes, most_levels}
use Rattle.lms.specs.Signers.{HssKey, count_below, hss_public_key, index_count}
use Rattle.bfs_auth.specs.Signatures.{most_signature_bytes, signature_alone}
use Rattle.bfs_auth.specs.declared.places.Place.{Place}
use Rattle.bfs_auth.specs.declared.places.Place.TheVariants.{Vote, Checkpoint, ViewChange, NewView}
use Rattle.bfs_nodes_agree.specs.Nodes.Replicas.{Keyring}
use Rattle.bfs_liveness.specs.Ways.{numbers_of, views_of}
use Rattle.bfs_passing.specs.Signers.{KnowSigners}

-- a replica has a private key (RFC 8554 section 6) whose public key all know, with few indexes enough for 64 bits, and whose signatures keep the limit
pub record HasKey (f : ℕ) (keys : Keyring) (know : KnowSigners f keys) (i : ℕ) (key : HssKey) : Type 0 where
  pub signer : (keys i).signer ≡ Some key
  pub known : slice_get know.of_replicas i ≡ Some (hss_public_key_bytes (hss_public_key key))
  pub id : length key.first.id ≡ 16
  pub levels : length key.below < most_levels
  pub indexes : index_count key ≤ 2 ^ 64
  pub numbers : 2 ≤ count_below key.below
  pub short : (index : ℕ) (text : List ℕ) → index < index_count key → length (signature_alone key index text) ≤ most_signature_bytes

-- it signs what is of the place: the views and the numbers that it has
abbrev pub IsInTime : HssKey → Place → Type 0
IsInTime key (Vote view number) = (view < views_of (Some key)) × (number < numbers_of (Some key))
IsInTime key (Checkpoint number) = number < numbers_of (Some key)
IsInTime key (ViewChange view) = view < views_of (Some key)
IsInTime key (NewView view) = view < views_of (Some key)
