-- Where what a relay that signs tells comes from, and by what it is signed.
use Rattle.std.specs.Prelude.{◌≡◌, ℕ, ◌<◌, ◌≤◌, List, true, Some, All, Contains, length, slice_get}
use Rattle.std.specs.List.{AllByRecursion}
use Rattle.lms.specs.Levels.{hss_public_key_bytes, most_levels}
use Rattle.lms.specs.Signers.{HssKey, hss_public_key}
use Rattle.bfs_signatures.specs.Signature.{is_signature}
use Rattle.bfs_signatures.specs.Signing.{signatures_of}
use Rattle.bfs_model.specs.Server.Limits.{most_replicas}
use Rattle.bfs_auth.specs.Keys.{Keys, public_key_of}
use Rattle.bfs_clients.specs.Clients.{Clients}
use Rattle.bfs_codec.specs.Reading.{message_of}
use Rattle.bfs_filter.specs.Runs.{Exchange}
use Rattle.bfs_frames.specs.Parcels.{Told, told_by}
use Rattle.bfs_frames.specs.declared.parcels.To.{To}
use Rattle.bfs_frames.specs.declared.parcels.To.TheVariants.{Caller, Replica, Replicas}
use Rattle.bfs_messages.specs.Signing.{is_signed, sender_of}
use Rattle.bfs_messages.specs.Spelling.{body_text, signed_text}
use Rattle.bfs_messages.specs.declared.message.Message.{Message}
use Rattle.bfs_messages.specs.declared.signed.Signed.{Signed}
use Rattle.bfs_relay.specs.GivenKeys.{clients_with}
use Rattle.bfs_relay.specs.Origins.{Came, IsAnswer, IsRequest, TurnCame}
use Rattle.bfs_signing.specs.Indexes.{Use}
use Rattle.bfs_signing.specs.Lives.{IsLived, Life, turns_of, uses_in}
use Rattle.bfs_signing.specs.Requests.{with_signature}

-- a key of one to three levels, whose first tree has a name of 16 bytes
pub record IsKey (key : HssKey) : Type 0 where
  pub id : length key.first.id ≡ 16
  pub below : length key.below < most_levels

-- no more replicas than there can be share keys with the client
abbrev pub HasFewKeys : Keys → Type 0
HasFewKeys keys = length keys.replicas ≤ most_replicas

-- what an index that was used has signed of the text, which passes by the key's public key
pub record IsSignedBy (key : HssKey) (uses : List Use) (text signature : List ℕ) : Type 0 where
  pub by : Use
  pub used : Contains uses by
  pub place : ℕ
  pub text_there : slice_get by.texts place ≡ Some text
  pub signature_there : slice_get (signatures_of key by.index by.texts) place ≡ Some signature
  pub passes : is_signature (hss_public_key_bytes (hss_public_key key)) text signature ≡ true

-- whoever knows the key's public key as its sender's finds it signed
abbrev pub PassesBy : HssKey → Signed Message → Type 0
PassesBy key signed = (keys : Keys) → public_key_of keys (sender_of signed.message) (body_text signed.message) ≡ Some (hss_public_key_bytes (hss_public_key key)) → is_signed keys signed ≡ true

-- the request that a client signed for a call, with a signature in place of its keyed hashes
pub record IsSignedRequest (clients : Clients) (came : Came) (key : HssKey) (uses : List Use) (payload : List ℕ) : Type 0 where
  -- what the relay told
  pub text : List ℕ
  pub origin : IsRequest clients came text
  pub signature : List ℕ
  pub is_signed : IsSignedBy key uses (body_text origin.asked.signed.message) signature
  pub is_text : payload ≡ signed_text (with_signature origin.asked.signed signature)
  pub is_read : message_of payload ≡ Some (with_signature origin.asked.signed signature)
  pub passes : PassesBy key (with_signature origin.asked.signed signature)

abbrev pub LeavesTo : Clients → Came → HssKey → List Use → To → (payload : List ℕ) → Type 0
LeavesTo clients came key uses Replicas payload = IsSignedRequest clients came key uses payload
LeavesTo clients came key uses (Replica number) payload = IsSignedRequest clients came key uses payload
LeavesTo clients came key uses (Caller ticket) payload = IsAnswer clients came ticket payload
LeavesTo clients came key uses _ payload = Unit {0}

abbrev pub Leaves : Clients → Came → HssKey → List Use → Told → Type 0
Leaves clients came key uses told = LeavesTo clients came key uses told.to told.payload

-- each parcel of each answer
abbrev pub AllLeave : Clients → Came → HssKey → List Use → List Exchange → Type 0
AllLeave clients came key uses exchanges = AllByRecursion (λ exchange. All (λ parcel. Leaves clients came key uses (told_by parcel)) exchange.parcels) exchanges

-- in each life, whatever comes in its turns
abbrev pub WhatLeavesIsSigned : Type 0
WhatLeavesIsSigned = (life : Life) (came : Came) → IsKey life.key → All HasFewKeys life.keys → IsLived life → All (TurnCame came) (turns_of life.exchanges)
    → AllLeave (clients_with life.f life.keys) came life.key (uses_in life) life.exchanges
