-- Authenticators: keyed hashes of one message, for each of its receivers, or a signature that each of them checks alike.
use Rattle.std.specs.Prelude.{◌≡◌, ◌≤◌, ℕ, Bool, false, List, [], ◌∷◌, map, length, Option, Some, None, option_and_then, slice_get, bytes_eq, All}
use Rattle.std.specs.Option.{option_map}
use Rattle.lms.specs.Signers.{HssKey}
use Rattle.bfs_model.specs.Server.Limits.{most_replicas}
use Rattle.bfs_signatures.specs.Signature.{is_signature}
use Rattle.bfs_auth.specs.Hmac.{hmac_sha256}
use Rattle.bfs_auth.specs.Keys.{Keys, public_key_of, shared_with}
use Rattle.bfs_auth.specs.Places.{index_of, place_in}
use Rattle.bfs_auth.specs.Signatures.{most_signature_bytes, short_enough, signature_alone}
use Rattle.bfs_auth.specs.declared.authenticators.Authenticator.{Authenticator}
use Rattle.bfs_auth.specs.declared.authenticators.Authenticator.TheVariants.{Hashes, Signature}
use Rattle.bfs_auth.specs.declared.principals.Principal.{Principal}
use Rattle.bfs_auth.specs.declared.principals.Principal.TheVariants.{Replica, Client}
use Rattle.bfs_auth.specs.declared.pairwise.SharedKeys.{SharedKeys}
use Rattle.bfs_auth.specs.declared.places.Place.{Place}

-- at most so many keyed hashes, of 32 bytes each
abbrev pub AreHashes : List (List ℕ) → Type 0
AreHashes entries = (length entries ≤ most_replicas) × All (λ entry. length entry ≡ 32) entries

abbrev pub IsAuthenticator : Authenticator → Type 0
IsAuthenticator (Hashes entries) = AreHashes entries
IsAuthenticator (Signature bytes) = length bytes ≤ most_signature_bytes

-- an entry for each replica, by their numbers
abbrev pub hashes_of : Keys → (text : List ℕ) → Authenticator
hashes_of keys text = Hashes (map (λ shared. hmac_sha256 shared.sending text) keys.replicas)

-- no hashes, which pass nowhere, where there is no signature
abbrev pub signature_or_none : Option (List ℕ) → Authenticator
signature_or_none None = Hashes []
signature_or_none (Some bytes) = Signature bytes

-- what is signed by the index of its place; None where the key is spent there
abbrev pub signed_at : HssKey → Place → (text : List ℕ) → Option (List ℕ)
signed_at key place text = option_and_then (λ index. short_enough (signature_alone key index text)) (index_of key place)

abbrev pub authenticator_at : Keys → Option HssKey → Option Place → (text : List ℕ) → Authenticator
authenticator_at keys None place text = hashes_of keys text
authenticator_at keys (Some key) None text = hashes_of keys text
authenticator_at keys (Some key) (Some place) text = signature_or_none (signed_at key place text)

-- for all replicas: a signature where the sender has a key for them and the text is of a place, else keyed hashes
unfoldable pub signature : Keys → (text : List ℕ) → Authenticator
signature keys text = authenticator_at keys keys.signer (place_in text) text

-- one entry for a client
abbrev pub signature_for_client : Keys → (client : ℕ) → (text : List ℕ) → Option Authenticator
signature_for_client keys client text = option_map (λ shared. Hashes (hmac_sha256 shared.sending text ∷ [])) (slice_get keys.clients client)

-- those of keyed hashes
abbrev pub entries_of : Authenticator → List (List ℕ)
entries_of (Hashes entries) = entries
entries_of (Signature bytes) = []

abbrev pub signature_in : Authenticator → Option (List ℕ)
signature_in (Hashes entries) = None
signature_in (Signature bytes) = Some bytes

-- about how many bytes are hashed to check it, beside the text: a signature has some thousand steps of chains, of a block of 64 bytes each
abbrev pub bytes_to_hash : Authenticator → ℕ
bytes_to_hash (Hashes entries) = 0
bytes_to_hash (Signature bytes) = 262144

abbrev pub entry_at : (receiver : Principal) → List (List ℕ) → Option (List ℕ)
entry_at (Replica number) entries = slice_get entries number
entry_at (Client _) entries = slice_get entries 0

-- the receiver's own entry
abbrev pub entry_for : (receiver : Principal) → Authenticator → Option (List ℕ)
entry_for receiver (Hashes entries) = entry_at receiver entries
entry_for receiver (Signature bytes) = None

abbrev pub is_hash : Option SharedKeys → (text : List ℕ) → Option (List ℕ) → Bool
is_hash (Some shared) text (Some entry) = bytes_eq (hmac_sha256 shared.receiving text) entry
is_hash (Some _) text None = false
is_hash None text _ = false

abbrev pub is_signed_by : (public_key text : List ℕ) → Option (List ℕ) → Bool
is_signed_by public_key text (Some bytes) = is_signature public_key text bytes
is_signed_by public_key text None = false

-- what is read of an authenticator is right for a text: by the sender's public key, where there is one, else by the keys that receiver and sender share
abbrev pub is_right : (public_key : Option (List ℕ)) → Option SharedKeys → (text : List ℕ) → (entry signature : Option (List ℕ)) → Bool
is_right (Some public_key) shared text entry signature = is_signed_by public_key text signature
is_right None shared text entry signature = is_hash shared text entry

-- Whether it is the sender's for the text. Where the sender has a public key for such texts: it is a signature of the text by that. Where it has none: the
-- receiver's own entry is the text's keyed hash under the key from the sender to the receiver.
unfoldable pub passes : Keys → (sender : Principal) → (text : List ℕ) → Authenticator → Bool
passes keys sender text auth = is_right (public_key_of keys sender text) (shared_with keys sender) text (entry_for keys.me auth) (signature_in auth)
