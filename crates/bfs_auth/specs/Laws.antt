-- What holds of keys, of those that are derived from one secret and of those that sign.
use Rattle.std.specs.Prelude.{◌≡◌, ◌<◌, ◌≤◌, ◌^◌, ◌↔◌, ℕ, List, [], ◌∷◌, length, Some, IsTrue, slice_get}
use Rattle.lms.specs.Levels.{hss_public_key_bytes, most_levels}
use Rattle.lms.specs.Signers.{HssKey, hss_public_key, index_count}
use Rattle.bfs_signatures.specs.Signing.{signatures_of}
use Rattle.bfs_votes.specs.Votes.{replicas as replicas_of}
use Rattle.bfs_auth.specs.Hmac.{hmac_sha256}
use Rattle.bfs_auth.specs.Keys.{Keys, clients_known, key_from_to, keys_of, public_key_of}
use Rattle.bfs_auth.specs.Authenticators.{entry_for, passes, signature, signature_for_client}
use Rattle.bfs_auth.specs.Places.{index_of, place_in}
use Rattle.bfs_auth.specs.Replicas.{AreOfReplica}
use Rattle.bfs_auth.specs.Signatures.{most_signature_bytes, signature_alone}
use Rattle.bfs_auth.specs.declared.authenticators.Authenticator.{Authenticator}
use Rattle.bfs_auth.specs.declared.authenticators.Authenticator.TheVariants.{Signature}
use Rattle.bfs_auth.specs.declared.places.Place.{Place}
use Rattle.bfs_auth.specs.declared.principals.Principal.{Principal}
use Rattle.bfs_auth.specs.declared.principals.Principal.TheVariants.{Replica, Client}

-- one principal shares keys with another one, where there are so many replicas and clients
abbrev pub ShareKeys : (me other : Principal) → (replicas clients : ℕ) → Type 0
ShareKeys me (Replica number) replicas clients = number < replicas
ShareKeys me (Client number) replicas clients = number < clients_known me clients

-- A text passes exactly where the two share keys and the receiver's own entry is the keyed hash under the key from the sender to
-- the receiver
abbrev pub OnlyTheSendersHashPasses : Type 0
OnlyTheSendersHashPasses = (secret : List ℕ) (me sender : Principal) (replicas clients : ℕ) (text : List ℕ) (auth : Authenticator)
    → IsTrue (passes (keys_of secret me replicas clients) sender text auth)
    ↔ (ShareKeys me sender replicas clients × (entry_for me auth ≡ Some (hmac_sha256 (key_from_to secret sender me) text)))

abbrev pub PassesAtReplicas : Type 0
PassesAtReplicas = (secret : List ℕ) (sender : Principal) (receiver replicas clients : ℕ) (text : List ℕ)
    → receiver < replicas → ShareKeys (Replica receiver) sender replicas clients
    → IsTrue (passes (keys_of secret (Replica receiver) replicas clients) sender text (signature (keys_of secret sender replicas clients) text))

abbrev pub PassesAtClients : Type 0
PassesAtClients = (secret : List ℕ) (sender receiver replicas clients : ℕ) (text : List ℕ) (auth : Authenticator)
    → sender < replicas → signature_for_client (keys_of secret (Replica sender) replicas clients) receiver text ≡ Some auth
    → IsTrue (passes (keys_of secret (Client receiver) replicas clients) (Replica sender) text auth)

-- Those that are derived for one of 3f + 1 replicas are its keys among them
abbrev pub DerivedAreOfReplicas : Type 0
DerivedAreOfReplicas = (secret : List ℕ) (f me clients : ℕ)
    → me < replicas_of f → AreOfReplica f me (keys_of secret (Replica me) (replicas_of f) clients)

-- A text of a sender whose public key the receivers know passes at all of them or at none
abbrev pub PassesAtAllOrAtNone : Type 0
PassesAtAllOrAtNone = (one other : Keys) (sender : Principal) (public_key text : List ℕ) (auth : Authenticator)
    → public_key_of one sender text ≡ Some public_key → public_key_of other sender text ≡ Some public_key
    → passes one sender text auth ≡ passes other sender text auth

-- What a replica signs by its key passes at all who know its public key
abbrev pub SignedPasses : Type 0
SignedPasses = (mine other : Keys) (key : HssKey) (sender : ℕ) (text bytes : List ℕ)
    → length key.first.id ≡ 16 → length key.below < most_levels
    → mine.signer ≡ Some key → slice_get other.replica_signers sender ≡ Some (hss_public_key_bytes (hss_public_key key))
    → signature mine text ≡ Signature bytes
    → IsTrue (passes other (Replica sender) text (Signature bytes))

-- It is signed where the key is not spent and the signature is none of the longest
abbrev pub SignedWhereNotSpent : Type 0
SignedWhereNotSpent = (mine : Keys) (key : HssKey) (place : Place) (index : ℕ) (text : List ℕ)
    → mine.signer ≡ Some key → place_in text ≡ Some place → index_of key place ≡ Some index
    → length (signature_alone key index text) ≤ most_signature_bytes
    → signature mine text ≡ Signature (signature_alone key index text)

-- What is signed alone is what is signed of one text among many
abbrev pub SignedAlone : Type 0
SignedAlone = (key : HssKey) (index : ℕ) (text : List ℕ) → signatures_of key index (text ∷ []) ≡ signature_alone key index text ∷ []

-- An index signs what is of one place, and the key has it
abbrev pub IndexIsOfOnePlace : Type 0
IndexIsOfOnePlace = (key : HssKey) (one other : Place) (index : ℕ) → index_of key one ≡ Some index → index_of key other ≡ Some index → one ≡ other

abbrev pub IndexIsOfTheKey : Type 0
IndexIsOfTheKey = (key : HssKey) (place : Place) (index : ℕ) → index_of key place ≡ Some index → (index < index_count key) × (index < 2 ^ 64)
