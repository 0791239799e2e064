-- Keyed hashes pass where both have the same key: so COMMITs, which are of no place, pass at each member.
use Rattle.std.proofs.Common.{◌≡◌, ◌∙◌, ℕ, Bool, true, List, map, Option, Some, None, refl, sym, ap, ap₂, arith}
use Rattle.std.specs.Prelude.{option_and_then, slice_get}
use Rattle.std.specs.Option.{option_map}
use Rattle.std.proofs.lemmas.Option.{slice_get-map}
use Rattle.std.proofs.lemmas.Slice.Eq.{bytes_eq-Decides}
use Rattle.lms.specs.Signers.{HssKey}
use Rattle.bfs_auth.specs.Authenticators.{authenticator_at, entry_for, hashes_of, is_hash, is_right, passes, signature, signature_in}
use Rattle.bfs_auth.specs.Hmac.{hmac_sha256}
use Rattle.bfs_auth.specs.Keys.{Keys}
use Rattle.bfs_auth.specs.Places.{place_in}
use Rattle.bfs_auth.specs.declared.authenticators.Authenticator.{Authenticator}
use Rattle.bfs_auth.specs.declared.pairwise.SharedKeys.{SharedKeys}
use Rattle.bfs_auth.specs.declared.places.Place.{Place}
use Rattle.bfs_auth.specs.declared.principals.Principal.{Principal}
use Rattle.bfs_auth.specs.declared.principals.Principal.TheVariants.{Replica}
use Rattle.bfs_messages.proofs.Public.{commit_place}
use Rattle.bfs_messages.specs.OrderMessages.{order_tag}
use Rattle.bfs_messages.specs.Spelling.{order_body_text}
use Rattle.bfs_messages.specs.declared.order_messages.OrderMessage.{OrderMessage}
use Rattle.bfs_messages.specs.declared.order_messages.OrderMessage.TheVariants.{PrePrepare, Prepare, Commit, Checkpoint}
use Rattle.bfs_passing.specs.Signers.{SharesKey}
use Rattle.bfs_nodes_agree.specs.Nodes.Replicas.{Keyring}

hashes_alone : (keys : Keys) (signer : Option HssKey) (text : List ℕ) → authenticator_at keys signer None text ≡ hashes_of keys text
hashes_alone keys None text = refl
hashes_alone keys (Some key) text = refl

pub hash_passes : (keys : Keyring) (i j : ℕ) (text : List ℕ) → SharesKey keys i j → place_in text ≡ None → passes (keys j) (Replica i) text (signature (keys i) text) ≡ true
unfolding passes signature
hash_passes keys i j text share none =
    let one = keys i in
    let other = keys j in
    let hash = λ (shared : SharedKeys). hmac_sha256 shared.sending text in
    let entry : slice_get (map hash one.replicas) j ≡ Some (hmac_sha256 share.sent.sending text) = slice_get-map hash one.replicas j ∙ ap (option_map hash) share.of_sender in
    let right : is_hash (slice_get other.replicas i) text (slice_get (map hash one.replicas) j) ≡ true =
    ap₂ (λ (shared : Option SharedKeys) (mine : Option (List ℕ)). is_hash shared text mine) share.of_receiver entry
    ∙ (bytes_eq-Decides (hmac_sha256 share.received.receiving text) (hmac_sha256 share.sent.sending text)).1 (ap (λ (k : List ℕ). hmac_sha256 k text) (sym share.same)) in
    let whole : (place : Option Place) (who : Principal) (auth : Authenticator) → Bool = λ place who auth.
    is_right (option_and_then (λ (x : Place). slice_get other.replica_signers i) place) (slice_get other.replicas i) text (entry_for who auth) (signature_in auth) in
    ap (λ (place : Option Place). whole place other.me (authenticator_at one one.signer place text)) none
    ∙ ap (λ (who : Principal). whole None who (authenticator_at one one.signer None text)) share.me
    ∙ ap (λ (auth : Authenticator). whole None (Replica j) auth) (hashes_alone one one.signer text) ∙ right

-- The text of a COMMIT ------------------------------------------------------------------------------------------------

pub commit_nowhere : (m : OrderMessage) → order_tag m ≡ 4 → place_in (order_body_text m) ≡ None
commit_nowhere (Commit vote) four = commit_place vote
commit_nowhere (PrePrepare proposal) four = absurd (omega (arith, four))
commit_nowhere (Prepare vote) four = absurd (omega (arith, four))
commit_nowhere (Checkpoint checkpoint) four = absurd (omega (arith, four))
