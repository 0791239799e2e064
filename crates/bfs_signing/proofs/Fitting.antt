-- What a relay signs for a call spells the request that it signed.
use Rattle.std.proofs.Common.{◌≡◌, ◌∙◌, ℕ, ◌+◌, ◌<◌, ◌≤◌, ◌^◌, List, [], ◌∷◌, length, map, Bool, true, false, cond, Option, Some, None, refl, sym, ap, subst, arith}
use Rattle.std.specs.Prelude.{All, nat_le, option_and_then}
use Rattle.std.proofs.lemmas.Bool.{leb-true}
use Rattle.std.specs.List.{fold, range_with_len, slice_get}
use Rattle.std.specs.Option.{option_map}
use Rattle.std.proofs.lemmas.List.{length-map, length-set}
use Rattle.std.proofs.lemmas.List.Elements.{All-cons, All-get_or, All-head, All-map, All-nil, All-set, All-tail}
use Rattle.std.proofs.lemmas.List.FromFn.{length-map-range_with_len}
use Rattle.std.proofs.lemmas.Option.{get_or_from_slice_get, slice_get_within}
use Rattle.sha2.proofs.Facts256.{length-sha256}
use Rattle.bfs_model.specs.Server.Limits.{most_clients, most_replicas, most_request_bytes}
use Rattle.lms.specs.Levels.{hss_public_key_bytes}
use Rattle.lms.specs.Signers.{HssKey, hss_public_key}
use Rattle.bfs_signatures.specs.Signature.{is_signature}
use Rattle.bfs_auth.specs.Authenticators.{IsAuthenticator, authenticator_at, entry_for, hashes_of, is_right, passes, signature, signature_or_none}
use Rattle.bfs_auth.specs.Hmac.{hmac_sha256}
use Rattle.bfs_auth.specs.Keys.{Keys, shared_with}
use Rattle.bfs_auth.specs.Places.{index_of, place_in}
use Rattle.bfs_auth.specs.Signatures.{most_signature_bytes, short_enough, signature_alone}
use Rattle.bfs_auth.specs.declared.places.Place.{Place}
use Rattle.bfs_auth.specs.declared.authenticators.Authenticator.TheVariants.{Signature}
use Rattle.bfs_auth.specs.declared.pairwise.SharedKeys.{SharedKeys}
use Rattle.bfs_clients.specs.Clients.{Clients, signed_request}
use Rattle.bfs_codec.proofs.Public.{text_spells}
use Rattle.bfs_codec.specs.Reading.{message_of}
use Rattle.bfs_messages.specs.Fits.{FitsMessage}
use Rattle.bfs_messages.specs.Limits.{FitsRequest, FitsSigned}
use Rattle.bfs_messages.specs.Messages as model
use Rattle.bfs_messages.specs.Signing.{sender_of, signed_by}
use Rattle.bfs_messages.specs.Spelling.{body_text, signed_text}
use Rattle.bfs_messages.specs.declared.message.Message.{Message}
use Rattle.bfs_messages.specs.declared.message.Message.TheVariants.{Request}
use Rattle.bfs_messages.specs.declared.signed.Signed.{Signed}
use Rattle.bfs_relay.specs.GivenKeys.{all_keyless, client_of, clients_with, no_keys, put_at, with_keys}
use Rattle.bfs_relay.specs.Origins.{Came, IsRequest}
use Rattle.bfs_signing.specs.Origins.{HasFewKeys, PassesBy}
use Rattle.bfs_signing.specs.Requests.{with_signature}

-- Keys -------------------------------------------------------------------------------------------------------------------

pub record AreFew (clients : Clients) : Type 0 where
  pub each : All HasFewKeys clients.keys
  pub few : length clients.keys ≤ most_clients

all_of : {A B : Type 0} (P : B → Type 0) (f : A → B) → ((a : A) → P (f a)) → (xs : List A) → All P (map f xs)
all_of P f each [] = All-nil P
all_of P f each (x ∷ xs) = All-cons P (f x) (map f xs) (each x) (all_of P f each xs)

put_few : (at : Option ℕ) (keys : Keys) (all : List Keys) → HasFewKeys keys → All HasFewKeys all → All HasFewKeys (put_at at keys all)
put_few None keys all few each = each
put_few (Some client) keys all few each = All-set HasFewKeys all client keys few each

put_long : (at : Option ℕ) (keys : Keys) (all : List Keys) → length (put_at at keys all) ≡ length all
put_long None keys all = refl
put_long (Some client) keys all = length-set all client keys

all_few : (given all : List Keys) → All HasFewKeys given → All HasFewKeys all → All HasFewKeys (fold with_keys all given)
all_few [] all given_few each = each
all_few (keys ∷ given) all given_few each =
    all_few given (with_keys all keys) (All-tail HasFewKeys keys given given_few)
    (put_few (client_of keys) keys all (All-head HasFewKeys keys given given_few) each)

all_long : (given all : List Keys) → length (fold with_keys all given) ≡ length all
all_long [] all = refl
all_long (keys ∷ given) all = all_long given (with_keys all keys) ∙ put_long (client_of keys) keys all

keyless_few : All HasFewKeys all_keyless
unfolding all_keyless
keyless_few = all_of HasFewKeys no_keys (λ client. omega arith) (range_with_len 0 most_clients)

keyless_long : length all_keyless ≡ most_clients
unfolding all_keyless
keyless_long = length-map-range_with_len no_keys 0 most_clients

pub given_few : (f : ℕ) (given : List Keys) → All HasFewKeys given → AreFew (clients_with f given)
given_few f given few = record {
  each = all_few given all_keyless few keyless_few;
  few = omega (arith, all_long given all_keyless, keyless_long);
}

-- Requests ---------------------------------------------------------------------------------------------------------------

hash_long : (key text : List ℕ) → length (hmac_sha256 key text) ≡ 32
unfolding hmac_sha256
hash_long key text = length-sha256 _

signature_fits : (keys : Keys) (text : List ℕ) → HasFewKeys keys → IsAuthenticator (signature keys text)
unfolding signature
signature_fits keys text few = go keys.signer (place_in text)
  where
    hashes : IsAuthenticator (hashes_of keys text)
    hashes = (
      omega (arith, few, length-map keys.replicas (λ (shared : SharedKeys). hmac_sha256 shared.sending text)),
      all_of (λ (entry : List ℕ). length entry ≡ 32) (λ (shared : SharedKeys). hmac_sha256 shared.sending text) (λ shared. hash_long shared.sending text) keys.replicas,
    )

    none : IsAuthenticator (signature_or_none None)
    none = (omega arith, All-nil (λ (entry : List ℕ). length entry ≡ 32))

    short_fits : (bytes : List ℕ) (short : Bool) → nat_le (length bytes) most_signature_bytes ≡ short → IsAuthenticator (signature_or_none (cond short (Some bytes) None))
    short_fits bytes true is = leb-true (length bytes) most_signature_bytes is
    short_fits bytes false is = none

    by_index : (key : HssKey) (index : Option ℕ) → IsAuthenticator (signature_or_none (option_and_then (λ i. short_enough (signature_alone key i text)) index))
    by_index key None = none
    by_index key (Some i) = short_fits (signature_alone key i text) (nat_le (length (signature_alone key i text)) most_signature_bytes) refl

    go : (signer : Option HssKey) (place : Option Place) → IsAuthenticator (authenticator_at keys signer place text)
    go None place = hashes
    go (Some key) None = hashes
    go (Some key) (Some place) = by_index key (index_of key place)

keys_there : (clients : Clients) (client : ℕ) (keys : Keys) → AreFew clients → slice_get clients.keys client ≡ Some keys
    → (client < 2 ^ 32) × HasFewKeys keys
keys_there clients client keys few there =
    let within = slice_get_within clients.keys client keys there in (
      omega (arith, within, few.few),
      subst HasFewKeys (get_or_from_slice_get clients.keys client keys keys there) (All-get_or HasFewKeys clients.keys client keys within few.each),
    )

request_fits : (clients : Clients) (request : model.Request) (signed : Signed Message) → AreFew clients → request.timestamp < 2 ^ 64
    → length request.call ≤ most_request_bytes → (keys : Option Keys) → slice_get clients.keys request.client ≡ keys
    → option_map (λ (k : Keys). signed_by k (Request request)) keys ≡ Some signed → FitsSigned FitsMessage signed
request_fits clients request signed few counted short None there is = absurd cc
request_fits clients request signed few counted short (Some keys) there is =
    let parts = keys_there clients request.client keys few there in
    let same : signed_by keys (Request request) ≡ signed = cc in
    let fits : FitsRequest request = record { client = parts.0; timestamp = counted; call = short } in
    subst (FitsSigned FitsMessage) same (fits, signature_fits keys (body_text (Request request)) parts.1)

origin_fits : (clients : Clients) (came : Came) (text : List ℕ) → AreFew clients → (origin : IsRequest clients came text)
    → FitsSigned FitsMessage origin.asked.signed
origin_fits clients came text few origin =
    let asked = origin.asked in
    let request : model.Request = record { client = origin.client; timestamp = origin.timestamp; call = asked.call.bytes } in
    request_fits clients request asked.signed few asked.counted asked.short (slice_get clients.keys origin.client) refl asked.is_signed

-- the text of a request that was signed for a call spells it
pub request_spelled : (clients : Clients) (came : Came) (text : List ℕ) → AreFew clients → (origin : IsRequest clients came text)
    → message_of text ≡ Some origin.asked.signed
request_spelled clients came text few origin =
    ap message_of origin.asked.is_text ∙ text_spells origin.asked.signed (origin_fits clients came text few origin)

-- and so does its text with a signature
pub signed_spelled : (clients : Clients) (came : Came) (text signature : List ℕ) → AreFew clients → (origin : IsRequest clients came text)
    → length signature ≤ most_signature_bytes
    → message_of (signed_text (with_signature origin.asked.signed signature)) ≡ Some (with_signature origin.asked.signed signature)
signed_spelled clients came text signature few origin short =
    text_spells (with_signature origin.asked.signed signature) ((origin_fits clients came text few origin).0, short)

-- Signatures -------------------------------------------------------------------------------------------------------------

-- a signature that passes by a key passes at all who know its public key
pub passes_by_key : (key : HssKey) (signed : Signed Message) (bytes : List ℕ)
    → is_signature (hss_public_key_bytes (hss_public_key key)) (body_text signed.message) bytes ≡ true → PassesBy key (with_signature signed bytes)
unfolding passes
passes_by_key key signed bytes is keys known =
    let sender = sender_of signed.message in
    let text = body_text signed.message in
    subst (λ (public_key : Option (List ℕ)). is_right public_key (shared_with keys sender) text (entry_for keys.me (Signature bytes)) (Some bytes) ≡ true) (sym known) is
