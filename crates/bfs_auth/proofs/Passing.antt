-- What passes under keys that are derived from one secret.
use Rattle.std.proofs.Common.{◌≡◌, ◌<◌, ◌∷◌, [], ℕ, Bool, List, map, refl, sym, ap, ◌∙◌, arith, ⊎_elim}
use Rattle.std.specs.Prelude.{◌↔◌, Option, Some, None, IsTrue, option_and_then, slice_get}
use Rattle.std.specs.List.{range_with_len}
use Rattle.std.specs.Option.{option_map}
use Rattle.std.proofs.lemmas.Bool.{cases_lt}
use Rattle.std.proofs.lemmas.Option.{slice_get-map, slice_get_past}
use Rattle.std.proofs.lemmas.Slice.Eq.{bytes_eq-Decides}
use Rattle.bfs_auth.proofs.Numbered.{made_at, none_at}
use Rattle.bfs_auth.specs.Hmac.{hmac_sha256}
use Rattle.bfs_auth.specs.Places.{place_in}
use Rattle.bfs_auth.specs.Keys.{Keys, clients_known, key_from_to, keys_of, public_key_of, shared_keys, shared_with}
use Rattle.bfs_auth.specs.Authenticators.{entry_for, hashes_of, is_hash, is_right, is_signed_by, passes, signature, signature_in}
use Rattle.bfs_auth.specs.Laws.{OnlyTheSendersHashPasses, PassesAtAllOrAtNone, PassesAtClients, PassesAtReplicas}
use Rattle.bfs_auth.specs.declared.authenticators.Authenticator.{Authenticator}
use Rattle.bfs_auth.specs.declared.authenticators.Authenticator.TheVariants.{Hashes}
use Rattle.bfs_auth.specs.declared.principals.Principal.{Principal}
use Rattle.bfs_auth.specs.declared.principals.Principal.TheVariants.{Replica, Client}
use Rattle.bfs_auth.specs.declared.pairwise.SharedKeys.{SharedKeys}

is_the_hash : (shared : SharedKeys) (text : List ℕ) (entry : Option (List ℕ))
    → IsTrue (is_hash (Some shared) text entry) ↔ (entry ≡ Some (hmac_sha256 shared.receiving text))
is_the_hash shared text None = (λ no. cc, λ no. cc)
is_the_hash shared text (Some entry) =
    let decides = bytes_eq-Decides (hmac_sha256 shared.receiving text) entry in
    (λ same. ap Some (sym (decides.0 same)), λ same. decides.1 (cc))

by_number : (f : ℕ → SharedKeys) (n k : ℕ) (text : List ℕ) (entry : Option (List ℕ))
    → IsTrue (is_hash (slice_get (map f (range_with_len 0 n)) k) text entry) ↔ ((k < n) × (entry ≡ Some (hmac_sha256 (f k).receiving text)))
by_number f n k text entry = ⊎_elim
    (λ below. rw (made_at f n k below) (λ passed. (below, (is_the_hash (f k) text entry).0 passed), λ both. (is_the_hash (f k) text entry).1 both.1))
    (λ past. rw (none_at f n k past) (λ no. cc, λ both. absurd (omega (arith, past, both.0))))
    (cases_lt k n)

-- what is known at no place
nowhere : {X Y : Type 0} (known : Option X) (f : X → Option Y) → ((x : X) → f x ≡ None) → option_and_then f known ≡ None
nowhere None f none = refl
nowhere (Some x) f none = none x

-- with derived keys no public key is known
hashed : (secret : List ℕ) (me sender : Principal) (replicas clients : ℕ) (text : List ℕ) (auth : Authenticator)
    → passes (keys_of secret me replicas clients) sender text auth ≡ is_hash (shared_with (keys_of secret me replicas clients) sender) text (entry_for me auth)
unfolding passes
hashed secret me (Replica number) replicas clients text auth =
    let keys = keys_of secret me replicas clients in
    ap (λ (key : Option (List ℕ)). is_right key (shared_with keys (Replica number)) text (entry_for me auth) (signature_in auth))
    (nowhere (place_in text) (λ place. slice_get [] number) (λ place. slice_get_past [] number (omega arith)))
hashed secret me (Client number) replicas clients text auth =
    let keys = keys_of secret me replicas clients in
    ap (λ (key : Option (List ℕ)). is_right key (shared_with keys (Client number)) text (entry_for me auth) (signature_in auth)) (slice_get_past [] number (omega arith))

pub only_the_senders : OnlyTheSendersHashPasses
only_the_senders secret me (Replica number) replicas clients text auth =
    rw (hashed secret me (Replica number) replicas clients text auth) (by_number (λ k. shared_keys secret me (Replica k)) replicas number text (entry_for me auth))
only_the_senders secret me (Client number) replicas clients text auth =
    rw (hashed secret me (Client number) replicas clients text auth) (by_number (λ k. shared_keys secret me (Client k)) (clients_known me clients) number text (entry_for me auth))

-- with derived keys nothing is signed
pub derived_hashes : (secret : List ℕ) (me : Principal) (replicas clients : ℕ) (text : List ℕ)
    → signature (keys_of secret me replicas clients) text ≡ hashes_of (keys_of secret me replicas clients) text
unfolding signature
derived_hashes secret me replicas clients text = refl

pub at_replicas : PassesAtReplicas
at_replicas secret sender receiver replicas clients text there share =
    let keys = keys_of secret sender replicas clients in
    let key : slice_get keys.replicas receiver ≡ Some (shared_keys secret sender (Replica receiver)) = made_at (λ k. shared_keys secret sender (Replica k)) replicas receiver there in
    let entry = slice_get-map (λ shared. hmac_sha256 shared.sending text) keys.replicas receiver ∙ ap (option_map (λ shared. hmac_sha256 shared.sending text)) key in
    let whole : entry_for (Replica receiver) (signature keys text) ≡ Some (hmac_sha256 (shared_keys secret sender (Replica receiver)).sending text) =
    ap (entry_for (Replica receiver)) (derived_hashes secret sender replicas clients text) ∙ entry in
    (only_the_senders secret (Replica receiver) sender replicas clients text (signature keys text)).1 (share, whole)

pub at_clients : PassesAtClients
at_clients secret sender receiver replicas clients text auth there signed =
    let hash = hmac_sha256 (key_from_to secret (Replica sender) (Client receiver)) text in
    let made = λ (k : ℕ). shared_keys secret (Replica sender) (Client k) in
    let one = option_map (λ (shared : SharedKeys). Hashes (hmac_sha256 shared.sending text ∷ [])) in
    ⊎_elim
    (λ below.
    let known : Some (Hashes (hash ∷ [])) ≡ Some auth = sym (ap one (made_at made clients receiver below)) ∙ signed in
    let alone : auth ≡ Hashes (hash ∷ []) = cc in
    let entry : entry_for (Client receiver) auth ≡ Some hash = ap (entry_for (Client receiver)) alone in
    (only_the_senders secret (Client receiver) (Replica sender) replicas clients text auth).1 (there, entry))
    (λ past.
    let unknown : None ≡ Some auth = sym (ap one (none_at made clients receiver past)) ∙ signed in
    absurd (cc))
    (cases_lt receiver clients)

-- of the keys nothing counts but the public key
pub by_public_key : (keys : Keys) (sender : Principal) (public_key text : List ℕ) (auth : Authenticator) → public_key_of keys sender text ≡ Some public_key
    → passes keys sender text auth ≡ is_signed_by public_key text (signature_in auth)
unfolding passes
by_public_key keys sender public_key text auth known =
    ap (λ (key : Option (List ℕ)). is_right key (shared_with keys sender) text (entry_for keys.me auth) (signature_in auth)) known

pub at_all_or_at_none : PassesAtAllOrAtNone
at_all_or_at_none one other sender public_key text auth known also =
    by_public_key one sender public_key text auth known ∙ sym (by_public_key other sender public_key text auth also)
