-- What waits has passed, and so has what is alike.
use Rattle.std.proofs.Common.{◌≡◌, ℕ, Bool, true, false, ◌&&◌, cond, List, [], ◌∷◌, ◌++◌, refl, ap, sym, ◌∙◌}
use Rattle.std.specs.Prelude.{◌==◌, bytes_eq, filter, Option, Some, None, if◌then◌else◌}
use Rattle.std.specs.List.{list_all}
use Rattle.std.proofs.lemmas.Bool.{and_parts, and_from, eqb-true, false≢true}
use Rattle.std.proofs.lemmas.List.Folds.{list_all-append}
use Rattle.std.proofs.lemmas.Option.{same_Some}
use Rattle.std.proofs.lemmas.Slice.Eq.{bytes_eq-Decides}
use Rattle.bfs_model.specs.Bytes.Items.{word, hyper, counted}
use Rattle.bfs_auth.specs.Authenticators.{entry_at, entry_for, is_right, passes, signature_in}
use Rattle.bfs_auth.specs.Keys.{Keys, public_key_of, shared_with}
use Rattle.bfs_auth.specs.declared.authenticators.Authenticator.{Authenticator}
use Rattle.bfs_auth.specs.declared.authenticators.Authenticator.TheVariants.{Hashes, Signature}
use Rattle.bfs_auth.specs.declared.principals.Principal.{Principal}
use Rattle.bfs_auth.specs.declared.principals.Principal.TheVariants.{Client}
use Rattle.bfs_messages.specs.Messages.{Request}
use Rattle.bfs_messages.specs.Signing.{request_is_signed}
use Rattle.bfs_messages.specs.declared.signed.Signed.{Signed}
use Rattle.bfs_pending.specs.Passed.{HavePassed, are_equal, is_alike, is_alike_to, is_read_alike, last_same, later, waits}
use Rattle.bfs_pending.specs.Requests.{is_same}

-- what the check reads of a request
read : Keys → (client timestamp : ℕ) → (call : List ℕ) → (entry signature : Option (List ℕ)) → Bool
read keys client timestamp call entry signature =
    let text = word 1 ++ (word client ++ hyper timestamp ++ counted call) in
    is_right (public_key_of keys (Client client) text) (shared_with keys (Client client)) text entry signature

request_read : (keys : Keys) (one : Signed Request) → request_is_signed keys one
    ≡ read keys one.message.client one.message.timestamp one.message.call (entry_for keys.me one.auth) (signature_in one.auth)
unfolding passes read
request_read keys one = refl

equal_entries : (one other : Option (List ℕ)) → are_equal one other ≡ true → one ≡ other
equal_entries (Some one) (Some other) same = ap (λ (entry : List ℕ). Some entry) ((bytes_eq-Decides one other).0 same)
equal_entries (Some one) None same = absurd (false≢true same)
equal_entries None (Some other) same = absurd (false≢true same)
equal_entries None None same = absurd (false≢true same)

equal_reading : (receiver : Principal) (one other : Authenticator) → is_read_alike receiver one other ≡ true
    → (entry_for receiver one ≡ entry_for receiver other) × (signature_in one ≡ signature_in other)
equal_reading receiver (Hashes one) (Hashes other) same = (equal_entries (entry_at receiver one) (entry_at receiver other) same, refl)
equal_reading receiver (Signature one) (Signature other) same = (refl, ap (λ (bytes : List ℕ). Some bytes) ((bytes_eq-Decides one other).0 same))
equal_reading receiver (Hashes one) (Signature other) same = absurd (false≢true same)
equal_reading receiver (Signature one) (Hashes other) same = absurd (false≢true same)

alike_passes : (keys : Keys) (one other : Signed Request) → is_alike keys.me one other ≡ true → request_is_signed keys one ≡ true → request_is_signed keys other ≡ true
alike_passes keys one other alike passed =
    let x : Request = one.message in
    let y : Request = other.message in
    let reading : Bool = is_read_alike keys.me one.auth other.auth in
    let parts = and_parts (is_same one other) (bytes_eq x.call y.call && reading) alike in
    let names = and_parts (x.client == y.client) (x.timestamp == y.timestamp) parts.0 in
    let rest = and_parts (bytes_eq x.call y.call) reading parts.1 in
    let auths = equal_reading keys.me one.auth other.auth rest.1 in
    let entry = entry_for keys.me one.auth in
    let signature = signature_in one.auth in
    request_read keys other
    ∙ sym (ap (λ (client : ℕ). read keys client x.timestamp x.call entry signature) (eqb-true x.client y.client names.0)
    ∙ ap (λ (timestamp : ℕ). read keys y.client timestamp x.call entry signature) (eqb-true x.timestamp y.timestamp names.1)
    ∙ ap (λ (call : List ℕ). read keys y.client y.timestamp call entry signature) ((bytes_eq-Decides x.call y.call).0 rest.0)
    ∙ ap (λ (e : Option (List ℕ)). read keys y.client y.timestamp y.call e signature) auths.0
    ∙ ap (λ (s : Option (List ℕ)). read keys y.client y.timestamp y.call (entry_for keys.me other.auth) s) auths.1)
    ∙ sym (request_read keys one) ∙ passed

-- the last one of a client and timestamp is one of them
last_step : (test : Signed Request → Bool) (one other : Signed Request) (found : Option (Signed Request)) (same : Bool) → test other ≡ true
    → ((it : Signed Request) → found ≡ Some it → test it ≡ true) → (it : Signed Request) → later found (if same then Some other else None) ≡ Some it → test it ≡ true
last_step test one other (Some last) same passed more it is = more it is
last_step test one other None true passed more it is = ap test (sym (same_Some other it is)) ∙ passed
last_step test one other None false passed more it is = absurd cc

last_passed : (test : Signed Request → Bool) (one : Signed Request) (waiting : List (Signed Request)) → list_all test waiting ≡ true
    → (it : Signed Request) → last_same one waiting ≡ Some it → test it ≡ true
last_passed test one [] all it is = absurd cc
last_passed test one (other ∷ waiting) all it is =
    let parts = and_parts (test other) (list_all test waiting) all in
    last_step test one other (last_same one waiting) (is_same other one) parts.0 (last_passed test one waiting parts.1) it is

pub waiting_passes : (keys : Keys) (waiting : List (Signed Request)) (one : Signed Request) → HavePassed keys waiting → waits keys.me waiting one ≡ true → request_is_signed keys one ≡ true
waiting_passes keys waiting one passed here = go (last_same one waiting) refl here
  where
    go : (found : Option (Signed Request)) → last_same one waiting ≡ found → is_alike_to keys.me one found ≡ true → request_is_signed keys one ≡ true
    go None is alike = absurd (false≢true alike)
    go (Some it) is alike = alike_passes keys it one alike (last_passed (request_is_signed keys) one waiting passed it is)

pub all_waiting_pass : (keys : Keys) (waiting requests : List (Signed Request)) → HavePassed keys waiting → list_all (waits keys.me waiting) requests ≡ true → HavePassed keys requests
all_waiting_pass keys waiting [] passed all = refl
all_waiting_pass keys waiting (one ∷ requests) passed all =
    let parts = and_parts (waits keys.me waiting one) (list_all (waits keys.me waiting) requests) all in
    and_from (request_is_signed keys one) (list_all (request_is_signed keys) requests) (waiting_passes keys waiting one passed parts.0) (all_waiting_pass keys waiting requests passed parts.1)

pub one_more : (keys : Keys) (waiting : List (Signed Request)) (one : Signed Request) → HavePassed keys waiting → request_is_signed keys one ≡ true → HavePassed keys (waiting ++ one ∷ [])
one_more keys waiting one passed signed =
    list_all-append (request_is_signed keys) waiting (one ∷ [])
    ∙ and_from (list_all (request_is_signed keys) waiting) (request_is_signed keys one && true) passed (and_from (request_is_signed keys one) true signed refl)

kept_step : (test : Signed Request → Bool) (one : Signed Request) (kept : List (Signed Request)) (keep : Bool) → test one ≡ true → list_all test kept ≡ true → list_all test (cond keep (one ∷ kept) kept) ≡ true
kept_step test one kept true here all = and_from (test one) (list_all test kept) here all
kept_step test one kept false here all = all

pub fewer : (keys : Keys) (keep : Signed Request → Bool) (waiting : List (Signed Request)) → HavePassed keys waiting → HavePassed keys (filter keep waiting)
fewer keys keep [] passed = refl
fewer keys keep (one ∷ waiting) passed =
    let parts = and_parts (request_is_signed keys one) (list_all (request_is_signed keys) waiting) passed in
    kept_step (request_is_signed keys) one (filter keep waiting) (keep one) parts.0 (fewer keys keep waiting parts.1)
