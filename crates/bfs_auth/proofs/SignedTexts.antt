-- What a replica signs by its key.
use Rattle.std.proofs.Common.{◌≡◌, ◌<◌, ◌≤◌, ◌∷◌, [], ℕ, Bool, true, false, List, length, refl, sym, ap, ◌∙◌, arith}
use Rattle.std.specs.Prelude.{Option, Some, None, IsTrue, nat_le, option_and_then, slice_get, if◌then◌else◌}
use Rattle.std.proofs.lemmas.Bool.{cond-true, le-leb}
use Rattle.lms.specs.Chains.{joined}
use Rattle.lms.specs.Levels.{hss_public_key_bytes, most_levels}
use Rattle.lms.specs.Signers.{HssKey, hss_public_key, index_count}
use Rattle.bfs_signatures.specs.Signature.{is_signature}
use Rattle.bfs_signatures.specs.Signing.{least_height, node, signatures_of}
use Rattle.bfs_signatures.proofs.Public.{signed_texts_verify}
use Rattle.bfs_auth.proofs.Indexes.{of_the_key}
use Rattle.bfs_auth.specs.Keys.{Keys, public_key_of}
use Rattle.bfs_auth.specs.Places.{index_of, place_in}
use Rattle.bfs_auth.specs.Signatures.{most_signature_bytes, short_enough, signature_alone}
use Rattle.bfs_auth.specs.Authenticators.{authenticator_at, hashes_of, is_signed_by, passes, signature, signature_in, signature_or_none, signed_at}
use Rattle.bfs_auth.specs.Laws.{SignedAlone, SignedPasses, SignedWhereNotSpent}
use Rattle.bfs_auth.specs.declared.authenticators.Authenticator.{Authenticator}
use Rattle.bfs_auth.specs.declared.authenticators.Authenticator.TheVariants.{Hashes, Signature}
use Rattle.bfs_auth.specs.declared.places.Place.{Place}
use Rattle.bfs_auth.specs.declared.principals.Principal.TheVariants.{Replica}
use Rattle.bfs_auth.proofs.Passing.{by_public_key}

pub signed_alone : SignedAlone
unfolding least_height node joined
signed_alone key index text = refl

-- Which bytes are signed ------------------------------------------------------------------------------------------------------

short_by : (t : Bool) (b bytes : List ℕ) → signature_or_none (if t then Some b else None) ≡ Signature bytes → b ≡ bytes
short_by true b bytes e = cc
short_by false b bytes e = absurd (cc)

by_index : (key : HssKey) (found : Option ℕ) (text bytes : List ℕ)
    → signature_or_none (option_and_then (λ index. short_enough (signature_alone key index text)) found) ≡ Signature bytes
    → (index : ℕ) × ((found ≡ Some index) × (signature_alone key index text ≡ bytes))
by_index key None text bytes e = absurd (cc)
by_index key (Some index) text bytes e =
    let alone = signature_alone key index text in
    (index, (refl, short_by (nat_le (length alone) most_signature_bytes) alone bytes e))

by_place : (keys : Keys) (key : HssKey) (found : Option Place) (text bytes : List ℕ) → authenticator_at keys (Some key) found text ≡ Signature bytes
    → (place : Place) × ((found ≡ Some place) × (signature_or_none (signed_at key place text) ≡ Signature bytes))
by_place keys key None text bytes e = absurd (cc)
by_place keys key (Some place) text bytes e = (place, (refl, e))

signature_is : (keys : Keys) (key : HssKey) (text : List ℕ) → keys.signer ≡ Some key → signature keys text ≡ authenticator_at keys (Some key) (place_in text) text
unfolding signature
signature_is keys key text e = ap (λ (k : Option HssKey). authenticator_at keys k (place_in text) text) e

-- They pass -------------------------------------------------------------------------------------------------------------------

alone_verifies : (key : HssKey) (index : ℕ) (text : List ℕ) → length key.first.id ≡ 16 → length key.below < most_levels → index < index_count key
    → is_signature (hss_public_key_bytes (hss_public_key key)) text (signature_alone key index text) ≡ true
alone_verifies key index text long few within =
    signed_texts_verify key index (text ∷ []) 0 text (signature_alone key index text) long few within (omega arith) refl
    (ap (λ (all : List (List ℕ)). slice_get all 0) (signed_alone key index text))

pub signed_passes : SignedPasses
signed_passes mine other key sender text bytes long few signs known signed =
    let public_key = hss_public_key_bytes (hss_public_key key) in
    let placed = by_place mine key (place_in text) text bytes (sym (signature_is mine key text signs) ∙ signed) in
    let indexed = by_index key (index_of key placed.0) text bytes placed.1.1 in
    let index = indexed.0 in
    let checked : public_key_of other (Replica sender) text ≡ Some public_key =
    ap (λ (p : Option Place). option_and_then (λ place. slice_get other.replica_signers sender) p) placed.1.0 ∙ known in
    let verifies = alone_verifies key index text long few (of_the_key key placed.0 index indexed.1.0).0 in
    by_public_key other (Replica sender) public_key text (Signature bytes) checked ∙ ap (is_signature public_key text) (sym indexed.1.1) ∙ verifies

pub signed_where_not_spent : SignedWhereNotSpent
signed_where_not_spent mine key place index text signs placed indexed short =
    let alone = signature_alone key index text in
    signature_is mine key text signs ∙ ap (λ (p : Option Place). authenticator_at mine (Some key) p text) placed
    ∙ ap (λ (i : Option ℕ). signature_or_none (option_and_then (λ index. short_enough (signature_alone key index text)) i)) indexed
    ∙ ap signature_or_none (cond-true (nat_le (length alone) most_signature_bytes) (Some alone) None (le-leb (length alone) most_signature_bytes short))
