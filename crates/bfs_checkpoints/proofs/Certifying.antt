-- The CHECKPOINTs of a log that tell a stable checkpoint make it stable.
use Rattle.std.proofs.Common.{◌≡◌, ℕ, ◌+◌, ◌*◌, ◌==◌, Bool, true, false, ◌&&◌, cond, List, [], ◌∷◌, ◌++◌, ◌<◌, length, take, get_or, append_assoc, Some, None, refl, sym, ap, subst, ◌∙◌}
use Rattle.std.specs.Prelude.{filter, All, bytes_eq, nat_le}
use Rattle.std.specs.List.{cons_option}
use Rattle.std.proofs.lemmas.Bool.{and_from, and_parts, eqb-true}
use Rattle.std.proofs.lemmas.List.Elements.{All-weaker, filter_map-append, filter_passes}
use Rattle.std.proofs.lemmas.List.{take_more}
use Rattle.std.proofs.lemmas.Map.Views.{any-filter_same}
use Rattle.std.proofs.lemmas.Slice.Eq.{bytes_eq-Decides}
use Rattle.bfs_auth.specs.declared.authenticators.Authenticator.{Authenticator}
use Rattle.bfs_votes.specs.Votes.{Header, SlotsDiffer, is_slot, is_stable, replicas, says, told}
use Rattle.bfs_log.specs.Certificates.{IsCheckpointOf, as_checkpoints}
use Rattle.bfs_log.specs.Headers.{header}
use Rattle.bfs_log.specs.Logs.{Log, headers}
use Rattle.bfs_log.proofs.Public.{differ_kept}
use Rattle.bfs_messages.specs.Messages as model
use Rattle.bfs_messages.specs.Signing.{as_message}
use Rattle.bfs_messages.specs.declared.signed.Signed.{Signed}
use Rattle.bfs_messages.specs.declared.order_messages.OrderMessage.{OrderMessage}
use Rattle.bfs_messages.specs.declared.order_messages.OrderMessage.TheVariants.{PrePrepare, Prepare, Commit, Checkpoint}
use Rattle.bfs_checkpoints.specs.Certificates.{checkpoints, told_as}
use Rattle.bfs_checkpoints.specs.Laws.{AStableCheckpointHasACertificate}
use Rattle.bfs_votes.proofs.Public.{same_count}

abbrev tells : (number : ℕ) → (digest : List ℕ) → Signed OrderMessage → Bool
tells number digest m = ((header m).tag == 5) && (((header m).number == number) && bytes_eq (header m).digest digest)

tells_as : (number : ℕ) (digest : List ℕ) (x : OrderMessage) (auth : Authenticator) (found : List (Signed model.Checkpoint)) (kept : Log) → as_checkpoints found ≡ kept
    → as_checkpoints (cons_option (told_as number digest x auth) found) ≡ cond (tells number digest (record { message = x; auth = auth })) (record { message = x; auth = auth } ∷ kept) kept
tells_as number digest (PrePrepare p) auth found kept e = e
tells_as number digest (Prepare vote) auth found kept e = e
tells_as number digest (Commit vote) auth found kept e = e
tells_as number digest (Checkpoint c) auth found kept e = go ((c.number == number) && bytes_eq c.digest digest)
  where
    s : Signed model.Checkpoint
    s = record { message = c; auth = auth }

    go : (b : Bool) → as_checkpoints (cons_option (cond b (Some s) None) found) ≡ cond b (as_message Checkpoint s ∷ kept) kept
    go true = ap (λ ms. as_message Checkpoint s ∷ ms) e
    go false = e

same_messages : (number : ℕ) (digest : List ℕ) (log : Log) → as_checkpoints (checkpoints number digest log) ≡ filter (tells number digest) log
same_messages number digest [] = refl
same_messages number digest (m ∷ log) = tells_as number digest m.message m.auth (checkpoints number digest log) (filter (tells number digest) log) (same_messages number digest log)

-- by its header
tells_there : (number : ℕ) (digest : List ℕ) → Header → Bool
tells_there number digest h = (h.tag == 5) && ((h.number == number) && bytes_eq h.digest digest)

says_tells : (sender number : ℕ) (digest : List ℕ) (h : Header) → says 5 sender 0 number digest h ≡ true → tells_there number digest h ≡ true
unfolding tells_there
says_tells sender number digest h e =
    let parts = and_parts (is_slot 5 sender 0 number h) (bytes_eq h.digest digest) e in
    let slot = and_parts (h.tag == 5) ((h.sender == sender) && ((h.view == 0) && (h.number == number))) parts.0 in
    let place = and_parts (h.sender == sender) ((h.view == 0) && (h.number == number)) slot.1 in
    let at = and_parts (h.view == 0) (h.number == number) place.1 in
    and_from (h.tag == 5) ((h.number == number) && bytes_eq h.digest digest) slot.0 (and_from (h.number == number) (bytes_eq h.digest digest) at.1 parts.1)

headers_step : (k : Bool) (m : Signed OrderMessage) (xs : Log) (hs : List Header) → headers xs ≡ hs → headers (cond k (m ∷ xs) xs) ≡ cond k (header m ∷ hs) hs
headers_step true m xs hs e = ap (λ ts. header m ∷ ts) e
headers_step false m xs hs e = e

headers_of : (number : ℕ) (digest : List ℕ) (log : Log) → headers (filter (tells number digest) log) ≡ filter (tells_there number digest) (headers log)
unfolding tells_there
headers_of number digest [] = refl
headers_of number digest (m ∷ log) = headers_step (tells number digest m) m (filter (tells number digest) log) (filter (tells_there number digest) (headers log)) (headers_of number digest log)

same_told : (number : ℕ) (digest : List ℕ) (log : Log) (sender : ℕ) → told (headers (filter (tells number digest) log)) 5 sender 0 number digest ≡ told (headers log) 5 sender 0 number digest
same_told number digest log sender =
    ap (λ hs. told hs 5 sender 0 number digest) (headers_of number digest log)
    ∙ any-filter_same (says 5 sender 0 number digest) (tells_there number digest) true (says_tells sender number digest) (headers log)

still_stable : (f number : ℕ) (digest : List ℕ) (log : Log) → is_stable f (headers log) number digest ≡ true → is_stable f (headers (filter (tells number digest) log)) number digest ≡ true
still_stable f number digest log stable =
    ap (λ n. nat_le (2 * f + 1) n) (same_count _ _ (replicas f) (same_told number digest log)) ∙ stable

is_told : (number : ℕ) (digest : List ℕ) (m : Signed OrderMessage) → tells number digest m ≡ true → IsCheckpointOf number digest m
is_told number digest m e =
    let parts = and_parts ((header m).tag == 5) (((header m).number == number) && bytes_eq (header m).digest digest) e in
    let place = and_parts ((header m).number == number) (bytes_eq (header m).digest digest) parts.1 in
    record { tag = eqb-true _ _ parts.0; number_is = eqb-true _ _ place.0; digest_is = (bytes_eq-Decides (header m).digest digest).0 place.1 }

differ_there : (number : ℕ) (digest : List ℕ) (log : Log) → SlotsDiffer (headers log) → SlotsDiffer (headers (filter (tells number digest) log))
unfolding tells_there
differ_there number digest log differ = differ_kept (tells_there number digest) log differ

pub certificate_of : AStableCheckpointHasACertificate
certificate_of f number digest log differ stable =
    let same = sym (same_messages number digest log) in
    let all = All-weaker (λ m. tells number digest m ≡ true) (IsCheckpointOf number digest) (is_told number digest) (filter (tells number digest) log) (filter_passes (tells number digest) log) in
    record {
      stable = subst (λ (l : Log). is_stable f (headers l) number digest ≡ true) same (still_stable f number digest log stable);
      all = subst (λ (l : Log). All (IsCheckpointOf number digest) l) same all;
      differ = subst (λ (l : Log). SlotsDiffer (headers l)) same (differ_there number digest log differ);
    }

pub told_more : (number : ℕ) (digest : List ℕ) (log more : Log) → checkpoints number digest (log ++ more) ≡ checkpoints number digest log ++ checkpoints number digest more
told_more number digest log more = filter_map-append (λ x. told_as number digest x.message x.auth) log more

-- one message more
pub next_told : (number : ℕ) (digest : List ℕ) (log : Log) (i : ℕ) (m : Signed OrderMessage) (before old new : List (Signed model.Checkpoint)) → old ≡ before ++ checkpoints number digest (take i log)
    → new ≡ old ++ checkpoints number digest (m ∷ []) → i < length log → m ≡ get_or log i m → new ≡ before ++ checkpoints number digest (take (i + 1) log)
next_told number digest log i m before old new was grown lt is =
    let told = checkpoints number digest in
    grown ∙ ap (λ xs. xs ++ told (m ∷ [])) was ∙ append_assoc before (told (take i log)) (told (m ∷ []))
    ∙ ap (λ xs. before ++ xs) (ap (λ x. told (take i log) ++ told (x ∷ [])) is ∙ sym (ap told (take_more log i m lt) ∙ told_more number digest (take i log) (get_or log i m ∷ [])))
