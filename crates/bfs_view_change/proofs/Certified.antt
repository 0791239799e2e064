-- A certificate that is made of a log tells what the log does.
use Rattle.std.proofs.Common.{◌≡◌, ℕ, ◌*◌, ◌<◌, Bool, true, false, ◌&&◌, not, eqb, ltb, leb, List, [], ◌∷◌, map, Option, Some, refl, ap, subst, ◌∙◌, arith}
use Rattle.std.specs.List.{All, Contains, cons_option, filter, filter_map}
use Rattle.std.proofs.lemmas.Bool.{and_from, eqb-true, eq-eqb, lt-ltb}
use Rattle.std.proofs.lemmas.List.Elements.{All-head, All-tail}
use Rattle.std.proofs.lemmas.Slice.Eq.{bytes_eq-Decides}
use Rattle.bfs_auth.specs.declared.authenticators.Authenticator.{Authenticator}
use Rattle.bfs_votes.specs.Votes.{Header, backups, is_backed, primary, replicas, says, told}
use Rattle.bfs_log.specs.Headers.{header, message_header}
use Rattle.bfs_log.specs.Logs.{Log, headers}
use Rattle.bfs_messages.specs.Messages as model
use Rattle.bfs_messages.specs.declared.signed.Signed.{Signed}
use Rattle.bfs_messages.specs.declared.order_messages.OrderMessage.{OrderMessage}
use Rattle.bfs_messages.specs.declared.order_messages.OrderMessage.TheVariants.{PrePrepare, Prepare, Commit, Checkpoint}
use Rattle.bfs_log.specs.Certificates.{is_proved, messages_in, prepares_in}
use Rattle.bfs_log.specs.Showing.{backs, certificate_of, checkpoint_in, prepare_in, proposal_in}
use Rattle.bfs_messages.specs.Signing.{as_message}
use Rattle.bfs_log.proofs.Public.{any_map, backed_by, is_said, passing, proposed_by, says_is, told_kept}
use Rattle.bfs_view_change.proofs.Members.{any_from}
use Rattle.bfs_votes.proofs.Public.{same_below}

-- Messages of one kind are those messages again --------------------------------------------------------------------------

pub record Is {A : Type 0} (kind : A → OrderMessage) (found : Option (Signed A)) (m : Signed OrderMessage) : Type 0 where
  pub signed : Signed A
  pub is : found ≡ Some signed
  pub same : as_message kind signed ≡ m

abbrev pub IsKind : {A : Type 0} → (tag : ℕ) → (A → OrderMessage) → (OrderMessage → Authenticator → Option (Signed A)) → Type 0
IsKind tag kind of = (m : Signed OrderMessage) → (header m).tag ≡ tag → Is kind (of m.message m.auth) m

pub again : {A : Type 0} (tag : ℕ) (kind : A → OrderMessage) (of : OrderMessage → Authenticator → Option (Signed A)) → IsKind tag kind of
    → (ms : Log) → All (λ m. (header m).tag ≡ tag) ms → map (as_message kind) (filter_map (λ m. of m.message m.auth) ms) ≡ ms
again tag kind of is [] all = refl
again {A} tag kind of is (m ∷ ms) all =
    let here = is m (All-head (λ m. (header m).tag ≡ tag) m ms all) in
    ap (λ (o : Option (Signed A)). map (as_message kind) (cons_option o (filter_map (λ m. of m.message m.auth) ms))) here.is
    ∙ ap (λ (x : Signed OrderMessage). x ∷ map (as_message kind) (filter_map (λ m. of m.message m.auth) ms)) here.same
    ∙ ap (λ (xs : Log). m ∷ xs) (again tag kind of is ms (All-tail (λ m. (header m).tag ≡ tag) m ms all))

pub prepare_kind : IsKind 3 Prepare prepare_in
prepare_kind m e = go m.message m.auth e
  where
    go : (message : OrderMessage) (auth : Authenticator) → (message_header message).tag ≡ 3 → Is Prepare (prepare_in message auth) (record { message = message; auth = auth })
    go (Prepare vote) auth e = record { signed = record { message = vote; auth = auth }; is = refl; same = refl }
    go (PrePrepare proposal) auth e = absurd (omega (arith, e))
    go (Commit vote) auth e = absurd (omega (arith, e))
    go (Checkpoint checkpoint) auth e = absurd (omega (arith, e))

pub proposal_kind : IsKind 2 PrePrepare proposal_in
proposal_kind m e = go m.message m.auth e
  where
    go : (message : OrderMessage) (auth : Authenticator) → (message_header message).tag ≡ 2 → Is PrePrepare (proposal_in message auth) (record { message = message; auth = auth })
    go (PrePrepare proposal) auth e = record { signed = record { message = proposal; auth = auth }; is = refl; same = refl }
    go (Prepare vote) auth e = absurd (omega (arith, e))
    go (Commit vote) auth e = absurd (omega (arith, e))
    go (Checkpoint checkpoint) auth e = absurd (omega (arith, e))

pub checkpoint_kind : IsKind 5 Checkpoint checkpoint_in
checkpoint_kind m e = go m.message m.auth e
  where
    go : (message : OrderMessage) (auth : Authenticator) → (message_header message).tag ≡ 5 → Is Checkpoint (checkpoint_in message auth) (record { message = message; auth = auth })
    go (PrePrepare proposal) auth e = absurd (omega (arith, e))
    go (Prepare vote) auth e = absurd (omega (arith, e))
    go (Commit vote) auth e = absurd (omega (arith, e))
    go (Checkpoint checkpoint) auth e = record { signed = record { message = checkpoint; auth = auth }; is = refl; same = refl }

-- What is told -----------------------------------------------------------------------------------------------------------

says_backs : (f k : ℕ) (proposed : model.Vote) (h : Header) → k < replicas f → eqb k (primary f proposed.view) ≡ false
    → says 3 k proposed.view proposed.number proposed.digest h ≡ true → backs f proposed h ≡ true
says_backs f k proposed h known_k backup e =
    let is = says_is h 3 k proposed.view proposed.number proposed.digest e in
    let other : eqb h.sender (primary f h.view) ≡ false = rw (is.sender, is.view) backup in
    let known : ltb h.sender (replicas f) ≡ true = lt-ltb h.sender (replicas f) (omega (arith, known_k, is.sender)) in
    let same = and_from _ _ (eq-eqb h.view proposed.view is.view) (and_from _ _ (eq-eqb h.number proposed.number is.number) ((bytes_eq-Decides h.digest proposed.digest).1 is.digest)) in
    and_from _ _ (and_from _ _ (eq-eqb h.tag 3 is.tag) same) (and_from _ _ known (rw other refl))

module _ (f : ℕ) (log : Log) (p : Signed model.PrePrepare) where
  -- the messages of a certificate that is made of the log
  pub prepares_made : prepares_in (certificate_of f log p) ≡ filter (λ m. backs f p.message.vote (header m)) log
  prepares_made = again 3 Prepare prepare_in prepare_kind (filter (λ m. backs f p.message.vote (header m)) log) (passing (λ m. backs f p.message.vote (header m)) (λ m. (header m).tag ≡ 3) (λ m e. (backed_by f p.message.vote m e).at.tag) log)

  pub messages_made : messages_in (certificate_of f log p) ≡ as_message PrePrepare p ∷ filter (λ m. backs f p.message.vote (header m)) log
  messages_made = ap (λ (xs : Log). as_message PrePrepare p ∷ xs) prepares_made

  pub told_in : (k : ℕ) → k < replicas f → eqb k (primary f p.message.vote.view) ≡ false
      → told (headers (messages_in (certificate_of f log p))) 3 k p.message.vote.view p.message.vote.number p.message.vote.digest ≡ told (headers log) 3 k p.message.vote.view p.message.vote.number p.message.vote.digest
  told_in k low backup =
      ap (λ (xs : Log). told (headers xs) 3 k p.message.vote.view p.message.vote.number p.message.vote.digest) messages_made
      ∙ told_kept (says 3 k p.message.vote.view p.message.vote.number p.message.vote.digest) (backs f p.message.vote) log (λ h e. says_backs f k p.message.vote h low backup e)

  same_test : (k : ℕ) → k < replicas f
      → (not (eqb k (primary f p.message.vote.view)) && told (headers (messages_in (certificate_of f log p))) 3 k p.message.vote.view p.message.vote.number p.message.vote.digest)
      ≡ (not (eqb k (primary f p.message.vote.view)) && told (headers log) 3 k p.message.vote.view p.message.vote.number p.message.vote.digest)
  same_test k low = go (eqb k (primary f p.message.vote.view)) refl
    where
      go : (b : Bool) → eqb k (primary f p.message.vote.view) ≡ b
          → (not b && told (headers (messages_in (certificate_of f log p))) 3 k p.message.vote.view p.message.vote.number p.message.vote.digest)
          ≡ (not b && told (headers log) 3 k p.message.vote.view p.message.vote.number p.message.vote.digest)
      go true e = refl
      go false e = told_in k low e

-- what stands in a log is told
told_there : (log : Log) (m : Signed OrderMessage) → Contains log m → told (headers log) (header m).tag (header m).sender (header m).view (header m).number (header m).digest ≡ true
told_there log m among =
    let h = header m in
    let it = is_said h h.tag h.sender h.view h.number h.digest (record { tag = refl; sender = refl; view = refl; number = refl; digest = refl }) in
    any_map (says h.tag h.sender h.view h.number h.digest) header log ∙ any_from (λ x. says h.tag h.sender h.view h.number h.digest (header x)) m log among it

-- Prepared -----------------------------------------------------------------------------------------------------------------

pub backed_alike : (f : ℕ) (log : Log) (p : Signed model.PrePrepare) → Contains log (as_message PrePrepare p) → eqb p.message.vote.sender (primary f p.message.vote.view) ≡ true
    → is_proved f (certificate_of f log p) ≡ is_backed f (headers log) p.message.vote.view p.message.vote.number p.message.vote.digest
backed_alike f log p among led =
    let c = certificate_of f log p in
    let vote = p.message.vote in
    let made = proposed_by c (primary f vote.view) ∙ led in
    let there : told (headers log) 2 (primary f vote.view) vote.view vote.number vote.digest ≡ true =
    subst (λ k. told (headers log) 2 k vote.view vote.number vote.digest ≡ true) (eqb-true vote.sender (primary f vote.view) led) (told_there log (as_message PrePrepare p) among) in
    let count : backups f (headers (messages_in c)) vote.view vote.number vote.digest ≡ backups f (headers log) vote.view vote.number vote.digest =
    same_below _ _ (replicas f) (same_test f log p) in
    alike _ _ _ _ (2 * f) made there count
  where
    alike : (a b : Bool) (x y k : ℕ) → a ≡ true → b ≡ true → x ≡ y → (a && leb k x) ≡ (b && leb k y)
    alike a b x y k e g h = rw (e, g, h) refl
