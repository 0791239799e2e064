-- The batch that is next has its certificate in the log, and nothing else is executed.
use Rattle.std.proofs.Common.{◌≡◌, ◌≤◌, ℕ, ◌+◌, ◌*◌, Bool, true, false, cond, leb, List, [], ◌∷◌, refl, sym, ap, ◌∙◌, subst, arith}
use Rattle.std.specs.Prelude.{Option, Some, None, unwrap_or}
use Rattle.std.specs.List.{Contains, find}
use Rattle.std.proofs.lemmas.Bool.{and_parts, leb-true}
use Rattle.std.proofs.lemmas.List.Elements.{Contains-append_right}
use Rattle.bfs_votes.specs.Votes.{Told, backups, committed, is_backed, is_slot, prepared, primary, tellers, told}
use Rattle.bfs_log.specs.Batches.{Committed}
use Rattle.bfs_log.specs.Headers.{header, message_header}
use Rattle.bfs_log.specs.Logs.{Log, batch_in}
use Rattle.bfs_messages.specs.declared.signed.Signed.{Signed}
use Rattle.bfs_messages.specs.declared.order_messages.OrderMessage.{OrderMessage}
use Rattle.bfs_messages.specs.declared.order_messages.OrderMessage.TheVariants.{PrePrepare, Prepare, Commit, Checkpoint}
use Rattle.bfs_order.specs.Laws.Calls.{execution}
use Rattle.bfs_order.specs.Laws.Executed.{HasItsCertificate, NextHasItsCertificate, OnlyTheNextIsExecuted, going_on}
use Rattle.bfs_order.specs.Replica.Executing.{batch_of, executed, next_proposal, where_committed}
use Rattle.bfs_order.specs.Replica.States.{State, known}
use Rattle.bfs_order.proofs.Telling.{slot_is}

-- What is found -----------------------------------------------------------------------------------------------------------

-- it is in the log, and passes
pub record Found (test : Signed OrderMessage → Bool) (log : Log) (m : Signed OrderMessage) : Type 0 where
  pub there : Contains log m
  pub passes : test m ≡ true

pub found : (test : Signed OrderMessage → Bool) (log : Log) (m : Signed OrderMessage) → find test log ≡ Some m → Found test log m
found test [] m e = absurd cc
found test (x ∷ xs) m e = go (test x) refl (found test xs m) e
  where
    go : (b : Bool) → test x ≡ b → (find test xs ≡ Some m → Found test xs m) → cond b (Some x) (find test xs) ≡ Some m → Found test (x ∷ xs) m
    go true is later this =
        let same : x ≡ m = ap (λ (o : Option (Signed OrderMessage)). unwrap_or o x) this in
        record { there = (0, omega arith, same); passes = ap test (sym same) ∙ is }
    go false is later this =
        let rest = later this in
        record { there = Contains-append_right (x ∷ []) xs m rest.there; passes = rest.passes }

-- The certificate -----------------------------------------------------------------------------------------------------------

-- what bears a batch is a PRE-PREPARE of its number
numbered : (m : OrderMessage) (next : Committed) → batch_in m ≡ Some next → (message_header m).number ≡ next.number
numbered (PrePrepare proposal) next e = ap (λ (o : Option Committed). (unwrap_or o next).number) e
numbered (Prepare vote) next e = absurd cc
numbered (Commit vote) next e = absurd cc
numbered (Checkpoint checkpoint) next e = absurd cc

pub record Counted (s : State) (number : ℕ) (digest : List ℕ) : Type 0 where
  pub prepares : 2 * s.f ≤ backups s.f (known s) s.view number digest
  pub commits : 2 * s.f + 1 ≤ tellers s.f (known s) 4 s.view number digest
  pub own : Told (known s) 4 s.me s.view number digest

counted : (s : State) (n : ℕ) (d : List ℕ) → committed s.f s.me (known s) s.view n d ≡ true → Counted s n d
counted s n d e =
    let a = and_parts (prepared s.f s.me (known s) s.view n d) _ e in
    let b = and_parts (is_backed s.f (known s) s.view n d) _ a.0 in
    let c = and_parts (told (known s) 2 (primary s.f s.view) s.view n d) (leb (2 * s.f) (backups s.f (known s) s.view n d)) b.0 in
    let t = and_parts (leb (2 * s.f + 1) (tellers s.f (known s) 4 s.view n d)) (told (known s) 4 s.me s.view n d) a.1 in
    record {
      prepares = leb-true (2 * s.f) (backups s.f (known s) s.view n d) c.1;
      commits = leb-true (2 * s.f + 1) (tellers s.f (known s) 4 s.view n d) t.0;
      own = t.1;
    }

certified : (s : State) (next : Committed) (p : Option (Signed OrderMessage)) → next_proposal s ≡ p → batch_of (where_committed s p) ≡ Some next → HasItsCertificate s next
certified s next None is e = absurd cc
certified s next (Some m) is e = go (committed s.f s.me (known s) s.view (s.last + 1) (header m).digest) refl e
  where
    go : (b : Bool) → committed s.f s.me (known s) s.view (s.last + 1) (header m).digest ≡ b → batch_of (cond b (Some m) None) ≡ Some next → HasItsCertificate s next
    go true all batch =
        let place = found (λ x. is_slot 2 (primary s.f s.view) s.view (s.last + 1) (header x)) s.log m is in
        let slot = slot_is (header m) 2 (primary s.f s.view) s.view (s.last + 1) place.passes in
        let number = numbered m.message next batch in
        let follows = sym number ∙ slot.number in
        let counts = subst (λ n. Counted s n (header m).digest) (sym follows) (counted s (s.last + 1) (header m).digest all) in
        record {
          follows = follows;
          proposal = m;
          in_log = place.there;
          proposes = record { tag = slot.tag; sender = slot.sender; view = slot.view; number = number; batch = batch };
          prepares = counts.prepares;
          commits = counts.commits;
          own = counts.own;
        }
    go false all batch = absurd cc

pub next_has_its_certificate : NextHasItsCertificate
next_has_its_certificate s next e = certified s next (next_proposal s) refl e

-- What is executed ----------------------------------------------------------------------------------------------------------

-- a PRE-PREPARE bears a batch
bears : (m : OrderMessage) → (message_header m).tag ≡ 2 → (next : Committed) × (batch_in m ≡ Some next)
bears (PrePrepare proposal) e = (record { number = proposal.vote.number; batch = proposal.batch }, refl)
bears (Prepare vote) e = absurd cc
bears (Commit vote) e = absurd cc
bears (Checkpoint checkpoint) e = absurd cc

goes_on : (s : State) (p : Option (Signed OrderMessage)) → next_proposal s ≡ p → (execution s (where_committed s p)).now ≡ going_on s (batch_of (where_committed s p))
goes_on s None is = refl
goes_on s (Some m) is = go (committed s.f s.me (known s) s.view (s.last + 1) (header m).digest)
  where
    place : Found (λ x. is_slot 2 (primary s.f s.view) s.view (s.last + 1) (header x)) s.log m
    place = found (λ x. is_slot 2 (primary s.f s.view) s.view (s.last + 1) (header x)) s.log m is

    go : (b : Bool) → (execution s (cond b (Some m) None)).now ≡ going_on s (batch_of (cond b (Some m) None))
    go true =
        let slot = slot_is (header m) 2 (primary s.f s.view) s.view (s.last + 1) place.passes in
        let next = bears m.message slot.tag in
        let number = sym slot.number ∙ numbered m.message next.0 next.1 in
        ap (λ (n : ℕ). (executed s n).now) number ∙ sym (ap (λ (o : Option Committed). going_on s o) next.1)
    go false = refl

pub only_the_next_is_executed : OnlyTheNextIsExecuted
only_the_next_is_executed s = goes_on s (next_proposal s) refl
