-- Logs stay clean.
use Rattle.std.proofs.Common.{◌≡◌, ℕ, ◌<◌, true, ltb, ◌&&◌, List, [], ◌∷◌, refl, sym, subst, arith}
use Rattle.std.specs.Prelude.{Option, Some, None, All}
use Rattle.std.proofs.lemmas.Bool.{and_parts, eqb-false, ltb-true}
use Rattle.std.proofs.lemmas.List.Elements.{All-nil, All-head, All-tail, All-push, All-filter, All-weaker}
use Rattle.bfs_auth.specs.Authenticators.{passes, signature}
use Rattle.bfs_auth.specs.Keys.{Keys}
use Rattle.bfs_auth.specs.Laws.{PassesAtReplicas}
use Rattle.bfs_auth.specs.declared.principals.Principal.TheVariants.{Replica}
use Rattle.bfs_votes.specs.Votes.{replicas, primary}
use Rattle.bfs_log.specs.Headers.{header, message_header}
use Rattle.bfs_log.specs.Logs.{stays, kept_after}
use Rattle.bfs_messages.specs.Messages.{Batch}
use Rattle.bfs_messages.specs.Signing.{requests_are_signed}
use Rattle.bfs_messages.specs.declared.signed.Signed.{Signed}
use Rattle.bfs_messages.specs.declared.order_messages.OrderMessage.{OrderMessage}
use Rattle.bfs_messages.specs.declared.order_messages.OrderMessage.TheVariants.{PrePrepare, Prepare, Commit, Checkpoint}
use Rattle.bfs_messages.specs.Signing.{order_is_signed, carried_are_signed}
use Rattle.bfs_log.specs.Certificates.{StableCheckpoint, checkpoints_in, is_shown}
use Rattle.bfs_order.specs.Replica.Proposing.{proposal_refusal, proposal}
use Rattle.bfs_order.specs.Replica.Refusals.{refusal}
use Rattle.bfs_order.specs.Replica.States.{State, fresh}
use Rattle.bfs_order.specs.Replica.Views.{as_proposals}
use Rattle.bfs_order.specs.Laws.Calls.{Call, Takes, Proposes, Executes, Checkpoints, Installs, Leaves, Enters, outcome, after}
use Rattle.bfs_order.specs.Laws.Clean.{IsClean, IsAllSigned, IsProper, own_keys, HasCleanLog, ProperCallsKeepLogsClean, LogsAreClean}
use Rattle.bfs_order.proofs.Moving.{Fact, Moves, Speaks, Handed, Shown, Fits, call_goes, placed, unrefused, only_backups, leading}
use Rattle.bfs_log.proofs.Public.{IsVoucher, vouched}
use Rattle.bfs_order.proofs.Putting.{each_keeps}
use Rattle.bfs_order.proofs.KeptLogs.{same_replica}

module _ (keys : Keys) (f : ℕ) where
  abbrev CleanLog : Fact
  CleanLog g me view low log sent = All (IsClean keys f) log

  clean_move : Moves (IsClean keys f) CleanLog
  clean_move = record {
    take = λ g me view low log sent m kept can good. All-push (IsClean keys f) log m kept good;
    say = λ g me view low log sent m kept can own good. All-push (IsClean keys f) log m kept good;
    settle = λ g me view low log sent n d kept above is. All-filter (λ m. stays n d (header m)) (IsClean keys f) log kept;
    enter = λ g me view later low log sent kept above. kept;
    install = λ by g me view low log sent c kept above is good.
        each_keeps (All (IsClean keys f)) (IsClean keys f) (λ l m all clean free. All-push (IsClean keys f) l m all clean) (kept_after c.number c.digest log) (checkpoints_in c) good
        (All-filter (λ m. stays c.number c.digest (header m)) (IsClean keys f) log kept);
  }

  -- a CHECKPOINT carries nothing
  nothing_carried : (m : OrderMessage) → (message_header m).tag ≡ 5 → carried_are_signed keys m ≡ true
  nothing_carried (PrePrepare proposal) five = absurd (omega (arith, five))
  nothing_carried (Prepare vote) five = refl
  nothing_carried (Commit vote) five = refl
  nothing_carried (Checkpoint checkpoint) five = refl

  clean_voucher : (n : ℕ) (d : List ℕ) (m : Signed OrderMessage) → IsVoucher keys f n d m → IsClean keys f m
  clean_voucher n d m is = record {
    signed = is.signed;
    sender = is.sender;
    carried = nothing_carried m.message is.tag;
    led = λ two. absurd (omega (arith, is.tag, two));
    backup = λ three same. absurd (omega (arith, is.tag, three));
  }

  clean_certificate : (c : StableCheckpoint) → is_shown keys f c ≡ true → All (IsClean keys f) (checkpoints_in c)
  clean_certificate c is = All-weaker (IsVoucher keys f c.number c.digest) (IsClean keys f) (λ m v. clean_voucher c.number c.digest m v) (checkpoints_in c) (vouched keys f c is).each

  clean_handed : (m : Signed OrderMessage) → IsAllSigned keys m → (header m).tag ≡ 2 → (header m).sender ≡ primary f (header m).view → IsClean keys f m
  clean_handed m is two led = record {
    signed = is.signed;
    sender = omega (arith, led);
    carried = is.carried;
    led = λ _. led;
    backup = λ three same. absurd (omega (arith, two, three));
  }

-- what is not refused
clean_taken : (keys : Keys) (s : State) (m : Signed OrderMessage) → refusal keys s m ≡ None → IsClean keys s.f m
clean_taken keys s m none =
    let free = unrefused keys s m none in
    let a = and_parts (ltb (header m).sender (replicas s.f)) (order_is_signed keys m && carried_are_signed keys m.message) free.0 in
    let b = and_parts (order_is_signed keys m) (carried_are_signed keys m.message) a.1 in
    record {
      signed = b.0;
      sender = ltb-true (header m).sender (replicas s.f) a.0;
      carried = b.1;
      led = (placed s m free.1).led;
      backup = only_backups s (header m) free.1;
    }

module _ (passes_at : PassesAtReplicas) (secret : List ℕ) (clients : ℕ) (s : State) (there : s.me < replicas s.f) where
  abbrev mine : Keys
  mine = own_keys secret clients s.f s.me

  abbrev Clean : Signed OrderMessage → Type 0
  Clean = IsClean mine s.f

  -- what it signs passes at itself
  own_passes : (text : List ℕ) → passes mine (Replica s.me) text (signature mine text) ≡ true
  own_passes text = passes_at secret (Replica s.me) s.me (replicas s.f) clients text there there

  speaks_clean : Speaks Clean mine s.f s.me
  speaks_clean = record {
    prepare = λ v n d other. record {
      signed = own_passes _;
      sender = there;
      carried = refl;
      led = λ two. absurd (omega (arith, two));
      backup = λ three same. absurd (eqb-false s.me (primary s.f v) other same);
    };
    commit = λ v n d. record {
      signed = own_passes _;
      sender = there;
      carried = refl;
      led = λ two. absurd (omega (arith, two));
      backup = λ three same. absurd (omega (arith, three));
    };
    checkpoint = λ n d. record {
      signed = own_passes _;
      sender = there;
      carried = refl;
      led = λ two. absurd (omega (arith, two));
      backup = λ three same. absurd (omega (arith, three));
    };
  }

  clean_proposal : (batch : Batch) → requests_are_signed mine batch ≡ true → proposal_refusal s ≡ None → Clean (proposal mine s batch)
  clean_proposal batch pass none = record {
    signed = own_passes _;
    sender = there;
    carried = pass;
    led = λ two. leading s none;
    backup = λ three same. absurd (omega (arith, three));
  }

  shown_clean : (stable : Option StableCheckpoint) → Shown Clean mine s stable
  shown_clean None = tt
  shown_clean (Some c) = clean_certificate mine s.f c

  with_keys : (call : Keys → Call) (by : Keys) → by ≡ mine → Fits Clean s (call mine) → Fits Clean s (call by)
  with_keys call by same fits = subst (λ (k : Keys). Fits Clean s (call k)) (sym same) fits

  proper_fits : (call : Call) → IsProper mine call → Fits Clean s call
  proper_fits (Takes by m) proper = with_keys (λ k. Takes k m) by proper (clean_taken mine s m, speaks_clean)
  proper_fits (Proposes by batch) proper = with_keys (λ k. Proposes k batch) by proper.0 (clean_proposal batch proper.1, speaks_clean)
  proper_fits Executes proper = tt
  proper_fits (Checkpoints by n d) proper = with_keys (λ k. Checkpoints k n d) by proper speaks_clean
  proper_fits (Installs by c) proper = with_keys (λ k. Installs k c) by proper (clean_certificate mine s.f c)
  proper_fits (Leaves v) proper = tt
  proper_fits (Enters by v stable ps) proper = with_keys (λ k. Enters k v stable ps) by proper.0
      (All-weaker (IsAllSigned mine) (Handed Clean s.f) (λ m is. clean_handed mine s.f m is) (as_proposals ps) proper.1, speaks_clean, shown_clean stable)

pub clean_kept : PassesAtReplicas → ProperCallsKeepLogsClean
clean_kept passes_at secret clients s call there proper clean =
    let keys = own_keys secret clients s.f s.me in
    let goes = call_goes (IsClean keys s.f) (CleanLog keys s.f) (clean_move keys s.f) s [] call clean (proper_fits passes_at secret clients s there call proper) in
    subst (λ (f : ℕ). All (IsClean (own_keys secret clients f (outcome s call).now.me) f) (outcome s call).now.log) (sym goes.same_f)
    (subst (λ (me : ℕ). All (IsClean (own_keys secret clients s.f me) s.f) (outcome s call).now.log) (sym goes.same_me) goes.kept)

clean_after : PassesAtReplicas → (secret : List ℕ) (clients : ℕ) (s : State) (calls : List Call) → s.me < replicas s.f → All (IsProper (own_keys secret clients s.f s.me)) calls
    → HasCleanLog secret clients s → HasCleanLog secret clients (after s calls)
clean_after passes_at secret clients s [] there proper clean = clean
clean_after passes_at secret clients s (call ∷ calls) there proper clean =
    let keys = own_keys secret clients s.f s.me in
    let next = (outcome s call).now in
    let same = same_replica s call in
    let proper_on : All (IsProper (own_keys secret clients next.f next.me)) calls =
    subst (λ (f : ℕ). All (IsProper (own_keys secret clients f next.me)) calls) (sym same.0)
    (subst (λ (me : ℕ). All (IsProper (own_keys secret clients s.f me)) calls) (sym same.1) (All-tail (IsProper keys) call calls proper)) in
    let there_on : next.me < replicas next.f = omega (arith, there, same.0, same.1) in
    clean_after passes_at secret clients next calls there_on proper_on (clean_kept passes_at secret clients s call there (All-head (IsProper keys) call calls proper) clean)

pub clean_always : PassesAtReplicas → LogsAreClean
clean_always passes_at secret clients f me calls there proper =
    clean_after passes_at secret clients (fresh f me) calls there proper (All-nil (IsClean (own_keys secret clients f me) f))
