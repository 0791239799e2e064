-- When a CHECKPOINT makes its number stable: the low mark rises to it, and the CHECKPOINTs that tell it are a certificate.
use Rattle.std.proofs.Common.{◌≡◌, ◌∙◌, ◌<◌, ℕ, ◌==◌, Bool, true, false, ◌&&◌, not, cond, ltb, List, [], ◌∷◌, ◌++◌, Option, Some, None, refl, sym, ap, ap₂, subst, arith}
use Rattle.std.specs.Prelude.{IfSome}
use Rattle.std.proofs.lemmas.Bool.{and_parts, eqb-true, ltb-true, eq-eqb, ne_eqb, not-false}
use Rattle.std.proofs.lemmas.List.{append-nil}
use Rattle.bfs_auth.specs.Keys.{Keys}
use Rattle.bfs_votes.specs.Votes.{Header, SlotsDiffer, is_taken}
use Rattle.bfs_checkpoints.specs.Certificates.{told_checkpoint}
use Rattle.bfs_checkpoints.specs.Keeping.{Keeping, settled as settled_snapshots, with_snapshot}
use Rattle.bfs_checkpoints.specs.Snapshots.{Snapshot}
use Rattle.bfs_checkpoints.proofs.Public.{certificate_of}
use Rattle.bfs_log.specs.Certificates.{MakesStable, StableCheckpoint}
use Rattle.bfs_log.specs.Headers.{header}
use Rattle.bfs_log.specs.Logs.{Log}
use Rattle.bfs_log.proofs.Public.{differ_pushed}
use Rattle.bfs_messages.specs.declared.signed.Signed.{Signed}
use Rattle.bfs_messages.specs.declared.order_messages.OrderMessage.{OrderMessage}
use Rattle.bfs_order.specs.Replica.Accepting.{accepted, makes_stable, settled}
use Rattle.bfs_order.specs.Replica.Answers.{answers_in}
use Rattle.bfs_order.specs.Replica.Checkpoints.{checkpoint, checkpoint_refusal, checkpointed}
use Rattle.bfs_order.specs.Replica.Refusals.{conflicts, is_authentic, is_between, is_inside, is_of_view, is_there, refusal}
use Rattle.bfs_order.specs.Replica.States.{State, known, with_message, with_more}
use Rattle.bfs_order.specs.declared.error.OrderError.{OrderError}
use Rattle.bfs_node.specs.Checkpoints.{with_checkpoint}
use Rattle.bfs_node.specs.Delivering.{ordered, settled_by}
use Rattle.bfs_node.specs.Inside.Settling.{Certifies, settled_at, settled_with}
use Rattle.bfs_node.specs.Nodes.{Node}

-- What is not refused ---------------------------------------------------------------------------------------------------

passed : (test : Bool) (error : OrderError) (rest : Option OrderError) → cond test (Some error) rest ≡ None → (test ≡ false) × (rest ≡ None)
passed true error rest is = absurd cc
passed false error rest is = (refl, is)

-- a message in the log that is not there yet, and whose number is above the low mark
pub record IsNews (s : State) (m : Signed OrderMessage) : Type 0 where
  pub checkpoint : (header m).tag ≡ 5
  pub above : s.low < (header m).number
  pub free : is_taken (known s) (header m) ≡ false

pub news_taken : (keys : Keys) (s : State) (m : Signed OrderMessage) → ((header m).tag == 5) ≡ true → refusal keys s m ≡ None → IsNews s m
news_taken keys s m tag none =
    let h = header m in
    let authentic = passed (not (is_authentic keys s m)) _ _ none in
    let view = passed (not (is_of_view s h)) _ _ authentic.1 in
    let inside = passed (not (is_inside s h)) _ _ view.1 in
    let leader = passed ((h.tag == 2) && not _) _ _ inside.1 in
    let agrees = passed (conflicts s h) _ _ leader.1 in
    let free = passed (is_there s h) _ _ agrees.1 in
    record {
      checkpoint = eqb-true h.tag 5 tag;
      above = ltb-true s.low h.number (and_parts (ltb s.low h.number) _ (and_parts (is_between s h.number) _ (not-false (is_inside s h) inside.0)).0).0;
      free = free.0;
    }

pub own_news : (keys : Keys) (s : State) (number : ℕ) (digest : List ℕ) → checkpoint_refusal s number ≡ None → IsNews s (checkpoint keys s number digest)
own_news keys s number digest none =
    let marks = passed (not _) _ _ none in
    let free = passed _ _ _ marks.1 in
    record {
      checkpoint = refl;
      above = ltb-true s.low number (and_parts (ltb s.low number) _ (and_parts (is_between s number) _ (not-false _ marks.0)).0).0;
      free = free.0;
    }

-- What it makes stable ----------------------------------------------------------------------------------------------------

no_answers : (keys : Keys) (s : State) (h : Header) → h.tag ≡ 5 → answers_in keys s h ≡ []
no_answers keys s h is = rw is refl

pub accepted_checkpoint : (keys : Keys) (s : State) (m : Signed OrderMessage) → (header m).tag ≡ 5 → (accepted keys s m).now ≡ settled (with_message s m) (header m)
accepted_checkpoint keys s m is =
    ap (λ (more : Log). settled (with_more (with_message s m) more) (header m)) (no_answers keys (with_message s m) (header m) is)
    ∙ ap (λ (log : Log). settled (record s { log = log }) (header m)) (append-nil (s.log ++ m ∷ []))

-- the low mark is at its number just where it is stable
pub raised : (s : State) (m : Signed OrderMessage) → IsNews s m → ((settled (with_message s m) (header m)).low == (header m).number) ≡ makes_stable (with_message s m) (header m)
raised s m news = go (makes_stable (with_message s m) (header m))
  where
    go : (stable : Bool) → (cond stable (header m).number s.low == (header m).number) ≡ stable
    go true = eq-eqb (header m).number (header m).number refl
    go false = ne_eqb s.low (header m).number (λ same. absurd (omega (arith, news.above, same)))

pub certified : (s : State) (m : Signed OrderMessage) → IsNews s m → SlotsDiffer (known s) → makes_stable (with_message s m) (header m) ≡ true
    → MakesStable s.f (told_checkpoint (header m).number (header m).digest (s.log ++ m ∷ []))
certified s m news differ stable =
    certificate_of s.f (header m).number (header m).digest (s.log ++ m ∷ []) (differ_pushed s.log m differ news.free) (and_parts ((header m).tag == 5) _ stable).1

-- no other message settles snapshots
pub unsettled : (s : State) (h : Header) (snapshots : Keeping) → (h.tag == 5) ≡ false → settled_by s h snapshots ≡ snapshots
unsettled s h snapshots other = rw other refl

pub vote_now : (node : Node) (signed : Signed OrderMessage) (state : State) → state ≡ (accepted node.keys node.order signed).now → ((header signed).tag == 5) ≡ false
    → record node { order = state } ≡ (ordered node signed).now
vote_now node signed state is other =
    ap₂ (λ (s : State) (kept : Keeping). record node { order = s; snapshots = kept }) is (sym (unsettled (with_message node.order signed) (header signed) node.snapshots other))

-- A CHECKPOINT that was taken ----------------------------------------------------------------------------------------------

pub certificate_at : (s : State) (m : Signed OrderMessage) (after : State) (number : ℕ) (copies : Option StableCheckpoint) → after ≡ settled (with_message s m) (header m) → IsNews s m → SlotsDiffer (known s)
    → number ≡ (header m).number → Certifies s m copies → after.low ≡ number → IfSome copies (MakesStable after.f)
certificate_at s m after number copies is news differ at copied low =
    let stable : makes_stable (with_message s m) (header m) ≡ true = sym (raised s m news) ∙ eq-eqb _ _ (sym (ap (λ (t : State). t.low) is) ∙ low ∙ at) in
    rw (is, copied stable) (certified s m news differ stable)

pub settled_now : (node : Node) (s : State) (m : Signed OrderMessage) (after : State) (number : ℕ) (copies : Option StableCheckpoint) → after ≡ settled (with_message s m) (header m) → IsNews s m
    → number ≡ (header m).number → Certifies s m copies
    → settled_at (record node { order = after }) number copies
    ≡ record node { order = settled (with_message s m) (header m); snapshots = settled_by (with_message s m) (header m) node.snapshots }
settled_now node s m after number copies is news at copied = rw (is, at, raised s m news) (go (makes_stable (with_message s m) (header m)) refl)
  where
    go : (stable : Bool) → makes_stable (with_message s m) (header m) ≡ stable → cond stable
        (settled_with (record node { order = settled (with_message s m) (header m) }) copies)
        (record node { order = settled (with_message s m) (header m) })
        ≡ record node {
          order = settled (with_message s m) (header m);
          snapshots = cond stable (settled_snapshots (told_checkpoint (header m).number (header m).digest (s.log ++ m ∷ [])) node.snapshots) node.snapshots;
        }
    go true stable = ap (settled_with (record node { order = settled (with_message s m) (header m) })) (copied stable)
    go false stable = refl

pub checkpoint_now : (node : Node) (m : Signed OrderMessage) (after : State) (number : ℕ) (copies : Option StableCheckpoint) → after ≡ (accepted node.keys node.order m).now → IsNews node.order m
    → number ≡ (header m).number → Certifies node.order m copies
    → settled_at (record node { order = after }) number copies ≡ (ordered node m).now
checkpoint_now node m after number copies is news at copied =
    settled_now node node.order m after number copies (is ∙ accepted_checkpoint node.keys node.order m news.checkpoint) news at copied
    ∙ ap (λ (state : State). record (ordered node m).now { order = state }) (sym (accepted_checkpoint node.keys node.order m news.checkpoint))

-- Its own CHECKPOINT -------------------------------------------------------------------------------------------------------

pub own_certificate : (keys : Keys) (s : State) (number : ℕ) (digest : List ℕ) (m : Signed OrderMessage) (after : State) (copies : Option StableCheckpoint) → m ≡ checkpoint keys s number digest
    → checkpoint_refusal s number ≡ None → SlotsDiffer (known s) → after ≡ (checkpointed keys s number digest).now
    → Certifies s m copies → after.low ≡ number → IfSome copies (MakesStable after.f)
own_certificate keys s number digest m after copies is none differ now copied low =
    let own = checkpoint keys s number digest in
    certificate_at s own after number copies now (own_news keys s number digest none) differ refl (subst (λ (one : Signed OrderMessage). Certifies s one copies) is copied) low

pub told_now : (node : Node) (number : ℕ) (digest : List ℕ) (snapshot : Snapshot) (m : Signed OrderMessage) (after : State) (pushed : Keeping) (copies : Option StableCheckpoint)
    → number ≡ node.order.last → digest ≡ snapshot.digest → pushed ≡ with_snapshot node.snapshots number snapshot → m ≡ checkpoint node.keys node.order number digest
    → checkpoint_refusal node.order number ≡ None → after ≡ (checkpointed node.keys node.order number digest).now → Certifies node.order m copies
    → settled_at (record node { order = after; snapshots = pushed }) number copies ≡ (with_checkpoint node snapshot).now
told_now node number digest snapshot m after pushed copies last same kept is none now copied =
    settled_now (record node { snapshots = pushed }) node.order (checkpoint node.keys node.order number digest) after number copies now (own_news node.keys node.order number digest none) refl
    (subst (λ (one : Signed OrderMessage). Certifies node.order one copies) is copied)
    ∙ rw (kept, last, same) refl
