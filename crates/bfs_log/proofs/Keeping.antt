-- The index follows the log: with one message more, with the last one gone, and after a checkpoint.
use Rattle.std.proofs.Common.{◌≡◌, ℕ, ◌<◌, Bool, true, false, ◌&&◌, ◌||◌, cond, List, [], ◌∷◌, ◌++◌, refl, ap, sym, subst, ◌∙◌, nat_lt, length, arith}
use Rattle.std.specs.Prelude.{◌==◌, bytes_eq, map, filter, All, if◌then◌else◌}
use Rattle.std.proofs.lemmas.Bool.{eq-eqb, le-ltb}
use Rattle.std.proofs.Math.Seq.{take-append_seam}
use Rattle.std.specs.Cmp.{nat_eq_equiv}
use Rattle.std.proofs.lemmas.List.{map-append}
use Rattle.std.proofs.lemmas.List.Elements.{All-push, All-filter, All-take, filter-append}
use Rattle.bfs_model.specs.Server.Limits.{most_replicas}
use Rattle.bfs_messages.specs.declared.signed.Signed.{Signed}
use Rattle.bfs_messages.specs.declared.order_messages.OrderMessage.{OrderMessage}
use Rattle.bfs_messages.specs.declared.order_messages.OrderMessage.TheVariants.{PrePrepare, Prepare, Commit, Checkpoint}
use Rattle.bfs_votes.specs.Votes.{Header, is_taken}
use Rattle.bfs_log.specs.Batches.{Said}
use Rattle.bfs_log.specs.Headers.{header, message_header}
use Rattle.bfs_log.specs.Logs.{Log, headers, kept_after, said_in, stays}
use Rattle.bfs_log.specs.Places.{Index, IsIndexed, checkpoint_place, is_at, place_of, row_at, row_kept, said_at, same_place}
use Rattle.bfs_log.specs.declared.places.Place.{Place}
use Rattle.bfs_log.proofs.Indexes.{one_place}
use Rattle.bfs_log.proofs.Slots.{differ_pushed, differ_before, differ_kept}
use Rattle.bfs_log.proofs.Maps.{undone}

abbrev said_of : Signed OrderMessage → Said
said_of m = said_in m

abbrev one_at : (b : Bool) → Said → List Said
one_at b said = if b then said ∷ [] else []

-- One message more -----------------------------------------------------------------------------------------------------

one_step : (b : Bool) (m : Signed OrderMessage) → map said_of (cond b (m ∷ []) []) ≡ one_at b (said_of m)
one_step true m = refl
one_step false m = refl

said_pushed : (place : Place) (log : Log) (m : Signed OrderMessage) → said_at place (log ++ m ∷ []) ≡ said_at place log ++ one_at (is_at place (header m)) (said_of m)
said_pushed place log m =
    ap (map said_of) (filter-append (λ m. is_at place (header m)) log (m ∷ []))
    ∙ map-append said_of (filter (λ m. is_at place (header m)) log) (filter (λ m. is_at place (header m)) (m ∷ []))
    ∙ ap (λ xs. said_at place log ++ xs) (one_step (is_at place (header m)) m)

pub pushed : (log : Log) (m : Signed OrderMessage) (before after : Index) → IsIndexed log before → is_taken (headers log) (header m) ≡ false → (header m).sender < most_replicas
    → ((p : Place) → row_at after p ≡ row_at before p ++ (if same_place (place_of (header m)) p then said_in m ∷ [] else [])) → IsIndexed (log ++ m ∷ []) after
pushed log m before after was free sender put = record {
  differ = differ_pushed log m was.differ free;
  senders = All-push (λ m. (header m).sender < most_replicas) log m was.senders sender;
  index = λ p. put p ∙ ap (λ row. row ++ one_at (is_at p (header m)) (said_of m)) (was.index p) ∙ sym (said_pushed p log m);
}

pub unchanged : (log : Log) (before after : Index) → IsIndexed log before → ((p : Place) → row_at after p ≡ row_at before p) → IsIndexed log after
unchanged log before after was same = record {
  differ = was.differ;
  senders = was.senders;
  index = λ p. same p ∙ was.index p;
}

pub popped : (log : Log) (m : Signed OrderMessage) (before after : Index) → IsIndexed (log ++ m ∷ []) before
    → ((row : List Said) (said : Said) → row_at before (place_of (header m)) ≡ row ++ said ∷ [] → row_at after (place_of (header m)) ≡ row)
    → ((q : Place) → same_place (place_of (header m)) q ≡ false → row_at after q ≡ row_at before q) → IsIndexed log after
popped log m before after was last others = record {
  differ = differ_before log (m ∷ []) was.differ;
  senders = subst (All (λ m. (header m).sender < most_replicas)) (take-append_seam log (m ∷ [])) (All-take (λ m. (header m).sender < most_replicas) (length log) (log ++ m ∷ []) was.senders);
  index = undone before after (λ p. said_at p log) (place_of (header m)) (said_of m) (λ p. was.index p ∙ said_pushed p log m) last others;
}

-- After a checkpoint ---------------------------------------------------------------------------------------------------

abbrev rows_at : Place → Log → Log
rows_at place log = filter (λ m. is_at place (header m)) log

kept_step : (place : Place) (q : Said → Bool) (m : Signed OrderMessage) (kept rows : Log) (a k : Bool) → is_at place (header m) ≡ a → (a ≡ true → k ≡ q (said_of m))
    → said_at place kept ≡ filter q (map said_of rows) → said_at place (cond k (m ∷ kept) kept) ≡ filter q (map said_of (cond a (m ∷ rows) rows))
kept_step place q m kept rows true true at same h = rw (at, sym (same refl)) (ap (λ xs. said_of m ∷ xs) h)
kept_step place q m kept rows true false at same h = rw (sym (same refl)) h
kept_step place q m kept rows false true at same h = rw at h
kept_step place q m kept rows false false at same h = h

said_kept : (place : Place) (keep : Header → Bool) (q : Said → Bool) → ((m : Signed OrderMessage) → is_at place (header m) ≡ true → keep (header m) ≡ q (said_of m))
    → (log : Log) → said_at place (filter (λ m. keep (header m)) log) ≡ filter q (said_at place log)
said_kept place keep q same [] = refl
said_kept place keep q same (m ∷ log) =
    kept_step place q m (filter (λ m. keep (header m)) log) (rows_at place log) (is_at place (header m)) (keep (header m)) refl (same m) (said_kept place keep q same log)

all_kept : (row : List Said) → filter (λ said. true) row ≡ row
all_kept [] = refl
all_kept (said ∷ row) = ap (λ xs. said ∷ xs) (all_kept row)

none_kept : (row : List Said) → filter (λ said. false) row ≡ []
none_kept [] = refl
none_kept (said ∷ row) = none_kept row

-- a CHECKPOINT has view 0
no_view : (m : OrderMessage) → ((message_header m).tag == 5) ≡ true → ((message_header m).view == 0) ≡ true
no_view (PrePrepare proposal) h = absurd cc
no_view (Prepare vote) h = absurd cc
no_view (Commit vote) h = absurd cc
no_view (Checkpoint checkpoint) h = refl

stays_told : (lt t n b : Bool) → lt ≡ false → t ≡ true → n ≡ true → (lt || (t && (n && b))) ≡ b
stays_told lt t n b d e f = rw (d, e, f) refl

stays_not : (lt t n v b : Bool) → lt ≡ false → (n && (v && t)) ≡ false → (t ≡ true → v ≡ true) → (lt || (t && (n && b))) ≡ false
stays_not true t n v b d e f = absurd cc
stays_not false false n v b d e f = refl
stays_not false true false v b d e f = refl
stays_not false true true true b d e f = absurd cc
stays_not false true true false b d e f = let h : false ≡ true = f refl in absurd cc

row_step : (number : ℕ) (digest : List ℕ) (log : Log) (p : Place) (told above : Bool) → same_place (checkpoint_place number) p ≡ told → nat_lt number p.number ≡ above
    → said_at p (kept_after number digest log) ≡ (if told then filter (λ said. bytes_eq said.digest digest) (said_at p log) else (if above then said_at p log else []))
row_step number digest log p true above here over =
    said_kept p (stays number digest) (λ said. bytes_eq said.digest digest) (λ m at.
    let h = header m in
    let there : place_of h ≡ checkpoint_place number = one_place (place_of h) p at ∙ sym (one_place (checkpoint_place number) p here) in
    let here : h.number ≡ number = ap (λ q. q.number) there in
    stays_told (nat_lt number h.number) (h.tag == 5) (h.number == number) (bytes_eq h.digest digest)
    (le-ltb number h.number (omega arith)) (eq-eqb h.tag 5 (ap (λ q. q.tag) there)) (eq-eqb h.number number here)) log
row_step number digest log p false true here over =
    said_kept p (stays number digest) (λ said. true) (λ m at.
    let h = header m in
    ap (λ b. b || ((h.tag == 5) && ((h.number == number) && bytes_eq h.digest digest))) (ap (λ q. nat_lt number q.number) (one_place (place_of h) p at) ∙ over)) log
    ∙ all_kept (said_at p log)
row_step number digest log p false false here over =
    said_kept p (stays number digest) (λ said. false) (λ m at.
    let h = header m in
    let there = one_place (place_of h) p at in
    stays_not (nat_lt number h.number) (h.tag == 5) (h.number == number) (h.view == 0) (bytes_eq h.digest digest)
    (ap (λ q. nat_lt number q.number) there ∙ over)
    (rw (nat_eq_equiv.symm h.number number, nat_eq_equiv.symm h.view 0, nat_eq_equiv.symm h.tag 5) (ap (same_place (checkpoint_place number)) there ∙ here))
    (no_view m.message)) log
    ∙ none_kept (said_at p log)

pub row_dropped : (number : ℕ) (digest : List ℕ) (log : Log) (p : Place) → said_at p (kept_after number digest log) ≡ row_kept number digest p (said_at p log)
row_dropped number digest log p = row_step number digest log p (same_place (checkpoint_place number) p) (nat_lt number p.number) refl refl

pub dropped : (number : ℕ) (digest : List ℕ) (log : Log) (before after : Index) → IsIndexed log before
    → ((p : Place) → row_at after p ≡ row_kept number digest p (row_at before p)) → IsIndexed (kept_after number digest log) after
dropped number digest log before after was drop = record {
  differ = differ_kept (stays number digest) log was.differ;
  senders = All-filter (λ m. stays number digest (header m)) (λ m. (header m).sender < most_replicas) log was.senders;
  index = λ p. drop p ∙ ap (row_kept number digest p) (was.index p) ∙ sym (row_dropped number digest log p);
}
