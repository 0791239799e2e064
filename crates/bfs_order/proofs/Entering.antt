-- PRE-PREPAREs that are handed over, one after another.
use Rattle.std.proofs.Common.{◌≡◌, ℕ, Bool, false, cond, eqb, List, [], ◌∷◌, ◌++◌, Option, Some, None, refl, sym, ap, subst, ◌∙◌, ◌<◌, append_assoc, arith}
use Rattle.std.specs.Prelude.{IfSome, reverse}
use Rattle.std.proofs.lemmas.Bool.{and_left}
use Rattle.std.proofs.lemmas.List.{append-nil, map-append, reverse-append, reverse-reverse}
use Rattle.bfs_auth.specs.Keys.{Keys}
use Rattle.bfs_log.specs.Certificates.{MakesStable, StableCheckpoint}
use Rattle.bfs_log.specs.Headers.{header}
use Rattle.bfs_log.specs.Logs.{Log, as_messages, kept_after}
use Rattle.bfs_messages.specs.Messages as model
use Rattle.bfs_messages.specs.Signing.{as_message}
use Rattle.bfs_messages.specs.declared.signed.Signed.{Signed}
use Rattle.bfs_messages.specs.declared.message.Message.{Message}
use Rattle.bfs_messages.specs.declared.message.Message.TheVariants.{Order}
use Rattle.bfs_messages.specs.declared.order_messages.OrderMessage.{OrderMessage}
use Rattle.bfs_messages.specs.declared.order_messages.OrderMessage.TheVariants.{PrePrepare}
use Rattle.bfs_order.specs.Inside.Growing.{Grown}
use Rattle.bfs_order.specs.Replica.Accepting.{accepted, answers, makes_stable}
use Rattle.bfs_order.specs.Replica.Outcomes.{unless}
use Rattle.bfs_order.specs.Replica.Refusals.{place_refusal}
use Rattle.bfs_order.specs.Replica.States.{State, with_message, with_more}
use Rattle.bfs_order.specs.Replica.Installing.{raised}
use Rattle.bfs_order.specs.Replica.Views.{as_proposals, entered, number_of, opened, taken_over, all_taken_over}
use Rattle.bfs_order.specs.declared.error.OrderError.{OrderError}
use Rattle.bfs_order.proofs.Raising.{raised_either}
use Rattle.bfs_order.proofs.Vouching.{makes_stable as certificates_make_stable}

pub over_step : (keys : Keys) (s : State) (handed rest : List (Signed model.PrePrepare)) (p : Signed model.PrePrepare) → handed ≡ rest ++ p ∷ [] → (t : State) → t ≡ (taken_over keys s (as_message PrePrepare p)).now
    → (more : List (Signed Message)) → more ≡ as_messages (taken_over keys s (as_message PrePrepare p)).sent → (now : State) (all sent : List (Signed Message))
    → (all_taken_over keys s (as_proposals (reverse handed))).now ≡ now → sent ++ as_messages (all_taken_over keys s (as_proposals (reverse handed))).sent ≡ all
    → ((all_taken_over keys t (as_proposals (reverse rest))).now ≡ now) × ((sent ++ more) ++ as_messages (all_taken_over keys t (as_proposals (reverse rest))).sent ≡ all)
over_step keys s handed rest p split t is more are now all sent comes said =
    let back = as_proposals (reverse rest) in
    let one = as_message PrePrepare p in
    let first : as_proposals (reverse handed) ≡ one ∷ back = ap (λ l. as_proposals (reverse l)) split ∙ ap as_proposals (reverse-append rest (p ∷ [])) in (
      ap (λ (u : State). (all_taken_over keys u back).now) is ∙ ap (λ (l : Log). (all_taken_over keys s l).now) (sym first) ∙ comes,
      append_assoc sent more (as_messages (all_taken_over keys t back).sent)
          ∙ ap (λ l. sent ++ (l ++ as_messages (all_taken_over keys t back).sent)) are
          ∙ ap (λ (u : State). sent ++ (as_messages (taken_over keys s one).sent ++ as_messages (all_taken_over keys u back).sent)) is
          ∙ ap (λ l. sent ++ l) (sym (map-append (as_message Order) (taken_over keys s one).sent (all_taken_over keys (taken_over keys s one).now back).sent))
          ∙ ap (λ (l : Log). sent ++ as_messages (all_taken_over keys s l).sent) (sym first) ∙ said,
    )

pub taken_so : (keys : Keys) (s : State) (p : Signed model.PrePrepare) (m : Signed OrderMessage) → m ≡ as_message PrePrepare p → None ≡ place_refusal s (header m)
    → accepted keys s m ≡ taken_over keys s (as_message PrePrepare p)
taken_so keys s p m is none = ap (λ (r : Option OrderError). unless r s (accepted keys s m)) none ∙ ap (taken_over keys s) is

pub turned_back : (handed back : List (Signed model.PrePrepare)) → back ≡ reverse handed → reverse back ≡ handed
turned_back handed back e = ap reverse e ∙ reverse-reverse handed

pub grown_first : (s : State) → Grown s s
grown_first s = ([], ap (λ (l : Log). record s { log = l }) (sym (append-nil s.log)))

two_is_not_five : (t : ℕ) → t ≡ 2 → eqb t 5 ≡ false
two_is_not_five t e = ap (λ (k : ℕ). eqb k 5) e

accepted_grows : (keys : Keys) (s : State) (m : Signed OrderMessage) → (header m).tag ≡ 2 → Grown s (accepted keys s m).now
accepted_grows keys s m two =
    let all = with_more (with_message s m) (answers keys s m) in
    let none : makes_stable all (header m) ≡ false = and_left (eqb (header m).tag 5) _ (two_is_not_five (header m).tag two) in (
      m ∷ answers keys s m,
      ap (λ (b : Bool). record all { low = cond b (header m).number all.low; log = cond b (kept_after (header m).number (header m).digest all.log) all.log }) none
          ∙ ap (λ (l : Log). record s { log = l }) (append_assoc s.log (m ∷ []) (answers keys s m)),
    )

over_grows : (keys : Keys) (s : State) (p : Signed model.PrePrepare) → Grown s (taken_over keys s (as_message PrePrepare p)).now
over_grows keys s p = go (place_refusal s (header m))
  where
    m : Signed OrderMessage
    m = as_message PrePrepare p

    go : (r : Option OrderError) → Grown s (unless r s (accepted keys s m)).now
    go None = accepted_grows keys s m refl
    go (Some e) = grown_first s

grown_more : (s t u : State) → Grown s t → Grown t u → Grown s u
grown_more s t u a b =
    (a.0 ++ b.0, b.1 ∙ ap (λ (v : State). with_more v b.0) a.1 ∙ ap (λ (l : Log). record s { log = l }) (append_assoc s.log a.0 b.0))

all_grow : (keys : Keys) (s : State) (ps : List (Signed model.PrePrepare)) → Grown s (all_taken_over keys s (as_proposals ps)).now
all_grow keys s [] = grown_first s
all_grow keys s (p ∷ ps) =
    let then = (taken_over keys s (as_message PrePrepare p)).now in grown_more s then (all_taken_over keys then (as_proposals ps)).now (over_grows keys s p) (all_grow keys then ps)

-- but for the certificate nothing raises the low mark on entering
pub entered_low : (keys : Keys) (s : State) (view : ℕ) (stable : Option StableCheckpoint) (ps : List (Signed model.PrePrepare)) → (entered keys s view stable ps).now.low ≡ (raised keys s stable).low
entered_low keys s view stable ps = ap (λ (t : State). t.low) (all_grow keys (opened (raised keys s stable) view (number_of stable) ps) ps).1

rises : (keys : Keys) (s : State) (stable : Option StableCheckpoint) → s.low < (raised keys s stable).low → IfSome stable (MakesStable s.f)
rises keys s stable = raised_either (λ (u : State). s.low < u.low → IfSome stable (MakesStable s.f)) keys s stable
    (λ c is _ shown _. subst (λ (o : Option StableCheckpoint). IfSome o (MakesStable s.f)) (sym is) (certificates_make_stable keys s.f c shown)) (λ lt. absurd (omega (arith, lt)))

-- where it rises, that makes its number stable
pub risen_stable : (keys : Keys) (s now : State) (view : ℕ) (stable : Option StableCheckpoint) (ps : List (Signed model.PrePrepare)) → now ≡ (entered keys s view stable ps).now → s.low < now.low
    → IfSome stable (MakesStable s.f)
risen_stable keys s now view stable ps is lt = let same = ap (λ (t : State). t.low) is ∙ entered_low keys s view stable ps in rises keys s stable (omega (arith, lt, same))

pub grown_step : (keys : Keys) (s t u : State) (p : Signed model.PrePrepare) → Grown s t → u ≡ (taken_over keys t (as_message PrePrepare p)).now → Grown s u
grown_step keys s t u p grown is = grown_more s t u grown (subst (Grown t) (sym is) (over_grows keys t p))
