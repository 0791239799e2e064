-- Entering a view is a list of moves: all that is handed over within the marks is taken, and answered.
use Rattle.std.proofs.Common.{◌≡◌, ℕ, ◌+◌, ◌%◌, ◌<◌, ◌≤◌, ◌==◌, max, Bool, true, false, cond, ◌&&◌, ◌||◌, not, List, [], ◌∷◌, ◌++◌, Option, Some, None, ◌⊎◌, inl, inr, refl, sym, ap, ap₂, subst, ◌∙◌, arith}
use Rattle.std.specs.Prelude.{nat_lt, nat_le}
use Rattle.std.specs.List.{list_all, list_any}
use Rattle.std.proofs.lemmas.Bool.{and_parts, and_from, or_right, cond_both, cond-false, false_from_ne_true, eq-eqb, ltb-true, lt-ltb, leb-true, le-leb}
use Rattle.std.proofs.Math.Bool.{or-false, or_assoc}
use Rattle.std.proofs.lemmas.List.{map-append}
use Rattle.std.proofs.lemmas.List.Folds.{list_any-append}
use Rattle.bfs_auth.specs.Keys.{Keys}
use Rattle.bfs_votes.specs.Votes.{Header, SlotsDiffer, is_slot, has_slot, is_taken, told, Told, primary, prepared}
use Rattle.bfs_log.specs.Certificates.{StableCheckpoint, checkpoints_in, is_shown, vouches}
use Rattle.bfs_log.specs.Headers.{header, message_header}
use Rattle.bfs_log.specs.Logs.{Log, headers, kept_after}
use Rattle.bfs_messages.specs.Messages as model
use Rattle.bfs_messages.specs.Signing.{order_signed_by}
use Rattle.bfs_messages.specs.declared.signed.Signed.{Signed}
use Rattle.bfs_messages.specs.declared.order_messages.OrderMessage.{OrderMessage}
use Rattle.bfs_messages.specs.declared.order_messages.OrderMessage.TheVariants.{Prepare, Commit}
use Rattle.bfs_order.specs.declared.error.OrderError.{OrderError}
use Rattle.bfs_order.specs.declared.error.OrderError.TheVariants.{WrongView, OutsideMarks, NotPrimary, Conflicting, AlreadyHave}
use Rattle.bfs_order.specs.Replica.Accepting.{settled, answers, accepted}
use Rattle.bfs_order.specs.Replica.Answers.{said_once, own_vote, prepares_in, commits_in, votes_in}
use Rattle.bfs_order.specs.Replica.Installing.{certified}
use Rattle.bfs_order.specs.Replica.Outcomes.{Outcome, unless}
use Rattle.bfs_order.specs.Replica.Refusals.{is_between, is_inside, is_of_view, is_there, conflicts, place_refusal}
use Rattle.bfs_order.specs.Replica.States as order
use Rattle.bfs_order.specs.Replica.States.{known, with_more, with_message}
use Rattle.bfs_order.specs.Replica.Views.{entering_refusal, as_proposals, number_of, opened, taken_over, all_taken_over, entered}
use Rattle.bfs_order.proofs.Public.{raised_either}
use Rattle.bfs_agreement.specs.Histories.{IsIn, ViewChange, NewView, State, History, World, IsChoice, IsValidNewView}
use Rattle.bfs_agreement.specs.Moves.{Drops, Enters, MayEnter, kept_above, taken_in, after_move, with_history}
use Rattle.bfs_agreement.specs.Calls.{with_said, all_said}
use Rattle.bfs_agreement.specs.Nodes.{after_moves}
use Rattle.bfs_agreement.proofs.Public.{MaySayAll, Within, here_itself, in_told, new_view_on, say_join, then_said, world_grows}
use Rattle.bfs_nodes_agree.specs.Orders.Following.{HaveTheSameVotes, Follows}
use Rattle.bfs_nodes_agree.specs.Orders.Replicas.{OrderReplica, new_view, where_taken}
use Rattle.bfs_nodes_agree.proofs.Orders.Lists.{any_in}
use Rattle.bfs_nodes_agree.proofs.Orders.Telling.{or_moved, not_both, not_equal, finds_none, no_slot, slot_is, any_both, any_said, slot_same}
use Rattle.bfs_nodes_agree.proofs.Orders.Saying.{IsAhead, told_there, ahead_said, votes_may, after_said}
use Rattle.bfs_nodes_agree.proofs.Orders.Dropping.{dropped, each_five}
use Rattle.bfs_nodes_agree.proofs.Orders.Results.{Result, drop_tracks, passed, stays_so, in_said, said_view}
use Rattle.bfs_nodes_agree.proofs.Orders.Taking.{unsettled, itself_there}
use Rattle.bfs_model.specs.Server.Limits.{checkpoint_interval, most_number}

-- What is handed over -----------------------------------------------------------------------------------------------------

any_taken : (test : Header → Bool) (low : ℕ) (hs log : List Header) → list_any test (taken_in low hs log) ≡ (list_any test (taken_in low hs []) || list_any test log)
any_taken test low [] log = refl
any_taken test low (h ∷ hs) log =
    let e = any_taken test low hs log in
    elim (nat_lt low h.number && nat_le h.number (low + 32)) as
    (λ b. list_any test (cond b (h ∷ taken_in low hs log) (taken_in low hs log)) ≡ (list_any test (cond b (h ∷ taken_in low hs []) (taken_in low hs [])) || list_any test log)) [
      | true ↦ ap (λ (b : Bool). test h || b) e ∙ sym (or_assoc (test h) (list_any test (taken_in low hs [])) (list_any test log))
      | false ↦ e
    ]

in_taken : (low : ℕ) (hs log : List Header) (x : Header) → IsIn x (taken_in low hs log) → IsIn x hs ⊎ IsIn x log
in_taken low [] log x = λ i. inr i
in_taken low (h ∷ hs) log x = cond_both (nat_lt low h.number && nat_le h.number (low + 32)) (h ∷ taken_in low hs log) (taken_in low hs log)
    (λ (l : List Header). IsIn x l → IsIn x (h ∷ hs) ⊎ IsIn x log)
    (λ _ i. elim i [ inl e ↦ inl (inl e) | inr j ↦ elim (in_taken low hs log x j) [ inl a ↦ inl (inr a) | inr b ↦ inr b ] ])
    (λ _ i. elim (in_taken low hs log x i) [ inl a ↦ inl (inr a) | inr b ↦ inr b ])

-- a PRE-PREPARE of the view's primary above what the view begins behind
pub record IsHanded (f view min_s : ℕ) (h : Header) : Type 0 where
  pub two : h.tag ≡ 2
  pub from : h.sender ≡ primary f h.view
  pub of_view : h.view ≡ view
  pub above : min_s < h.number

-- Places ------------------------------------------------------------------------------------------------------------------

turned : (x h : Header) → is_slot x.tag x.sender x.view x.number h ≡ true → is_slot h.tag h.sender h.view h.number x ≡ true
turned x h e =
    let at = slot_is x.tag x.sender x.view x.number h e in
    and_from (x.tag == h.tag) ((x.sender == h.sender) && ((x.view == h.view) && (x.number == h.number))) (eq-eqb x.tag h.tag (sym at.tag))
    (and_from (x.sender == h.sender) ((x.view == h.view) && (x.number == h.number)) (eq-eqb x.sender h.sender (sym at.sender))
    (and_from (x.view == h.view) (x.number == h.number) (eq-eqb x.view h.view (sym at.view)) (eq-eqb x.number h.number (sym at.number))))

pub differs : (hs : List Header) (h x : Header) → is_taken hs h ≡ false → IsIn x hs → is_slot x.tag x.sender x.view x.number h ≡ false
differs hs h x free i = false_from_ne_true (is_slot x.tag x.sender x.view x.number h) (λ e. not_both (any_in (is_slot h.tag h.sender h.view h.number) hs x i (turned x h e)) free)

-- of a later view
pub later_free : (log : List Header) (x : Header) → ((y : Header) → IsIn y log → y.view < x.view) → is_taken log x ≡ false
later_free log x earlier = finds_none (is_slot x.tag x.sender x.view x.number) log (λ y i. false_from_ne_true (is_slot x.tag x.sender x.view x.number y) (λ e.
    let same = (slot_is x.tag x.sender x.view x.number y e).view in
    let lt = earlier y i in
    absurd (omega (arith, same, lt))))

-- answers are no PRE-PREPAREs
once_other : (keys : Keys) (s : order.State) (m : OrderMessage) (k v n : ℕ) → ((message_header m).tag ≡ 2 → ⊥) → has_slot (headers (said_once keys s m)) 2 k v n ≡ false
once_other keys s m k v n differ = cond_both (is_there s (message_header m)) [] (order_signed_by keys m ∷ []) (λ (l : Log). has_slot (headers l) 2 k v n ≡ false)
    (λ _. refl)
    (λ _. finds_none (is_slot 2 k v n) (message_header m ∷ []) (λ h i. elim i [
      | inl e ↦ no_slot 2 k v n h (λ two. differ (ap (λ (x : Header). x.tag) (sym e) ∙ two))
      | inr j ↦ absurd j
    ]))

votes_other : (keys : Keys) (s : order.State) (v n : ℕ) (d : List ℕ) (k u j : ℕ) → has_slot (headers (votes_in keys s v n d)) 2 k u j ≡ false
votes_other keys s v n d k u j =
    let ps = prepares_in keys s v n d in
    let then = with_more s ps in
    let first : has_slot (headers ps) 2 k u j ≡ false = cond_both (s.me == primary s.f v) [] (said_once keys s (Prepare (own_vote s v n d))) (λ (l : Log). has_slot (headers l) 2 k u j ≡ false)
    (λ _. refl) (λ _. once_other keys s (Prepare (own_vote s v n d)) k u j (λ e. absurd (omega (arith, e)))) in
    let second : has_slot (headers (commits_in keys then v n d)) 2 k u j ≡ false =
    cond_both (prepared s.f s.me (known then) v n d) (said_once keys then (Commit (own_vote s v n d))) [] (λ (l : Log). has_slot (headers l) 2 k u j ≡ false)
    (λ _. once_other keys then (Commit (own_vote s v n d)) k u j (λ e. absurd (omega (arith, e)))) (λ _. refl) in
    any_both (is_slot 2 k u j) ps (commits_in keys then v n d) ∙ ap₂ (λ (a b : Bool). a || b) first second

-- One of it ---------------------------------------------------------------------------------------------------------------

chain : (a b c d e : Bool) (v w x y z : OrderError) → a ≡ true → b ≡ true → c ≡ false → d ≡ false → e ≡ false
    → cond (not a) (Some v) (cond (not b) (Some w) (cond c (Some x) (cond d (Some y) (cond e (Some z) None)))) ≡ None
chain true true false false false v w x y z p q r s t = refl
chain a b c d e v w x y z p q r s t = absurd cc

outside : (a b : Bool) (v w : OrderError) (o : Option OrderError) → a ≡ true → b ≡ false → cond (not a) (Some v) (cond (not b) (Some w) o) ≡ Some w
outside true false v w o p q = refl
outside a b v w o p q = absurd cc

-- within the marks, in a free place
pub none_refused : (s : order.State) (h : Header) → IsHanded s.f s.view s.min_s h → s.asked ≤ s.view → is_between s h.number ≡ true → is_taken (known s) h ≡ false → place_refusal s h ≡ None
none_refused s h handed asked marks free =
    let two = eq-eqb h.tag 2 handed.two in
    let five = not_equal h.tag 5 (λ e. let t = handed.two in absurd (omega (arith, t, e))) in
    let three = not_equal h.tag 3 (λ e. let t = handed.two in absurd (omega (arith, t, e))) in
    let view : is_of_view s h ≡ true = or_right (h.tag == 5) ((h.view == s.view) && nat_le s.asked s.view)
    (and_from (h.view == s.view) (nat_le s.asked s.view) (eq-eqb h.view s.view handed.of_view) (le-leb s.asked s.view asked)) in
    let inside : is_inside s h ≡ true = and_from (is_between s h.number) (cond (h.tag == 5) ((h.number % checkpoint_interval) == 0) (nat_lt s.min_s h.number)) marks
    (cond-false (h.tag == 5) ((h.number % checkpoint_interval) == 0) (nat_lt s.min_s h.number) five ∙ lt-ltb s.min_s h.number handed.above) in
    let from = eq-eqb h.sender (primary s.f h.view) handed.from in
    let primary_ok : ((h.tag == 2) && not (h.sender == primary s.f h.view)) ≡ false = ap₂ (λ (a b : Bool). a && not b) two from in
    let no_conflict : conflicts s h ≡ false =
    ap₂ (λ (a b : Bool). (a && (h.sender == primary s.f h.view)) || (b && not (told (known s) h.tag h.sender h.view h.number h.digest))) three free in
    chain (is_of_view s h) (is_inside s h) ((h.tag == 2) && not (h.sender == primary s.f h.view)) (conflicts s h) (is_there s h) WrongView OutsideMarks NotPrimary Conflicting AlreadyHave
    view inside primary_ok no_conflict free

-- beyond them
pub beyond_refused : (s : order.State) (h : Header) → IsHanded s.f s.view s.min_s h → s.asked ≤ s.view → is_between s h.number ≡ false → place_refusal s h ≡ Some OutsideMarks
beyond_refused s h handed asked beyond =
    let two = eq-eqb h.tag 2 handed.two in
    let view : is_of_view s h ≡ true = or_right (h.tag == 5) ((h.view == s.view) && nat_le s.asked s.view)
    (and_from (h.view == s.view) (nat_le s.asked s.view) (eq-eqb h.view s.view handed.of_view) (le-leb s.asked s.view asked)) in
    let inside : is_inside s h ≡ false = ap (λ (b : Bool). b && cond (h.tag == 5) ((h.number % checkpoint_interval) == 0) (nat_lt s.min_s h.number)) beyond in
    outside (is_of_view s h) (is_inside s h) WrongView OutsideMarks _ view inside

pub taken : (keys : Keys) (s : order.State) (m : Signed OrderMessage) → (header m).tag ≡ 2 → place_refusal s (header m) ≡ None
    → let vs = votes_in keys (with_message s m) (header m).view (header m).number (header m).digest in
    taken_over keys s m ≡ record { now = with_more (with_message s m) vs; sent = vs }
taken keys s m two none =
    let h = header m in
    let one = with_message s m in
    let vs = votes_in keys one h.view h.number h.digest in
    let said : answers keys s m ≡ vs = ap (λ (b : Bool). cond b vs (cond (h.tag == 3) (commits_in keys one h.view h.number h.digest) [])) (eq-eqb h.tag 2 two) in
    let vote = not_equal h.tag 5 (λ e. absurd (omega (arith, two, e))) in
    ap (λ (o : Option OrderError). unless o s (accepted keys s m)) none
    ∙ ap (λ (l : Log). let out : Outcome = record { now = settled (with_more one l) h; sent = l } in out) said
    ∙ ap (λ (x : order.State). let out : Outcome = record { now = x; sent = vs } in out) (unsettled (with_more one vs) h vote)

-- All of it ---------------------------------------------------------------------------------------------------------------

-- the state and the history are in the view that is entered
record IsInView (s : order.State) (t : State) : Type 0 where
  view : t.view ≡ s.view
  asked : t.asked ≡ t.view
  none_asked : s.asked ≤ s.view
  low : t.low ≡ s.low
  min_s : t.min_s ≡ s.min_s

-- what comes of it
record AreTaken (s : order.State) (t : State) (out : Outcome) : Type 0 where
  may : MaySayAll s.f s.me t (headers out.sent)
  log : HaveTheSameVotes (known out.now) (with_said (headers out.sent) t.log)
  view : out.now.view ≡ s.view
  asked : out.now.asked ≡ s.asked
  low : out.now.low ≡ s.low
  min_s : out.now.min_s ≡ s.min_s
  handed : out.now.handed ≡ s.handed

said_in_parts : (xs ys log : List Header) → with_said (xs ++ ys) log ≡ with_said ys (with_said xs log)
said_in_parts [] ys log = refl
said_in_parts (x ∷ xs) ys log = said_in_parts xs ys (x ∷ log)

-- one more is known, and the history is ahead by one less
one_less : (ahead : List Header) (s : order.State) (log : List Header) (m : Signed OrderMessage) → IsAhead (header m ∷ ahead) s log → IsAhead ahead (with_message s m) log
one_less ahead s log m joined =
    record {
      same = λ test votes.
          list_any-append test ahead (headers (s.log ++ m ∷ [])) ∙ ap (λ (b : Bool). list_any test ahead || b) (any_both test s.log (m ∷ []))
          ∙ or_moved (list_any test ahead) (list_any test (known s)) (test (header m) || false)
          ∙ ap₂ (λ (a b : Bool). a || b) (or-false (test (header m))) (sym (list_any-append test ahead (known s))) ∙ joined.same test votes;
      proposals = λ h i. joined.proposals h (inr i);
    }

-- the places of the rest stay free
pub still_free : (keys : Keys) (s : order.State) (m : Signed OrderMessage) (x : Header) → x.tag ≡ 2 → is_taken (known s) x ≡ false → is_slot x.tag x.sender x.view x.number (header m) ≡ false
    → is_taken (known (with_more (with_message s m) (votes_in keys (with_message s m) (header m).view (header m).number (header m).digest))) x ≡ false
still_free keys s m x two free other =
    let h = header m in
    let one = with_message s m in
    let vs = votes_in keys one h.view h.number h.digest in
    let test = is_slot x.tag x.sender x.view x.number in
    let none : list_any test (headers vs) ≡ false = subst (λ (t : ℕ). has_slot (headers vs) t x.sender x.view x.number ≡ false) (sym two) (votes_other keys one h.view h.number h.digest x.sender x.view x.number) in
    any_both test (s.log ++ m ∷ []) vs ∙ ap₂ (λ (a b : Bool). a || b) (any_both test s.log (m ∷ []) ∙ ap₂ (λ (a b : Bool). a || (b || false)) free other) none

all_taken : (keys : Keys) (s : order.State) (t : State) (ms : Log) → IsInView s t → ((x : Header) → IsIn x (headers ms) → IsHanded s.f s.view s.min_s x)
    → ((x : Header) → IsIn x (headers ms) → is_taken (known s) x ≡ false) → SlotsDiffer (headers ms) → IsAhead (taken_in s.low (headers ms) []) s t.log → AreTaken s t (all_taken_over keys s ms)
all_taken keys s t [] here handed free differ joined = record { may = tt; log = joined.same; view = refl; asked = refl; low = refl; min_s = refl; handed = refl }
all_taken keys s t (m ∷ ms) here handed free differ joined =
    let h = header m in
    let one = with_message s m in
    let vs = votes_in keys one h.view h.number h.digest in
    let then = with_more one vs in
    let ahead = taken_in s.low (headers ms) [] in
    let last : State = record t { log = with_said (headers vs) t.log } in
    let mine = handed h (inl refl) in
    let out = all_taken_over keys then ms in
    let rest : Outcome → Outcome = λ first. record { now = (all_taken_over keys first.now ms).now; sent = first.sent ++ (all_taken_over keys first.now ms).sent } in
    let skip : IsAhead ahead s t.log → AreTaken s t (all_taken_over keys s ms) = λ j. all_taken keys s t ms here (λ x i. handed x (inr i)) (λ x i. free x (inr i)) differ.1 j in
    let later : IsAhead ahead then last.log → AreTaken then last out = λ j. all_taken keys then last ms (assumption) (λ x i. handed x (inr i))
    (λ x i. still_free keys s m x (handed x (inr i)).two (free x (inr i)) (differs (headers ms) h x differ.0 i)) differ.1 j in
    (elim (is_between s h.number) as (λ b. is_between s h.number ≡ b → IsAhead (cond b (h ∷ ahead) ahead) s t.log → AreTaken s t (rest (taken_over keys s m))) [
      | true ↦ λ marks ahead_here.
          let parts = and_parts (nat_lt s.low h.number) (nat_le h.number (s.low + 32)) marks in
          let lt = ltb-true s.low h.number parts.0 in
          let le = leb-true h.number (s.low + 32) parts.1 in
          let above = mine.above in
          let low = here.low in
          let min_s = here.min_s in
          let in_marks : Within t h.view h.number = record {
            view = mine.of_view ∙ sym here.view;
            asked = here.asked;
            low = omega (arith, low, lt);
            min_s = omega (arith, min_s, above);
            high = omega (arith, low, le);
          } in
          let less = one_less ahead s t.log m ahead_here in
          let itself : Told (known one) 2 (primary s.f h.view) h.view h.number h.digest = any_both _ s.log (m ∷ [])
          ∙ or_right (told (known s) 2 (primary s.f h.view) h.view h.number h.digest) (told (h ∷ []) 2 (primary s.f h.view) h.view h.number h.digest) (itself_there s.f [] h mine.two mine.from) in
          let there = told_there ahead one t.log less 2 (primary s.f h.view) h.view h.number h.digest (omega arith) itself in
          let may = votes_may keys ahead one t h.view h.number h.digest less in_marks there in
          let r = later (ahead_said ahead one t.log vs less) in
          let may_all : MaySayAll s.f s.me t (headers (vs ++ out.sent)) = subst (λ (l : List Header). MaySayAll s.f s.me t l) (sym (map-append header vs out.sent)) (say_join s.f s.me t (headers vs) (headers out.sent) may r.may) in
          let log : HaveTheSameVotes (known out.now) (with_said (headers (vs ++ out.sent)) t.log) =
          subst (λ (l : List Header). HaveTheSameVotes (known out.now) l) (sym (ap (λ (l : List Header). with_said l t.log) (map-append header vs out.sent) ∙ said_in_parts (headers vs) (headers out.sent) t.log)) r.log in
          let all : AreTaken s t (rest (record { now = then; sent = vs })) = assumption (may_all, log) in
          subst (λ (o : Outcome). AreTaken s t (rest o)) (sym (taken keys s m mine.two (none_refused s h mine here.none_asked marks (free h (inl refl))))) all
      | false ↦ λ beyond ahead_here. subst (λ (o : Option OrderError). AreTaken s t (rest (unless o s (accepted keys s m)))) (sym (beyond_refused s h mine here.none_asked beyond)) (skip ahead_here)
    ]) refl joined

-- The call ----------------------------------------------------------------------------------------------------------------

-- what the choice says of each
handed_so : (f : ℕ) (r : NewView) (choice : IsChoice f r) (x : Header) → IsIn x r.proposals → IsHanded f r.view r.min_s x
handed_so f r choice x i =
    let there = in_told r.proposals x i in
    let kinds = choice.kinds x.tag x.sender x.view x.number x.digest there in
    let two = subst (λ (t : ℕ). Told r.proposals t x.sender x.view x.number x.digest) kinds.0 there in
    record { two = kinds.0; from = kinds.1 ∙ ap (primary f) (sym kinds.2); of_view = kinds.2; above = (choice.within x.sender x.view x.number x.digest two).0 }

-- the view is open: its PRE-PREPAREs are taken where their places are within the marks
begins : (faulty : ℕ → Bool) (w : World) (r : OrderReplica) (keys : Keys) (view min_s : ℕ) (handed : List (Signed model.PrePrepare)) (changes : List ViewChange) → Follows r (w r.state.me)
    → SlotsDiffer (headers (as_proposals handed)) → IsValidNewView r.state.f faulty w (new_view view min_s handed changes) → r.state.view < view → r.state.asked ≤ view
    → let out = all_taken_over keys (opened r.state view min_s handed) (as_proposals handed) in
    Result faulty w r out.now out.sent (cond (r.state.me == primary r.state.f view) (as_proposals handed) []) [] []
begins faulty w r keys view min_s handed changes follows differ valid lt asked =
    let s = r.state in
    let p = w s.me in
    let tracks = follows.state in
    let proposals = as_proposals handed in
    let hs = headers proposals in
    let q = new_view view min_s handed changes in
    let begun = opened s view min_s handed in
    let then = after_move s.f s.me p (Enters q) in
    let out = all_taken_over keys begun proposals in
    let offers = cond (s.me == primary s.f view) proposals [] in
    let free : (x : Header) → IsIn x hs → is_taken (known s) x ≡ false = λ x i.
    let so = handed_so s.f q valid.choice x i in
    let two = so.two in
    let of_view = so.of_view in
    slot_same (known s) p.now.log tracks.log x.tag x.sender x.view x.number (omega (arith, two)) ∙ later_free p.now.log x (λ y j. let le = tracks.views y j in omega (arith, le, of_view, lt)) in
    let joined : IsAhead (taken_in s.low hs []) begun then.now.log = record {
      same = λ test votes.
          list_any-append test (taken_in s.low hs []) (known s) ∙ ap (λ (b : Bool). list_any test (taken_in s.low hs []) || b) (tracks.log test votes)
          ∙ sym (any_taken test s.low hs p.now.log) ∙ ap (λ (low : ℕ). list_any test (taken_in low hs p.now.log)) (sym tracks.low);
      proposals = λ h i. elim (in_taken s.low hs [] h i) [ inl a ↦ (handed_so s.f q valid.choice h a).two | inr b ↦ absurd b ];
    } in
    let all : AreTaken begun then.now out = all_taken keys begun then.now proposals (record { view = refl; asked = refl; none_asked = omega arith; low = tracks.low; min_s = refl })
    (λ x i. handed_so s.f q valid.choice x i) free differ joined in
    let views : (x : Header) → IsIn x (with_said (headers out.sent) then.now.log) → x.view ≤ view = λ x i. elim (in_said (headers out.sent) then.now.log x i) [
      | inl a ↦ let e = said_view s.f s.me then.now (headers out.sent) all.may x a in omega (arith, e)
      | inr b ↦ elim (in_taken p.now.low hs p.now.log x b) [
        | inl a ↦ let e = (handed_so s.f q valid.choice x a).of_view in omega (arith, e)
        | inr c ↦ let le = tracks.views x c in omega (arith, le, lt)
      ]
    ] in
    let may : MayEnter s.f faulty w p.now q = record {
      above = let e = tracks.view in omega (arith, e, lt);
      asked = let e = tracks.asked in omega (arith, e, asked);
      valid = valid;
    } in
    let last : History = record then { now = record then.now { log = with_said (headers out.sent) then.now.log }; sent = with_said (headers out.sent) p.sent } in
    let follow : Follows (record { state = out.now; sent = out.sent ++ r.sent; offers = offers ++ r.offers; changes = r.changes; executed = r.executed }) last = record {
      state = record {
        view = sym all.view;
        asked = sym all.asked;
        low = tracks.low ∙ sym all.low;
        min_s = sym all.min_s;
        handed = sym (ap₂ max all.min_s all.handed);
        entered = let e = all.view in let a = all.asked in omega (arith, e, a);
        views = λ x i. let le = views x i in let e = all.view in omega (arith, le, e);
        log = all.log;
      };
      sent = λ test. any_both test out.sent r.sent ∙ ap (λ (b : Bool). list_any test (headers out.sent) || b) (follows.sent test) ∙ sym (any_said test (headers out.sent) p.sent);
      offers = λ test. elim (s.me == primary s.f view) as (λ b. list_any test (headers (cond b proposals [] ++ r.offers)) ≡ list_any test (cond b (hs ++ p.offers) p.offers)) [
        | true ↦ any_both test proposals r.offers ∙ ap (λ (b : Bool). list_any test hs || b) (follows.offers test) ∙ sym (list_any-append test hs p.offers)
        | false ↦ follows.offers test
      ];
      changes = follows.changes;
      executed = follows.executed;
    } in (
      Enters q ∷ all_said (headers out.sent),
      then_said s.f faulty w s.me (Enters q) (headers out.sent) may all.may,
      subst (λ (h : History). Follows (record { state = out.now; sent = out.sent ++ r.sent; offers = offers ++ r.offers; changes = r.changes; executed = r.executed }) h)
          (sym (after_said s.f s.me then (headers out.sent))) follow,
    )

-- where the low mark rises first, that is a move before it
raises_first : (faulty : ℕ → Bool) (w : World) (r : OrderReplica) (keys : Keys) (view min_s : ℕ) (handed : List (Signed model.PrePrepare)) (changes : List ViewChange) (c : StableCheckpoint) → Follows r (w r.state.me)
    → SlotsDiffer (headers (as_proposals handed)) → IsValidNewView r.state.f faulty w (new_view view min_s handed changes) → r.state.view < view → r.state.asked ≤ view
    → r.state.low < c.number → is_shown keys r.state.f c ≡ true
    → let out = all_taken_over keys (opened (record r.state { low = c.number; log = certified r.state.log c }) view min_s handed) (as_proposals handed) in
    Result faulty w r out.now out.sent (cond (r.state.me == primary r.state.f view) (as_proposals handed) []) [] []
raises_first faulty w r keys view min_s handed changes c follows differ valid lt asked above shown =
    let s = r.state in
    let p = w s.me in
    let n = c.number in
    let risen : order.State = record s { low = n; log = certified s.log c } in
    let all = (and_parts (list_all (vouches keys s.f n c.digest) (checkpoints_in c)) _ shown).0 in
    let same = each_five keys s.f n c.digest (kept_after n c.digest s.log) (checkpoints_in c) (kept_above n p.now.log) all (dropped n c.digest s.log p.now.log follows.state.log) in
    let over : p.now.low < n = let e = follows.state.low in omega (arith, e, above) in
    let tracks = drop_tracks s p.now n s.last n (certified s.log c) follows.state refl same in
    let then = after_move s.f s.me p (Drops n) in
    let first : Follows (record r { state = risen }) then = record { state = tracks; sent = follows.sent; offers = follows.offers; changes = follows.changes; executed = follows.executed } in
    let world = with_history w s.me then in
    let here : world s.me ≡ then = here_itself w s.me then in
    let rest = begins faulty world (record r { state = risen }) keys view min_s handed changes (subst (λ (h : History). Follows (record r { state = risen }) h) (sym here) first) differ
    (new_view_on s.f faulty w world (new_view view min_s handed changes) (world_grows s.f w (record { who = s.me; move = Drops n })) valid) lt asked in
    let out = all_taken_over keys (opened risen view min_s handed) (as_proposals handed) in
    let offers = cond (s.me == primary s.f view) (as_proposals handed) [] in (
      Drops n ∷ rest.0,
      (over, rest.1),
      subst (λ (h : History). Follows (record { state = out.now; sent = out.sent ++ r.sent; offers = offers ++ r.offers; changes = r.changes; executed = r.executed }) (after_moves s.f s.me h rest.0)) here rest.2,
    )

pub enters : (faulty : ℕ → Bool) (w : World) (r : OrderReplica) (keys : Keys) (view : ℕ) (stable : Option StableCheckpoint) (handed : List (Signed model.PrePrepare)) (changes : List ViewChange)
    → Follows r (w r.state.me) → SlotsDiffer (headers (as_proposals handed)) → IsValidNewView r.state.f faulty w (new_view view (number_of stable) handed changes)
    → let refused = entering_refusal r.state view in let out = unless refused r.state (entered keys r.state view stable handed) in
    Result faulty w r out.now out.sent (where_taken refused (cond (r.state.me == primary r.state.f view) (as_proposals handed) [])) [] []
enters faulty w r keys view stable handed changes follows differ valid =
    let s = r.state in
    let min_s = number_of stable in
    let out = entered keys s view stable handed in
    let offers = cond (s.me == primary s.f view) (as_proposals handed) [] in
    (elim (entering_refusal s view) as (λ o. entering_refusal s view ≡ o → Result faulty w r (unless o s out).now (unless o s out).sent (where_taken o offers) [] []) [
      | Some e ↦ λ is. stays_so faulty w r s follows follows.state
      | None ↦ λ is.
          let a = passed (nat_lt s.view view && (nat_le s.asked view && nat_le view most_number)) WrongView None is in
          let b = and_parts (nat_lt s.view view) (nat_le s.asked view && nat_le view most_number) a.0 in
          let lt = ltb-true s.view view b.0 in
          let asked = leb-true s.asked view (and_parts (nat_le s.asked view) (nat_le view most_number) b.1).0 in
          raised_either (λ (u : order.State). let done = all_taken_over keys (opened u view min_s handed) (as_proposals handed) in Result faulty w r done.now done.sent offers [] []) keys s stable
          (λ c _ above shown. raises_first faulty w r keys view min_s handed changes c follows differ valid lt asked above shown) (begins faulty w r keys view min_s handed changes follows differ valid lt asked)
    ]) refl
