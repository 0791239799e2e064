-- A vote that comes to a node and passes is in its log then, where its number has room.
use Rattle.std.proofs.Common.{◌≡◌, ℕ, ◌+◌, ◌%◌, ◌<◌, ◌≤◌, ◌==◌, Bool, true, false, cond, ◌&&◌, ◌||◌, not, List, [], ◌∷◌, ◌++◌, Option, Some, None, option_map, inl, inr, refl, sym, ap, ap₂, subst, ◌∙◌, arith}
use Rattle.std.specs.Prelude.{nat_lt, nat_le}
use Rattle.std.specs.List.{list_any}
use Rattle.std.proofs.lemmas.Bool.{and_from, cases_Bool, cond-false, eq-eqb, le-leb, lt-ltb, or_left, or_right}
use Rattle.bfs_auth.specs.Keys.{Keys}
use Rattle.bfs_votes.specs.Votes.{Header, says, told, Told, primary}
use Rattle.bfs_log.specs.Headers.{header}
use Rattle.bfs_log.specs.Logs.{headers}
use Rattle.bfs_messages.specs.Signing.{as_message}
use Rattle.bfs_messages.specs.declared.signed.Signed.{Signed}
use Rattle.bfs_messages.specs.declared.message.Message.{Message}
use Rattle.bfs_messages.specs.declared.message.Message.TheVariants.{Order}
use Rattle.bfs_messages.specs.declared.order_messages.OrderMessage.{OrderMessage}
use Rattle.bfs_model.specs.Server.Limits.{checkpoint_interval, log_size}
use Rattle.bfs_order.specs.Replica.Accepting.{accepted, answers, on_message}
use Rattle.bfs_order.specs.Replica.Outcomes as order
use Rattle.bfs_order.specs.Replica.Refusals.{conflicts, is_authentic, is_between, is_inside, is_of_view, is_there, place_refusal, refusal}
use Rattle.bfs_order.specs.Replica.States.{State, known, with_message, with_more}
use Rattle.bfs_order.specs.declared.error.OrderError.{OrderError}
use Rattle.bfs_order.specs.declared.error.OrderError.TheVariants.{BadAuthenticator, WrongView, OutsideMarks, NotPrimary, Conflicting, AlreadyHave}
use Rattle.bfs_agreement.proofs.Public.{says_itself}
use Rattle.bfs_progress.proofs.Public.{slot_told}
use Rattle.bfs_node.specs.Delivering.{bytes_delivered, bytes_refusal, delivered}
use Rattle.bfs_node.specs.Errors.{of_order}
use Rattle.bfs_node.specs.Nodes.{Node, Outcome}
use Rattle.bfs_nodes_agree.specs.Nodes.Steps.{NodeStep, Delivers, Takes, outcome, unless}
use Rattle.bfs_nodes_agree.proofs.Public.{any_both, either_way, not_equal, passed, placed, unsettled}
use Rattle.bfs_nodes_progress.specs.Rounds.{Brings}

-- By an order -------------------------------------------------------------------------------------------------------------

-- a vote of the view, for a number that has room, of one that may send it
pub record MayStand (s : State) (h : Header) : Type 0 where
  pub vote : h.tag < 5
  pub view : h.view ≡ s.view
  pub asked : s.asked ≤ s.view
  pub low : s.low < h.number
  pub min_s : s.min_s < h.number
  pub high : h.number ≤ s.low + 32
  pub leads : ((h.tag == 2) && not (h.sender == primary s.f h.view)) ≡ false
  pub backs : ((h.tag == 3) && (h.sender == primary s.f h.view)) ≡ false

chain : (a b c d e : Bool) (v w x y z : OrderError) → a ≡ true → b ≡ true → c ≡ false → d ≡ false → e ≡ false
    → cond (not a) (Some v) (cond (not b) (Some w) (cond c (Some x) (cond d (Some y) (cond e (Some z) None)))) ≡ None
chain true true false false false v w x y z p q r s t = refl
chain a b c d e v w x y z p q r s t = absurd cc

not_refused : (s : State) (h : Header) → MayStand s h → is_there s h ≡ false → place_refusal s h ≡ None
not_refused s h may free =
    let vote = may.vote in
    let five = not_equal h.tag 5 (λ e. absurd (omega (arith, vote, e))) in
    let view : is_of_view s h ≡ true = or_right (h.tag == 5) ((h.view == s.view) && nat_le s.asked s.view)
    (and_from (h.view == s.view) (nat_le s.asked s.view) (eq-eqb h.view s.view may.view) (le-leb s.asked s.view may.asked)) in
    let marks : is_between s h.number ≡ true = and_from (nat_lt s.low h.number) (nat_le h.number (s.low + log_size)) (lt-ltb s.low h.number may.low) (le-leb h.number (s.low + log_size) may.high) in
    let inside : is_inside s h ≡ true = and_from (is_between s h.number) (cond (h.tag == 5) ((h.number % checkpoint_interval) == 0) (nat_lt s.min_s h.number)) marks
    (cond-false (h.tag == 5) ((h.number % checkpoint_interval) == 0) (nat_lt s.min_s h.number) five ∙ lt-ltb s.min_s h.number may.min_s) in
    let no_conflict : conflicts s h ≡ false = ap₂ (λ (a b : Bool). a || (b && not (told (known s) h.tag h.sender h.view h.number h.digest))) may.backs free in
    chain (is_of_view s h) (is_inside s h) ((h.tag == 2) && not (h.sender == primary s.f h.view)) (conflicts s h) (is_there s h) WrongView OutsideMarks NotPrimary Conflicting AlreadyHave
    view inside may.leads no_conflict free

-- it stands there, or its place is free
pub taken_told : (keys : Keys) (s : State) (m : Signed OrderMessage) → is_authentic keys s m ≡ true → MayStand s (header m)
    → ((e : List ℕ) → Told (known s) (header m).tag (header m).sender (header m).view (header m).number e → e ≡ (header m).digest)
    → Told (known (on_message keys s m).now) (header m).tag (header m).sender (header m).view (header m).number (header m).digest
taken_told keys s m authentic may one = elim (cases_Bool (is_there s h)) [
  | inl there ↦
      let got = slot_told (known s) h.tag h.sender h.view h.number there in
      let stands = subst (λ (e : List ℕ). Told (known s) h.tag h.sender h.view h.number e) (one got.0 got.1) got.1 in
      either_way (λ o. Told (known o.now) h.tag h.sender h.view h.number h.digest) (refusal keys s m) s (accepted keys s m)
      (λ none. let free = (placed s h (passed (is_authentic keys s m) BadAuthenticator (place_refusal s h) none).1).free in absurd (cc (there, free))) stands
  | inr free ↦
      let none : refusal keys s m ≡ None = ap₂ (λ (a : Bool) (r : Option OrderError). cond (not a) (Some BadAuthenticator) r) authentic (not_refused s h may free) in
      let vote = may.vote in
      let five = not_equal h.tag 5 (λ e. absurd (omega (arith, vote, e))) in
      let vs = answers keys s m in
      let test = says h.tag h.sender h.view h.number h.digest in
      let itself : list_any test (headers (m ∷ [])) ≡ true = or_left (test h) false (says_itself h) in
      let first : list_any test (headers (s.log ++ m ∷ [])) ≡ true = any_both test s.log (m ∷ []) ∙ or_right (list_any test (known s)) (list_any test (headers (m ∷ []))) itself in
      let all : list_any test (headers ((s.log ++ m ∷ []) ++ vs)) ≡ true = any_both test (s.log ++ m ∷ []) vs ∙ or_left (list_any test (headers (s.log ++ m ∷ []))) (list_any test (headers vs)) first in
      subst (λ (r : Option OrderError). Told (known (order.unless r s (accepted keys s m)).now) h.tag h.sender h.view h.number h.digest) (sym none)
      (subst (λ (x : State). Told (known x) h.tag h.sender h.view h.number h.digest) (sym (unsettled (with_more (with_message s m) vs) h five)) all)
]
  where
    h : Header
    h = header m

-- By a node ---------------------------------------------------------------------------------------------------------------

-- as bytes or as it was read from them
pub brings_takes : (node : Node) (step : NodeStep) (m : Signed Message) → Brings step m → outcome node step ≡ outcome node (Takes m)
brings_takes node (Takes signed) m brings = ap (λ (x : Signed Message). outcome node (Takes x)) brings
brings_takes node (Delivers bytes) m brings = ap (λ (o : Option (Signed Message)). unless (bytes_refusal node o) node (bytes_delivered node o)) brings
brings_takes node step m brings = absurd brings

takes_order : (node : Node) (m : Signed OrderMessage) → (outcome node (Takes (as_message Order m))).now.order ≡ (on_message node.keys node.order m).now
takes_order node m = elim (refusal node.keys node.order m) as
    (λ r. (unless (option_map of_order r) node (delivered node (as_message Order m))).now.order ≡ (order.unless r node.order (accepted node.keys node.order m)).now) [
      | None ↦ refl
      | Some e ↦ refl
    ]

pub brings_order : (node : Node) (step : NodeStep) (m : Signed OrderMessage) → Brings step (as_message Order m) → (outcome node step).now.order ≡ (on_message node.keys node.order m).now
brings_order node step m brings = ap (λ (o : Outcome). o.now.order) (brings_takes node step (as_message Order m) brings) ∙ takes_order node m
