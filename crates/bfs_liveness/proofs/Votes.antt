-- What votes leave of the nodes that they come to: more in their logs, and all else as it was.
use Rattle.std.proofs.Common.{◌≡◌, ℕ, ◌<◌, Bool, true, false, cond, List, [], ◌∷◌, ◌++◌, Option, Some, None, option_map, inl, inr, refl, sym, ap, subst, ◌∙◌, append_assoc, append-nil, arith}
use Rattle.std.specs.Prelude.{find, option_to_list}
use Rattle.std.specs.List.{list_any}
use Rattle.std.proofs.lemmas.Bool.{or_left}
use Rattle.bfs_auth.specs.Keys.{Keys}
use Rattle.bfs_log.specs.Headers.{header}
use Rattle.bfs_log.specs.Logs.{Log, headers, message_at}
use Rattle.bfs_messages.specs.Signing.{as_message}
use Rattle.bfs_messages.specs.declared.message.Message.TheVariants.{Order}
use Rattle.bfs_messages.specs.declared.order_messages.OrderMessage.{OrderMessage}
use Rattle.bfs_messages.specs.declared.signed.Signed.{Signed}
use Rattle.bfs_order.specs.Replica.Accepting.{accepted, answers}
use Rattle.bfs_order.specs.Replica.Refusals.{refusal}
use Rattle.bfs_order.specs.Replica.Resending.{own_answers, own_message, own_votes}
use Rattle.bfs_order.specs.Replica.States.{State, known, with_message, with_more}
use Rattle.bfs_votes.specs.Votes.{Told, is_slot, says}
use Rattle.bfs_agreement.specs.Histories.{IsIn}
use Rattle.bfs_agreement.proofs.Public.{Is}
use Rattle.bfs_node.specs.Delivering.{delivered}
use Rattle.bfs_node.specs.Errors.{of_order}
use Rattle.bfs_node.specs.Nodes.{Node}
use Rattle.bfs_nodes_agree.specs.Nodes.Replicas.{NodeReplica, NodeReplicas, NodeTurn, after_node_step, after_node_turn, after_node_turns}
use Rattle.bfs_nodes_agree.specs.Nodes.Steps.{NodeStep, Takes, outcome, unless}
use Rattle.bfs_nodes_agree.proofs.Public.{any_both, both_at, either_in, found, left_in, not_equal, right_in, slot_is, unsettled}

-- More in a log -------------------------------------------------------------------------------------------------------

-- an order that has more in its log, and is the same else
abbrev pub HasMore : State → State → Type 0
HasMore s now = (more : Log) × (now ≡ with_more s more)

pub more_itself : (s : State) → HasMore s s
more_itself s = ([], ap (λ (l : Log). record s { log = l }) (sym (append-nil s.log)))

pub more_then : (s t u : State) → HasMore s t → HasMore t u → HasMore s u
more_then s t u one other =
    (one.0 ++ other.0, other.1 ∙ ap (λ (x : State). with_more x other.0) one.1 ∙ ap (λ (l : Log). record s { log = l }) (append_assoc s.log one.0 other.0))

-- it tells what it told
pub told_on : (s now : State) → HasMore s now → (t k v n : ℕ) (d : List ℕ) → Told (known s) t k v n d → Told (known now) t k v n d
told_on s now more t k v n d x =
    let test = says t k v n d in
    subst (λ (y : State). Told (known y) t k v n d) (sym more.1) (any_both test s.log more.0 ∙ or_left (list_any test (known s)) (list_any test (headers more.0)) x)

-- a node that has heard more, and has executed nothing since
pub record HasHeard (r now : NodeReplica) : Type 0 where
  pub order : HasMore r.node.order now.node.order
  pub keys : now.node.keys ≡ r.node.keys
  pub files : now.node.files ≡ r.node.files
  pub pending : now.node.pending ≡ r.node.pending
  pub executed : now.executed ≡ r.executed

pub heard_itself : (r : NodeReplica) → HasHeard r r
heard_itself r = record { order = more_itself r.node.order; keys = refl; files = refl; pending = refl; executed = refl }

pub heard_then : (r t u : NodeReplica) → HasHeard r t → HasHeard t u → HasHeard r u
heard_then r t u one other = record {
  order = more_then r.node.order t.node.order u.node.order one.order other.order;
  keys = other.keys ∙ one.keys;
  files = other.files ∙ one.files;
  pending = other.pending ∙ one.pending;
  executed = other.executed ∙ one.executed;
}

-- so has each
abbrev pub HaveHeard : NodeReplicas → NodeReplicas → Type 0
HaveHeard w now = (k : ℕ) → HasHeard (w k) (now k)

pub all_then : (w t u : NodeReplicas) → HaveHeard w t → HaveHeard t u → HaveHeard w u
all_then w t u one other k = heard_then (w k) (t k) (u k) (one k) (other k)

-- A vote comes --------------------------------------------------------------------------------------------------------

accepted_more : (keys : Keys) (s : State) (m : Signed OrderMessage) → (header m).tag < 5 → HasMore s (accepted keys s m).now
accepted_more keys s m small =
    let vs = answers keys s m in
    let five = not_equal (header m).tag 5 (λ e. absurd (omega (arith, small, e))) in
    more_then s (with_message s m) (accepted keys s m).now (m ∷ [], refl) (vs, unsettled (with_more (with_message s m) vs) (header m) five)

-- it changes no more of a node than that
pub record IsHearing (node now : Node) : Type 0 where
  pub order : HasMore node.order now.order
  pub keys : now.keys ≡ node.keys
  pub files : now.files ≡ node.files
  pub pending : now.pending ≡ node.pending

takes_vote : (node : Node) (m : Signed OrderMessage) → (header m).tag < 5 → IsHearing node (outcome node (Takes (as_message Order m))).now
takes_vote node m small =
    elim (refusal node.keys node.order m) as (λ r. IsHearing node (unless (option_map of_order r) node (delivered node (as_message Order m))).now) [
      | None ↦ record { order = accepted_more node.keys node.order m small; keys = refl; files = refl; pending = refl }
      | Some e ↦ record { order = more_itself node.order; keys = refl; files = refl; pending = refl }
    ]

-- a PRE-PREPARE, PREPARE or COMMIT comes by a step
abbrev pub IsVote : NodeStep → Type 0
IsVote step = (m : Signed OrderMessage) × ((header m).tag < 5) × (step ≡ Takes (as_message Order m))

hears_vote : (r : NodeReplica) (step : NodeStep) → IsVote step → HasHeard r (after_node_step r step)
hears_vote r step vote =
    let is = takes_vote r.node vote.0 vote.1 in
    subst (λ (x : NodeStep). HasHeard r (after_node_step r x)) (sym vote.2) (record { order = is.order; keys = is.keys; files = is.files; pending = is.pending; executed = refl })

-- many come
pub after_votes : (turns : List NodeTurn) → ((turn : NodeTurn) → IsIn turn turns → IsVote turn.step) → (w : NodeReplicas) → HaveHeard w (after_node_turns w turns)
after_votes [] votes w = λ k. heard_itself (w k)
after_votes (turn ∷ turns) votes w =
    let first = both_at w turn (λ k r. HasHeard (w k) r) (hears_vote (w turn.who) turn.step (votes turn (inl refl))) (λ k. heard_itself (w k)) in
    all_then w (after_node_turn w turn) (after_node_turns w (turn ∷ turns)) first (after_votes turns (λ x i. votes x (inr i)) (after_node_turn w turn))

-- What a node has said ------------------------------------------------------------------------------------------------

pub find_more : {A : Type 0} (p : A → Bool) (xs ys : List A) (x : A) → find p xs ≡ Some x → find p (xs ++ ys) ≡ Some x
find_more p [] ys x e = absurd cc
find_more p (z ∷ xs) ys x e =
    (elim (p z) as (λ b. cond b (Some z) (find p xs) ≡ Some x → cond b (Some z) (find p (xs ++ ys)) ≡ Some x) [ true ↦ λ e. e | false ↦ λ e. find_more p xs ys x e ]) e

-- what it finds under its own name stands in the log
pub record IsOwn (s : State) (t v n : ℕ) (m : Signed OrderMessage) : Type 0 where
  pub first : message_at s.log t s.me v n ≡ Some m
  pub is : Is (header m) t s.me v n (header m).digest
  pub there : IsIn m s.log

pub own_is : (s : State) (t v n : ℕ) (m : Signed OrderMessage) → IsIn m (own_message s t v n) → IsOwn s t v n m
own_is s t v n m i = go (message_at s.log t s.me v n) refl i
  where
    go : (o : Option (Signed OrderMessage)) → message_at s.log t s.me v n ≡ o → IsIn m (option_to_list o) → IsOwn s t v n m
    go None e j = absurd j
    go (Some x) e j = elim j [
      | inl same ↦
          let first : message_at s.log t s.me v n ≡ Some m = e ∙ ap (λ (y : Signed OrderMessage). Some y) (sym same) in
          let at = found (λ y. is_slot t s.me v n (header y)) s.log m first in
          record { first = first; is = slot_is t s.me v n (header m) at.1; there = at.0 }
      | inr none ↦ absurd none
    ]

own_on : (s now : State) → HasMore s now → (t v n : ℕ) (m : Signed OrderMessage) → IsIn m (own_message s t v n) → IsIn m (own_message now t v n)
own_on s now more t v n m i =
    let first = find_more (λ y. is_slot t s.me v n (header y)) s.log more.0 m (own_is s t v n m i).first in
    subst (λ (x : State). IsIn m (own_message x t v n)) (sym more.1) (subst (λ (o : Option (Signed OrderMessage)). IsIn m (option_to_list o)) (sym first) (inl refl))

-- of which kind a vote is
pub vote_kind : (s : State) (n : ℕ) (m : Signed OrderMessage) → IsIn m (own_votes s n) → (t : ℕ) × (1 < t) × (t < 5) × IsOwn s t s.view n m
vote_kind s n m i = elim (either_in (own_message s 2 s.view n) (own_answers s n) m i) [
  | inl j ↦ (2, omega arith, omega arith, own_is s 2 s.view n m j)
  | inr j ↦ elim (either_in (own_message s 3 s.view n) (own_message s 4 s.view n) m j) [
    | inl k ↦ (3, omega arith, omega arith, own_is s 3 s.view n m k)
    | inr k ↦ (4, omega arith, omega arith, own_is s 4 s.view n m k)
  ]
]

pub answers_on : (s now : State) → HasMore s now → (n : ℕ) (m : Signed OrderMessage) → IsIn m (own_answers s n) → IsIn m (own_answers now n)
answers_on s now more n m i =
    let view : now.view ≡ s.view = ap (λ (x : State). x.view) more.1 in
    subst (λ (v : ℕ). IsIn m (own_message now 3 v n ++ own_message now 4 v n)) (sym view) (elim (either_in (own_message s 3 s.view n) (own_message s 4 s.view n) m i) [
      | inl k ↦ left_in (own_message now 3 s.view n) (own_message now 4 s.view n) m (own_on s now more 3 s.view n m k)
      | inr k ↦ right_in (own_message now 3 s.view n) (own_message now 4 s.view n) m (own_on s now more 4 s.view n m k)
    ])

pub proposal_on : (s now : State) → HasMore s now → (n : ℕ) (m : Signed OrderMessage) → IsIn m (own_message s 2 s.view n) → IsIn m (own_message now 2 now.view n)
proposal_on s now more n m i =
    let view : now.view ≡ s.view = ap (λ (x : State). x.view) more.1 in
    subst (λ (v : ℕ). IsIn m (own_message now 2 v n)) (sym view) (own_on s now more 2 s.view n m i)
