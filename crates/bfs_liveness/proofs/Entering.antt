-- Who enters a view has all that the NEW-VIEW hands over, and so its log leaves nothing out.
use Rattle.std.proofs.Common.{◌≡◌, ℕ, ◌+◌, ◌-◌, ◌<◌, ◌≤◌, true, false, cond, ◌&&◌, List, [], ◌∷◌, ◌++◌, map, ◌⊎◌, Option, Some, None, option_map, inl, inr, refl, sym, ap, subst, ◌∙◌, arith}
use Rattle.std.specs.Prelude.{nat_le, nat_lt}
use Rattle.std.specs.List.{range_with_len}
use Rattle.std.proofs.lemmas.Bool.{and_parts, cases_lt, eqb-true, ltb-true}
use Rattle.bfs_auth.specs.Keys.{Keys}
use Rattle.bfs_codec.specs.Laws.{MessageWasWritten}
use Rattle.bfs_log.specs.Certificates.{StableCheckpoint, faults}
use Rattle.bfs_log.specs.Headers.{header}
use Rattle.bfs_log.specs.Logs.{Log, headers}
use Rattle.bfs_messages.specs.Messages as model
use Rattle.bfs_messages.specs.Signing.{as_message}
use Rattle.bfs_messages.specs.declared.message.Message.{Message}
use Rattle.bfs_messages.specs.declared.message.Message.TheVariants.{NewView}
use Rattle.bfs_messages.specs.declared.order_messages.OrderMessage.{OrderMessage}
use Rattle.bfs_messages.specs.declared.order_messages.OrderMessage.TheVariants.{Checkpoint}
use Rattle.bfs_messages.specs.declared.signed.Signed.{Signed}
use Rattle.bfs_model.specs.Server.Limits.{most_number}
use Rattle.bfs_order.specs.Laws.Calls.{Enters}
use Rattle.bfs_order.specs.Laws.Logs.{HasNoLaterView}
use Rattle.bfs_order.specs.Replica.Accepting.{accepted}
use Rattle.bfs_order.specs.Replica.Installing.{raised}
use Rattle.bfs_order.specs.Replica.Outcomes as order
use Rattle.bfs_order.specs.Replica.Refusals.{place_refusal}
use Rattle.bfs_order.specs.Replica.States.{State, known, with_message}
use Rattle.bfs_order.specs.Replica.Views.{leaving_refusal as order_leaving}
use Rattle.bfs_order.specs.Replica.Views.{all_taken_over, as_proposals, entered, entering_refusal, greatest_number, left, number_of, opened}
use Rattle.bfs_order.specs.declared.error.OrderError.{OrderError}
use Rattle.bfs_order.specs.declared.error.OrderError.TheVariants.{WrongView}
use Rattle.bfs_votes.specs.Votes.{Header, Told, primary}
use Rattle.bfs_view_change.specs.Changes.Choice.{Chosen, choice, last_number, latest_stable}
use Rattle.bfs_view_change.specs.Changes.Keeping.{changes_for, with_asked, with_change}
use Rattle.bfs_view_change.specs.Changes.Making.{signed_new_view}
use Rattle.bfs_view_change.specs.Changes.NewViews.{latest_checkpoint, new_view_refusal}
use Rattle.bfs_view_change.specs.Changes.ViewChanges.{messages_of}
use Rattle.bfs_view_change.specs.Laws.Choices.{LatestIsOfMinS, NumbersAreChosenOnce}
use Rattle.bfs_agreement.specs.Histories.{IsIn}
use Rattle.bfs_agreement.proofs.Public.{Is, in_told, moved}
use Rattle.bfs_progress.proofs.Public.{told_slot}
use Rattle.bfs_node.specs.Changing as changing
use Rattle.bfs_node.specs.Changing.{begun, begun_if_due, leads, leaving_refusal, left_for, may_begin, own_change, own_new_view, view_refusal, with_new_view, with_view_change}
use Rattle.bfs_node.specs.Errors.{of_view}
use Rattle.bfs_node.specs.Nodes.{Node, Outcome}
use Rattle.bfs_nodes_agree.specs.Nodes.Laws.{HasEnteredWhole}
use Rattle.bfs_nodes_agree.specs.Nodes.Premises.{Comes}
use Rattle.bfs_nodes_agree.specs.Nodes.Steps.{NodeStep, outcome as result, still}
use Rattle.bfs_nodes_agree.specs.Orders.Replicas.{votes_by}
use Rattle.bfs_nodes_agree.specs.Views.Changes.{proposal_of}
use Rattle.bfs_nodes_agree.specs.Views.Laws.{EntersWhole}
use Rattle.bfs_nodes_agree.proofs.Public.{AllIn, IsBounded, Left, Rested, Shows, TookChange, TookNewView, at_in, begins_open, both_in, comes_so, either_way, entered_same, in_map, is_taken, left_bounded, log_keeps, map_in, none_in, not_refused, not_second, out_of_map, own_proposals, passed, proposals_are, some_is, step_kind, told_in}
use Rattle.bfs_liveness.proofs.Filled.{IsAnswer, IsFilled, IsNoProposal, answers_are, no_proposals}
use Rattle.bfs_liveness.proofs.Lists.{in_run, out_of_run}

-- What is handed over -------------------------------------------------------------------------------------------------

pub greatest_in : (ms : Log) (n : ℕ) → 0 < n → n ≤ greatest_number ms → (m : Signed OrderMessage) × IsIn m ms × (n ≤ (header m).number)
greatest_in [] n some le = absurd (omega (arith, some, le))
greatest_in (m ∷ ms) n some le = elim (cases_lt (header m).number n) [
  | inl lt ↦ let got = greatest_in ms n some (omega (arith, lt, le)) in (got.0, inr got.1, got.2)
  | inr high ↦ (m, inl refl, high)
]

in_greatest : (ms : Log) (m : Signed OrderMessage) → IsIn m ms → (header m).number ≤ greatest_number ms
in_greatest [] m i = absurd i
in_greatest (x ∷ ms) m i = elim i [
  | inl same ↦ let e : (header m).number ≡ (header x).number = ap (λ (y : Signed OrderMessage). (header y).number) same in omega (arith, e)
  | inr later ↦ let le = in_greatest ms m later in omega (arith, le)
]

-- each number between has a PRE-PREPARE
handed_all : NumbersAreChosenOnce → (f view : ℕ) (changes : List model.ViewChange) (handed : List (Signed model.PrePrepare)) → headers (as_proposals handed) ≡ map (proposal_of f view) (choice changes).chosen
    → (n : ℕ) → latest_stable changes < n → n ≤ greatest_number (as_proposals handed) → (m : Signed OrderMessage) × IsIn m (as_proposals handed) × Is (header m) 2 (primary f view) view n (header m).digest
handed_all numbers f view changes handed are n above le =
    let chosen = (choice changes).chosen in
    let from = latest_stable changes + 1 in
    let count = last_number changes - latest_stable changes in
    let top = greatest_in (as_proposals handed) n (omega (arith, above)) le in
    let told = subst (λ (hs : List Header). IsIn (header top.0) hs) are (in_map header (as_proposals handed) top.0 top.1) in
    let by = out_of_map (proposal_of f view) chosen (header top.0) told in
    let numbered = subst (λ (ns : List ℕ). IsIn by.0.number ns) (numbers changes) (in_map (λ (c : Chosen). c.number) chosen by.0 by.1) in
    let within = (out_of_run from count by.0.number numbered).1 in
    let same : (header top.0).number ≡ by.0.number = ap (λ (h : Header). h.number) by.2 in
    let reach = top.2 in
    let among : IsIn n (range_with_len from count) = in_run from count n (omega (arith, above)) (omega (arith, reach, same, within)) in
    let c = out_of_map (λ (c : Chosen). c.number) chosen n (subst (λ (ns : List ℕ). IsIn n ns) (sym (numbers changes)) among) in
    let there = subst (λ (hs : List Header). IsIn (proposal_of f view c.0) hs) (sym are) (in_map (proposal_of f view) chosen c.0 c.1) in
    let m = out_of_map header (as_proposals handed) (proposal_of f view c.0) there in
    let is : proposal_of f view c.0 ≡ header m.0 = m.2 in (
      m.0,
      m.1,
      record {
        tag = ap (λ (h : Header). h.tag) (sym is);
        sender = ap (λ (h : Header). h.sender) (sym is);
        view = ap (λ (h : Header). h.view) (sym is);
        number = ap (λ (h : Header). h.number) (sym is) ∙ sym c.2;
        digest = refl;
      },
    )

-- The log of who enters -----------------------------------------------------------------------------------------------

pub over_are : (keys : Keys) (s : State) (ms : Log) → AllIn IsAnswer (all_taken_over keys s ms).sent
over_are keys s [] = none_in IsAnswer
over_are keys s (m ∷ ms) = either_way (λ o. AllIn IsAnswer (o.sent ++ (all_taken_over keys o.now ms).sent)) (place_refusal s (header m)) s (accepted keys s m)
    (λ _. both_in IsAnswer (accepted keys s m).sent (all_taken_over keys (accepted keys s m).now ms).sent (answers_are keys (with_message s m) (header m)) (over_are keys (accepted keys s m).now ms))
    (over_are keys s ms)

-- what it has of the view was handed over
handed_only : (keys : Keys) (s : State) (view : ℕ) (stable : Option StableCheckpoint) (handed : List (Signed model.PrePrepare)) → HasNoLaterView s → s.view < view → entering_refusal s view ≡ None
    → AllIn (λ (m : Signed OrderMessage). (header m).tag ≡ 2 → (header m).view ≡ view → (header m).number ≤ greatest_number (as_proposals handed)) (entered keys s view stable handed).now.log
handed_only keys s view stable handed later above none =
    subst (λ (r : Option OrderError). AllIn P (order.unless r s (entered keys s view stable handed)).now.log) none
    (log_keeps P s (Enters keys view stable handed)
    (λ m i two of_view. let le = at_in (λ (h : Header). h.view ≤ s.view) (known s) later (header m) (in_map header s.log m i) in absurd (omega (arith, le, above, of_view)))
    ((λ m i two of_view. in_greatest (as_proposals handed) m i), shows stable)
    (λ m i two of_view. absurd (said m i two)))
  where
    P : Signed OrderMessage → Type 0
    P m = (header m).tag ≡ 2 → (header m).view ≡ view → (header m).number ≤ greatest_number (as_proposals handed)

    shows : (o : Option StableCheckpoint) → Shows P s keys o
    shows None = tt
    shows (Some c) = λ _. map_in P (as_message Checkpoint) c.checkpoints (λ x i two _. absurd (omega (arith, two)))

    said : AllIn IsNoProposal (votes_by s (Enters keys view stable handed))
    said = either_way (λ o. AllIn IsNoProposal o.sent) (entering_refusal s view) s (entered keys s view stable handed)
        (λ _. let begun = opened (raised keys s stable) view (number_of stable) handed in no_proposals (all_taken_over keys begun (as_proposals handed)).sent (over_are keys begun (as_proposals handed))) (none_in IsNoProposal)

open_above : (s : State) (view : ℕ) → entering_refusal s view ≡ None → s.view < view
open_above s view none =
    ltb-true s.view view (and_parts (nat_lt s.view view) (nat_le s.asked view && nat_le view most_number) (passed (nat_lt s.view view && (nat_le s.asked view && nat_le view most_number)) WrongView None none).0).0

pub entered_above : (keys : Keys) (s : State) (view : ℕ) (stable : Option StableCheckpoint) (handed : List (Signed model.PrePrepare)) → entering_refusal s view ≡ None → s.view < (entered keys s view stable handed).now.view
entered_above keys s view stable handed none =
    let is = entered_same (λ (x : State). x.view) (λ x low log. refl) keys s view stable handed in
    let above = open_above s view none in
    omega (arith, is, above)

module _ (latest : LatestIsOfMinS) (numbers : NumbersAreChosenOnce) where
  entered_filled : (keys : Keys) (s : State) (view : ℕ) (changes : List (Signed model.ViewChange)) (handed : List (Signed model.PrePrepare)) → HasNoLaterView s → entering_refusal s view ≡ None
      → headers (as_proposals handed) ≡ map (proposal_of s.f view) (choice (messages_of changes)).chosen
      → EntersWhole (number_of (latest_checkpoint (messages_of changes))) handed (entered keys s view (latest_checkpoint (messages_of changes)) handed).now
      → IsFilled (entered keys s view (latest_checkpoint (messages_of changes)) handed).now
  entered_filled keys s view changes handed later none are whole =
      let stable = latest_checkpoint (messages_of changes) in
      let now = (entered keys s view stable handed).now in
      let above = open_above s view none in
      let view_is : now.view ≡ view = entered_same (λ (x : State). x.view) (λ x low log. refl) keys s view stable handed in
      let f_is : now.f ≡ s.f = entered_same (λ (x : State). x.f) (λ x low log. refl) keys s view stable handed in
      let min_s_is : now.min_s ≡ number_of stable = entered_same (λ (x : State). x.min_s) (λ x low log. refl) keys s view stable handed in
      let handed_is : now.handed ≡ greatest_number (as_proposals handed) = entered_same (λ (x : State). x.handed) (λ x low log. refl) keys s view stable handed in
      let latest_is : number_of stable ≡ latest_stable (messages_of changes) = latest (messages_of changes) in
      let only = handed_only keys s view stable handed later above none in
      λ led n over behind reached.
      let under : n ≤ greatest_number (as_proposals handed) = elim reached [
        | inl le ↦ omega (arith, le, handed_is)
        | inr told ↦
            let got = told_in (known now) 2 told.0 now.view told.1 told.2 told.4 in
            let m = out_of_map header now.log got.0 got.1 in
            let is = subst (λ (h : Header). Is h 2 told.0 now.view told.1 told.2) m.2 got.2 in
            let le = only m.0 m.1 is.tag (is.view ∙ view_is) in
            let number = is.number in
            let top = told.3 in
            omega (arith, le, number, top)
      ] in
      let from = handed_all numbers s.f view (messages_of changes) handed are n (omega (arith, behind, min_s_is, latest_is)) under in
      let m = from.0 in
      let by : primary s.f view ≡ now.me = ap (λ (g : ℕ). primary g view) (sym f_is) ∙ ap (primary now.f) (sym view_is) ∙ sym led in
      let is : Is (header m) 2 now.me now.view n (header m).digest = record { tag = from.2.tag; sender = from.2.sender ∙ by; view = from.2.view ∙ sym view_is; number = from.2.number; digest = refl } in
      let number = from.2.number in
      elim (whole.taken m from.1) [
        | inl low ↦ absurd (omega (arith, low, number, over))
        | inr there ↦ told_slot (known now) 2 now.me now.view n (header m).digest (moved (header m) 2 now.me now.view n (header m).digest is (λ t k v n d. Told (known now) t k v n d) (in_told (known now) (header m) (in_map header now.log m there)))
      ]

  -- Nodes that enter --------------------------------------------------------------------------------------------------

  -- either the view is the same, or it was entered whole
  abbrev pub IsWhole : Node → Node → Type 0
  IsWhole node now = (now.order.view ≡ node.order.view) ⊎ HasEnteredWhole now

  by_filled : (node : Node) (s : Signed model.NewView) → HasNoLaterView node.order → entering_refusal node.order s.message.view ≡ None
      → headers (as_proposals s.message.proposals) ≡ map (proposal_of node.order.f s.message.view) (choice (messages_of s.message.changes)).chosen
      → IsWhole node (changing.entered_by node s).now → IsFilled (changing.entered_by node s).now.order
  by_filled node s later none are whole =
      let new = s.message in
      let stable = latest_checkpoint (messages_of new.changes) in
      let now = (changing.entered_by node s).now in
      elim whole [
        | inl same ↦ let above = entered_above node.keys node.order new.view stable new.proposals none in absurd (omega (arith, same, above))
        | inr w ↦
            let is : s ≡ w.new = some_is s w.new w.kept in
            entered_filled node.keys node.order new.view new.changes new.proposals later none are
            (subst (λ (x : Signed model.NewView). EntersWhole (number_of (latest_checkpoint (messages_of x.message.changes))) x.message.proposals now.order) (sym is) w.whole)
      ]

  begun_filled : (node : Node) → IsFilled node.order → HasNoLaterView node.order → IsBounded node.order → IsWhole node (begun_if_due node).now → IsFilled (begun_if_due node).now.order
  begun_filled node filled later bounded =
      (elim (may_begin node) as (λ b. may_begin node ≡ b → IsWhole node (cond b (begun node) (still node)).now → IsFilled (cond b (begun node) (still node)).now.order) [
        | false ↦ λ _ _. filled
        | true ↦ λ may whole.
            let asked = node.order.asked in
            let led = (and_parts (leads node asked) _ (and_parts _ _ may).1).0 in
            by_filled node (signed_new_view node.keys (own_new_view node)) later (begins_open node bounded may)
            (own_proposals node.keys node.order.f node.order.me asked (eqb-true node.order.me (primary node.order.f asked) led) (choice (messages_of (changes_for asked node.changes))).chosen) whole
      ]) refl

  change_filled : (node : Node) (s : Signed model.ViewChange) → IsFilled node.order → HasNoLaterView node.order → IsBounded node.order → IsWhole node (with_view_change node s).now → IsFilled (with_view_change node s).now.order
  change_filled node s filled later bounded =
      let there = record node { changes = with_change node.changes s } in
      let noted = record node { changes = with_asked node.changes s.message } in
      elim (leads node s.message.view) as (λ b. IsWhole node (cond b (begun_if_due there) (still noted)).now → IsFilled (cond b (begun_if_due there) (still noted)).now.order) [
        | true ↦ λ whole. begun_filled there filled later bounded whole
        | false ↦ λ _. filled
      ]

  -- what is known of a node that takes a step
  pub record Stands (node : Node) : Type 0 where
    pub filled : IsFilled node.order
    pub later : HasNoLaterView node.order
    pub bounded : IsBounded node.order
    pub fit : faults node.keys ≡ node.order.f

  -- where a step is no matter to views, what its order does decides
  pub step_filled : MessageWasWritten → (P : Signed Message → Type 0) (node : Node) (step : NodeStep) → Comes P step → Stands node → IsWhole node (result node step).now
      → ((result node step).now.order.view ≡ node.order.view → IsFilled (result node step).now.order) → IsFilled (result node step).now.order
  step_filled written P node step comes stands whole rest = elim (step_kind node step) [
    | Rested rests ↦ rest rests.view
    | TookChange c ↦
        subst (λ (o : Outcome). IsWhole node o.now → IsFilled o.now.order) (sym c.is) (change_filled node c.change stands.filled stands.later stands.bounded) whole
    | TookNewView c ↦
        let s = c.new in
        let fits = (comes_so written P step (as_message NewView s) comes c.came).0 in
        let is = is_taken node s stands.fit c.taken in
        let opened = not_refused _ (not_second (option_map of_view (new_view_refusal node.keys s)) (changing.entering_refusal node s.message) c.taken) in
        let are = proposals_are node.keys node.order.f s.message.sender s.message.view is.led s.message.proposals (choice (messages_of s.message.changes)).chosen fits.proposals.1 is.proposed in
        subst (λ (o : Outcome). IsWhole node o.now → IsFilled o.now.order) (sym c.is) (by_filled node s stands.later opened are) whole
    | Left l ↦ subst (λ (o : Outcome). IsWhole node o.now → IsFilled o.now.order) (sym l.is) (left_filled node l.view stands l.taken) whole
  ]
    where
      left_filled : (node : Node) (view : ℕ) → Stands node → leaving_refusal node view ≡ None → IsWhole node (left_for node view).now → IsFilled (left_for node view).now.order
      left_filled node view stands none whole =
          let gone = record node { order = (left node.order view).now } in
          let own = own_change node view in
          let may = not_refused (order_leaving node.order view) none in
          change_filled gone own stands.filled stands.later (left_bounded node.order view may) (elim whole [
            | inl same ↦ inl same
            | inr w ↦ inr (record { new = w.new; kept = w.kept; of_view = w.of_view; whole = w.whole })
          ])
