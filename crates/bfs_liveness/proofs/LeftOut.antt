-- No correct primary's log leaves out a number, in whatever state nodes have come into.
use Rattle.std.proofs.Common.{◌≡◌, ℕ, ◌<◌, ◌≤◌, Bool, false, List, [], ◌∷◌, ◌++◌, map, None, inl, inr, refl, sym, ap, subst, ◌∙◌, append_assoc, append-nil, arith}
use Rattle.bfs_log.specs.Headers.{header}
use Rattle.bfs_messages.specs.declared.order_messages.OrderMessage.{OrderMessage}
use Rattle.bfs_messages.specs.declared.signed.Signed.{Signed}
use Rattle.bfs_messages.specs.declared.message.Message.{Message}
use Rattle.bfs_order.specs.Laws.Calls as order
use Rattle.bfs_order.specs.Laws.Logs.{HasNoLaterView}
use Rattle.bfs_order.specs.Replica.Refusals.{refusal}
use Rattle.bfs_order.specs.Replica.States.{State, known}
use Rattle.bfs_votes.specs.Votes.{Told, primary}
use Rattle.bfs_view_change.specs.Laws.Choices.{LatestIsOfMinS, NumbersAreChosenOnce}
use Rattle.bfs_agreement.specs.Histories.{HasSaid, WasSent, FewAreFaulty, World}
use Rattle.bfs_agreement.proofs.Public.{said_on}
use Rattle.bfs_progress.proofs.Public.{slot_told, told_slot}
use Rattle.bfs_nodes_agree.specs.Orders.Replicas.{OrderReplica, OrderReplicas, after_order_deed, histories}
use Rattle.bfs_nodes_agree.specs.Views.Replicas.{MayTakeViewTurns, Orders, ViewDeed, TimesOut, ChangesView, ordered_deed}
use Rattle.bfs_nodes_agree.specs.Nodes.Laws.{ViewsAreEnteredWhole}
use Rattle.bfs_nodes_agree.specs.Nodes.Premises.{AreAuthentic, AreShared, Comes, IsAny, IsAuthentic}
use Rattle.bfs_nodes_agree.specs.Nodes.Replicas.{Beginning, Keyring, NodeReplicas, NodeTurn, after_node_turn, after_node_turns, new_node_replicas, turn_of}
use Rattle.bfs_nodes_agree.specs.Nodes.Steps.{NodeStep, Delivers, Takes, Adopts, Settles, deeds_of, outcome}
use Rattle.bfs_nodes_agree.proofs.Public.{IsBounded, after_deeds, both_at, called, grows_there, step_leads, step_right}
use Rattle.bfs_nodes_progress.specs.Inside.Below.{Below}
use Rattle.bfs_nodes_progress.specs.Runs.{order_of, reached}
use Rattle.bfs_nodes_progress.proofs.Public.{Facts, after_join, always, authentic_both, low_there, same_f, same_me, told_here, view_there}
use Rattle.bfs_liveness.specs.LawsOfExecuting.{NoneIsLeftOut}
use Rattle.bfs_liveness.proofs.Entering.{step_filled}
use Rattle.bfs_liveness.proofs.Filled.{BringsKnown, IsFilled, IsKnown, RisesOrFilled, below_next, goes_on}
use Rattle.bfs_liveness.proofs.Deeds.{TakeNothing, TakesNothing, step_takes}

comes_any : (P : Signed Message → Type 0) (step : NodeStep) → Comes P step → Comes IsAny step
comes_any P (Delivers bytes) comes = (comes.0, λ m e p i. tt)
comes_any P (Takes signed) comes = (comes.0, λ p i. tt)
comes_any P (Adopts certificate files table) comes = λ m i. tt
comes_any P (Settles certificate) comes = λ m i. tt
comes_any P step comes = tt

-- Deeds that take nothing ---------------------------------------------------------------------------------------------

brings_nothing : (s : State) (deed : ViewDeed) → TakesNothing deed → BringsKnown s (called s deed)
brings_nothing s (Orders (order.Takes keys m)) none = absurd none
brings_nothing s (Orders call) none = tt
brings_nothing s (TimesOut view) none = tt
brings_nothing s (ChangesView keys view changes handed) none = tt

abbrev HasGone : (view : ℕ) → State → Type 0
HasGone view s = (view ≤ s.view) × RisesOrFilled view s

deeds_go : (view : ℕ) (deeds : List ViewDeed) (o : OrderReplica) → TakeNothing deeds → HasGone view o.state → HasGone view (after_deeds o deeds).state
deeds_go view [] o none gone = gone
deeds_go view (deed ∷ deeds) o none gone =
    deeds_go view deeds (after_order_deed o (ordered_deed o.state deed)) none.1 (goes_on view o.state (called o.state deed) (brings_nothing o.state deed none.0) gone)

-- A step --------------------------------------------------------------------------------------------------------------

module _ (laws : Below) (latest : LatestIsOfMinS) (numbers : NumbersAreChosenOnce) (f : ℕ) (faulty : ℕ → Bool) where
  -- a PRE-PREPARE of its own that comes back
  taken_known : (w : NodeReplicas) (v : OrderReplicas) (t : World) → Facts f faulty w v t → (turn : NodeTurn) → Comes (IsAuthentic faulty w (w turn.who).node.keys) turn.step → faulty turn.who ≡ false
      → (m : Signed OrderMessage) → deeds_of (w turn.who).node turn.step ≡ Orders (order.Takes (w turn.who).node.keys m) ∷ [] → refusal (w turn.who).node.keys (order_of w turn.who) m ≡ None → IsKnown (order_of w turn.who) m
  taken_known w v t facts turn comes correct m is none led two own of_view =
      let k = turn.who in
      let node = (w k).node in
      let s = node.order in
      let h = header m in
      let at = (facts.right k).tracks.state in
      let may = subst (λ (deeds : List ViewDeed). MayTakeViewTurns faulty v (map (turn_of k) deeds)) is (step_right laws.same laws.views laws.written laws.one f faulty w v facts.right turn comes).may in
      let sent : WasSent faulty (histories v) h.tag h.sender h.view h.number h.digest = may.0 (subst (λ (x : State). refusal node.keys x m ≡ None) (sym at) none) (omega (arith, two)) in
      let there = said_on faulty (histories v) t (λ j. grows_there (v j) (histories v j) (t j) (facts.followed j).follows) h.tag h.sender h.view h.number h.digest sent in
      let by : h.sender ≡ k = own ∙ same_me f faulty w v t facts k in
      let said : HasSaid (t k) 2 k s.view h.number h.digest = subst (λ (x : ℕ). HasSaid (t k) x k s.view h.number h.digest) two (subst (λ (x : ℕ). HasSaid (t k) h.tag k x h.number h.digest) of_view
      (subst (λ (x : ℕ). HasSaid (t x) h.tag x h.view h.number h.digest) by (there (subst (λ (x : ℕ). faulty x ≡ false) (sym by) correct)))) in
      let kept = facts.sound.kept k correct in
      let low = low_there f faulty w v t facts k in
      elim said [
        | inl told ↦ elim (kept.linked 2 k s.view h.number h.digest told) [
          | inl under ↦ inl (omega (arith, under, low))
          | inr stands ↦
              let leads : primary f s.view ≡ s.me = ap (λ (g : ℕ). primary g s.view) (sym (same_f f faulty w v t facts k)) ∙ sym led in
              let here = subst (λ (x : ℕ). Told (known s) 2 x s.view h.number h.digest) leads (told_here f faulty w v t facts k 2 (primary f s.view) s.view h.number h.digest (omega arith) stands) in
              inr (inl (told_slot (known s) 2 s.me s.view h.number h.digest here))
        ]
        | inr offer ↦
            let top = kept.offers_top k s.view h.number h.digest offer.1 (sym (view_there f faulty w v t facts k)) in
            let handed = (facts.followed k).follows.state.handed in
            let one = ap (λ (x : State). x.min_s) at in
            let other = ap (λ (x : State). x.handed) at in
            inr (inr (omega (arith, top, handed, one, other)))
      ]

  filled_here : ViewsAreEnteredWhole → (keys : Keyring) (start : Beginning) (done : List NodeTurn) → AreShared f keys → (v : OrderReplicas) (t : World) → Facts f faulty (reached f keys start done) v t → (turn : NodeTurn)
      → Comes (IsAuthentic faulty (reached f keys start done) (reached f keys start done turn.who).node.keys) turn.step → faulty turn.who ≡ false → IsFilled (order_of (reached f keys start done) turn.who)
      → IsFilled (outcome (reached f keys start done turn.who).node turn.step).now.order
  filled_here whole keys start done shared v t facts turn comes correct filled =
      let w = reached f keys start done in
      let k = turn.who in
      let node = (w k).node in
      let s = node.order in
      let right = facts.right k in
      let bounded = subst IsBounded right.tracks.state right.bounded in
      let o : OrderReplica = record { state = s; sent = []; offers = []; changes = []; executed = [] } in
      let deeds = deeds_of node turn.step in
      let now = (outcome node turn.step).now.order in
      let leads : (after_deeds o deeds).state ≡ now = (step_leads node turn.step bounded o refl).0 in
      let before : HasGone s.view s = (omega arith, inr filled) in
      let gone : HasGone s.view (after_deeds o deeds).state = elim (step_takes node turn.step) [
        | inl one ↦ subst (λ (ds : List ViewDeed). HasGone s.view (after_deeds o ds).state) (sym one.is) (goes_on s.view s (order.Takes node.keys one.message) (taken_known w v t facts turn comes correct one.message one.is) before)
        | inr none ↦ deeds_go s.view deeds o none before
      ] in
      step_filled latest numbers laws.written (IsAuthentic faulty w node.keys) node turn.step comes
      (record { filled = filled; later = subst (λ (x : State). HasNoLaterView x) right.tracks.state right.later; bounded = bounded; fit = right.fit })
      (whole f keys start done k turn.step shared (comes_any (IsAuthentic faulty w node.keys) turn.step comes))
      (λ same. elim (subst (HasGone s.view) leads gone).1 [
        | inl risen ↦ absurd (omega (arith, risen, same))
        | inr still ↦ still
      ])

  -- All steps ---------------------------------------------------------------------------------------------------------

  abbrev AreFilled : NodeReplicas → Type 0
  AreFilled w = (k : ℕ) → faulty k ≡ false → IsFilled (order_of w k)

  module _ (whole : ViewsAreEnteredWhole) (positive : 0 < f) (few : FewAreFaulty f faulty) (keys : Keyring) (start : Beginning) (shared : AreShared f keys) where
    abbrev begun : NodeReplicas
    begun = new_node_replicas f keys start

    filled_on : (done turns : List NodeTurn) → AreAuthentic faulty begun done → AreAuthentic faulty (after_node_turns begun done) turns → AreFilled (after_node_turns begun done) → AreFilled (after_node_turns begun (done ++ turns))
    filled_on done [] before authentic filled = subst (λ (xs : List NodeTurn). AreFilled (after_node_turns begun xs)) (sym (append-nil done)) filled
    filled_on done (turn ∷ turns) before authentic filled =
        let w = after_node_turns begun done in
        let first = turn ∷ [] in
        let at : after_node_turns begun (done ++ first) ≡ after_node_turn w turn = after_join begun done first in
        let led = always laws f faulty positive few keys start done shared before in
        let next : AreFilled (after_node_turn w turn) = both_at w turn (λ k r. faulty k ≡ false → IsFilled r.node.order)
        (λ correct. filled_here whole keys start done shared led.orders led.world led.facts turn authentic.0 correct (filled turn.who correct)) filled in
        subst (λ (xs : List NodeTurn). AreFilled (after_node_turns begun xs)) (append_assoc done first turns)
        (filled_on (done ++ first) turns (authentic_both faulty begun done first before (authentic.0, tt)) (subst (λ (x : NodeReplicas). AreAuthentic faulty x turns) (sym at) authentic.1) (subst AreFilled (sym at) next))

    pub all_filled : (turns : List NodeTurn) → AreAuthentic faulty begun turns → AreFilled (after_node_turns begun turns)
    all_filled turns authentic = filled_on [] turns tt authentic (λ k correct led n above behind reached. absurd (elim reached [
      | inl handed ↦ omega (arith, handed, above)
      | inr told ↦ cc (told.4)
    ]))

pub none_is_left_out : Below → LatestIsOfMinS → NumbersAreChosenOnce → ViewsAreEnteredWhole → NoneIsLeftOut
none_is_left_out laws latest numbers whole f keys start faulty turns view number run correct entered above less =
    let w = reached f keys start turns in
    let p = primary f view in
    let s = order_of w p in
    let led = always laws f faulty run.others run.few keys start turns run.shared run.authentic in
    let me = same_me f faulty w led.orders led.world led.facts p in
    let leads : s.me ≡ primary s.f s.view = me ∙ ap (primary f) (sym entered) ∙ ap (λ (g : ℕ). primary g s.view) (sym (same_f f faulty w led.orders led.world led.facts p)) in
    let low : s.low < number = omega (arith, above) in
    let behind : s.min_s < number = omega (arith, above) in
    let filled = all_filled laws latest numbers f faulty whole run.others run.few keys start run.shared turns run.authentic in
    let got = slot_told (known s) 2 s.me s.view number (filled p correct leads number low behind (below_next s number low behind less)) in
    (got.0, subst (λ (x : ℕ). Told (known s) 2 x view number got.0) me (subst (λ (u : ℕ). Told (known s) 2 s.me u number got.0) entered got.1))
