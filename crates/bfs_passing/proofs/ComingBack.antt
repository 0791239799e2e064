-- A COMMIT of its own that comes to a correct node stands in its log, or is below its low mark.
use Rattle.std.proofs.Common.{◌≡◌, ℕ, ◌==◌, ◌&&◌, Bool, true, false, List, None, map, inl, inr, sym, subst, ◌∙◌, arith}
use Rattle.std.specs.Prelude.{nat_le, nat_lt}
use Rattle.std.proofs.lemmas.Bool.{and_parts, eqb-true, ltb-true, or_cases}
use Rattle.bfs_votes.specs.Votes.{has_slot, prepared}
use Rattle.bfs_log.specs.Headers.{header}
use Rattle.bfs_order.specs.Replica.Refusals.{is_authentic, is_between, place_refusal, refusal}
use Rattle.bfs_order.specs.Replica.States.{State, known}
use Rattle.bfs_order.specs.declared.error.OrderError.TheVariants.{BadAuthenticator}
use Rattle.bfs_agreement.specs.Histories.{HasSaid, WasSent, World}
use Rattle.bfs_agreement.proofs.Public.{said_on}
use Rattle.bfs_nodes_agree.specs.Orders.Replicas.{OrderReplicas, histories}
use Rattle.bfs_nodes_agree.specs.Views.Replicas.{MayTakeViewTurns, ViewDeed}
use Rattle.bfs_nodes_agree.specs.Nodes.Premises.{Comes, IsAuthentic}
use Rattle.bfs_nodes_agree.specs.Nodes.Replicas.{NodeReplicas, NodeTurn, turn_of}
use Rattle.bfs_nodes_agree.specs.Nodes.Steps.{deeds_of}
use Rattle.bfs_nodes_agree.proofs.Public.{grows_there, passed, placed, step_right}
use Rattle.bfs_progress.proofs.Public.{slot_told, told_slot}
use Rattle.bfs_nodes_progress.specs.Inside.Below.{Below}
use Rattle.bfs_nodes_progress.proofs.Public.{Facts, low_there, responds, same_me, told_here, view_there}
use Rattle.bfs_passing.proofs.Held.{NoneComesBack}

pub none_comes_back : (laws : Below) (f : ℕ) (faulty : ℕ → Bool) (w : NodeReplicas) (v : OrderReplicas) (t : World) → Facts f faulty w v t → (turn : NodeTurn)
    → Comes (IsAuthentic faulty w (w turn.who).node.keys) turn.step → faulty turn.who ≡ false → NoneComesBack (w turn.who).node (deeds_of (w turn.who).node turn.step)
none_comes_back laws f faulty w v t facts turn comes correct m is none four own =
    let k = turn.who in
    let node = (w k).node in
    let s = node.order in
    let h = header m in
    let at = (facts.right k).tracks.state in
    let may = subst (λ (deeds : List ViewDeed). MayTakeViewTurns faulty v (map (turn_of k) deeds)) is (step_right laws.same laws.views laws.written laws.one f faulty w v facts.right turn comes).may in
    let sent : WasSent faulty (histories v) h.tag h.sender h.view h.number h.digest = may.0 (subst (λ (x : State). refusal node.keys x m ≡ None) (sym at) none) (omega (arith, four)) in
    let there = said_on faulty (histories v) t (λ j. grows_there (v j) (histories v j) (t j) (facts.followed j).follows) h.tag h.sender h.view h.number h.digest sent in
    let by : h.sender ≡ k = own ∙ same_me f faulty w v t facts k in
    let said : HasSaid (t k) 4 k h.view h.number h.digest = subst (λ (x : ℕ). HasSaid (t k) x k h.view h.number h.digest) four
    (subst (λ (x : ℕ). HasSaid (t x) h.tag x h.view h.number h.digest) by (there (subst (λ (x : ℕ). faulty x ≡ false) (sym by) correct))) in
    let free = placed s h (passed (is_authentic node.keys s m) BadAuthenticator (place_refusal s h) none).1 in
    let between = (and_parts (is_between s h.number) _ free.inside).0 in
    let above = ltb-true s.low h.number (and_parts (nat_lt s.low h.number) _ between).0 in
    let low = low_there f faulty w v t facts k in
    let of_view = elim (or_cases (h.tag == 5) ((h.view == s.view) && nat_le s.asked s.view) free.of_view) as (λ _. h.view ≡ s.view) [
      | inl five ↦ absurd (omega (arith, four, eqb-true h.tag 5 five))
      | inr both ↦ eqb-true h.view s.view (and_parts (h.view == s.view) (nat_le s.asked s.view) both).0
    ] in
    let seen : h.view ≡ (t k).now.view = of_view ∙ sym (view_there f faulty w v t facts k) in
    elim said [
      | inl told ↦ elim ((facts.sound.kept k correct).ready k h.view h.number h.digest told) [
        | inl under ↦ absurd (omega (arith, under, low, above))
        | inr ready ↦
            let prepared_there = subst (λ (u : ℕ). prepared f k (t k).now.log u h.number h.digest ≡ true) seen ready in
            let slot = ((responds f faulty w v t facts).speaks k correct).commits h.number h.digest prepared_there in
            let stands = slot_told (t k).now.log 4 k (t k).now.view h.number slot in
            let here = told_slot (known s) 4 k (t k).now.view h.number stands.0 (told_here f faulty w v t facts k 4 k (t k).now.view h.number stands.0 (omega arith) stands.1) in
            let taken = subst (λ (x : ℕ). has_slot (known s) x h.sender h.view h.number ≡ true) (sym four)
            (subst (λ (x : ℕ). has_slot (known s) 4 x h.view h.number ≡ true) (sym by) (subst (λ (u : ℕ). has_slot (known s) 4 k u h.number ≡ true) (sym seen) here)) in
            absurd (cc (taken, free.free))
      ]
      | inr offer ↦ absurd (omega (arith, offer.0))
    ]
