-- What is told again was said before.
use Rattle.std.proofs.Common.{◌≡◌, ◌<◌, ℕ, Bool, false, List, [], ◌∷◌, ◌++◌, inl, inr, sym, ap, subst}
use Rattle.std.specs.Prelude.{◌⊎◌}
use Rattle.bfs_agreement.specs.Histories.{IsIn}
use Rattle.bfs_auth.specs.Keys.{Keys}
use Rattle.bfs_frames.specs.Parcels.{Told}
use Rattle.bfs_messages.specs.declared.message.Message.{Message}
use Rattle.bfs_messages.specs.declared.signed.Signed.{Signed}
use Rattle.bfs_nodes_agree.proofs.Public.{left_in}
use Rattle.bfs_nodes_agree.specs.Nodes.Premises.{AreAuthentic, AreShared, EachComes, HasSaid, IsAuthentic}
use Rattle.bfs_nodes_agree.specs.Nodes.Replicas.{Beginning, Keyring, NodeReplica, NodeReplicas, NodeTurn, after_node_turn, after_node_turns, new_node_replicas}
use Rattle.bfs_nodes_agree.specs.Nodes.Resending.{HasComeTo, IsItsNewView, WhatIsResentWasSent}
use Rattle.bfs_service.specs.Processes.{IsPassedOn, IsSaidBefore, IsSentAgain, ProcessTurn}
use Rattle.bfs_service.proofs.Tracking.{sent_stays, turns_both}

-- it comes in the first ones
front_comes : (P : NodeReplicas → Keys → Signed Message → Type 0) (w : NodeReplicas) (first others : List NodeTurn) → EachComes P w (first ++ others) → EachComes P w first
front_comes P w [] others each = tt
front_comes P w (turn ∷ first) others each = (each.0, front_comes P (after_node_turn w turn) first others each.1)

later_sent : (w : NodeReplicas) (first others : List NodeTurn) (who : ℕ) (m : Signed Message) → IsIn m (after_node_turns w first who).sent
    → IsIn m (after_node_turns w (first ++ others) who).sent
later_sent w first others who m i =
    subst (λ (v : NodeReplicas). IsIn m (v who).sent) (sym (turns_both w first others)) (sent_stays (after_node_turns w first) others who m i)

later_come : (who : ℕ) (first others : List NodeTurn) (m : Signed Message) → HasComeTo who first m → HasComeTo who (first ++ others) m
later_come who first others m came = (came.0, left_in first others came.0 came.1, came.2, came.3)

-- what was said behind the first ones was said behind all
later_known : (w : NodeReplicas) (first others : List NodeTurn) (who : ℕ) (m : Signed Message)
    → HasSaid (after_node_turns w first who).sent m.message ⊎ IsItsNewView who first (after_node_turns w first who) m
    → HasSaid (after_node_turns w (first ++ others) who).sent m.message ⊎ IsPassedOn (after_node_turns w (first ++ others)) (first ++ others) who m
later_known w first others who m known = elim known [
  | inl said ↦ inl (said.0, later_sent w first others who said.0 said.1, said.2)
  | inr new ↦ inr (
    new.new,
    new.is,
    elim new.known [
      | inl sent ↦ inl (later_sent w first others who m sent)
      | inr came ↦ inr (later_come who first others m came)
    ],
  )
]

pub said_before : WhatIsResentWasSent → (f : ℕ) (keys : Keyring) (start : Beginning) (faulty : ℕ → Bool) (steps : List NodeTurn) (who : ℕ) (x : Told)
    → 0 < f → AreShared f keys → AreAuthentic faulty (new_node_replicas f keys start) steps → faulty who ≡ false
    → IsSentAgain (new_node_replicas f keys start) steps who x → IsSaidBefore (after_node_turns (new_node_replicas f keys start) steps) steps who x
said_before resent f keys start faulty steps who x others shared authentic correct again =
    let w = new_node_replicas f keys start in
    let comes = front_comes (IsAuthentic faulty) w again.first again.others (subst (λ (all : List NodeTurn). AreAuthentic faulty w all) again.steps_are authentic) in
    let number = again.given.0 in
    let m = again.given.2 in
    let known = resent f keys start faulty again.first others shared comes who correct again.given.1 m again.given.3 in
    subst (λ (all : List NodeTurn). IsSaidBefore (after_node_turns w all) all who x) (sym again.steps_are)
    (number, m, again.given.4, later_known w again.first again.others who m known)
