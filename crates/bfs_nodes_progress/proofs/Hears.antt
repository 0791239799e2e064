-- What nodes hear of the views that others ask for.
use Rattle.std.proofs.Common.{◌≡◌, ℕ, zero, suc, ◌<◌, ◌≤◌, ◌==◌, Bool, true, false, cond, not, List, [], ◌∷◌, length, get_or, replicate, slice_set, ◌⊎◌, Some, None, inl, inr, refl, sym, ap, subst, ◌∙◌, arith}
use Rattle.std.specs.Prelude.{nat_lt}
use Rattle.std.proofs.lemmas.Bool.{and_parts, cases_lt, eqb-false, le-leb, leb-true, lt-ltb}
use Rattle.std.proofs.lemmas.List.{get_or-set_same, length-replicate, length-set}
use Rattle.bfs_auth.specs.Keys.{Keys}
use Rattle.bfs_messages.specs.Messages as model
use Rattle.bfs_messages.specs.Signing.{as_message, is_signed}
use Rattle.bfs_messages.specs.declared.signed.Signed.{Signed}
use Rattle.bfs_messages.specs.declared.message.Message.{Message}
use Rattle.bfs_messages.specs.declared.message.Message.TheVariants.{Order, ViewChange}
use Rattle.bfs_votes.specs.Votes.{replicas}
use Rattle.bfs_agreement.specs.Histories as told
use Rattle.bfs_agreement.specs.Histories.{IsIn, World, FewAreFaulty}
use Rattle.bfs_node.specs.Changing.{change_refusal, with_view_change}
use Rattle.bfs_node.specs.Nodes.{Messages, Node, Outcome}
use Rattle.bfs_node.specs.declared.error.NodeError.{NodeError}
use Rattle.bfs_node.specs.declared.error.NodeError.TheVariants as error
use Rattle.bfs_nodes_agree.specs.Orders.Replicas.{OrderReplicas}
use Rattle.bfs_nodes_agree.specs.Views.Changes.{told_change}
use Rattle.bfs_nodes_agree.specs.Nodes.Premises.{AreAuthentic, Comes, HasSaid, IsAuthentic, SaysTheSame}
use Rattle.bfs_nodes_agree.specs.Nodes.Replicas.{Beginning, Keyring, NodeReplica, NodeReplicas, NodeTurn, after_node_turn, after_node_turns, new_node_replicas}
use Rattle.bfs_nodes_agree.specs.Nodes.Steps.{NodeStep, Delivers, Takes, outcome, unless}
use Rattle.bfs_nodes_agree.proofs.Public.{both_at, here_after}
use Rattle.bfs_nodes_progress.specs.Following.{ChangeComes, asked_by, heard}
use Rattle.bfs_nodes_progress.specs.Inside.Below.{Below}
use Rattle.bfs_nodes_progress.specs.Rounds.{Brings}
use Rattle.bfs_nodes_progress.specs.Runs.{order_of}
use Rattle.bfs_nodes_progress.proofs.Asked.{change_marks, step_marks}
use Rattle.bfs_nodes_progress.proofs.Quiet.{asked_there, same_me, view_there}
use Rattle.bfs_nodes_progress.proofs.Reached.{Facts, run_on, step_on}
use Rattle.bfs_nodes_progress.proofs.Taking.{brings_takes}
use Rattle.bfs_view_change.specs.Changes.Keeping.{was_asked}
use Rattle.bfs_view_change.specs.Changes.ViewChanges.{are_in_order, valid_view_change}

-- Places of a list ----------------------------------------------------------------------------------------------------

set_place : (xs : List ℕ) (i k v : ℕ) → (get_or (slice_set xs i v) k 0 ≡ get_or xs k 0) ⊎ ((i ≡ k) × (get_or (slice_set xs i v) k 0 ≡ v))
set_place [] i k v = inl refl
set_place (x ∷ xs) zero zero v = inr (refl, refl)
set_place (x ∷ xs) zero (suc k) v = inl refl
set_place (x ∷ xs) (suc i) zero v = inl refl
set_place (x ∷ xs) (suc i) (suc k) v = elim (set_place xs i k v) [ inl e ↦ inl e | inr both ↦ let e = both.0 in inr (omega (arith, e), both.1) ]

all_same : (n k d : ℕ) → get_or (replicate n d) k d ≡ d
all_same zero k d = refl
all_same (suc n) zero d = refl
all_same (suc n) (suc k) d = all_same n k d

-- Messages ------------------------------------------------------------------------------------------------------------

-- what a step brings comes by it
brought : (P : Signed Message → Type 0) (step : NodeStep) (m : Signed Message) → Brings step m → Comes P step → P m
brought P (Delivers bytes) m brings comes = comes.1 m brings m (inl refl)
brought P (Takes signed) m brings comes = subst P brings (comes.1 signed (inl refl))
brought P step m brings comes = absurd brings

same_change : (m : Message) (change : model.ViewChange) → SaysTheSame m (ViewChange change) → m ≡ ViewChange change
same_change (Order m) change e = absurd cc
same_change other change e = e

-- a VIEW-CHANGE is signed whole
change_sent : (sent : Messages) (change : model.ViewChange) → HasSaid sent (ViewChange change) → (s : Signed Message) × IsIn s sent × (s.message ≡ ViewChange change)
change_sent sent change said = elim said.2 [
  | inl e ↦ (said.0, said.1, same_change said.0.message change e)
  | inr offer ↦ absurd cc
]

refusal_parts : (a b c d : Bool) (w x y z : NodeError) → cond (not a) (Some w) (cond (not b) (Some x) (cond c (Some y) (cond (not d) (Some z) None))) ≡ None
    → (a ≡ true) × (b ≡ true) × (c ≡ false) × (d ≡ true)
refusal_parts true true false true w x y z e = (refl, refl, refl, refl)
refusal_parts true true false false w x y z e = absurd cc
refusal_parts true true true d w x y z e = absurd cc
refusal_parts true false c d w x y z e = absurd cc
refusal_parts false b c d w x y z e = absurd cc

pub record IsTaken (node : Node) (s : Signed model.ViewChange) : Type 0 where
  pub signed : is_signed node.keys (as_message ViewChange s) ≡ true
  pub later : heard node s.message.sender < s.message.view

taken_is : (node : Node) (s : Signed model.ViewChange) → change_refusal node s ≡ None → IsTaken node s
taken_is node s none =
    let parts = refusal_parts (is_signed node.keys (as_message ViewChange s)) (nat_lt node.order.view s.message.view) (was_asked node.changes s.message) (valid_view_change node.keys s)
    error.BadAuthenticator error.WrongView error.AlreadyHave error.BadCertificate none in
    record {
      signed = parts.0;
      later = elim (cases_lt (heard node s.message.sender) s.message.view) [
        | inl lt ↦ lt
        | inr le ↦ let is = le-leb s.message.view (heard node s.message.sender) le in absurd (cc (is, parts.2))
      ];
    }

-- why one that is valid is refused
refused_why : (a b c d : Bool) (w x y z e : NodeError) → a ≡ true → d ≡ true → cond (not a) (Some w) (cond (not b) (Some x) (cond c (Some y) (cond (not d) (Some z) None))) ≡ Some e → (b ≡ false) ⊎ (c ≡ true)
refused_why a false c d w x y z e p q r = inl refl
refused_why a true true d w x y z e p q r = inr refl
refused_why true true false true w x y z e p q r = absurd cc
refused_why true true false false w x y z e p q r = absurd cc
refused_why false true false d w x y z e p q r = absurd cc

-- one that comes and is valid is heard, or its view is not later than the one entered
hears_now : (node : Node) (s : Signed model.ViewChange) (step : NodeStep) → valid_view_change node.keys s ≡ true → s.message.sender < length node.changes.asked → Brings step (as_message ViewChange s)
    → (s.message.view ≤ node.order.view) ⊎ (s.message.view ≤ heard (outcome node step).now s.message.sender)
hears_now node s step valid place brings =
    let k = s.message.sender in
    let v = s.message.view in
    let signed = (and_parts (is_signed node.keys (as_message ViewChange s)) _ (and_parts (are_in_order s.message) _ valid).1).0 in
    subst (λ (o : Outcome). (v ≤ node.order.view) ⊎ (v ≤ heard o.now k)) (sym (brings_takes node step (as_message ViewChange s) brings))
    ((elim (change_refusal node s) as (λ r. change_refusal node s ≡ r → (v ≤ node.order.view) ⊎ (v ≤ heard (unless r node (with_view_change node s)).now k)) [
      | None ↦ λ _.
          let is : heard (with_view_change node s).now k ≡ v = ap (λ (xs : List ℕ). get_or xs k 0) (change_marks node s) ∙ get_or-set_same node.changes.asked k v 0 place in
          inr (omega (arith, is))
      | Some refused ↦ λ e. elim (refused_why (is_signed node.keys (as_message ViewChange s)) (nat_lt node.order.view v) (was_asked node.changes s.message) (valid_view_change node.keys s)
          error.BadAuthenticator error.WrongView error.AlreadyHave error.BadCertificate refused signed valid e) [
            | inl early ↦ elim (cases_lt node.order.view v) [ inl lt ↦ let is = lt-ltb node.order.view v lt in absurd (cc (is, early)) | inr le ↦ inl le ]
            | inr asked ↦ inr (leb-true v (heard node k) asked)
          ]
    ]) refl)

-- Runs ----------------------------------------------------------------------------------------------------------------

-- of each sender there is a place, and what stands there of a correct one it has asked for
pub record Hears (f : ℕ) (faulty : ℕ → Bool) (w : NodeReplicas) (node : Node) : Type 0 where
  pub places : length node.changes.asked ≡ replicas f
  pub asked : (k : ℕ) → faulty k ≡ false → heard node k ≤ asked_by w k

abbrev pub AllHear : (f : ℕ) (faulty : ℕ → Bool) → NodeReplicas → Type 0
AllHear f faulty w = (j : ℕ) → Hears f faulty w (w j).node

-- a correct sender has asked for it
said_asked : (f : ℕ) (faulty : ℕ → Bool) (w : NodeReplicas) (v : OrderReplicas) (t : World) → Facts f faulty w v t → (keys : Keys) (s : Signed model.ViewChange)
    → IsAuthentic faulty w keys (as_message ViewChange s) → is_signed keys (as_message ViewChange s) ≡ true → faulty s.message.sender ≡ false → s.message.view ≤ asked_by w s.message.sender
said_asked f faulty w v t facts keys s authentic signed correct =
    let k = s.message.sender in
    let sent = change_sent (w k).sent s.message (authentic k refl signed correct) in
    let same : sent.0 ≡ record { message = ViewChange s.message; auth = sent.0.auth } = ap (λ (m : Message). record { message = m; auth = sent.0.auth }) sent.2 in
    let spoken = (facts.right k).spoken (record { message = ViewChange s.message; auth = sent.0.auth }) (subst (λ (x : Signed Message). IsIn x (w k).sent) same sent.1) in
    let there = subst (λ (l : List told.ViewChange). IsIn (told_change s.message) l) (facts.followed k).follows.changes spoken in
    let le = (facts.sound.kept k correct).changes_asked (told_change s.message) there in
    let is = asked_there f faulty w v t facts k in
    omega (arith, le, is)

module _ (laws : Below) (f : ℕ) (faulty : ℕ → Bool) (positive : 0 < f) (few : FewAreFaulty f faulty) where
  -- what was asked for doesn't fall
  pub asked_on : (w : NodeReplicas) (v : OrderReplicas) (t : World) → Facts f faulty w v t → (turns : List NodeTurn) → AreAuthentic faulty w turns → (k : ℕ) → asked_by w k ≤ asked_by (after_node_turns w turns) k
  asked_on w v t facts turns authentic k =
      let rest = run_on laws f faulty positive few w v t facts turns authentic in
      let le = (rest.later k).asked in
      let before = asked_there f faulty w v t facts k in
      let after = asked_there f faulty (after_node_turns w turns) rest.orders rest.world rest.facts k in
      omega (arith, le, before, after)

  module _ (w : NodeReplicas) (v : OrderReplicas) (t : World) (facts : Facts f faulty w v t) (turn : NodeTurn) (comes : Comes (IsAuthentic faulty w (w turn.who).node.keys) turn.step) where
    abbrev after : NodeReplicas
    after = after_node_turn w turn

    abbrev node : Node
    node = (w turn.who).node

    abbrev now : Node
    now = (outcome node turn.step).now

    grows : (k : ℕ) → asked_by w k ≤ asked_by after k
    grows k = asked_on w v t facts (turn ∷ []) (comes, tt) k

    pub hear_on : AllHear f faulty w → AllHear f faulty after
    hear_on all = both_at w turn (λ j r. Hears f faulty after r.node) (elim (step_marks node turn.step) as (λ _. Hears f faulty after now) [
      | inl stays ↦ record {
        places = ap (λ (xs : List ℕ). length xs) stays ∙ (all turn.who).places;
        asked = λ k correct.
            let is = ap (λ (xs : List ℕ). get_or xs k 0) stays in
            let le = (all turn.who).asked k correct in
            let on = grows k in
            omega (arith, is, le, on);
      }
      | inr changes ↦ elim changes as (λ _. Hears f faulty after now) [
        | inl came ↦
            let s = came.0 in
            let u = s.message.view in
            let i = s.message.sender in
            let is = came.3 in
            record {
              places = ap (λ (xs : List ℕ). length xs) is ∙ (length-set node.changes.asked i u ∙ (all turn.who).places);
              asked = λ k correct.
                  let at = ap (λ (xs : List ℕ). get_or xs k 0) is in
                  let on = grows k in
                  elim (set_place node.changes.asked i k u) [
                    | inl same ↦ let le = (all turn.who).asked k correct in omega (arith, at, same, le, on)
                    | inr both ↦
                        let value = both.1 in
                        let le = said_asked f faulty w v t facts node.keys s (brought (IsAuthentic faulty w node.keys) turn.step (as_message ViewChange s) came.1 comes) (taken_is node s came.2).signed
                        (ap faulty both.0 ∙ correct) in
                        let at_k = ap (λ (x : ℕ). asked_by w x) both.0 in
                        omega (arith, at, value, le, at_k, on)
                  ];
            }
        | inr left ↦
            let u = left.0 in
            let is = left.2 in
            record {
              places = ap (λ (xs : List ℕ). length xs) is ∙ (length-set node.changes.asked node.order.me u ∙ (all turn.who).places);
              asked = λ k correct.
                  let at = ap (λ (xs : List ℕ). get_or xs k 0) is in
                  let on = grows k in
                  elim (set_place node.changes.asked node.order.me k u) [
                    | inl same ↦ let le = (all turn.who).asked k correct in omega (arith, at, same, le, on)
                    | inr both ↦
                        let value = both.1 in
                        let who : turn.who ≡ k = sym (same_me f faulty w v t facts turn.who) ∙ both.0 in
                        let here : asked_by after turn.who ≡ u = ap (λ (r : NodeReplica). r.node.order.asked) (here_after w turn) ∙ left.3 in
                        let at_k = ap (λ (x : ℕ). asked_by after x) who in
                        omega (arith, at, value, here, at_k)
                  ];
            }
      ]
    ]) (λ j. record { places = (all j).places; asked = λ k correct. let le = (all j).asked k correct in let on = grows k in omega (arith, le, on) })

    -- nor does what is heard of another one
    pub hears_on : (j k : ℕ) → (j == k) ≡ false → heard (w j).node k ≤ heard (after j).node k
    hears_on j k = both_at w turn (λ j r. (j == k) ≡ false → heard (w j).node k ≤ heard r.node k) (λ other. elim (step_marks node turn.step) as (λ _. heard node k ≤ heard now k) [
      | inl stays ↦ let is = ap (λ (xs : List ℕ). get_or xs k 0) stays in omega (arith, is)
      | inr changes ↦ elim changes as (λ _. heard node k ≤ heard now k) [
        | inl came ↦
            let s = came.0 in
            let at = ap (λ (xs : List ℕ). get_or xs k 0) came.3 in
            elim (set_place node.changes.asked s.message.sender k s.message.view) [
              | inl same ↦ omega (arith, at, same)
              | inr both ↦
                  let value = both.1 in
                  let later = (taken_is node s came.2).later in
                  let at_k = ap (heard node) both.0 in
                  omega (arith, at, value, later, at_k)
            ]
        | inr left ↦
            let at = ap (λ (xs : List ℕ). get_or xs k 0) left.2 in
            elim (set_place node.changes.asked node.order.me k left.0) [
              | inl same ↦ omega (arith, at, same)
              | inr both ↦ absurd (eqb-false turn.who k other (sym (same_me f faulty w v t facts turn.who) ∙ both.0))
            ]
      ]
    ]) (λ j other. omega arith) j

  pub all_hear : (w : NodeReplicas) (v : OrderReplicas) (t : World) → Facts f faulty w v t → AllHear f faulty w → (turns : List NodeTurn) → AreAuthentic faulty w turns → AllHear f faulty (after_node_turns w turns)
  all_hear w v t facts all [] authentic = all
  all_hear w v t facts all (turn ∷ turns) authentic =
      let first = step_on laws f faulty positive few w v t facts turn authentic.0 in
      all_hear (after_node_turn w turn) first.orders first.world first.facts (hear_on w v t facts turn authentic.0 all) turns authentic.1

  pub still_hears : (w : NodeReplicas) (v : OrderReplicas) (t : World) → Facts f faulty w v t → (turns : List NodeTurn) → AreAuthentic faulty w turns → (j k : ℕ) → (j == k) ≡ false
      → heard (w j).node k ≤ heard (after_node_turns w turns j).node k
  still_hears w v t facts [] authentic j k other = omega arith
  still_hears w v t facts (turn ∷ turns) authentic j k other =
      let first = step_on laws f faulty positive few w v t facts turn authentic.0 in
      let one = hears_on w v t facts turn authentic.0 j k other in
      let rest = still_hears (after_node_turn w turn) first.orders first.world first.facts turns authentic.1 j k other in
      omega (arith, one, rest)

  pub start_hear : (keys : Keyring) (start : Beginning) → AllHear f faulty (new_node_replicas f keys start)
  start_hear keys start j = record { places = length-replicate (replicas f) 0; asked = λ k correct. let none = all_same (replicas f) k 0 in omega (arith, none) }

  -- who has asked for a view hasn't entered a later one
  pub entered_asked : (w : NodeReplicas) (v : OrderReplicas) (t : World) → Facts f faulty w v t → (k : ℕ) → faulty k ≡ false → (order_of w k).view ≤ asked_by w k
  entered_asked w v t facts k correct =
      let le = (facts.sound.kept k correct).asked in
      let view = view_there f faulty w v t facts k in
      let asked = asked_there f faulty w v t facts k in
      omega (arith, le, view, asked)

  -- a VIEW-CHANGE that comes among turns is heard at their end, or its view was asked for
  pub comes_heard : (w : NodeReplicas) (v : OrderReplicas) (t : World) → Facts f faulty w v t → AllHear f faulty w → (turns : List NodeTurn) → AreAuthentic faulty w turns
      → (j k view : ℕ) → faulty j ≡ false → (j == k) ≡ false → k < replicas f → ChangeComes (w j).node.keys view k j turns
      → (view ≤ heard (after_node_turns w turns j).node k) ⊎ (view ≤ asked_by (after_node_turns w turns) j)
  comes_heard w v t facts all [] authentic j k view correct other place come = absurd come.comes.among
  comes_heard w v t facts all (turn ∷ turns) authentic j k view correct other place come =
      let w1 = after_node_turn w turn in
      let last = after_node_turns w1 turns in
      let first = step_on laws f faulty positive few w v t facts turn authentic.0 in
      let s = come.change in
      let by = come.by in
      let for_view = come.for_view in
      elim come.comes.among [
        | inl same ↦
            let who : turn.who ≡ j = sym (ap (λ (y : NodeTurn). y.who) same) ∙ come.comes.to in
            let brings = subst (λ (y : NodeTurn). Brings y.step (as_message ViewChange s)) same come.comes.brings in
            let node = (w j).node in
            let places = (all j).places in
            let at_who : (w1 turn.who).node ≡ (outcome (w turn.who).node turn.step).now = ap (λ (r : NodeReplica). r.node) (here_after w turn) in
            let there : (w1 j).node ≡ (outcome node turn.step).now = subst (λ (i : ℕ). (w1 i).node ≡ (outcome (w i).node turn.step).now) who at_who in
            elim (hears_now node s turn.step come.valid (omega (arith, places, place, by)) brings) [
              | inl entered ↦
                  let le = entered_asked w v t facts j correct in
                  let on = asked_on w v t facts (turn ∷ turns) authentic j in
                  inr (omega (arith, entered, le, on, for_view))
              | inr now ↦
                  let at = ap (λ (x : Node). heard x s.message.sender) there in
                  let at_k = ap (heard (w1 j).node) by in
                  let rest = still_hears w1 first.orders first.world first.facts turns authentic.1 j k other in
                  inl (omega (arith, now, at, at_k, rest, for_view))
            ]
        | inr later ↦ comes_heard w1 first.orders first.world first.facts (hear_on w v t facts turn authentic.0 all) turns authentic.1 j k view correct other place (record {
          change = s;
          by = by;
          for_view = for_view;
          valid = subst (λ (x : Keys). valid_view_change x s ≡ true) (sym (first.keys j)) come.valid;
          comes = record { turn = come.comes.turn; among = later; to = come.comes.to; brings = come.comes.brings };
        })
      ]
