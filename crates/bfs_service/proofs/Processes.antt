-- Turns of processes are steps of nodes.
use Rattle.std.proofs.Common.{◌≡◌, ◌∙◌, ℕ, Bool, true, false, ◌==◌, List, [], ◌∷◌, ◌++◌, map, inl, inr, refl, sym, ap, subst, append_assoc, if◌then◌else◌, eqb-true}
use Rattle.std.specs.Prelude.{◌⊎◌, All}
use Rattle.std.proofs.lemmas.List.Elements.{All-head, All-tail}
use Rattle.std.proofs.lemmas.List.Sums.{fold-append}
use Rattle.bfs_agreement.specs.Histories.{IsIn}
use Rattle.bfs_frames.specs.Parcels.{Told}
use Rattle.bfs_frames.specs.declared.frames.Frame.{Frame}
use Rattle.bfs_frames.specs.declared.frames.Turn.{Turn}
use Rattle.bfs_messages.specs.declared.message.Message.{Message}
use Rattle.bfs_messages.specs.declared.signed.Signed.{Signed}
use Rattle.bfs_node.specs.Nodes.{Messages, Node}
use Rattle.bfs_nodes_agree.proofs.Public.{both_in, either_in, here_after, in_map, left_in, none_in, one_in, out_of_map, right_in}
use Rattle.bfs_nodes_agree.specs.Nodes.Laws.{NodesAgree}
use Rattle.bfs_nodes_agree.specs.Nodes.Replicas.{NodeReplica, NodeReplicas, NodeTurn, after_node_step, after_node_turn, after_node_turns, new_node_replicas}
use Rattle.bfs_nodes_agree.specs.Nodes.Resending.{WhatIsResentWasSent}
use Rattle.bfs_nodes_agree.specs.Nodes.Steps.{NodeStep, Delivers, Takes, TakesRequests, TakesOffered, Proposes, Executes, Fails, Checkpoints, TimesOut, LeavesFor, ForgetsAnswered, ForgetsProposed, Adopts, Settles, outcome}
use Rattle.bfs_service.proofs.Said.{said_before}
use Rattle.bfs_service.proofs.Tracking.{Tracks, either, others_stay, sent_stays, steps_track, turns_both, turns_of}
use Rattle.bfs_service.specs.Acting.{Acting, GoesOn, IsOwn, IsTaking, after_step, after_steps}
use Rattle.bfs_service.specs.Processes.{HasTold, HasTurned, IsSent, IsSentAgain, HaveTurned, IsOfTurns, IsStepOf, Processes, ProcessesAgree, ProcessTurn, new_processes}
use Rattle.bfs_service.specs.Telling.{IsGiven, Tells, is_note, message_told}
use Rattle.bfs_service.specs.Turns.{Hears, Turned, frame_delivered, is_message}

-- The steps of a turn ---------------------------------------------------------------------------------------------------------

taking_of : (turn : Turn) (step : NodeStep) → IsTaking step → IsStepOf turn step
taking_of turn (TakesRequests messages) is = is
taking_of turn (TakesOffered request) is = is
taking_of turn (Delivers bytes) is = absurd is
taking_of turn (Takes signed) is = absurd is
taking_of turn (Proposes time) is = absurd is
taking_of turn Executes is = absurd is
taking_of turn Fails is = absurd is
taking_of turn Checkpoints is = absurd is
taking_of turn TimesOut is = absurd is
taking_of turn (LeavesFor view) is = absurd is
taking_of turn ForgetsAnswered is = absurd is
taking_of turn ForgetsProposed is = absurd is
taking_of turn (Adopts certificate files table) is = absurd is
taking_of turn (Settles certificate) is = absurd is

own_of : (turn : Turn) (step : NodeStep) → IsOwn turn.time step → IsStepOf turn step
own_of turn (TakesRequests messages) is = absurd is
own_of turn (TakesOffered request) is = absurd is
own_of turn (Delivers bytes) is = absurd is
own_of turn (Takes signed) is = is
own_of turn (Proposes time) is = is
own_of turn Executes is = is
own_of turn Fails is = is
own_of turn Checkpoints is = is
own_of turn TimesOut is = is
own_of turn (LeavesFor view) is = is
own_of turn ForgetsAnswered is = is
own_of turn ForgetsProposed is = is
own_of turn (Adopts certificate files table) is = is
own_of turn (Settles certificate) is = is

-- all steps of a turn
record Steps (turn : Turn) (before : Acting) (done : Acting) : Type 0 where
  pub steps : List NodeStep
  pub each : (step : NodeStep) → IsIn step steps → IsStepOf turn step
  pub done_is : done ≡ after_steps before steps

no_steps : (turn : Turn) (a b : Acting) → a ≡ b → Steps turn a b
no_steps turn a b same = record { steps = []; each = none_in (IsStepOf turn); done_is = sym same }

both_steps : (turn : Turn) (a b c : Acting) → Steps turn a b → Steps turn b c → Steps turn a c
both_steps turn a b c one other = record {
  steps = one.steps ++ other.steps;
  each = both_in (IsStepOf turn) one.steps other.steps one.each other.each;
  done_is = other.done_is ∙ ap (λ (x : Acting). after_steps x other.steps) one.done_is ∙ sym (fold-append after_step a one.steps other.steps);
}

steps_by : (turn : Turn) (P : NodeStep → Type 0) (a b : Acting) → ((step : NodeStep) → P step → IsStepOf turn step) → GoesOn P a b → Steps turn a b
steps_by turn P a b so goes = record { steps = goes.steps; each = λ step i. so step (goes.each step i); done_is = goes.after_is }

-- a frame is delivered where it is to hold a message
deliver_steps : (turn : Turn) (frame : Frame) (a : Acting) (b : Bool) → IsIn frame turn.frames.items → is_message frame ≡ b
    → Steps turn a (if b then after_step a (Delivers frame.payload.items) else a)
deliver_steps turn frame a true there e =
    let step = Delivers frame.payload.items in
    record { steps = step ∷ []; each = one_in (IsStepOf turn) step (frame, there, e, refl); done_is = refl }
deliver_steps turn frame a false there e = no_steps turn a a refl

hears_steps : (turn : Turn) (frames : List Frame) (a b : Acting) → ((frame : Frame) → IsIn frame frames → IsIn frame turn.frames.items) → Hears turn.time frames a b
    → Steps turn a b
hears_steps turn [] a b all same = no_steps turn a b same
hears_steps turn (frame ∷ frames) a b all hears =
    let next = hears.0 in
    let ready = hears.1.0 in
    let delivered = frame_delivered ready frame in
    both_steps turn a ready b (steps_by turn (IsOwn turn.time) a ready (own_of turn) hears.1.1)
    (both_steps turn ready delivered b (deliver_steps turn frame ready (is_message frame) (all frame (inl refl)) refl)
    (both_steps turn delivered next b (steps_by turn (IsOwn turn.time) delivered next (own_of turn) hears.1.2)
    (hears_steps turn frames next b (λ other i. all other (inr i)) hears.2)))

steps_of : (turn : Turn) (before after : Acting) (told : List Told) → (t : Turned turn before after told) → Steps turn before t.done
steps_of turn before after told t =
    both_steps turn before t.asked t.done (steps_by turn IsTaking before t.asked (taking_of turn) t.takes)
    (both_steps turn t.asked t.heard t.done (hears_steps turn turn.frames.items t.asked t.heard (λ frame i. i) t.hears)
    (steps_by turn (IsOwn turn.time) t.heard t.done (own_of turn) t.acts))

steps_keep : (P : Node → Type 0) → ((node : Node) (step : NodeStep) → P node → P (outcome node step).now) → (a : Acting) (steps : List NodeStep) → P a.node → P (after_steps a steps).node
steps_keep P keeps a [] is = is
steps_keep P keeps a (step ∷ steps) is = steps_keep P keeps (after_step a step) steps (keeps a.node step is)

-- what each step keeps a turn keeps
pub turned_keeps : (P : Node → Type 0) → ((node : Node) (step : NodeStep) → P node → P (outcome node step).now) → (turn : Turn) (before after : Acting) (told : List Told)
    → Turned turn before after told → P before.node → P after.node
turned_keeps P keeps turn before after told t is =
    let s = steps_of turn before after told t in
    subst (λ (a : Acting). P a.node) (sym t.after_is) (subst (λ (a : Acting). P a.node) (sym s.done_is) (steps_keep P keeps before s.steps is))

-- Turns of processes ------------------------------------------------------------------------------------------------------------

-- between turns nothing waits to be told
record AllTrack (Said : ℕ → Signed Message → Type 0) (w : NodeReplicas) (p : Processes) : Type 0 where
  pub node : (k : ℕ) → (w k).node ≡ (p k).node
  pub quiet : (k : ℕ) → (p k).sent ≡ []
  pub all : (k : ℕ) (m : Signed Message) → IsIn m (w k).sent → Said k m

-- what these turns are to nodes that are in that state
record Follow (Said : ℕ → Signed Message → Type 0) (w : NodeReplicas) (turns : List ProcessTurn) (after : Processes) : Type 0 where
  pub steps : List NodeTurn
  pub of_turns : (step : NodeTurn) → IsIn step steps → IsOfTurns turns step
  pub nodes : (k : ℕ) → (after_node_turns w steps k).node ≡ (after k).node
  pub told : (k : ℕ) (m : Signed Message) → IsIn m (after_node_turns w steps k).sent → Said k m ⊎ HasTold turns k m
  pub sent : (t : ProcessTurn) (x : Told) → IsIn t turns → IsIn x t.told → is_note x.kind ≡ false
      → IsSent (after_node_turns w steps) t.who x ⊎ IsSentAgain w steps t.who x

none_is_a_note : (notes : List Told) (x : Told) → All (λ t. is_note t.kind ≡ true) notes → IsIn x notes → is_note x.kind ≡ false → ⊥
none_is_a_note [] x each i differs = i
none_is_a_note (t ∷ rest) x each i differs = elim i [
  | inl is ↦ let here : is_note x.kind ≡ true = ap (λ (s : Told). is_note s.kind) is ∙ All-head (λ (n : Told). is_note n.kind ≡ true) t rest each in absurd cc
  | inr k ↦ none_is_a_note rest x (All-tail (λ (n : Told). is_note n.kind ≡ true) t rest each) k differs
]

-- what was told is a message that was sent, or one that is given again, or a note
told_is : (done : Acting) (told : List Told) (x : Told) → (tells : Tells done told) → IsIn x told → is_note x.kind ≡ false
    → ((m : Signed Message) × IsIn m done.sent × (x ≡ message_told m)) ⊎ IsGiven done.node x
told_is done told x tells i differs =
    elim (either_in (map message_told done.sent) (tells.given ++ tells.notes) x (subst (λ (all : List Told). IsIn x all) tells.told_is i)) [
      | inl j ↦ inl (out_of_map message_told done.sent x j)
      | inr j ↦ elim (either_in tells.given tells.notes x j) [
        | inl k ↦ inr (tells.each x k)
        | inr k ↦ absurd (none_is_a_note tells.notes x tells.none_is_a_message k differs)
      ]
    ]

-- what holds behind later steps holds behind these and then those
sent_again_behind : (w : NodeReplicas) (ours rest : List NodeTurn) (who : ℕ) (x : Told) → IsSentAgain (after_node_turns w ours) rest who x → IsSentAgain w (ours ++ rest) who x
sent_again_behind w ours rest who x again = record {
  first = ours ++ again.first;
  others = again.others;
  steps_are = ap (λ (steps : List NodeTurn). ours ++ steps) again.steps_are ∙ sym (append_assoc ours again.first again.others);
  given = subst (λ (v : NodeReplicas). IsGiven (v who).node x) (sym (turns_both w ours again.first)) again.given;
}

one_turn_tracks : (Said : ℕ → Signed Message → Type 0) (w : NodeReplicas) (p next : Processes) (t : ProcessTurn) → AllTrack Said w p → (h : HasTurned p t next)
    → (s : Steps t.turn (p t.who) h.turned.done) → AllTrack (λ k m. Said k m ⊎ ((t.who ≡ k) × IsIn m h.turned.done.sent)) (after_node_turns w (turns_of t.who s.steps)) next
one_turn_tracks Said w p next t track h s =
    let who = t.who in
    let turned = h.turned in
    let done = turned.done in
    let w2 = after_node_turns w (turns_of who s.steps) in
    let at_start : Tracks (Said who) (w who) (p who) = record {
      node = track.node who;
      all = λ m i. inr (track.all who m i);
      here = λ m i. absurd (subst (λ (sent : Messages). IsIn m sent) (track.quiet who) i);
    } in
    let at_end : Tracks (Said who) (w2 who) done = subst (λ (a : Acting). Tracks (Said who) (w2 who) a) (sym s.done_is) (steps_track (Said who) w who (p who) s.steps at_start) in
    record {
      node = λ k. either (k == who)
          (λ is_it. let same = eqb-true k who is_it in subst (λ (j : ℕ). (w2 j).node ≡ (next j).node) (sym same) (at_end.node ∙ ap (λ (a : Acting). a.node) (sym turned.after_is)))
          (λ differs. ap (λ (r : NodeReplica). r.node) (others_stay w who k s.steps differs) ∙ track.node k ∙ ap (λ (a : Acting). a.node) (sym (h.others k differs)));
      quiet = λ k. either (k == who)
          (λ is_it. ap (λ (j : ℕ). (next j).sent) (eqb-true k who is_it) ∙ ap (λ (a : Acting). a.sent) turned.after_is)
          (λ differs. ap (λ (a : Acting). a.sent) (h.others k differs) ∙ track.quiet k);
      all = λ k m i. either (k == who)
          (λ is_it. let same = eqb-true k who is_it in
          elim (at_end.all m (subst (λ (j : ℕ). IsIn m (w2 j).sent) same i)) [
            | inl j ↦ inr (sym same, j)
            | inr said ↦ inl (subst (λ (j : ℕ). Said j m) (sym same) said)
          ])
          (λ differs. inl (track.all k m (subst (λ (r : NodeReplica). IsIn m r.sent) (others_stay w who k s.steps differs) i)));
    }

follow : (turns : List ProcessTurn) (Said : ℕ → Signed Message → Type 0) (w : NodeReplicas) (p after : Processes) → AllTrack Said w p → HaveTurned p turns after
    → Follow Said w turns after
follow [] Said w p after track same = record {
  steps = [];
  of_turns = none_in (IsOfTurns []);
  nodes = λ k. track.node k ∙ ap (λ (a : Acting). a.node) (sym (same k));
  told = λ k m i. inl (track.all k m i);
  sent = λ t x i. absurd i;
}
follow (t ∷ turns) Said w p after track have =
    let next = have.0 in
    let h = have.1 in
    let turned = h.turned in
    let s = steps_of t.turn (p t.who) (next t.who) t.told turned in
    let ours = turns_of t.who s.steps in
    let w2 = after_node_turns w ours in
    let Said2 : ℕ → Signed Message → Type 0 = λ k m. Said k m ⊎ ((t.who ≡ k) × IsIn m turned.done.sent) in
    let rest = follow turns Said2 w2 next after (one_turn_tracks Said w p next t track h s) have.2 in
    let both = turns_both w ours rest.steps in
    let at_start : Tracks (Said t.who) (w t.who) (p t.who) = record {
      node = track.node t.who;
      all = λ m i. inr (track.all t.who m i);
      here = λ m i. absurd (subst (λ (sent : Messages). IsIn m sent) (track.quiet t.who) i);
    } in
    let at_end = subst (λ (a : Acting). Tracks (Said t.who) (w2 t.who) a) (sym s.done_is) (steps_track (Said t.who) w t.who (p t.who) s.steps at_start) in
    record {
      steps = ours ++ rest.steps;
      of_turns = both_in (IsOfTurns (t ∷ turns)) ours rest.steps
          (λ step i. let from = out_of_map (λ one. record { who = t.who; step = one }) s.steps step i in
          subst (IsOfTurns (t ∷ turns)) (sym from.2) (t, inl refl, refl, s.each from.0 from.1))
          (λ step i. let got = rest.of_turns step i in (got.0, inr got.1, got.2, got.3));
      nodes = λ k. ap (λ (v : NodeReplicas). (v k).node) both ∙ rest.nodes k;
      told = λ k m i. elim (rest.told k m (subst (λ (v : NodeReplicas). IsIn m (v k).sent) both i)) [
        | inl said ↦ elim said [
          | inl before ↦ inl before
          | inr now ↦ inr (
            t,
            inl refl,
            now.0,
            subst (λ (told : List Told). IsIn (message_told m) told) (sym turned.tells.told_is)
                (left_in (map message_told turned.done.sent) (turned.tells.given ++ turned.tells.notes) (message_told m) (in_map message_told turned.done.sent m now.1)),
          )
        ]
        | inr later ↦ inr (later.0, inr later.1, later.2, later.3)
      ];
      sent = λ one x i j differs. elim i [
        | inl is ↦
            let here = subst (λ (told : List Told). IsIn x told) (ap (λ (u : ProcessTurn). u.told) is) j in
            let who_is = sym (ap (λ (u : ProcessTurn). u.who) is) in
            elim (told_is turned.done t.told x turned.tells here differs) [
              | inl at ↦ inl (
                at.0,
                subst (λ (k : ℕ). IsIn at.0 (after_node_turns w (ours ++ rest.steps) k).sent) who_is
                    (subst (λ (v : NodeReplicas). IsIn at.0 (v t.who).sent) (sym both) (sent_stays w2 rest.steps t.who at.0 (at_end.here at.0 at.1))),
                at.2,
              )
              | inr given ↦ inr (subst (λ (k : ℕ). IsSentAgain w (ours ++ rest.steps) k x) who_is (record {
                first = ours;
                others = rest.steps;
                steps_are = refl;
                given = subst (λ (n : Node). IsGiven n x) (sym at_end.node) given;
              }))
            ]
        | inr later ↦ elim (rest.sent one x later j differs) [
          | inl got ↦ inl (got.0, subst (λ (v : NodeReplicas). IsIn got.0 (v one.who).sent) (sym both) got.1, got.2)
          | inr again ↦ inr (sent_again_behind w ours rest.steps one.who x again)
        ]
      ];
    }

-- The law -------------------------------------------------------------------------------------------------------------------------

pub processes_agree : NodesAgree → WhatIsResentWasSent → ProcessesAgree
processes_agree agree resent f keys start turns after have =
    let w = new_node_replicas f keys start in
    let track : AllTrack (λ k m. ⊥) w (new_processes f keys start) = record { node = λ k. refl; quiet = λ k. refl; all = λ k m i. i } in
    let got = follow turns (λ k m. ⊥) w (new_processes f keys start) after track have in (
      got.steps,
      record {
        of_turns = got.of_turns;
        nodes = got.nodes;
        told = λ k m i. elim (got.told k m i) [ inl none ↦ absurd none | inr told ↦ told ];
        sent = got.sent;
      },
      λ faulty shared few authentic batches states. agree f keys start faulty got.steps shared few authentic batches states,
      λ faulty others shared authentic t x i j differs correct. elim (got.sent t x i j differs) [
        | inl sent ↦ inl sent
        | inr again ↦ inr (said_before resent f keys start faulty got.steps t.who x others shared authentic correct again)
      ],
    )
