-- Members leave for a view, its primary begins it, and the others enter it.
use Rattle.std.proofs.Common.{◌≡◌, ℕ, zero, suc, ◌<◌, ◌≤◌, ◌==◌, Bool, true, false, cond, ◌&&◌, not, List, [], ◌∷◌, ◌++◌, Option, Some, None, inl, inr, refl, sym, ap, subst, ◌∙◌, arith}
use Rattle.std.proofs.lemmas.Bool.{and_from, and_parts, cases_Bool, cond_both, eqb-false, eqb-true}
use Rattle.bfs_auth.specs.Keys.{Keys}
use Rattle.bfs_model.specs.Server.Limits.{most_number}
use Rattle.bfs_messages.specs.Messages as model
use Rattle.bfs_messages.specs.Signing.{as_message}
use Rattle.bfs_messages.specs.declared.message.Message.TheVariants.{NewView, ViewChange}
use Rattle.bfs_messages.specs.declared.signed.Signed.{Signed}
use Rattle.bfs_votes.specs.Votes.{primary, replicas}
use Rattle.bfs_votes.proofs.Public.{none_below}
use Rattle.bfs_order.specs.declared.resending.Lag.{Lag}
use Rattle.bfs_view_change.specs.Changes.NewViews.{new_view_refusal}
use Rattle.bfs_agreement.specs.Histories.{IsIn}
use Rattle.bfs_progress.specs.Members.{IsQuorum}
use Rattle.bfs_progress.proofs.Public.{differs, one_more}
use Rattle.bfs_node.specs.Changing.{leads}
use Rattle.bfs_node.specs.Resending.{resent}
use Rattle.bfs_nodes_agree.specs.Nodes.Replicas.{Beginning, Keyring, NodeReplica, NodeReplicas, NodeTurn, after_node_step, after_node_turn, after_node_turns, new_node_replicas}
use Rattle.bfs_nodes_agree.specs.Nodes.Resending.{WhatIsResentIsFair}
use Rattle.bfs_nodes_agree.specs.Nodes.Steps.{LeavesFor, Takes, outcome}
use Rattle.bfs_nodes_agree.proofs.Public.{both_at, here_after, right_in, some_is}
use Rattle.bfs_nodes_progress.specs.Begun.{AllAsk, ChangesCome}
use Rattle.bfs_nodes_progress.specs.Following.{AreMembers, asked_by, each_takes}
use Rattle.bfs_nodes_progress.specs.Giving.{GivesChange, GivesNewView}
use Rattle.bfs_nodes_progress.specs.Inside.Below.{Below}
use Rattle.bfs_nodes_progress.specs.Members.{AreTogether}
use Rattle.bfs_nodes_progress.specs.Runs.{IsARun, order_of, reached}
use Rattle.bfs_nodes_progress.proofs.Public.{AreOf, after_join, always, changes_are_given, each_once, entered_asked, new_views_are_given, same_f, same_me, views_are_begun}
use Rattle.bfs_liveness.specs.LawsOfMeeting.{MembersMeet, MembersMeetIn}
use Rattle.bfs_liveness.specs.Meeting.{KeepsWork, MayMeetIn, Meets, all_enter, all_leave, all_tell, of_others, taking_change, taking_view}
use Rattle.bfs_liveness.specs.Ways.{AllSignIn, AreFairTo, GivesPass, IsWay, views_of}
use Rattle.bfs_liveness.proofs.Kept.{by_step, most_views}
use Rattle.bfs_liveness.proofs.Leading.{a_member_leads, latest_among}
use Rattle.bfs_liveness.proofs.Lists.{in_each, in_where, out_of_each, out_of_where}
use Rattle.bfs_liveness.proofs.Turns.{Rests, given_way, kept_by, stays}
use Rattle.bfs_liveness.proofs.Ways.{goes_on, ways_join}
use Rattle.bfs_liveness.proofs.Work.{HasEntered, HasLeft, Waits, enters, leaves, takes_waits, waits_both, waits_itself, work_both, work_itself}

-- Turns of each but one -----------------------------------------------------------------------------------------------

is_other : (b : Bool) → not b ≡ true → b ≡ false
is_other false e = refl
is_other true e = absurd cc

module _ (f : ℕ) (members : ℕ → Bool) (who : ℕ) (turns : ℕ → List NodeTurn) where
  out_of_others : (turn : NodeTurn) → IsIn turn (of_others f members who turns) → (k : ℕ) × (members k ≡ true) × ((k == who) ≡ false) × IsIn turn (turns k)
  out_of_others turn i =
      let got = out_of_each (λ k. cond (members k && not (k == who)) (turns k) []) (replicas f) turn i in
      let k = got.0 in
      let here = out_of_where (members k && not (k == who)) (turns k) turn got.2 in
      let parts = and_parts (members k) (not (k == who)) here.0 in
      (k, parts.0, is_other (k == who) parts.1, here.1)

  is_one : (k : ℕ) → members k ≡ true → (k == who) ≡ false → (members k && not (k == who)) ≡ true
  is_one k member other = and_from (members k) (not (k == who)) member (ap not other)

  in_others : (turn : NodeTurn) (k : ℕ) → k < replicas f → members k ≡ true → (k == who) ≡ false → IsIn turn (turns k) → IsIn turn (of_others f members who turns)
  in_others turn k low member other i =
      in_each (λ k. cond (members k && not (k == who)) (turns k) []) (replicas f) k turn low (in_where (members k && not (k == who)) (turns k) turn (is_one k member other) i)

change_taken : (who : ℕ) (o : Option (Signed model.ViewChange)) (turn : NodeTurn) → IsIn turn (taking_change who o)
    → (change : Signed model.ViewChange) × (o ≡ Some change) × (turn ≡ record { who = who; step = Takes (as_message ViewChange change) })
change_taken who None turn i = absurd i
change_taken who (Some change) turn i = elim i [ inl same ↦ (change, refl, same) | inr none ↦ absurd none ]

view_taken : (who : ℕ) (o : Option (Signed model.NewView)) (turn : NodeTurn) → IsIn turn (taking_view who o)
    → (new : Signed model.NewView) × (o ≡ Some new) × (turn ≡ record { who = who; step = Takes (as_message NewView new) })
view_taken who None turn i = absurd i
view_taken who (Some new) turn i = elim i [ inl same ↦ (new, refl, same) | inr none ↦ absurd none ]

-- one that has come nowhere
abbrev nowhere : Lag
nowhere = record { view = 0; last = 0; stable = 0 }

-- The way -------------------------------------------------------------------------------------------------------------

module _ (laws : Below) (again : WhatIsResentIsFair) (f : ℕ) (keys : Keyring) (start : Beginning) (faulty members : ℕ → Bool) (turns : List NodeTurn) (view : ℕ)
    (run : IsARun f keys start faulty turns) (are : AreMembers f faulty members) (fair : AreFairTo f keys start faulty members turns) (may : MayMeetIn f members (reached f keys start turns) view) where
  abbrev first : NodeReplicas
  first = new_node_replicas f keys start

  abbrev p : ℕ
  p = primary f view

  abbrev w : NodeReplicas
  w = reached f keys start turns

  abbrev one : List NodeTurn
  one = all_leave f members view

  abbrev w1 : NodeReplicas
  w1 = after_node_turns w one

  abbrev two : List NodeTurn
  two = all_tell f members w1 view

  abbrev w2 : NodeReplicas
  w2 = after_node_turns w1 two

  abbrev three : List NodeTurn
  three = all_enter f members view (w2 p).node.new_view

  abbrev w3 : NodeReplicas
  w3 = after_node_turns w2 three

  way_runs : (way : List NodeTurn) → IsWay members w way → IsARun f keys start faulty (turns ++ way)
  way_runs way is = goes_on laws again f keys start faulty members are.correct turns way run fair is

  -- Each leaves -------------------------------------------------------------------------------------------------------

  abbrev leaving : (k : ℕ) → List NodeTurn
  leaving k = cond (members k) (record { who = k; step = LeavesFor view } ∷ []) []

  leaving_own : (k : ℕ) → AreOf k (leaving k)
  leaving_own k = cond_both (members k) (record { who = k; step = LeavesFor view } ∷ []) [] (AreOf k)
      (λ _ turn i. elim i [ inl e ↦ ap (λ (y : NodeTurn). y.who) e | inr none ↦ absurd none ]) (λ _ turn i. absurd i)

  -- all can sign in it, whoever has left
  still_sign : (u : NodeReplicas) (k : ℕ) → AllSignIn members u view → AllSignIn members (after_node_turn u (record { who = k; step = LeavesFor view })) view
  still_sign u k all = both_at u (record { who = k; step = LeavesFor view }) (λ j r. members j ≡ true → view < views_of r.node.keys.signer)
      (λ member. subst (λ (x : Keys). view < views_of x.signer) (sym (by_step (u k).node (LeavesFor view)).keys) (all k member)) all

  leaving_way : (bound : ℕ) (u : NodeReplicas) → AllSignIn members u view → IsWay members u (each_takes leaving bound)
  leaving_way zero u all = tt
  leaving_way (suc b) u all =
      let first = cond_both (members b) (record { who = b; step = LeavesFor view } ∷ []) [] (λ (x : List NodeTurn). IsWay members u x × AllSignIn members (after_node_turns u x) view)
      (λ is. ((is, all, tt), still_sign u b all)) (λ _. (tt, all)) in
      ways_join members u (leaving b) (each_takes leaving b) first.0 (leaving_way b (after_node_turns u (leaving b)) first.1)

  one_way : IsWay members w one
  one_way = leaving_way (replicas f) w may.signed

  number : view ≤ most_number
  number =
      let low = may.signed p may.leads in
      let most = most_views (w p).node.keys.signer in
      omega (arith, low, most)

  has_left : (k : ℕ) → members k ≡ true → HasLeft view (w k).node (w1 k).node
  has_left k member =
      let led = always laws f faulty run.others run.few keys start turns run.shared run.authentic in
      let entered = entered_asked laws f faulty run.others run.few w led.orders led.world led.facts k (are.correct k member) in
      let later = may.later k member in
      let is : w1 k ≡ after_node_turns w (leaving k) k = each_once w leaving leaving_own (replicas f) k (are.among k member) in
      let takes : after_node_turns w (leaving k) k ≡ after_node_step (w k) (LeavesFor view) =
      ap (λ (b : Bool). after_node_turns w (cond b (record { who = k; step = LeavesFor view } ∷ []) []) k) member ∙ here_after w (record { who = k; step = LeavesFor view }) in
      subst (λ (r : NodeReplica). HasLeft view (w k).node r.node) (sym (is ∙ takes)) (leaves (w k).node view (omega (arith, entered, later)) (omega (arith, later)) number)

  -- none has entered it but its primary
  before : (k : ℕ) → members k ≡ true → (k == p) ≡ false → (order_of w1 k).view < view
  before k member other =
      let led = always laws f faulty run.others run.few keys start turns run.shared run.authentic in
      let me = same_me f faulty w led.orders led.world led.facts k in
      let is_f = same_f f faulty w led.orders led.world led.facts k in
      let follows : leads (w k).node view ≡ false = subst (λ (g : ℕ). ((order_of w k).me == primary g view) ≡ false) (sym is_f) (subst (λ (j : ℕ). (j == p) ≡ false) (sym me) other) in
      let still = (has_left k member).before follows in
      let entered = entered_asked laws f faulty run.others run.few w led.orders led.world led.facts k (are.correct k member) in
      let later = may.later k member in
      omega (arith, still, entered, later)

  -- Their VIEW-CHANGEs come -------------------------------------------------------------------------------------------

  one_run : IsARun f keys start faulty (turns ++ one)
  one_run = way_runs one one_way

  at_one : reached f keys start (turns ++ one) ≡ w1
  at_one = after_join first turns one

  gives_change : (k : ℕ) → members k ≡ true → (k == p) ≡ false → GivesChange (w1 k).node
  gives_change k member other =
      let early = before k member other in
      let asked = (has_left k member).asked in
      let leaving : (order_of w1 k).view < (order_of w1 k).asked = omega (arith, early, asked) in
      subst (λ (x : NodeReplicas). GivesChange (x k).node) at_one
      (changes_are_given laws f keys start faulty (turns ++ one) k one_run (subst (λ (x : NodeReplicas). (order_of x k).view < (order_of x k).asked) (sym at_one) leaving))

  abbrev telling : (k : ℕ) → List NodeTurn
  telling k = taking_change p (w1 k).node.changes.own

  by_primary : (turn : NodeTurn) → IsIn turn two → turn.who ≡ p
  by_primary turn i =
      let got = out_of_others f members p telling turn i in
      let took = change_taken p (w1 got.0).node.changes.own turn got.3 in
      ap (λ (y : NodeTurn). y.who) took.2

  others_rest : (k : ℕ) → (k == p) ≡ false → Rests k two
  others_rest k other turn i = subst (λ (j : ℕ). (k == j) ≡ false) (sym (by_primary turn i)) other

  two_way : IsWay members w1 two
  two_way = given_way members two w1 (λ turn i.
      let got = out_of_others f members p telling turn i in
      let k = got.0 in
      let took = change_taken p (w1 k).node.changes.own turn got.3 in
      let given = gives_change k got.1 got.2 in
      let same : given.change ≡ took.0 = some_is given.change took.0 (sym given.kept ∙ took.1) in
      record {
        to = subst (λ (y : NodeTurn). members y.who ≡ true) (sym took.2) may.leads;
        message = as_message ViewChange took.0;
        step = ap (λ (y : NodeTurn). y.step) took.2;
        from = k;
        member = got.1;
        gives = inr (nowhere, subst (λ (c : Signed model.ViewChange). IsIn (as_message ViewChange c) (resent (w1 k).node nowhere)) same (given.given nowhere));
        rests = others_rest k got.2;
      })

  waits : (k : ℕ) → Waits (w1 k).node (w2 k).node
  waits k = kept_by (Waits (w1 k).node) two (λ turn i node is.
      let got = out_of_others f members p telling turn i in
      let took = change_taken p (w1 got.0).node.changes.own turn got.3 in
      waits_both (w1 k).node node (outcome node turn.step).now is (subst (λ (y : NodeTurn). Waits node (outcome node y.step).now) (sym took.2) (takes_waits node took.0))) w1 k (waits_itself (w1 k).node)

  asks : (k : ℕ) → members k ≡ true → (order_of w2 k).asked ≡ view
  asks k member = (waits k).asked ∙ (has_left k member).asked

  -- The primary has begun the view ------------------------------------------------------------------------------------

  both_way : IsWay members w (one ++ two)
  both_way = ways_join members w one two one_way two_way

  both_run : IsARun f keys start faulty (turns ++ (one ++ two))
  both_run = way_runs (one ++ two) both_way

  at_two : reached f keys start (turns ++ (one ++ two)) ≡ w2
  at_two = after_join first turns (one ++ two) ∙ after_join w one two

  quorum : IsQuorum f faulty members view
  quorum = record { enough = are.enough; correct = are.correct; among = are.among; leads = may.leads }

  changes_come : ChangesCome f keys members view (turns ++ (one ++ two))
  changes_come k member other =
      let given = gives_change k member other in
      let change = given.change in
      let led = always laws f faulty run.others run.few keys start (turns ++ one) one_run.shared one_run.authentic in
      let me : (order_of w1 k).me ≡ k = subst (λ (x : NodeReplicas). (order_of x k).me ≡ k) at_one (same_me f faulty (reached f keys start (turns ++ one)) led.orders led.world led.facts k) in
      let passes = subst (GivesPass f keys members) at_one (fair.passes one one_way) in
      let turn : NodeTurn = record { who = p; step = Takes (as_message ViewChange change) } in
      let taken : IsIn turn (telling k) = subst (λ (o : Option (Signed model.ViewChange)). IsIn turn (taking_change p o)) (sym given.kept) (inl refl) in
      record {
        change = change;
        from = given.from ∙ me;
        for_view = given.for_view ∙ (has_left k member).asked;
        valid = passes.changes k p change member may.leads given.kept;
        comes = record {
          turn = turn;
          among = right_in turns (one ++ two) turn (right_in one two turn (in_others f members p telling turn k (are.among k member) member other taken));
          to = refl;
          brings = refl;
        };
      }

  begun : (order_of w2 p).view ≡ view
  begun =
      let all : AllAsk members (reached f keys start (turns ++ (one ++ two))) view = λ k member. subst (λ (x : NodeReplicas). (order_of x k).asked ≡ view) (sym at_two) (asks k member) in
      subst (λ (x : NodeReplicas). (order_of x p).view ≡ view) at_two (views_are_begun laws f keys start faulty members (turns ++ (one ++ two)) view both_run quorum all changes_come)

  -- The others enter it -----------------------------------------------------------------------------------------------

  gives_view : GivesNewView f faulty w2 p
  gives_view =
      let later = may.later p may.leads in
      subst (λ (x : NodeReplicas). GivesNewView f faulty x p) at_two
      (new_views_are_given laws f keys start faulty (turns ++ (one ++ two)) p both_run (subst (λ (x : NodeReplicas). 0 < (order_of x p).view) (sym at_two) (omega (arith, later, begun))))

  abbrev entering : (k : ℕ) → List NodeTurn
  entering k = taking_view k (w2 p).node.new_view

  primary_rests : Rests p three
  primary_rests turn i =
      let got = out_of_others f members p entering turn i in
      let took = view_taken got.0 (w2 p).node.new_view turn got.3 in
      let who : turn.who ≡ got.0 = ap (λ (y : NodeTurn). y.who) took.2 in
      differs p turn.who (λ same. eqb-false got.0 p got.2 (sym (same ∙ who)))

  three_way : IsWay members w2 three
  three_way = given_way members three w2 (λ turn i.
      let got = out_of_others f members p entering turn i in
      let took = view_taken got.0 (w2 p).node.new_view turn got.3 in
      let given = gives_view in
      let same : given.new ≡ took.0 = some_is given.new took.0 (sym given.kept ∙ took.1) in
      let later = may.later p may.leads in
      record {
        to = subst (λ (y : NodeTurn). members y.who ≡ true) (sym took.2) got.1;
        message = as_message NewView took.0;
        step = ap (λ (y : NodeTurn). y.step) took.2;
        from = p;
        member = may.leads;
        gives = inr (nowhere, subst (λ (c : Signed model.NewView). IsIn (as_message NewView c) (resent (w2 p).node nowhere)) same (given.given nowhere (omega (arith, later, begun))));
        rests = primary_rests;
      })

  entering_own : (k : ℕ) → AreOf k (cond (members k && not (k == p)) (entering k) [])
  entering_own k = cond_both (members k && not (k == p)) (entering k) [] (AreOf k)
      (λ _ turn i. let took = view_taken k (w2 p).node.new_view turn i in ap (λ (y : NodeTurn). y.who) took.2) (λ _ turn i. absurd i)

  -- the NEW-VIEW is right for each
  right_for : (k : ℕ) → members k ≡ true → new_view_refusal (w2 k).node.keys gives_view.new ≡ None
  right_for k member =
      let given = gives_view in
      let shared = run.shared k in
      let led = always laws f faulty run.others run.few keys start (turns ++ (one ++ two)) both_run.shared both_run.authentic in
      let same : (w2 k).node.keys ≡ keys k = subst (λ (x : NodeReplicas). (x k).node.keys ≡ keys k) at_two (led.keys k) in
      let passes = subst (GivesPass f keys members) at_two (fair.passes (one ++ two) both_way) in
      subst (λ (x : Keys). new_view_refusal x given.new ≡ None) (sym same) (given.right (keys k) (omega (arith, shared)) (passes.new_views p k given.new may.leads member given.kept))

  has_entered : (k : ℕ) → members k ≡ true → (k == p) ≡ false → HasEntered view (w2 k).node (w3 k).node
  has_entered k member other =
      let given = gives_view in
      let new = given.new in
      let of_view : new.message.view ≡ view = given.of_view ∙ begun in
      let turn : NodeTurn = record { who = k; step = Takes (as_message NewView new) } in
      let is = each_once w2 (λ k. cond (members k && not (k == p)) (entering k) []) entering_own (replicas f) k (are.among k member) in
      let takes : after_node_turns w2 (cond (members k && not (k == p)) (entering k) []) k ≡ after_node_step (w2 k) (Takes (as_message NewView new)) =
      ap (λ (b : Bool). after_node_turns w2 (cond b (entering k) []) k) (is_one f members p entering k member other)
      ∙ ap (λ (o : Option (Signed model.NewView)). after_node_turns w2 (taking_view k o) k) given.kept
      ∙ here_after w2 turn in
      let early = before k member other in
      let still = ap (λ (r : NodeReplica). r.node.order.view) (stays two w1 k (others_rest k other)) in
      let asked = asks k member in
      subst (λ (r : NodeReplica). HasEntered view (w2 k).node r.node) (sym (is ∙ takes))
      (subst (λ (v : ℕ). HasEntered v (w2 k).node (outcome (w2 k).node (Takes (as_message NewView new))).now) of_view
      (enters (w2 k).node new (right_for k member) (omega (arith, early, still, of_view)) (omega (arith, asked, of_view)) (omega (arith, number, of_view))))

  -- They are together -------------------------------------------------------------------------------------------------

  comes_in : (k : ℕ) → members k ≡ true → HasEntered view (w2 k).node (w3 k).node
  comes_in k member = elim (cases_Bool (k == p)) [
    | inl leads ↦
        let at_p : HasEntered view (w2 p).node (w3 p).node = subst (λ (r : NodeReplica). HasEntered view (w2 p).node r.node) (sym (stays three w2 p primary_rests))
        (record { work = work_itself (w2 p).node; view_is = begun; asked = asks p may.leads }) in
        subst (λ (j : ℕ). HasEntered view (w2 j).node (w3 j).node) (sym (eqb-true k p leads)) at_p
    | inr other ↦ has_entered k member other
  ]

  at_three : reached f keys start (turns ++ (one ++ (two ++ three))) ≡ w3
  at_three = after_join first turns (one ++ (two ++ three)) ∙ after_join w one (two ++ three) ∙ after_join w1 two three

  whole_way : IsWay members w (one ++ (two ++ three))
  whole_way = ways_join members w one (two ++ three) one_way (ways_join members w1 two three two_way three_way)

  meets : Meets f keys start faulty members turns (one ++ (two ++ three)) view
  meets = record {
    is_way = whole_way;
    run = way_runs (one ++ (two ++ three)) whole_way;
    together = subst (λ (x : NodeReplicas). AreTogether f faulty members x view) (sym at_three)
        (record { quorum = quorum; entered = λ k member. (comes_in k member).view_is; asked = λ k member. (comes_in k member).asked });
    work = λ k member. subst (λ (x : NodeReplicas). KeepsWork (w k).node (x k).node) (sym at_three)
        (work_both (w k).node (w1 k).node (w3 k).node (has_left k member).work (work_both (w1 k).node (w2 k).node (w3 k).node (waits k).work (comes_in k member).work));
  }

pub members_meet_in : Below → WhatIsResentIsFair → MembersMeetIn
members_meet_in laws again f keys start faulty members turns view run are fair may = meets laws again f keys start faulty members turns view run are fair may

pub members_meet : Below → WhatIsResentIsFair → MembersMeet
members_meet laws again f keys start faulty members turns run are fair views =
    let w = reached f keys start turns in
    let enough = are.enough in
    let none = none_below (λ (k : ℕ). false) (replicas f) (λ k. refl) in
    let some = one_more members (λ k. false) (replicas f) (omega (arith, enough, none)) in
    let latest = latest_among (asked_by w) members (replicas f) some.0 some.2 in
    let chosen = a_member_leads f faulty members (asked_by w latest.0) are in
    let above = chosen.1 in
    let near = chosen.2 in (
      chosen.0,
      latest.0,
      latest.1,
      near,
      members_meet_in laws again f keys start faulty members turns chosen.0 run are fair (record {
        leads = chosen.3;
        later = λ k member. let le = latest.2 k (are.among k member) member in omega (arith, le, above);
        signed = λ k member. let there = views latest.0 k latest.1 member in omega (arith, near, there);
      }),
    )
