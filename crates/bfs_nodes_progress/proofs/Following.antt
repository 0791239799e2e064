-- By following others, members come to ask for one view.
use Rattle.std.proofs.Common.{◌≡◌, ℕ, zero, suc, ◌+◌, ◌<◌, ◌≤◌, Bool, ◌&&◌, true, false, cond, not, List, [], max, Option, Some, None, option_map, inl, inr, refl, sym, ap, subst, ◌∙◌, arith}
use Rattle.std.specs.Prelude.{nat_le, nat_lt}
use Rattle.std.proofs.lemmas.Bool.{and_from, and_parts, cases_lt, cond_both, le-leb, leb-true, ltb-true, lt-ltb}
use Rattle.bfs_auth.specs.Keys.{Keys}
use Rattle.bfs_model.specs.Server.Limits.{most_number}
use Rattle.bfs_votes.specs.Votes.{count_below, replicas}
use Rattle.bfs_votes.proofs.Public.{more}
use Rattle.bfs_order.specs.declared.error.OrderError.TheVariants.{WrongView}
use Rattle.bfs_agreement.specs.Histories.{World, FewAreFaulty}
use Rattle.bfs_agreement.specs.Moves.{new_world}
use Rattle.bfs_progress.proofs.Public.{apart, differs, one_more}
use Rattle.bfs_node.specs.Changing.{left_for, leaving_refusal, view_to_follow}
use Rattle.bfs_node.specs.Errors.{of_order}
use Rattle.bfs_node.specs.declared.error.NodeError.{NodeError}
use Rattle.bfs_nodes_agree.specs.Orders.Replicas.{OrderReplicas, new_order_replicas}
use Rattle.bfs_nodes_agree.specs.Nodes.Premises.{AreAuthentic}
use Rattle.bfs_nodes_agree.specs.Nodes.Replicas.{Beginning, Keyring, NodeReplica, NodeReplicas, NodeTurn, after_node_turns, new_node_replicas}
use Rattle.bfs_nodes_agree.specs.Nodes.Steps.{LeavesFor, unless}
use Rattle.bfs_nodes_agree.proofs.Public.{here_after, IsBounded}
use Rattle.bfs_nodes_progress.specs.Following.{AreMembers, HaveSupport, SupportIsHeard, asked_by, following, heard, round_of_following, rounds_of_following}
use Rattle.bfs_nodes_progress.specs.Inside.Below.{Below}
use Rattle.bfs_nodes_progress.specs.LawsOfFollowing.{AllAsk, AllFollow, FewAreAhead, FollowsAMember, MayFollow, NoneLags, WhatIsHeardWasAsked, ahead_of}
use Rattle.bfs_nodes_progress.specs.Runs.{IsARun, order_of, reached}
use Rattle.bfs_nodes_progress.proofs.Asked.{left_asks}
use Rattle.bfs_nodes_progress.proofs.Each.{AreOf, authentic_both, each_authentic, each_once}
use Rattle.bfs_nodes_progress.proofs.Hears.{AllHear, all_hear, asked_on, comes_heard, entered_asked, start_hear, still_hears}
use Rattle.bfs_nodes_progress.proofs.Least.{follow_is, some_follow}
use Rattle.bfs_nodes_progress.proofs.Quiet.{same_f}
use Rattle.bfs_nodes_progress.proofs.Reached.{Facts, always, run_on, start_facts}
use Rattle.bfs_nodes_progress.proofs.Rounds.{after_join, authentic_parts}
use Rattle.bfs_view_change.specs.Changes.ViewChanges.{valid_view_change}

own_turns : (k : ℕ) (o : Option ℕ) → AreOf k (following k o)
own_turns k None turn i = absurd i
own_turns k (Some view) turn i = elim i [ inl e ↦ ap (λ (y : NodeTurn). y.who) e | inr none ↦ absurd none ]

follow_authentic : (faulty : ℕ → Bool) (u : NodeReplicas) (k : ℕ) (o : Option ℕ) → AreAuthentic faulty u (following k o)
follow_authentic faulty u k None = tt
follow_authentic faulty u k (Some view) = (tt, tt)

not_out : (b : Bool) → not b ≡ false → b ≡ true
not_out true e = refl
not_out false e = absurd cc

-- Where nodes have come to --------------------------------------------------------------------------------------------

pub record Stand (f : ℕ) (faulty : ℕ → Bool) (w : NodeReplicas) : Type 0 where
  pub orders : OrderReplicas
  pub world : World
  pub facts : Facts f faulty w orders world
  pub hear : AllHear f faulty w

module _ (laws : Below) (f : ℕ) (faulty : ℕ → Bool) (positive : 0 < f) (few : FewAreFaulty f faulty) where
  then_stand : (w : NodeReplicas) → Stand f faulty w → (turns : List NodeTurn) → AreAuthentic faulty w turns → Stand f faulty (after_node_turns w turns)
  then_stand w at turns authentic =
      let led = run_on laws f faulty positive few w at.orders at.world at.facts turns authentic in
      record { orders = led.orders; world = led.world; facts = led.facts; hear = all_hear laws f faulty positive few w at.orders at.world at.facts at.hear turns authentic }

  module _ (members : ℕ → Bool) (are : AreMembers f faulty members) (w : NodeReplicas) (at : Stand f faulty w) where
    own : (k : ℕ) → members k ≡ true → max (order_of w k).view (order_of w k).asked ≡ asked_by w k
    own k in_k = let le = entered_asked laws f faulty positive few w at.orders at.world at.facts k (are.correct k in_k) in omega (arith, le)

    -- who has heard f + 1 ask for later views may follow
    may_by : (these : ℕ → Bool) (k : ℕ) → members k ≡ true → f + 1 ≤ count_below these (replicas f) → ((j : ℕ) → these j ≡ true → asked_by w k < heard (w k).node j) → MayFollow w k
    may_by these k in_k enough hears =
        let node = (w k).node in
        let is_own = own k in_k in
        let is_f = same_f f faulty w at.orders at.world at.facts k in
        let later = λ (j : ℕ). nat_lt (max node.order.view node.order.asked) (heard node j) in
        let all : count_below these (replicas f) ≤ count_below later (replicas f) = more these later (replicas f) (λ j x.
        let lt = hears j x in
        lt-ltb (max node.order.view node.order.asked) (heard node j) (omega (arith, is_own, lt))) in
        some_follow node.changes.asked (max node.order.view node.order.asked) (node.order.f + 1) (replicas f) (omega arith) (omega (arith, enough, all, is_f))

    -- so may one that asks for less
    may_follow : (these : ℕ → Bool) (view k : ℕ) → members k ≡ true → HaveSupport f members these w view → SupportIsHeard members these w view → asked_by w k < view → MayFollow w k
    may_follow these view k in_k support is_heard less = may_by these k in_k support.enough (λ j x. let le = is_heard k j in_k x less in omega (arith, le, less))

    -- who may not has few before it
    few_ahead : (k : ℕ) → members k ≡ true → ((j : ℕ) → members j ≡ true → asked_by w k < asked_by w j → asked_by w k < heard (w k).node j) → view_to_follow (w k).node ≡ None → ahead_of f members w k ≤ f
    few_ahead k in_k hears none =
        let these = λ (j : ℕ). members j && nat_lt (asked_by w k) (asked_by w j) in
        elim (cases_lt f (ahead_of f members w k)) [
          | inl many ↦
              let got = may_by these k in_k (omega (arith, many)) (λ j x.
              let parts = and_parts (members j) (nat_lt (asked_by w k) (asked_by w j)) x in
              hears j parts.0 (ltb-true (asked_by w k) (asked_by w j) parts.1)) in
              absurd (cc (got.1, none))
          | inr le ↦ le
        ]

    -- and nobody follows past all members
    pub by_a_member : (k to : ℕ) → members k ≡ true → view_to_follow (w k).node ≡ Some to → FollowsAMember members w k to
    by_a_member k to in_k is =
        let node = (w k).node in
        let is_own = own k in_k in
        let is_f = same_f f faulty w at.orders at.world at.facts k in
        let later = λ (j : ℕ). nat_lt (max node.order.view node.order.asked) (heard node j) in
        let follows = follow_is node.changes.asked (max node.order.view node.order.asked) (node.order.f + 1) (replicas f) to is in
        let places = (at.hear k).places in
        let many = follows.many (omega (arith, places)) in
        let enough = are.enough in
        let all_of = apart members (replicas f) in
        let got = one_more later (λ j. not (members j)) (replicas f) (omega (arith, many, all_of, enough, is_f)) in
        let j = got.0 in
        let in_j = not_out (members j) got.3 in
        let least = follows.least j (ltb-true (max node.order.view node.order.asked) (heard node j) got.2) in
        let asked = (at.hear k).asked j (are.correct j in_j) in
        let above = follows.above in
        (omega (arith, above, is_own), j, in_j, omega (arith, least, asked))

    -- so it is not refused
    not_refused : (k to : ℕ) → members k ≡ true → view_to_follow (w k).node ≡ Some to → leaving_refusal (w k).node to ≡ None
    not_refused k to in_k is =
        let s = order_of w k in
        let by = by_a_member k to in_k is in
        let is_own = own k in_k in
        let later = by.0 in
        let le = by.3 in
        let bounded : nat_le (asked_by w by.1) most_number ≡ true = subst IsBounded (at.facts.right by.1).tracks.state (at.facts.right by.1).bounded in
        let within = leb-true (asked_by w by.1) most_number bounded in
        ap (λ (b : Bool). option_map of_order (cond (not b) (Some WrongView) None))
        (and_from (nat_lt (max s.view s.asked) to) (nat_le to most_number) (lt-ltb (max s.view s.asked) to (omega (arith, is_own, later))) (le-leb to most_number (omega (arith, le, within))))

    -- Rounds of following -----------------------------------------------------------------------------------------------

    abbrev turns_at : (k : ℕ) → List NodeTurn
    turns_at k = cond (members k) (following k (view_to_follow (w k).node)) []

    at_own : (k : ℕ) → AreOf k (turns_at k)
    at_own k = cond_both (members k) (following k (view_to_follow (w k).node)) [] (AreOf k) (λ _. own_turns k (view_to_follow (w k).node)) (λ _ turn i. absurd i)

    round_authentic : (u : NodeReplicas) (k : ℕ) → AreAuthentic faulty u (turns_at k)
    round_authentic u k = cond_both (members k) (following k (view_to_follow (w k).node)) [] (AreAuthentic faulty u) (λ _. follow_authentic faulty u k (view_to_follow (w k).node)) (λ _. tt)

    abbrev round : List NodeTurn
    round = round_of_following f members w

    abbrev next : NodeReplicas
    next = after_node_turns w round

    -- each that lags has asked for a later view, and none past the one that none has gone past
    asks_next : (these : ℕ → Bool) (view : ℕ) → HaveSupport f members these w view → SupportIsHeard members these w view → ((k : ℕ) → members k ≡ true → asked_by w k ≤ view)
        → (k : ℕ) → members k ≡ true → (asked_by w k ≤ asked_by next k) × (asked_by next k ≤ view) × (asked_by w k < view → asked_by w k < asked_by next k)
    asks_next these view support is_heard most k in_k =
        let node = (w k).node in
        let low = are.among k in_k in
        let is : next k ≡ after_node_turns w (following k (view_to_follow node)) k =
        each_once w turns_at at_own (replicas f) k low ∙ ap (λ (b : Bool). after_node_turns w (cond b (following k (view_to_follow node)) []) k) in_k in
        let asked = ap (λ (r : NodeReplica). r.node.order.asked) is in
        let le = most k in_k in
        (elim (view_to_follow node) as (λ o. view_to_follow node ≡ o → asked_by next k ≡ asked_by (after_node_turns w (following k o)) k
        → (asked_by w k ≤ asked_by next k) × (asked_by next k ≤ view) × (asked_by w k < view → asked_by w k < asked_by next k)) [
          | None ↦ λ e stays. (
            omega (arith, stays),
            omega (arith, stays, le),
            λ less. let got = may_follow these view k in_k support is_heard less in absurd (cc (e, got.1)),
          )
          | Some to ↦ λ e goes.
              let by = by_a_member k to in_k e in
              let later = by.0 in
              let until = by.3 in
              let all = most by.1 by.2 in
              let there : asked_by (after_node_turns w (following k (Some to))) k ≡ to =
              ap (λ (r : NodeReplica). r.node.order.asked) (here_after w (record { who = k; step = LeavesFor to })) ∙ ap (λ (r : Option NodeError). (unless r node (left_for node to)).now.order.asked) (not_refused k to in_k e) ∙ left_asks node to in
              (omega (arith, goes, there, later), omega (arith, goes, there, until, all), λ _. omega (arith, goes, there, later))
        ]) refl asked

  -- so many rounds lead each to the view
  rounds_ask : (members : ℕ → Bool) → AreMembers f faulty members → (these : ℕ → Bool) (view rounds : ℕ) (w : NodeReplicas) → Stand f faulty w → HaveSupport f members these w view → SupportIsHeard members these w view
      → ((k : ℕ) → members k ≡ true → asked_by w k ≤ view) → ((k : ℕ) → members k ≡ true → view ≤ asked_by w k + rounds)
      → AreAuthentic faulty w (rounds_of_following f members w rounds) × ((k : ℕ) → members k ≡ true → asked_by (after_node_turns w (rounds_of_following f members w rounds)) k ≡ view)
  rounds_ask members are these view zero w at support is_heard most least = (tt, λ k in_k. let a = most k in_k in let b = least k in_k in omega (arith, a, b))
  rounds_ask members are these view (suc rounds) w at support is_heard most least =
      let list = round_of_following f members w in
      let authentic = each_authentic faulty (turns_at members are w at) (round_authentic members are w at) (replicas f) w in
      let w1 = after_node_turns w list in
      let asks = asks_next members are w at these view support is_heard most in
      let rest = rounds_ask members are these view rounds w1 (then_stand w at list authentic)
      (record { enough = support.enough; among = support.among; asked = λ k x. let before = support.asked k x in let on = (asks k (support.among k x)).0 in omega (arith, before, on) })
      (λ j k in_j x less.
      let on = (asks j in_j).0 in
      let has = support.asked k x in
      let before = is_heard j k in_j x (omega (arith, less, on)) in
      let other = differs j k (λ e. let same = ap (asked_by w) e in omega (arith, same, has, less, on)) in
      let still = still_hears laws f faulty positive few w at.orders at.world at.facts list authentic j k other in
      omega (arith, before, still))
      (λ k in_k. (asks k in_k).1)
      (λ k in_k.
      let on = (asks k in_k).0 in
      let far = least k in_k in
      elim (cases_lt (asked_by w k) view) [
        | inl less ↦ let lt = (asks k in_k).2 less in omega (arith, lt, far)
        | inr there ↦ omega (arith, there, on)
      ]) in
      let joined = after_join w list (rounds_of_following f members w1 rounds) in
      (authentic_both faulty w list (rounds_of_following f members w1 rounds) authentic rest.0, λ k in_k. subst (λ (x : NodeReplicas). asked_by x k ≡ view) (sym joined) (rest.1 k in_k))

-- The laws ------------------------------------------------------------------------------------------------------------

stand_of : Below → (f : ℕ) (keys : Keyring) (start : Beginning) (faulty : ℕ → Bool) (turns : List NodeTurn) → IsARun f keys start faulty turns → Stand f faulty (reached f keys start turns)
stand_of laws f keys start faulty turns run =
    let begun = new_node_replicas f keys start in
    let facts = start_facts laws f faulty run.others run.few keys start run.shared in
    then_stand laws f faulty run.others run.few begun (record { orders = new_order_replicas f; world = new_world; facts = facts; hear = start_hear laws f faulty run.others run.few keys start }) turns run.authentic

pub what_is_heard_was_asked : Below → WhatIsHeardWasAsked
what_is_heard_was_asked laws f keys start faulty turns run j k correct = ((stand_of laws f keys start faulty turns run).hear j).asked k correct

pub none_lags : Below → NoneLags
none_lags laws f keys start faulty members turns k run are in_k =
    let w = reached f keys start turns in
    let at = stand_of laws f keys start faulty turns run in (
      λ these view support is_heard less. may_follow laws f faulty run.others run.few members are w at these view k in_k support is_heard less,
      λ to is. by_a_member laws f faulty run.others run.few members are w at k to in_k is,
    )

pub few_are_ahead : Below → FewAreAhead
few_are_ahead laws f keys start faulty members turns k run are in_k hears none =
    few_ahead laws f faulty run.others run.few members are (reached f keys start turns) (stand_of laws f keys start faulty turns run) k in_k hears none

pub all_ask : Below → AllAsk
all_ask laws f keys start faulty members these turns view rounds run are support is_heard most least =
    let begun = new_node_replicas f keys start in
    let w = reached f keys start turns in
    let list = rounds_of_following f members w rounds in
    let got = rounds_ask laws f faulty run.others run.few members are these view rounds w (stand_of laws f keys start faulty turns run) support is_heard most least in (
      record { others = run.others; shared = run.shared; few = run.few; authentic = authentic_both faulty begun turns list run.authentic got.0 },
      λ k in_k. subst (λ (x : NodeReplicas). asked_by x k ≡ view) (sym (after_join begun turns list)) (got.1 k in_k),
    )

pub all_follow : Below → AllFollow
all_follow laws f keys start faulty members these turns further view run are support come ended k in_k =
    let begun = new_node_replicas f keys start in
    let w = after_node_turns begun turns in
    let last = after_node_turns w further in
    let joined = after_join begun turns further in
    let parts = authentic_parts faulty begun turns further run.authentic in
    let before : IsARun f keys start faulty turns = record { others = run.others; shared = run.shared; few = run.few; authentic = parts.0 } in
    let at = stand_of laws f keys start faulty turns before in
    let then = then_stand laws f faulty run.others run.few w at further parts.1 in
    let led = always laws f faulty run.others run.few keys start turns run.shared parts.0 in
    let on = asked_on laws f faulty run.others run.few w at.orders at.world at.facts further parts.1 in
    let has : HaveSupport f members these last view = record { enough = support.enough; among = support.among; asked = λ j x. let first = support.asked j x in let later = on j in omega (arith, first, later) } in
    let is_heard : SupportIsHeard members these last view = λ i j in_i x less.
    let asked = has.asked j x in
    let other = differs i j (λ e. let same = ap (asked_by last) e in omega (arith, same, asked, less)) in
    let c = come i j in_i x other in
    elim (comes_heard laws f faulty run.others run.few w at.orders at.world at.facts at.hear further parts.1 i j view (are.correct i in_i) other (are.among j (support.among j x)) (record {
      change = c.change;
      by = c.by;
      for_view = c.for_view;
      valid = subst (λ (y : Keys). valid_view_change y c.change ≡ true) (sym (led.keys i)) c.valid;
      comes = c.comes;
    })) [
      | inl hears ↦ hears
      | inr asks ↦ absurd (omega (arith, asks, less))
    ] in
    subst (λ (x : NodeReplicas). view ≤ asked_by x k) (sym joined) (elim (cases_lt (asked_by last k) view) [
      | inl less ↦
          let got = may_follow laws f faulty run.others run.few members are last then these view k in_k has is_heard less in
          let none = subst (λ (x : NodeReplicas). view_to_follow (x k).node ≡ None) joined (ended k in_k) in
          absurd (cc (got.1, none))
      | inr there ↦ there
    ])
