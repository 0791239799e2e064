-- Members go on by a way, part by part.
use Rattle.std.proofs.Common.{◌≡◌, ℕ, ◌+◌, ◌<◌, ◌≤◌, Bool, true, false, List, ◌++◌, sym, ap, subst, ◌∙◌, append_assoc, arith}
use Rattle.std.specs.Prelude.{is_some}
use Rattle.bfs_model.specs.Server.Limits.{log_size}
use Rattle.bfs_order.specs.Replica.States.{State}
use Rattle.bfs_votes.specs.Votes.{primary}
use Rattle.bfs_nodes_agree.specs.Nodes.Replicas.{Beginning, Keyring, NodeReplicas, NodeTurn, after_node_turns, new_node_replicas}
use Rattle.bfs_nodes_progress.specs.Inside.Below.{Below}
use Rattle.bfs_nodes_progress.specs.Members.{HasRoom}
use Rattle.bfs_nodes_progress.specs.Rounds.{IsRound}
use Rattle.bfs_nodes_progress.specs.Runs.{IsARun, order_of, reached}
use Rattle.bfs_nodes_progress.proofs.Public.{after_join, always, rounds_commit, same_me}
use Rattle.bfs_liveness.specs.Exchanges.{exchange, three_exchanges}
use Rattle.bfs_liveness.specs.Even.{AreEven}
use Rattle.bfs_liveness.specs.LawsOfExecuting.{ExchangesCommit, SomeIsCommitted, SomeIsProposed}
use Rattle.bfs_liveness.specs.Ways.{AreFairTo, IsWay}
use Rattle.bfs_nodes_agree.specs.Nodes.Resending.{WhatIsResentIsFair}
use Rattle.bfs_liveness.proofs.Exchanges.{brings_votes, is_a_round, is_vote, votes_may_come}
use Rattle.bfs_liveness.proofs.Ways.{fair_behind, goes_on, passes_now, ways_join}
use Rattle.bfs_liveness.proofs.Votes.{HaveHeard, after_votes, all_then, heard_itself, told_on}

-- Even members that hear more -----------------------------------------------------------------------------------------

pub even_on : (f : ℕ) (faulty members : ℕ → Bool) (w now : NodeReplicas) (view low : ℕ) → HaveHeard w now → AreEven f faulty members w view low → AreEven f faulty members now view low
even_on f faulty members w now view low heard even = record {
  together = record {
    quorum = even.together.quorum;
    entered = λ k x. ap (λ (s : State). s.view) (heard k).order.1 ∙ even.together.entered k x;
    asked = λ k x. ap (λ (s : State). s.asked) (heard k).order.1 ∙ even.together.asked k x;
  };
  low = λ k x. ap (λ (s : State). s.low) (heard k).order.1 ∙ even.low k x;
  min_s = λ k x. let is = ap (λ (s : State). s.min_s) (heard k).order.1 in let le = even.min_s k x in omega (arith, is, le);
  last = λ k x. let is = ap (λ (s : State). s.last) (heard k).order.1 in let le = even.last k x in omega (arith, is, le);
  live = λ k x. ap is_some (heard k).files ∙ even.live k x;
}

pub room_in : (f : ℕ) (faulty members : ℕ → Bool) (w : NodeReplicas) (view low n : ℕ) → AreEven f faulty members w view low → low < n → n ≤ low + log_size → HasRoom members w n
room_in f faulty members w view low n even above under = record {
  low = λ k x. let is = even.low k x in omega (arith, is, above);
  min_s = λ k x. let le = even.min_s k x in omega (arith, le, above);
  high = λ k x. let is = even.low k x in omega (arith, is, under);
}

pub proposed_on : (f : ℕ) (w now : NodeReplicas) (view n : ℕ) → HaveHeard w now → SomeIsProposed f w view n → SomeIsProposed f now view n
proposed_on f w now view n heard some = (some.0, told_on (order_of w (primary f view)) (order_of now (primary f view)) (heard (primary f view)).order 2 (primary f view) view n some.0 some.1)

-- One exchange ----------------------------------------------------------------------------------------------------------

module _ (laws : Below) (again : WhatIsResentIsFair) (f : ℕ) (keys : Keyring) (start : Beginning) (faulty members : ℕ → Bool) where
  -- a run in which members hear one another
  pub record Goes (turns : List NodeTurn) : Type 0 where
    pub run : IsARun f keys start faulty turns
    pub fair : AreFairTo f keys start faulty members turns

  pub goes_by : (turns way : List NodeTurn) → ((k : ℕ) → members k ≡ true → faulty k ≡ false) → Goes turns → IsWay members (reached f keys start turns) way → Goes (turns ++ way)
  goes_by turns way correct goes is =
      record { run = goes_on laws again f keys start faulty members correct turns way goes.run goes.fair is; fair = fair_behind f keys start members faulty turns way goes.fair is }

  -- an exchange among even members is a way, and a round for each number of their window
  record IsExchanged (done : List NodeTurn) (w : NodeReplicas) (view low : ℕ) : Type 0 where
    way : IsWay members w (exchange f members w)
    there : reached f keys start (done ++ exchange f members w) ≡ after_node_turns w (exchange f members w)
    heard : HaveHeard w (after_node_turns w (exchange f members w))
    even : AreEven f faulty members (after_node_turns w (exchange f members w)) view low
    rounds : (n : ℕ) → low < n → n ≤ low + log_size → IsRound members w n (exchange f members w)

  exchanged_here : (done : List NodeTurn) (view low : ℕ) → Goes done → AreEven f faulty members (reached f keys start done) view low → IsExchanged done (reached f keys start done) view low
  exchanged_here done view low goes even =
      let w = reached f keys start done in
      let round = exchange f members w in
      let quorum = even.together.quorum in
      let run = goes.run in
      let pass = passes_now f keys start members faulty done goes.fair in
      let brings = brings_votes f members w in
      let asked : (k : ℕ) → members k ≡ true → (order_of w k).asked ≤ (order_of w k).view = λ k x. let a = even.together.asked k x in let v = even.together.entered k x in omega (arith, a, v) in
      let led = always laws f faulty run.others run.few keys start done run.shared run.authentic in
      let heard = after_votes round (λ turn i. is_vote members w turn (brings turn i)) w in
      record {
        way = votes_may_come members w asked round brings w (λ k. heard_itself (w k));
        there = after_join (new_node_replicas f keys start) done round;
        heard = heard;
        even = even_on f faulty members w (after_node_turns w round) view low heard even;
        rounds = λ n above under.
            let room = room_in f faulty members w view low n even above under in
            is_a_round f members w n quorum.among room.low room.high
            (λ i j m in_i in_j there sender. pass.votes i j m in_i in_j there (sender ∙ same_me f faulty w led.orders led.world led.facts i));
      }

  exchanged : (done : List NodeTurn) (w : NodeReplicas) (view low : ℕ) → Goes done → reached f keys start done ≡ w → AreEven f faulty members w view low → IsExchanged done w view low
  exchanged done w view low goes at = subst (λ (x : NodeReplicas). AreEven f faulty members x view low → IsExchanged done x view low) at (exchanged_here done view low goes)

  -- Three of them -----------------------------------------------------------------------------------------------------

  -- three are a way, behind which members have heard all
  pub record HaveExchanged (done : List NodeTurn) (low : ℕ) : Type 0 where
    pub way : IsWay members (reached f keys start done) (three_exchanges f members (reached f keys start done))
    pub heard : HaveHeard (reached f keys start done) (reached f keys start (done ++ three_exchanges f members (reached f keys start done)))
    pub first : (n : ℕ) → low < n → n ≤ low + log_size → IsRound members (reached f keys start done) n (exchange f members (reached f keys start done))
    pub second : (n : ℕ) → low < n → n ≤ low + log_size
        → IsRound members (reached f keys start (done ++ exchange f members (reached f keys start done))) n (exchange f members (after_node_turns (reached f keys start done) (exchange f members (reached f keys start done))))
    pub third : (n : ℕ) → low < n → n ≤ low + log_size
        → let w = reached f keys start done in
        let one = exchange f members w in
        let w1 = after_node_turns w one in
        let two = exchange f members w1 in
        IsRound members (reached f keys start ((done ++ one) ++ two)) n (exchange f members (after_node_turns w1 two))

  pub thrice : (done : List NodeTurn) (view low : ℕ) → Goes done → AreEven f faulty members (reached f keys start done) view low → HaveExchanged done low
  thrice done view low goes even =
      let correct = even.together.quorum.correct in
      let w = reached f keys start done in
      let one = exchange f members w in
      let w1 = after_node_turns w one in
      let two = exchange f members w1 in
      let w2 = after_node_turns w1 two in
      let three = exchange f members w2 in
      let first = exchanged_here done view low goes even in
      let goes1 = goes_by done one correct goes first.way in
      let second = exchanged (done ++ one) w1 view low goes1 first.there first.even in
      let goes2 = goes_by (done ++ one) two correct goes1 (subst (λ (x : NodeReplicas). IsWay members x two) (sym first.there) second.way) in
      let third = exchanged ((done ++ one) ++ two) w2 view low goes2 second.there second.even in
      let there : reached f keys start (done ++ (one ++ (two ++ three))) ≡ after_node_turns w2 three =
      ap (after_node_turns (new_node_replicas f keys start)) (sym (append_assoc (done ++ one) two three ∙ append_assoc done one (two ++ three))) ∙ third.there in
      record {
        way = ways_join members w one (two ++ three) first.way (ways_join members w1 two three second.way third.way);
        heard = subst (HaveHeard w) (sym there) (all_then w w2 (after_node_turns w2 three) (all_then w w1 w2 first.heard second.heard) third.heard);
        first = first.rounds;
        second = λ n above under. subst (λ (x : NodeReplicas). IsRound members x n two) (sym first.there) (second.rounds n above under);
        third = λ n above under. subst (λ (x : NodeReplicas). IsRound members x n three) (sym second.there) (third.rounds n above under);
      }

  pub commits : (done : List NodeTurn) (view low : ℕ) → Goes done → AreEven f faulty members (reached f keys start done) view low → HaveExchanged done low
      → (n : ℕ) → low < n → n ≤ low + log_size → SomeIsProposed f (reached f keys start done) view n
      → SomeIsCommitted members (reached f keys start (done ++ three_exchanges f members (reached f keys start done))) view n
  commits done view low goes even have n above under some =
      let w = reached f keys start done in
      let end = reached f keys start (done ++ three_exchanges f members w) in
      let one = exchange f members w in
      let w1 = after_node_turns w one in
      let two = exchange f members w1 in
      let then = even_on f faulty members w end view low have.heard even in
      let all = goes_by done (three_exchanges f members w) even.together.quorum.correct goes have.way in (
        some.0,
        rounds_commit laws f keys start faulty members done one two (exchange f members (after_node_turns w1 two)) view n some.0 all.run even.together then.together
            (room_in f faulty members w view low n even above under) (room_in f faulty members end view low n then above under) some.1
            (have.first n above under) (have.second n above under) (have.third n above under),
      )

pub exchanges_commit : Below → WhatIsResentIsFair → ExchangesCommit
exchanges_commit laws again f keys start faulty members turns view low run fair even =
    let goes : Goes laws again f keys start faulty members turns = record { run = run; fair = fair } in
    let have = thrice laws again f keys start faulty members turns view low goes even in
    let w = reached f keys start turns in
    let way = three_exchanges f members w in (
      have.way,
      (goes_by laws again f keys start faulty members turns way even.together.quorum.correct goes have.way).run,
      even_on f faulty members w (reached f keys start (turns ++ way)) view low have.heard even,
      commits laws again f keys start faulty members turns view low goes even have,
    )
