-- Three rounds, whatever else comes: what the primary has proposed is committed then.
use Rattle.std.proofs.Common.{◌≡◌, ℕ, ◌<◌, ◌==◌, Bool, true, false, ◌&&◌, not, List, [], ◌∷◌, ◌++◌, Option, Some, inl, inr, refl, sym, ap, subst, ◌∙◌, arith}
use Rattle.std.specs.Prelude.{find, nat_lt, option_to_list}
use Rattle.std.specs.List.{list_any}
use Rattle.std.proofs.lemmas.Bool.{cases_Bool, cond_both, eqb-false, eqb-true, eq-eqb, or_cases}
use Rattle.bfs_votes.specs.Votes.{Header, is_slot, has_slot, Told, primary, replicas}
use Rattle.bfs_log.specs.Headers.{header}
use Rattle.bfs_log.specs.Logs.{Log, headers, message_at}
use Rattle.bfs_auth.specs.Keys.{Keys}
use Rattle.bfs_messages.specs.Signing.{as_message, carried_are_signed, order_is_signed}
use Rattle.bfs_messages.specs.declared.signed.Signed.{Signed}
use Rattle.bfs_messages.specs.declared.message.Message.TheVariants.{Order}
use Rattle.bfs_messages.specs.declared.order_messages.OrderMessage.{OrderMessage}
use Rattle.bfs_order.specs.Replica.Accepting.{on_message}
use Rattle.bfs_order.specs.Replica.Resending.{own_message, own_votes}
use Rattle.bfs_order.specs.Replica.States.{State, known}
use Rattle.bfs_agreement.specs.Histories.{IsIn, World, FewAreFaulty}
use Rattle.bfs_agreement.proofs.Public.{Is, in_told, moved, one_digest}
use Rattle.bfs_progress.proofs.Public.{AreOpen, in_three, open_between, then_later, told_slot}
use Rattle.bfs_node.specs.Nodes.{Node}
use Rattle.bfs_nodes_agree.specs.Orders.Replicas.{OrderReplicas}
use Rattle.bfs_nodes_agree.specs.Nodes.Premises.{AreAuthentic}
use Rattle.bfs_nodes_agree.specs.Nodes.Replicas.{NodeReplica, NodeReplicas, NodeTurn, after_node_turn, after_node_turns, new_node_replicas}
use Rattle.bfs_nodes_agree.proofs.Public.{found, here_after, in_map, left_in, right_in, slot_is}
use Rattle.bfs_nodes_progress.specs.Inside.Below.{Below}
use Rattle.bfs_nodes_progress.specs.Laws.{RoundsCommit}
use Rattle.bfs_nodes_progress.specs.Members.{AreTogether, HasRoom, IsCommitted}
use Rattle.bfs_nodes_progress.specs.Rounds.{Brings, ComesTo, IsRound, passes}
use Rattle.bfs_nodes_progress.specs.Runs.{order_of}
use Rattle.bfs_nodes_progress.proofs.Quiet.{asked_there, committed_here, low_there, min_s_there, room_there, same_f, same_me, together_there, view_there}
use Rattle.bfs_nodes_progress.proofs.Reached.{Facts, always, responds, run_on, step_on, told_here, told_world}
use Rattle.bfs_nodes_progress.proofs.Taking.{MayStand, brings_order, taken_told}

-- Turns one behind another ------------------------------------------------------------------------------------------------

pub after_join : (w : NodeReplicas) (xs ys : List NodeTurn) → after_node_turns w (xs ++ ys) ≡ after_node_turns (after_node_turns w xs) ys
after_join w [] ys = refl
after_join w (x ∷ xs) ys = after_join (after_node_turn w x) xs ys

pub authentic_parts : (faulty : ℕ → Bool) (w : NodeReplicas) (xs ys : List NodeTurn) → AreAuthentic faulty w (xs ++ ys) → AreAuthentic faulty w xs × AreAuthentic faulty (after_node_turns w xs) ys
authentic_parts faulty w [] ys a = (tt, a)
authentic_parts faulty w (x ∷ xs) ys a = let rest = authentic_parts faulty (after_node_turn w x) xs ys a.1 in ((a.0, rest.0), rest.1)

-- What is given again -----------------------------------------------------------------------------------------------------

-- where a test passes of a log, it finds a message
finds : (p : Header → Bool) (log : Log) → list_any p (headers log) ≡ true → (m : Signed OrderMessage) × (find (λ m. p (header m)) log ≡ Some m)
finds p [] e = absurd cc
finds p (x ∷ log) e =
    cond_both (p (header x)) (Some x) (find (λ m. p (header m)) log) (λ (o : Option (Signed OrderMessage)). (m : Signed OrderMessage) × (o ≡ Some m))
    (λ _. (x, refl))
    (λ other. elim (or_cases (p (header x)) (list_any p (headers log)) e) [ inl a ↦ absurd (cc (a, other)) | inr b ↦ finds p log b ])

pub record IsFoundAt (s : State) (t v n : ℕ) (m : Signed OrderMessage) : Type 0 where
  pub first : message_at s.log t s.me v n ≡ Some m
  pub is : Is (header m) t s.me v n (header m).digest
  pub given : IsIn m (own_message s t v n)
  pub there : IsIn m s.log

pub own_found : (s : State) (t v n : ℕ) → has_slot (known s) t s.me v n ≡ true → (m : Signed OrderMessage) × IsFoundAt s t v n m
own_found s t v n slot =
    let p = is_slot t s.me v n in
    let got = finds p s.log slot in
    let m = got.0 in
    let at = found (λ x. p (header x)) s.log m got.1 in (
      m,
      record {
        first = got.1;
        is = slot_is t s.me v n (header m) at.1;
        given = subst (λ (o : Option (Signed OrderMessage)). IsIn m (option_to_list o)) (sym got.1) (inl refl);
        there = at.0;
      },
    )

-- it is one of what the replica has said of the number
pub among_own : (s : State) (t n : ℕ) (m : Signed OrderMessage) → 1 < t → t < 5 → IsIn m (own_message s t s.view n) → IsIn m (own_votes s n)
among_own s t n m low small i = elim (cases_Bool (t == 2)) [
  | inl two ↦ left_in (own_message s 2 s.view n) (own_message s 3 s.view n ++ own_message s 4 s.view n) m (subst (λ (x : ℕ). IsIn m (own_message s x s.view n)) (eqb-true t 2 two) i)
  | inr no_two ↦ right_in (own_message s 2 s.view n) (own_message s 3 s.view n ++ own_message s 4 s.view n) m (elim (cases_Bool (t == 3)) [
    | inl three ↦ left_in (own_message s 3 s.view n) (own_message s 4 s.view n) m (subst (λ (x : ℕ). IsIn m (own_message s x s.view n)) (eqb-true t 3 three) i)
    | inr no_three ↦
        let two = eqb-false t 2 no_two in
        let three = eqb-false t 3 no_three in
        let four : t ≡ 4 = omega (arith, low, small, two, three) in
        right_in (own_message s 3 s.view n) (own_message s 4 s.view n) m (subst (λ (x : ℕ). IsIn m (own_message s x s.view n)) four i)
  ])
]

-- what passes by the keys of a node passes by the same keys later
still_passes : (one other : Node) (m : Signed OrderMessage) → other.keys ≡ one.keys → other.order.f ≡ one.order.f → passes one m ≡ true → passes other m ≡ true
still_passes one other m keys same passing =
    subst (λ (f : ℕ). (nat_lt (header m).sender (replicas f) && (order_is_signed other.keys m && carried_are_signed other.keys m.message)) ≡ true) (sym same)
    (subst (λ (k : Keys). (nat_lt (header m).sender (replicas one.order.f) && (order_is_signed k m && carried_are_signed k m.message)) ≡ true) (sym keys) passing)

-- Members in a world and as nodes -----------------------------------------------------------------------------------------

module _ (f : ℕ) (faulty members : ℕ → Bool) (u n : ℕ) (w : NodeReplicas) (v : OrderReplicas) (t : World) (facts : Facts f faulty w v t) (opened : AreOpen f faulty members u n t) where
  together_of : AreTogether f faulty members w u
  together_of = record {
    quorum = opened.together.quorum;
    entered = λ k x. sym (view_there f faulty w v t facts k) ∙ opened.together.entered k x;
    asked = λ k x. sym (asked_there f faulty w v t facts k) ∙ opened.together.asked k x;
  }

  room_of : HasRoom members w n
  room_of = record {
    low = λ k x. let a = opened.room.low k x in let b = low_there f faulty w v t facts k in omega (arith, a, b);
    min_s = λ k x. let a = opened.room.min_s k x in let b = min_s_there f faulty w v t facts k in omega (arith, a, b);
    high = λ k x. let a = opened.room.high k x in let b = low_there f faulty w v t facts k in omega (arith, a, b);
  }

-- A round -----------------------------------------------------------------------------------------------------------------

module _ (laws : Below) (f : ℕ) (faulty members : ℕ → Bool) (u n : ℕ) (positive : 0 < f) (few : FewAreFaulty f faulty) where
  abbrev IsOpen : World → Type 0
  IsOpen t = AreOpen f faulty members u n t

  pub open_at : (w : NodeReplicas) (v : OrderReplicas) (t : World) → Facts f faulty w v t → AreTogether f faulty members w u → HasRoom members w n → IsOpen t
  open_at w v t facts together room = record { together = together_there f faulty w v t facts members u together; room = room_there f faulty w v t facts members n room }

  -- the places in which a replica may speak
  abbrev MayBe : (x i : ℕ) → Type 0
  MayBe x i = (((x == 2) && not (i == primary f u)) ≡ false) × (((x == 3) && (i == primary f u)) ≡ false)

  -- a member's vote comes to another one
  delivered : (w : NodeReplicas) (v : OrderReplicas) (t : World) → Facts f faulty w v t → IsOpen t → (turn : NodeTurn) (i x : ℕ) (m : Signed OrderMessage) → Is (header m) x i u n (header m).digest
      → x < 5 → MayBe x i → members i ≡ true → members turn.who ≡ true → Told (t i).now.log x i u n (header m).digest → passes (w turn.who).node m ≡ true
      → Brings turn.step (as_message Order m) → Told (known (order_of (after_node_turn w turn) turn.who)) x i u n (header m).digest
  delivered w v t facts opened turn i x m is small may in_i in_j own passing brings =
      let j = turn.who in
      let node = (w j).node in
      let s = node.order in
      let h = header m in
      let view = view_there f faulty w v t facts j in
      let asked = asked_there f faulty w v t facts j in
      let low = low_there f faulty w v t facts j in
      let min_s = min_s_there f faulty w v t facts j in
      let entered = opened.together.entered j in_j in
      let asks = opened.together.asked j in_j in
      let above = opened.room.low j in_j in
      let behind = opened.room.min_s j in_j in
      let under = opened.room.high j in_j in
      let tag = is.tag in
      let of_view = is.view in
      let number = is.number in
      let stand : MayStand s h = record {
        vote = omega (arith, tag, small);
        view = omega (arith, of_view, view, entered);
        asked = omega (arith, view, asked, entered, asks);
        low = omega (arith, low, above, number);
        min_s = omega (arith, min_s, behind, number);
        high = omega (arith, low, under, number);
        leads = back (λ x i u n d. (g : ℕ) → g ≡ f → ((x == 2) && not (i == primary g u)) ≡ false) h x i is (λ g same. subst (λ (y : ℕ). ((x == 2) && not (i == primary y u)) ≡ false) (sym same) may.0) s.f (same_f f faulty w v t facts j);
        backs = back (λ x i u n d. (g : ℕ) → g ≡ f → ((x == 3) && (i == primary g u)) ≡ false) h x i is (λ g same. subst (λ (y : ℕ). ((x == 3) && (i == primary y u)) ≡ false) (sym same) may.1) s.f (same_f f faulty w v t facts j);
      } in
      let answers = responds f faulty w v t facts in
      let correct = opened.together.quorum.correct i in_i in
      let said = answers.heard.said i x i u n h.digest small correct own in
      let one : (e : List ℕ) → Told (known s) x i u n e → e ≡ h.digest = λ e y.
      one_digest f faulty t answers.sound i x x u n e h.digest correct (answers.heard.said j x i u n e small correct (told_world f faulty w v t facts j x i u n e small y)) said in
      let taken = taken_told node.keys s m passing stand (back (λ x i u n d. (e : List ℕ) → Told (known s) x i u n e → e ≡ h.digest) h x i is one) in
      let now : (order_of (after_node_turn w turn) j) ≡ (on_message node.keys s m).now = ap (λ (r : NodeReplica). r.node.order) (here_after w turn) ∙ brings_order node turn.step m brings in
      subst (λ (y : State). Told (known y) x i u n h.digest) (sym now) (moved h x i u n h.digest is (λ x i u n d. Told (known (on_message node.keys s m).now) x i u n d) taken)
    where
      -- to a message's own fields from others that are equal
      back : (P : ℕ → ℕ → ℕ → ℕ → List ℕ → Type 0) (h : Header) (x i : ℕ) → Is h x i u n h.digest → P x i u n h.digest → P h.tag h.sender h.view h.number h.digest
      back P h x i is p = subst (λ (y : ℕ). P y h.sender h.view h.number h.digest) (sym is.tag) (subst (λ (y : ℕ). P x y h.view h.number h.digest) (sym is.sender)
          (subst (λ (y : ℕ). P x i y h.number h.digest) (sym is.view) (subst (λ (y : ℕ). P x i u y h.digest) (sym is.number) p)))

  -- what comes among the turns is there at their end
  comes : (w : NodeReplicas) (v : OrderReplicas) (t : World) → Facts f faulty w v t → IsOpen t → (turns : List NodeTurn) → AreAuthentic faulty w turns
      → AreTogether f faulty members (after_node_turns w turns) u → HasRoom members (after_node_turns w turns) n
      → (i j x : ℕ) (m : Signed OrderMessage) → Is (header m) x i u n (header m).digest → x < 5 → MayBe x i → members i ≡ true → members j ≡ true → Told (t i).now.log x i u n (header m).digest
      → passes (w j).node m ≡ true → ComesTo j (as_message Order m) turns → Told (known (order_of (after_node_turns w turns) j)) x i u n (header m).digest
  comes w v t facts opened [] authentic together room i j x m is small may in_i in_j own passing there = absurd there.among
  comes w v t facts opened (turn ∷ turns) authentic together room i j x m is small may in_i in_j own passing there =
      let d = (header m).digest in
      let w1 = after_node_turn w turn in
      let last = after_node_turns w1 turns in
      let first = step_on laws f faulty positive few w v t facts turn authentic.0 in
      let rest = run_on laws f faulty positive few w1 first.orders first.world first.facts turns authentic.1 in
      let end = open_at last rest.orders rest.world rest.facts together room in
      elim there.among [
        | inl same ↦
            let who : turn.who ≡ j = sym (ap (λ (y : NodeTurn). y.who) same) ∙ there.to in
            let brings = subst (λ (y : NodeTurn). Brings y.step (as_message Order m)) same there.brings in
            let here = delivered w v t facts opened turn i x m is small may in_i (subst (λ (k : ℕ). members k ≡ true) (sym who) in_j) own (subst (λ (k : ℕ). passes (w k).node m ≡ true) (sym who) passing) brings in
            let at_j = subst (λ (k : ℕ). Told (known (order_of w1 k)) x i u n d) who here in
            let then = told_world f faulty w1 first.orders first.world first.facts j x i u n d small at_j in
            told_here f faulty last rest.orders rest.world rest.facts j x i u n d small ((rest.later j).log x i u n d (end.room.low j in_j) then)
        | inr later ↦
            let open1 = open_between f faulty members u n t first.world rest.world opened end first.later rest.later in
            comes w1 first.orders first.world first.facts open1 turns authentic.1 together room i j x m is small may in_i in_j ((first.later i).log x i u n d (open1.room.low i in_i) own)
            (still_passes (w j).node (w1 j).node m (first.keys j)
            (same_f f faulty w1 first.orders first.world first.facts j ∙ sym (same_f f faulty w v t facts j)) passing) (record { turn = there.turn; among = later; to = there.to; brings = there.brings })
      ]

  -- a vote of a member is at each at the end of a round
  pub heard_by : (w : NodeReplicas) (v : OrderReplicas) (t : World) → Facts f faulty w v t → AreTogether f faulty members w u → HasRoom members w n → (turns : List NodeTurn) → AreAuthentic faulty w turns
      → AreTogether f faulty members (after_node_turns w turns) u → HasRoom members (after_node_turns w turns) n → IsRound members w n turns
      → (i j x : ℕ) (d : List ℕ) → 1 < x → x < 5 → MayBe x i → members i ≡ true → members j ≡ true → Told (known (order_of w i)) x i u n d → Told (known (order_of (after_node_turns w turns) j)) x i u n d
  heard_by w v t facts together room turns authentic then_together then_room round i j x d low small may in_i in_j own = elim (cases_Bool (i == j)) [
    | inl same ↦
        let last = after_node_turns w turns in
        let rest = run_on laws f faulty positive few w v t facts turns authentic in
        let end = open_at last rest.orders rest.world rest.facts then_together then_room in
        let at_j = subst (λ (k : ℕ). Told (t k).now.log x i u n d) (eqb-true i j same) (told_world f faulty w v t facts i x i u n d small own) in
        told_here f faulty last rest.orders rest.world rest.facts j x i u n d small ((rest.later j).log x i u n d (end.room.low j in_j) at_j)
    | inr other ↦
        let s = order_of w i in
        let me = same_me f faulty w v t facts i in
        let opened = open_at w v t facts together room in
        let got = own_found s x u n (told_slot (known s) x s.me u n d (subst (λ (k : ℕ). Told (known s) x k u n d) (sym me) own)) in
        let m = got.0 in
        let e = (header m).digest in
        let is : Is (header m) x i u n e = subst (λ (k : ℕ). Is (header m) x k u n e) me got.1.is in
        let there : Told (known s) x i u n e = moved (header m) x i u n e is (λ x k u n e. Told (known s) x k u n e) (in_told (known s) (header m) (in_map header s.log m got.1.there)) in
        let own_there = told_world f faulty w v t facts i x i u n e small there in
        let same_digest : e ≡ d = (facts.sound.kept i (opened.together.quorum.correct i in_i)).single x i u n e d own_there (told_world f faulty w v t facts i x i u n d small own) in
        let given = among_own s x n m low small (subst (λ (y : ℕ). IsIn m (own_message s x y n)) (sym (together.entered i in_i)) got.1.given) in
        let come = round i j m in_i in_j other given in
        subst (λ (y : List ℕ). Told (known (order_of (after_node_turns w turns) j)) x i u n y) same_digest
        (comes w v t facts opened turns authentic then_together then_room i j x m is small may in_i in_j own_there come.0 come.1)
  ]

-- Three of them -----------------------------------------------------------------------------------------------------------

pub rounds_commit : Below → RoundsCommit
rounds_commit laws f keys start faulty members turns one two three u n d run together then_together room then_room proposed round1 round2 round3 =
    let begun = new_node_replicas f keys start in
    let p = primary f u in
    let w = after_node_turns begun turns in
    let w1 = after_node_turns w one in
    let w2 = after_node_turns w1 two in
    let w3 = after_node_turns w2 three in
    let all = one ++ (two ++ three) in
    let at1 : after_node_turns begun (turns ++ one) ≡ w1 = after_join begun turns one in
    let at2 : after_node_turns begun ((turns ++ one) ++ two) ≡ w2 = after_join begun (turns ++ one) two ∙ ap (λ (x : NodeReplicas). after_node_turns x two) at1 in
    let at3 : after_node_turns begun (turns ++ all) ≡ w3 = after_join begun turns all ∙ (after_join w one (two ++ three) ∙ after_join w1 two three) in
    let a0 = authentic_parts faulty begun turns all run.authentic in
    let a1 = authentic_parts faulty w one (two ++ three) a0.1 in
    let a2 = authentic_parts faulty w1 two three a1.1 in
    let r0 = always laws f faulty run.others run.few keys start turns run.shared a0.0 in
    let r1 = run_on laws f faulty run.others run.few w r0.orders r0.world r0.facts one a1.0 in
    let r2 = run_on laws f faulty run.others run.few w1 r1.orders r1.world r1.facts two a2.0 in
    let r3 = run_on laws f faulty run.others run.few w2 r2.orders r2.world r2.facts three a2.1 in
    let end_together = subst (λ (x : NodeReplicas). AreTogether f faulty members x u) at3 then_together in
    let end_room = subst (λ (x : NodeReplicas). HasRoom members x n) at3 then_room in
    let open0 = open_at laws f faulty members u n run.others run.few w r0.orders r0.world r0.facts together room in
    let open3 = open_at laws f faulty members u n run.others run.few w3 r3.orders r3.world r3.facts end_together end_room in
    let later23 = then_later r1.world r2.world r3.world r2.later r3.later in
    let later12 = then_later r0.world r1.world r2.world r1.later r2.later in
    let open1 = open_between f faulty members u n r0.world r1.world r3.world open0 open3 r1.later later23 in
    let open2 = open_between f faulty members u n r0.world r2.world r3.world open0 open3 later12 r3.later in
    let together1 = together_of f faulty members u n w1 r1.orders r1.world r1.facts open1 in
    let together2 = together_of f faulty members u n w2 r2.orders r2.world r2.facts open2 in
    let room1 = room_of f faulty members u n w1 r1.orders r1.world r1.facts open1 in
    let room2 = room_of f faulty members u n w2 r2.orders r2.world r2.facts open2 in
    let hear = heard_by laws f faulty members u n run.others run.few in
    let has1 : (k : ℕ) → members k ≡ true → Told (r1.world k).now.log 2 p u n d = λ k x. told_world f faulty w1 r1.orders r1.world r1.facts k 2 p u n d (omega arith)
    (hear w r0.orders r0.world r0.facts together room one a1.0 together1 room1 round1 p k 2 d (omega arith) (omega arith) (ap (λ (b : Bool). not b) (eq-eqb p p refl), refl) together.quorum.leads x proposed) in
    let all_committed = in_three f faulty members u n d r1.world r2.world r3.world (responds f faulty w1 r1.orders r1.world r1.facts) (responds f faulty w2 r2.orders r2.world r2.facts)
    (responds f faulty w3 r3.orders r3.world r3.facts) open1 open2 open3 r2.later r3.later has1
    (λ i k x y backup own. told_world f faulty w2 r2.orders r2.world r2.facts k 3 i u n d (omega arith)
    (hear w1 r1.orders r1.world r1.facts together1 room1 two a2.0 together2 room2 (subst (λ (x : NodeReplicas). IsRound members x n two) at1 round2) i k 3 d (omega arith) (omega arith) (refl, backup) x y
    (told_here f faulty w1 r1.orders r1.world r1.facts i 3 i u n d (omega arith) own)))
    (λ i k x y own. told_world f faulty w3 r3.orders r3.world r3.facts k 4 i u n d (omega arith)
    (hear w2 r2.orders r2.world r2.facts together2 room2 three a2.1 end_together end_room (subst (λ (x : NodeReplicas). IsRound members x n three) at2 round3) i k 4 d (omega arith) (omega arith) (refl, refl) x y
    (told_here f faulty w2 r2.orders r2.world r2.facts i 4 i u n d (omega arith) own))) in
    subst (λ (x : NodeReplicas). IsCommitted members x u n d) (sym at3) (λ k x. committed_here f faulty w3 r3.orders r3.world r3.facts k u n d (all_committed k x))
