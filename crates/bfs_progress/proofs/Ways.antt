-- Ways on, joined of turns.
use Rattle.std.proofs.Common.{◌≡◌, ℕ, zero, suc, ◌-◌, ◌<◌, ◌≤◌, ◌==◌, max, Bool, true, ◌&&◌, not, nat_lt, List, [], ◌∷◌, ◌++◌, inl, inr, refl, sym, subst, ◌∙◌, arith}
use Rattle.std.proofs.lemmas.Bool.{and_parts, cond_both, ltb-true, ltb-false, eqb-true, cases_Bool}
use Rattle.bfs_votes.specs.Votes.{Header, Told, replicas, primary, committed}
use Rattle.bfs_agreement.specs.Histories.{ViewChange, History, World}
use Rattle.bfs_agreement.specs.Moves.{Move, Drops}
use Rattle.bfs_agreement.specs.Nodes.{after_moves}
use Rattle.bfs_agreement.specs.Calls.{vote, settling, HeaderCall, Receives, Settles, TimesOut, ChangesView, HeaderTurn, after_header_turn, after_header_turns, AreAuthentic}
use Rattle.bfs_agreement.proofs.Public.{kept_told}
use Rattle.bfs_progress.specs.Premises.{IsOffered}
use Rattle.bfs_progress.specs.Exchanges.{backups_of, deliveries, votes, exchange, timeouts, all_time_out, all_enter, all_settle}
use Rattle.bfs_progress.specs.Ways.{CanBeStable, MaySettle, MaySettleAll, IsWay}
use Rattle.bfs_progress.proofs.Numbers.{each_below, differs}
use Rattle.bfs_progress.proofs.Turns.{at_caller, others_stay, after_join, authentic_join, offered_join, turns_of_join}

-- A number is taken for stable ----------------------------------------------------------------------------------------

pub record SettledAt (p q : History) (m : ℕ) : Type 0 where
  pub low : q.now.low ≡ max p.now.low m
  pub view : q.now.view ≡ p.now.view
  pub asked : q.now.asked ≡ p.now.asked
  pub min_s : q.now.min_s ≡ p.now.min_s
  pub handed : q.now.handed ≡ p.now.handed
  pub changes : q.changes ≡ p.changes
  pub log : (t k v n : ℕ) (d : List ℕ) → Told q.now.log t k v n d → Told p.now.log t k v n d

settles_at : (f me : ℕ) (p : History) (m : ℕ) → SettledAt p (after_moves f me p (settling p.now m)) m
settles_at f me p m = cond_both (nat_lt p.now.low m) (Drops m ∷ []) [] (λ (l : List Move). SettledAt p (after_moves f me p l) m)
    (λ under.
    let lt = ltb-true p.now.low m under in
    record { low = omega (arith, lt); view = refl; asked = refl; min_s = refl; handed = refl; changes = refl; log = λ t k v n d x. kept_told m p.now.log t k v n d x })
    (λ over.
    let le = ltb-false p.now.low m over in
    record { low = omega (arith, le); view = refl; asked = refl; min_s = refl; handed = refl; changes = refl; log = λ t k v n d x. x })

module _ (f : ℕ) (null : List ℕ) (faulty members : ℕ → Bool) where
  -- Ways --------------------------------------------------------------------------------------------------------------

  settle_join : (w : World) (xs ys : List HeaderTurn) → MaySettleAll f null members w xs → MaySettleAll f null members (after_header_turns f null w xs) ys → MaySettleAll f null members w (xs ++ ys)
  settle_join w [] ys a b = b
  settle_join w (x ∷ xs) ys a b = (a.0, settle_join (after_header_turn f null w x) xs ys a.1 b)

  pub way_join : (w : World) (xs ys : List HeaderTurn) → IsWay f null faulty members w xs → IsWay f null faulty members (after_header_turns f null w xs) ys → IsWay f null faulty members w (xs ++ ys)
  way_join w xs ys a b =
      record {
        of_members = turns_of_join members xs ys a.of_members b.of_members;
        authentic = authentic_join f null faulty w xs ys a.authentic b.authentic;
        offered = offered_join f null faulty w xs ys a.offered b.offered;
        settled = settle_join w xs ys a.settled b.settled;
      }

  pub no_way : (w : World) → IsWay f null faulty members w []
  no_way w = record { of_members = tt; authentic = tt; offered = tt; settled = tt }

  timeouts_settle : (w : World) (j count : ℕ) → MaySettleAll f null members w (timeouts j count)
  timeouts_settle w j zero = tt
  timeouts_settle w j (suc c) = (tt, timeouts_settle (after_header_turn f null w (record { who = j; call = TimesOut })) j c)

  pub asking_settles : (from w : World) (views : ℕ → ℕ) (bound : ℕ) → MaySettleAll f null members w (all_time_out members from views bound)
  asking_settles from w views zero = tt
  asking_settles from w views (suc b) =
      let count = views b - (from b).now.asked in
      let rest = all_time_out members from views b in
      cond_both (members b) (timeouts b count ++ rest) rest (λ (l : List HeaderTurn). MaySettleAll f null members w l)
      (λ _. settle_join w (timeouts b count) rest (timeouts_settle w b count) (asking_settles from (after_header_turns f null w (timeouts b count)) views b))
      (λ _. asking_settles from w views b)

  pub entering_settles : (w : World) (some : ℕ → Bool) (view : ℕ) (ms : List ViewChange) (bound : ℕ) → MaySettleAll f null members w (all_enter some view ms bound)
  entering_settles w some view ms zero = tt
  entering_settles w some view ms (suc b) =
      let turn : HeaderTurn = record { who = b; call = ChangesView view ms } in
      cond_both (some b) (turn ∷ all_enter some view ms b) (all_enter some view ms b) (λ (l : List HeaderTurn). MaySettleAll f null members w l)
      (λ _. (tt, entering_settles (after_header_turn f null w turn) some view ms b))
      (λ _. entering_settles w some view ms b)

  -- Deliveries to members ---------------------------------------------------------------------------------------------

  abbrev AreReceipts : List HeaderTurn → Type 0
  AreReceipts [] = Unit {0}
  AreReceipts (turn ∷ turns) = (members turn.who ≡ true) × ((h : Header) × (turn.call ≡ Receives h)) × AreReceipts turns

  receipts_join : (xs ys : List HeaderTurn) → AreReceipts xs → AreReceipts ys → AreReceipts (xs ++ ys)
  receipts_join [] ys a b = b
  receipts_join (x ∷ xs) ys a b = (a.0, a.1, receipts_join xs ys a.2 b)

  deliveries_are : (h : Header) (bound : ℕ) → AreReceipts (deliveries members h bound)
  deliveries_are h zero = tt
  deliveries_are h (suc k) =
      cond_both (members k && not (k == h.sender)) (record { who = k; call = Receives h } ∷ deliveries members h k) (deliveries members h k) (λ (l : List HeaderTurn). AreReceipts l)
      (λ comes. ((and_parts (members k) (not (k == h.sender)) comes).0, (h, refl), deliveries_are h k))
      (λ _. deliveries_are h k)

  votes_are : (senders : ℕ → Bool) (t v n : ℕ) (d : List ℕ) (bound : ℕ) → AreReceipts (votes f members senders t v n d bound)
  votes_are senders t v n d zero = tt
  votes_are senders t v n d (suc k) =
      let first = deliveries members (vote t k v n d) (replicas f) in
      let rest = votes f members senders t v n d k in
      cond_both (senders k) (first ++ rest) rest (λ (l : List HeaderTurn). AreReceipts l)
      (λ _. receipts_join first rest (deliveries_are (vote t k v n d) (replicas f)) (votes_are senders t v n d k))
      (λ _. votes_are senders t v n d k)

  receipts_way : (w : World) (turns : List HeaderTurn) → AreReceipts turns → AreAuthentic f null faulty w turns → IsWay f null faulty members w turns
  receipts_way w [] x authentic = no_way w
  receipts_way w (turn ∷ turns) x authentic =
      let rest = receipts_way (after_header_turn f null w turn) turns x.2 authentic.1 in
      record {
        of_members = (x.0, rest.of_members);
        authentic = authentic;
        offered = (subst (λ (c : HeaderCall). IsOffered f null faulty w turn.who c) (sym x.1.1) tt, rest.offered);
        settled = (subst (λ (c : HeaderCall). MaySettle f members w c) (sym x.1.1) tt, rest.settled);
      }

  pub exchange_way : (w : World) (v n : ℕ) (d : List ℕ) → AreAuthentic f null faulty w (exchange f members v n d) → IsWay f null faulty members w (exchange f members v n d)
  exchange_way w v n d authentic =
      let one = deliveries members (vote 2 (primary f v) v n d) (replicas f) in
      let two = votes f members (backups_of f members v) 3 v n d (replicas f) in
      let three = votes f members members 4 v n d (replicas f) in
      receipts_way w (exchange f members v n d)
      (receipts_join one (two ++ three) (deliveries_are (vote 2 (primary f v) v n d) (replicas f))
      (receipts_join two three (votes_are (backups_of f members v) 3 v n d (replicas f)) (votes_are members 4 v n d (replicas f)))) authentic

  -- Settling ----------------------------------------------------------------------------------------------------------

  module _ (m : ℕ) where
    abbrev settle : ℕ → HeaderTurn
    settle k = record { who = k; call = Settles m }

    settled_itself : (w : World) (j : ℕ) → SettledAt (w j) (after_header_turn f null w (settle j) j) m
    settled_itself w j = at_caller f null (λ (q : History). SettledAt (w j) q m) w (settle j) (settles_at f j (w j) m)

    stable_on : (w : World) (j : ℕ) → CanBeStable f members w m → CanBeStable f members (after_header_turn f null w (settle j)) m
    stable_on w j (inl got) =
        let k = got.0 in
        let le = got.2 in
        inl (
          k,
          got.1,
          elim (cases_Bool (k == j)) [
            | inl same ↦
                let is_j = eqb-true k j same in
                let at_j : m ≤ (w j).now.low = subst (λ (y : ℕ). m ≤ (w y).now.low) is_j le in
                let low = (settled_itself w j).low in
                subst (λ (y : ℕ). m ≤ (after_header_turn f null w (settle j) y).now.low) (sym is_j) (omega (arith, low, at_j))
            | inr other ↦ subst (λ (y : History). m ≤ y.now.low) (sym (others_stay f null w (settle j) k other)) le
          ],
        )
    stable_on w j (inr all) = inr (λ i n in_i under within. elim (cases_Bool (i == j)) [
      | inl same ↦
          let low = (settled_itself w j).low in
          let under_j : (after_header_turn f null w (settle j) j).now.low < n = subst (λ (y : ℕ). (after_header_turn f null w (settle j) y).now.low < n) (eqb-true i j same) under in
          absurd (omega (arith, low, under_j, within))
      | inr other ↦
          let stays = others_stay f null w (settle j) i other in
          subst (λ (y : History). (digest : List ℕ) × (committed f i y.now.log y.now.view n digest ≡ true)) (sym stays)
          (all i n in_i (subst (λ (y : History). y.now.low < n) stays under) within)
    ])

    pub record Settled (w new : World) (bound : ℕ) (turns : List HeaderTurn) : Type 0 where
      pub way : IsWay f null faulty members w turns
      pub at : (k : ℕ) → k < bound → members k ≡ true → SettledAt (w k) (new k) m
      pub others : (k : ℕ) → bound ≤ k → new k ≡ w k

    pub each_settled : (w : World) (bound : ℕ) → CanBeStable f members w m → Settled w (after_header_turns f null w (all_settle members m bound)) bound (all_settle members m bound)
    each_settled w zero stable = record { way = no_way w; at = λ k low. absurd (omega (arith, low)); others = λ k x. refl }
    each_settled w (suc b) stable =
        let turns = all_settle members m b in
        cond_both (members b) (settle b ∷ turns) turns (λ (l : List HeaderTurn). Settled w (after_header_turns f null w l) (suc b) l)
        (λ in_b.
        let w1 = after_header_turn f null w (settle b) in
        let rest = each_settled w1 b (stable_on w b stable) in
        let same : (k : ℕ) → (k ≡ b → ⊥) → w1 k ≡ w k = λ k other. others_stay f null w (settle b) k (differs k b other) in
        record {
          way = record { of_members = (in_b, rest.way.of_members); authentic = (tt, rest.way.authentic); offered = (tt, rest.way.offered); settled = (stable, rest.way.settled) };
          at = each_below b (λ k. members k ≡ true → SettledAt (w k) (after_header_turns f null w1 turns k) m)
              (λ _. subst (λ (y : History). SettledAt (w b) y m) (sym (rest.others b (omega arith))) (settled_itself w b))
              (λ k low x. subst (λ (y : History). SettledAt y (after_header_turns f null w1 turns k) m) (same k (λ e. omega (arith, low, e))) (rest.at k low x));
          others = λ k high. rest.others k (omega (arith, high)) ∙ same k (λ e. omega (arith, high, e));
        })
        (λ out.
        let rest = each_settled w b stable in
        record {
          way = rest.way;
          at = each_below b (λ k. members k ≡ true → SettledAt (w k) (after_header_turns f null w turns k) m) (λ in_b. absurd cc) rest.at;
          others = λ k high. rest.others k (omega (arith, high));
        })

  -- Ends --------------------------------------------------------------------------------------------------------------

  pub ways_end : (P : World → Type 0) (w : World) (xs : List HeaderTurn) → IsWay f null faulty members w xs
      → (ys : List HeaderTurn) × IsWay f null faulty members (after_header_turns f null w xs) ys × P (after_header_turns f null (after_header_turns f null w xs) ys)
      → (ys : List HeaderTurn) × IsWay f null faulty members w ys × P (after_header_turns f null w ys)
  ways_end P w xs way ends = (xs ++ ends.0, way_join w xs ends.0 way ends.1, subst P (sym (after_join f null w xs ends.0)) ends.2)
