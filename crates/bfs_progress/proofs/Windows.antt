-- What a view begins with, and a whole window of numbers.
use Rattle.std.proofs.Common.{◌≡◌, ℕ, zero, suc, ◌+◌, ◌*◌, ◌<◌, ◌≤◌, ◌==◌, max, Bool, true, ◌&&◌, nat_le, cond, List, [], ◌∷◌, ◌++◌, inl, inr, refl, sym, subst, arith}
use Rattle.std.proofs.lemmas.Bool.{and_parts, and_from, cond_both, leb-true, le-leb, cases_lt, cases_Bool, eqb-true, eqb-false}
use Rattle.bfs_votes.specs.Votes.{Header, told, Told, tellers, replicas, primary, prepared, committed}
use Rattle.bfs_votes.proofs.Public.{more}
use Rattle.bfs_agreement.specs.Histories.{IsIn, Certificate, ViewChange, World, FewAreFaulty}
use Rattle.bfs_agreement.specs.Choice.{latest_stable, greatest_certified}
use Rattle.bfs_agreement.specs.Calls.{HeaderTurn, after_header_turns}
use Rattle.bfs_progress.specs.Members.{AreTogether, HasRoom, IsCommitted}
use Rattle.bfs_progress.specs.Exchanges.{exchange}
use Rattle.bfs_progress.specs.Ways.{IsWay}
use Rattle.bfs_progress.proofs.Numbers.{each_below}
use Rattle.bfs_progress.proofs.Turns.{after_join}
use Rattle.bfs_progress.proofs.Logs.{prepared_by}
use Rattle.bfs_progress.proofs.Reached.{Facts}
use Rattle.bfs_progress.proofs.Exchange.{Stays, all_stay, then_stays, exchanged, together_on, room_on}
use Rattle.bfs_progress.proofs.Ways.{way_join, no_way, exchange_way}

-- Bounds of the choice ------------------------------------------------------------------------------------------------

pub stable_le : (ms : List ViewChange) (b : ℕ) → ((m : ViewChange) → IsIn m ms → m.stable ≤ b) → latest_stable ms ≤ b
stable_le [] b each = omega arith
stable_le (m ∷ ms) b each = let one = each m (inl refl) in let rest = stable_le ms b (λ x i. each x (inr i)) in omega (arith, one, rest)

pub certified_le : (least : ℕ) (cs : List Certificate) (b : ℕ) → least ≤ b → ((c : Certificate) → IsIn c cs → c.proposal.number ≤ b) → greatest_certified least cs ≤ b
certified_le least [] b low each = low
certified_le least (c ∷ cs) b low each = let one = each c (inl refl) in let rest = certified_le least cs b low (λ x i. each x (inr i)) in omega (arith, one, rest)

-- The highest low mark ------------------------------------------------------------------------------------------------

abbrev pub max_low : (members : ℕ → Bool) → World → (bound : ℕ) → ℕ
max_low members w zero = 0
max_low members w (suc k) = cond (members k) (max (w k).now.low (max_low members w k)) (max_low members w k)

pub low_le_max : (members : ℕ → Bool) (w : World) (bound k : ℕ) → k < bound → members k ≡ true → (w k).now.low ≤ max_low members w bound
low_le_max members w zero k low x = absurd (omega (arith, low))
low_le_max members w (suc b) k low x = cond_both (members b) (max (w b).now.low (max_low members w b)) (max_low members w b) (λ (m : ℕ). (j : ℕ) → j < suc b → members j ≡ true → (w j).now.low ≤ m)
    (λ _. each_below b (λ j. members j ≡ true → (w j).now.low ≤ max (w b).now.low (max_low members w b)) (λ _. omega arith)
    (λ j lower y. let rest = low_le_max members w b j lower y in omega (arith, rest)))
    (λ out. each_below b (λ j. members j ≡ true → (w j).now.low ≤ max_low members w b) (λ in_b. absurd cc) (low_le_max members w b)) k low x

-- it is that of some member
pub max_at : (members : ℕ → Bool) (w : World) (some : ℕ) → members some ≡ true → (bound : ℕ) → (k : ℕ) × (members k ≡ true) × (max_low members w bound ≤ (w k).now.low)
max_at members w some x zero = (some, x, omega arith)
max_at members w some x (suc b) =
    let got = max_at members w some x b in
    let le = got.2 in
    cond_both (members b) (max (w b).now.low (max_low members w b)) (max_low members w b) (λ (m : ℕ). (k : ℕ) × (members k ≡ true) × (m ≤ (w k).now.low))
    (λ in_b. elim (cases_lt (w b).now.low (max_low members w b)) [
      | inl lt ↦ (got.0, got.1, omega (arith, lt, le))
      | inr high ↦ (b, in_b, omega (arith, high))
    ])
    (λ _. got)

-- Several numbers -----------------------------------------------------------------------------------------------------

committed_more : (f me : ℕ) (log new : List Header) (v n : ℕ) (d : List ℕ) → ((t k : ℕ) → Told log t k v n d → Told new t k v n d) → committed f me log v n d ≡ true → committed f me new v n d ≡ true
committed_more f me log new v n d grows e =
    let a = and_parts (prepared f me log v n d) (nat_le (2 * f + 1) (tellers f log 4 v n d) && told log 4 me v n d) e in
    let b = and_parts (nat_le (2 * f + 1) (tellers f log 4 v n d)) (told log 4 me v n d) a.1 in
    let enough = leb-true (2 * f + 1) (tellers f log 4 v n d) b.0 in
    let grown : tellers f log 4 v n d ≤ tellers f new 4 v n d = more (λ k. told log 4 k v n d) (λ k. told new 4 k v n d) (replicas f) (λ k x. grows 4 k x) in
    and_from (prepared f me new v n d) (nat_le (2 * f + 1) (tellers f new 4 v n d) && told new 4 me v n d) (prepared_by f me log new v n d (λ t k low small x. grows t k x) a.0)
    (and_from (nat_le (2 * f + 1) (tellers f new 4 v n d)) (told new 4 me v n d) (le-leb (2 * f + 1) (tellers f new 4 v n d) (omega (arith, enough, grown))) (grows 4 me b.1))

committed_on : (f : ℕ) (members : ℕ → Bool) (w new : World) (v n : ℕ) (d : List ℕ) → Stays w new → IsCommitted f members w v n d → IsCommitted f members new v n d
committed_on f members w new v n d on done k x = committed_more f k (w k).now.log (new k).now.log v n d (λ t j y. (on k).log t j v n d y) (done k x)

module _ (f : ℕ) (null : List ℕ) (faulty members : ℕ → Bool) (v : ℕ) (digest_of : ℕ → List ℕ) (positive : 0 < f) (few : FewAreFaulty f faulty) where
  abbrev pub several : (base count : ℕ) → List HeaderTurn
  several base zero = []
  several base (suc c) = several base c ++ exchange f members v (base + suc c) (digest_of (base + suc c))

  pub record Ranged (w : World) (base count : ℕ) : Type 0 where
    pub way : IsWay f null faulty members w (several base count)
    pub facts : Facts f faulty (after_header_turns f null w (several base count))
    pub stays : Stays w (after_header_turns f null w (several base count))
    pub done : (n : ℕ) → base < n → n ≤ base + count → IsCommitted f members (after_header_turns f null w (several base count)) v n (digest_of n)

  pub ranged : (w : World) (base most : ℕ) → Facts f faulty w → AreTogether f faulty members w v → ((n : ℕ) → base < n → n ≤ base + most → HasRoom members w n)
      → ((n : ℕ) → base < n → n ≤ base + most → Told (w (primary f v)).now.log 2 (primary f v) v n (digest_of n)) → (count : ℕ) → count ≤ most → Ranged w base count
  ranged w base most facts together rooms own zero le = record { way = no_way f null faulty members w; facts = facts; stays = all_stay w; done = λ n lo hi. absurd (omega (arith, lo, hi)) }
  ranged w base most facts together rooms own (suc c) le =
      let got = ranged w base most facts together rooms own c (omega (arith, le)) in
      let xs = several base c in
      let w1 = after_header_turns f null w xs in
      let n = base + suc c in
      let ys = exchange f members v n (digest_of n) in
      let w2 = after_header_turns f null w1 ys in
      let p = primary f v in
      let lo : base < n = omega arith in
      let hi : n ≤ base + most = omega (arith, le) in
      let ex = exchanged f null faulty members v n (digest_of n) positive few w1 got.facts (together_on f faulty members w w1 v got.stays together) (room_on members w w1 n got.stays (rooms n lo hi))
      ((got.stays p).log 2 p v n (digest_of n) (own n lo hi)) in
      let joined = sym (after_join f null w xs ys) in
      record {
        way = way_join f null faulty members w xs ys got.way (exchange_way f null faulty members w1 v n (digest_of n) ex.0.authentic);
        facts = subst (λ (x : World). Facts f faulty x) joined ex.0.facts;
        stays = subst (λ (x : World). Stays w x) joined (then_stays w w1 w2 got.stays ex.0.stays);
        done = λ m low high. subst (λ (x : World). IsCommitted f members x v m (digest_of m)) joined (elim (cases_Bool (m == n)) [
          | inl same ↦ subst (λ (y : ℕ). IsCommitted f members w2 v y (digest_of y)) (sym (eqb-true m n same)) ex.1
          | inr other ↦ committed_on f members w1 w2 v m (digest_of m) ex.0.stays (got.done m low (below m c base high (eqb-false m n other)))
        ]);
      }
    where
      below : (m c base : ℕ) → m ≤ base + suc c → (m ≡ base + suc c → ⊥) → m ≤ base + c
      below m c base high other = elim (cases_lt m (base + suc c)) [ inl lt ↦ omega (arith, lt) | inr le ↦ absurd (other (omega (arith, high, le))) ]
