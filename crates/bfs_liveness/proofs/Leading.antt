-- Which views members lead.
use Rattle.std.proofs.Common.{◌≡◌, ℕ, zero, suc, ◌+◌, ◌*◌, ◌/◌, ◌%◌, ◌<◌, ◌≤◌, Bool, true, false, cond, ◌⊎◌, inl, inr, refl, sym, ap, subst, ◌∙◌, arith, mod-eq_of_lt}
use native.Mathlib.Nat.{add-mod_right}
use Rattle.std.proofs.Math.Nat.{add-mul-mod_self_left, mod-add-div, mod-lt, mul-suc}
use Rattle.std.proofs.lemmas.Bool.{cases_Bool, cases_lt}
use Rattle.bfs_votes.specs.Votes.{count_below, primary, replicas}
use Rattle.bfs_votes.proofs.Public.{none_below, same_below, same_count}
use Rattle.bfs_progress.proofs.Public.{one_more}
use Rattle.bfs_liveness.specs.LawsOfMeeting.{AMemberLeads}

-- Numbers in a row ----------------------------------------------------------------------------------------------------

shift_step : (a b : Bool) (c x y : ℕ) → c + x ≡ y + cond a 1 0 → c + cond b (1 + x) x ≡ cond a (1 + y) y + cond b 1 0
shift_step true true c x y e = omega (arith, e)
shift_step true false c x y e = omega (arith, e)
shift_step false true c x y e = omega (arith, e)
shift_step false false c x y e = omega (arith, e)

-- so many from 1 on are as many from 0 on, but for the first one and the next one
shifted : (q : ℕ → Bool) (n : ℕ) → cond (q 0) 1 0 + count_below (λ k. q (suc k)) n ≡ count_below q n + cond (q n) 1 0
shifted q zero = omega arith
shifted q (suc n) = shift_step (q n) (q (suc n)) (cond (q 0) 1 0) (count_below (λ k. q (suc k)) n) (count_below q n) (shifted q n)

-- where a test comes round after so many numbers, as many pass of so many in a row from anywhere on
comes_round : (q : ℕ → Bool) (n from : ℕ) → ((k : ℕ) → q (k + n) ≡ q k) → count_below (λ k. q (k + from)) n ≡ count_below q n
comes_round q n zero round = same_count (λ k. q (k + 0)) q n (λ k. let at : k + 0 ≡ k = omega arith in ap q at)
comes_round q n (suc from) round =
    let before = λ (k : ℕ). q (k + from) in
    let turned = same_count (λ k. q (k + suc from)) (λ k. before (suc k)) n (λ k. let at : k + suc from ≡ suc k + from = omega arith in ap q at) in
    let moved = shifted before n in
    let start : 0 + from ≡ from = omega arith in
    let last : n + from ≡ from + n = omega arith in
    let ends : before n ≡ before 0 = ap q last ∙ round from ∙ sym (ap q start) in
    let same : cond (before n) 1 0 ≡ cond (before 0) 1 0 = ap {B = ℕ} (λ (b : Bool). cond b 1 0) ends in
    let rest = comes_round q n from round in
    omega (arith, turned, moved, same, rest)

few_step : (b : Bool) (x y m n : ℕ) → x + m ≤ y + n → cond b (1 + x) x + m ≤ y + suc n
few_step true x y m n le = omega (arith, le)
few_step false x y m n le = omega (arith, le)

-- of those beyond a bound no more pass than there are
few_beyond : (q : ℕ → Bool) (m n : ℕ) → m ≤ n → count_below q n + m ≤ count_below q m + n
few_beyond q m zero le = let same : m ≡ 0 = omega (arith, le) in let count = ap (count_below q) same in omega (arith, same, count)
few_beyond q m (suc n) le = elim (cases_lt m (suc n)) [
  | inl lt ↦ few_step (q n) (count_below q n) (count_below q m) m n (few_beyond q m n (omega (arith, lt)))
  | inr ge ↦ let same : m ≡ suc n = omega (arith, le, ge) in let count = ap (count_below q) same in omega (arith, same, count)
]

-- Views ---------------------------------------------------------------------------------------------------------------

also_at : (asked : ℕ → ℕ) (members : ℕ → Bool) (most n : ℕ) → ((j : ℕ) → j < n → members j ≡ true → asked j ≤ most) → (members n ≡ true → asked n ≤ most) → (j : ℕ) → j < suc n → members j ≡ true → asked j ≤ most
also_at asked members most n below here j low = elim (cases_lt j n) as (λ _. members j ≡ true → asked j ≤ most) [
  | inl lt ↦ below j lt
  | inr ge ↦ let same : n ≡ j = omega (arith, low, ge) in subst (λ (i : ℕ). members i ≡ true → asked i ≤ most) same here
]

-- one of them has asked for the latest view
pub latest_among : (asked : ℕ → ℕ) (members : ℕ → Bool) (n some : ℕ) → members some ≡ true → (k : ℕ) × (members k ≡ true) × ((j : ℕ) → j < n → members j ≡ true → asked j ≤ asked k)
latest_among asked members zero some is = (some, is, λ j low _. absurd (omega (arith, low)))
latest_among asked members (suc n) some is =
    let got = latest_among asked members n some is in
    let stays : (asked n ≤ asked got.0) ⊎ (members n ≡ false) → (k : ℕ) × (members k ≡ true) × ((j : ℕ) → j < suc n → members j ≡ true → asked j ≤ asked k) =
    λ either. (got.0, got.1, also_at asked members (asked got.0) n got.2 (λ member. elim either [ inl le ↦ le | inr other ↦ absurd (cc (member, other)) ])) in
    elim (cases_Bool (members n)) [
      | inl member ↦ elim (cases_lt (asked got.0) (asked n)) [
        | inl lt ↦ (n, member, also_at asked members (asked n) n (λ j low is_j. let le = got.2 j low is_j in omega (arith, le, lt)) (λ _. omega arith))
        | inr le ↦ stays (inl le)
      ]
      | inr other ↦ stays (inr other)
    ]

pub a_member_leads : AMemberLeads
a_member_leads f faulty members view are =
    let n = replicas f in
    let leads = λ (v : ℕ). members (primary f v) in
    let next = λ (k : ℕ). leads (k + suc view) in
    let all = comes_round leads n (suc view) (λ k. ap members (add-mod_right k n)) in
    let each = same_below leads members n (λ k low. ap members (mod-eq_of_lt low)) in
    let beyond = few_beyond next (f + 1) n (omega arith) in
    let enough = are.enough in
    let none = none_below (λ (k : ℕ). false) (f + 1) (λ k. refl) in
    let got = one_more next (λ k. false) (f + 1) (omega (arith, all, each, beyond, enough, none)) in
    let low = got.1 in
    (got.0 + suc view, omega arith, omega (arith, low), got.2)

-- of as many numbers in a row as there are remainders one has each
in_a_row : (n q r from k : ℕ) → r + n * q ≡ from → r < n → k < n → (next : ℕ) × (from ≤ next) × (next < from + n) × (next % n ≡ k)
in_a_row n q r from k parts under low =
    let at : (m : ℕ) → (k + n * m) % n ≡ k = λ m. add-mul-mod_self_left k n m ∙ mod-eq_of_lt low in
    elim (cases_lt k r) [
      | inl before ↦
          let more : n * suc q ≡ n * q + n = mul-suc n q in
          (k + n * suc q, omega (arith, parts, under, more), omega (arith, parts, before, more), at (suc q))
      | inr behind ↦ (k + n * q, omega (arith, parts, behind), omega (arith, parts, low), at q)
    ]

-- each replica leads one of 3f + 1 views in a row
pub each_leads : (f view k : ℕ) → k < replicas f → (next : ℕ) × (view < next) × (next ≤ view + replicas f) × (primary f next ≡ k)
each_leads f view k low =
    let n = replicas f in
    let from = view + 1 in
    let got = in_a_row n (from / n) (from % n) from k (mod-add-div from n) (mod-lt from (omega (arith, low))) low in
    let above = got.1 in
    let near = got.2 in
    (got.0, omega (arith, above), omega (arith, near), got.3)
