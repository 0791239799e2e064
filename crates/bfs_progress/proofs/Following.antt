-- By following f + 1 others, nobody lags behind, and nobody goes past all members.
use Rattle.std.proofs.Common.{◌≡◌, ℕ, zero, suc, ◌+◌, ◌*◌, ◌<◌, ◌≤◌, ◌==◌, max, Bool, true, false, ◌&&◌, not, nat_le, cond, ◌⊎◌, inl, inr, refl, sym, subst, arith}
use Rattle.std.proofs.lemmas.Bool.{and_parts, and_from, cond_both, leb-true, le-leb, cases_lt, not_from_false}
use Rattle.bfs_votes.specs.Votes.{count_below, replicas}
use Rattle.bfs_votes.proofs.Public.{more, none_below}
use Rattle.bfs_agreement.specs.Histories.{World}
use Rattle.bfs_agreement.specs.Moves.{new_world}
use Rattle.bfs_progress.specs.Premises.{reached}
use Rattle.bfs_progress.specs.Members.{HaveAsked}
use Rattle.bfs_progress.specs.Exchanges.{all_time_out}
use Rattle.bfs_progress.specs.Following.{askers, may_follow, latest_heard, followed_to, follows, AskedIsHeard, SomeHaveAsked}
use Rattle.bfs_progress.specs.Laws.{NoneLags, AllAsk}
use Rattle.bfs_progress.proofs.Numbers.{each_below, differs, one_more}
use Rattle.bfs_progress.proofs.Turns.{after_join}
use Rattle.bfs_progress.proofs.Reached.{always}
use Rattle.bfs_progress.proofs.Asking.{all_timed, run_on}

-- Counting ------------------------------------------------------------------------------------------------------------

step_apart : (b : Bool) (x y n : ℕ) → x + y ≡ n → cond b (1 + x) x + cond (not b) (1 + y) y ≡ suc n
step_apart true x y n e = omega (arith, e)
step_apart false x y n e = omega (arith, e)

-- who passes a test and who doesn't are all
pub apart : (p : ℕ → Bool) (n : ℕ) → count_below p n + count_below (λ k. not (p k)) n ≡ n
apart p zero = omega arith
apart p (suc n) = step_apart (p n) (count_below p n) (count_below (λ k. not (p k)) n) n (apart p n)

-- The rule ------------------------------------------------------------------------------------------------------------

module _ (f : ℕ) (members : ℕ → Bool) (w : World) (heard : ℕ → ℕ → ℕ) (hear : AskedIsHeard members w heard) where
  -- of f + 1 others one is a member
  follows_member : 2 * f + 1 ≤ count_below members (replicas f) → (k view : ℕ) → members k ≡ true → may_follow f k (heard k) view ≡ true → (j : ℕ) × (members j ≡ true) × (view ≤ (w j).now.asked)
  follows_member enough k view in_k may =
      let many = leb-true (f + 1) (askers f k (heard k) view) may in
      let all_of = apart members (replicas f) in
      let got = one_more (λ j. not (j == k) && nat_le view (heard k j)) (λ j. not (members j)) (replicas f) (omega (arith, many, all_of, enough)) in
      let j = got.0 in
      let in_j : members j ≡ true = not_out (members j) got.3 in
      let le = leb-true view (heard k j) (and_parts (not (j == k)) (nat_le view (heard k j)) got.2).1 in
      let is = hear k j in_k in_j in
      (j, in_j, omega (arith, le, is))
    where
      not_out : (b : Bool) → not b ≡ false → b ≡ true
      not_out true e = refl
      not_out false e = absurd cc

  -- who asks for less hears f + 1 others
  hears_some : (k view : ℕ) → members k ≡ true → SomeHaveAsked f members w view → (w k).now.asked < view → f + 1 ≤ askers f k (heard k) view
  hears_some k view in_k some less =
      let asks = λ (j : ℕ). members j && nat_le view (w j).now.asked in
      let hears = λ (j : ℕ). not (j == k) && nat_le view (heard k j) in
      let grown : count_below asks (replicas f) ≤ askers f k (heard k) view = more asks hears (replicas f) (λ j x.
      let c = and_parts (members j) (nat_le view (w j).now.asked) x in
      let le = leb-true view (w j).now.asked c.1 in
      let is = hear k j in_k c.0 in
      let other : (j == k) ≡ false = differs j k (λ e. let at_k : view ≤ (w k).now.asked = subst (λ (y : ℕ). view ≤ (w y).now.asked) e le in omega (arith, at_k, less)) in
      and_from (not (j == k)) (nat_le view (heard k j)) (not_from_false (j == k) other) (le-leb view (heard k j) (omega (arith, le, is)))) in
      omega (arith, grown, some)

pub none_lags : NoneLags
none_lags f members w heard k view enough hear in_k = (
  λ some less. le-leb (f + 1) (askers f k (heard k) view) (hears_some f members w heard hear k view in_k some less),
  λ may. follows_member f members w heard hear enough k view in_k may,
)

-- Following -----------------------------------------------------------------------------------------------------------

heard_latest : (heard : ℕ → ℕ) (bound k : ℕ) → k < bound → heard k ≤ latest_heard heard bound
heard_latest heard zero k low = absurd (omega (arith, low))
heard_latest heard (suc b) k low =
    each_below b (λ j. heard j ≤ max (heard b) (latest_heard heard b)) (omega arith) (λ j lower. let le = heard_latest heard b j lower in omega (arith, le)) k low

-- a view that some are heard to ask for is none later than the latest
askers_latest : (f me : ℕ) (heard : ℕ → ℕ) (view : ℕ) → 0 < askers f me heard view → view ≤ latest_heard heard (replicas f)
askers_latest f me heard view some =
    let none = none_below (λ j. false) (replicas f) (λ j. refl) in
    let got = one_more (λ j. not (j == me) && nat_le view (heard j)) (λ j. false) (replicas f) (omega (arith, none, some)) in
    let le = leb-true view (heard got.0) (and_parts (not (got.0 == me)) (nat_le view (heard got.0)) got.2).1 in
    let latest = heard_latest heard (replicas f) got.0 got.1 in
    omega (arith, le, latest)

-- the rule is followed at least so far
followed_least : (f me : ℕ) (heard : ℕ → ℕ) (most view : ℕ) → view ≤ most → may_follow f me heard view ≡ true → view ≤ followed_to f me heard most
followed_least f me heard zero view le may = omega (arith, le)
followed_least f me heard (suc most) view le may = cond_both (may_follow f me heard (suc most)) (suc most) (followed_to f me heard most) (λ (x : ℕ). view ≤ x)
    (λ _. le)
    (λ not_to. elim (cases_lt view (suc most)) [
      | inl lt ↦ followed_least f me heard most view (omega (arith, lt)) may
      | inr ge ↦ let same : view ≡ suc most = omega (arith, ge, le) in let here = subst (λ (x : ℕ). may_follow f me heard x ≡ true) same may in absurd cc
    ])

-- and never without f + 1 others
followed_by : (f me : ℕ) (heard : ℕ → ℕ) (most : ℕ) → (followed_to f me heard most ≡ 0) ⊎ (may_follow f me heard (followed_to f me heard most) ≡ true)
followed_by f me heard zero = inl refl
followed_by f me heard (suc most) =
    cond_both (may_follow f me heard (suc most)) (suc most) (followed_to f me heard most) (λ (x : ℕ). (x ≡ 0) ⊎ (may_follow f me heard x ≡ true)) (λ may. inr may) (λ _. followed_by f me heard most)

pub all_ask : AllAsk
all_ask f null faulty members turns heard view run may hear some =
    let w = reached f null turns in
    let further = all_time_out members w (follows f heard) (replicas f) in
    let timed = all_timed f null faulty members w (follows f heard) view (always f null faulty turns run) may.quorum in
    let no_later : (k : ℕ) → members k ≡ true → follows f heard k ≤ view = λ k x. elim (followed_by f k (heard k) (latest_heard (heard k) (replicas f))) [
      | inl none ↦ omega (arith, none)
      | inr ready ↦ let got = follows_member f members w heard hear may.quorum.enough k (follows f heard k) x ready in let le = got.2 in let most = may.asked got.0 got.1 in omega (arith, le, most)
    ] in
    let so_far : (k : ℕ) → members k ≡ true → (w k).now.asked < view → view ≤ follows f heard k = λ k x less.
    let many = hears_some f members w heard hear k view x some less in
    followed_least f k (heard k) (latest_heard (heard k) (replicas f)) view (askers_latest f k (heard k) view (omega (arith, many))) (le-leb (f + 1) (askers f k (heard k) view) many) in (
      run_on f null faulty members turns further run timed.further,
      subst (λ (x : World). HaveAsked f faulty members x view) (sym (after_join f null new_world turns further)) (record {
        quorum = may.quorum;
        asked = λ k x. let e = (timed.asked k x).0 in let le = may.asked k x in let to = no_later k x in elim (cases_lt (w k).now.asked view) [
          | inl less ↦ let from = so_far k x less in omega (arith, e, from, to, less)
          | inr there ↦ omega (arith, e, le, to, there)
        ];
        before = λ k x. subst (λ (y : ℕ). y < view) (sym (timed.asked k x).1) (may.before k x);
      }),
    )
