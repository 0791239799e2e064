-- What holds of a policy whatever it is told.
use Rattle.std.proofs.Common.{◌≡◌, ◌∙◌, ◌≤◌, ◌*◌, ℕ, Bool, true, false, Option, Some, None, min, ap, arith}
use Rattle.std.specs.Prelude.{◌&&◌, not, if◌then◌else◌}
use Rattle.std.proofs.lemmas.Bool.{lt-ltb}
use Rattle.bfs_policy.specs.Laws.{ExecutionEndsPatience, FollowsAsTold, PatienceIsBounded, TimesOutOnlyWaiting}
use Rattle.bfs_policy.specs.Fetching.{is_hopeful}
use Rattle.bfs_policy.specs.Policies.{is_behind, is_time_out, leaving_by, may_wait, state_seen}
use Rattle.bfs_policy.specs.Timers.{has_asked, has_executed, is_late, most_patience, timer_after}
use Rattle.bfs_policy.specs.declared.facts.Leaving.TheVariants.{Follows}

pub times_out_only_waiting : TimesOutOnlyWaiting
times_out_only_waiting policy facts still none =
    let out : Bool → Bool = λ waits. is_late facts.now (timer_after facts.own (waits && may_wait policy facts.own) facts.now policy.timer)
    && not (is_behind policy facts && is_hopeful policy.f (state_seen policy facts)) in
    ap (λ (view : Option ℕ). leaving_by view (out facts.waits)) none ∙ ap (λ (waits : Bool). leaving_by None (out waits)) still

pub patience_is_bounded : PatienceIsBounded
patience_is_bounded policy facts is =
    let t = policy.timer in
    let own = facts.own in
    let P : ℕ → Type 0 = λ n. (t.least ≤ n) × (n ≤ most_patience) in
    elim (has_executed t own) as (λ b. P (if b then t.least else (if has_asked t own then min (2 * t.patience) most_patience else t.patience))) [
      | true ↦ (omega arith, omega arith)
      | false ↦ elim (has_asked t own) as (λ b. P (if b then min (2 * t.patience) most_patience else t.patience)) [
        | true ↦ (omega arith, omega arith)
        | false ↦ is
      ]
    ]

pub execution_ends_patience : ExecutionEndsPatience
execution_ends_patience policy facts above =
    let t = policy.timer in
    ap (λ (b : Bool). if b then t.least else (if has_asked t facts.own then min (2 * t.patience) most_patience else t.patience)) (lt-ltb t.seen.last facts.own.last above)

-- it leaves to follow only where it is told of a view
told_of : (o : Option ℕ) (out : Bool) (view : ℕ) → leaving_by o out ≡ Follows view → o ≡ Some view
told_of (Some other) out view e = let same : other ≡ view = cc in ap (λ (n : ℕ). Some n) same
told_of None true view e = absurd cc
told_of None false view e = absurd cc

pub follows_as_told : FollowsAsTold
follows_as_told policy facts view = (told_of facts.follow (is_time_out policy facts) view, λ e. ap (λ (o : Option ℕ). leaving_by o (is_time_out policy facts)) e)
