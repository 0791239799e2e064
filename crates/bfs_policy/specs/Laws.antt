-- What holds of a policy whatever it is told.
use Rattle.std.specs.Prelude.{◌≡◌, ◌↔◌, ℕ, ◌<◌, ◌≤◌, false, Some, None}
use Rattle.bfs_policy.specs.Policies.{Policy, decision_of, policy_after}
use Rattle.bfs_policy.specs.Timers.{most_patience}
use Rattle.bfs_policy.specs.declared.facts.Facts.{Facts}
use Rattle.bfs_policy.specs.declared.facts.Leaving.TheVariants.{Follows, Stays}
use Rattle.bfs_policy.specs.declared.timer.Timer.{Timer}

-- one at which nothing waits leaves its view only to follow others
abbrev pub TimesOutOnlyWaiting : Type 0
TimesOutOnlyWaiting = (policy : Policy) (facts : Facts) → facts.waits ≡ false → facts.follow ≡ None → (decision_of policy facts).leaving ≡ Stays

-- its patience is not below the least, nor above the greatest
abbrev pub IsPatient : Timer → Type 0
IsPatient timer = (timer.least ≤ timer.patience) × (timer.patience ≤ most_patience)

-- and stays so
abbrev pub PatienceIsBounded : Type 0
PatienceIsBounded = (policy : Policy) (facts : Facts) → IsPatient policy.timer → IsPatient (policy_after policy facts).timer

-- one that has executed something waits for the next request the least
abbrev pub ExecutionEndsPatience : Type 0
ExecutionEndsPatience = (policy : Policy) (facts : Facts) → policy.timer.seen.last < facts.own.last → (policy_after policy facts).timer.patience ≡ policy.timer.least

-- one that sees others ask for later views follows at once to that very view, whatever else it is told, and to no other
abbrev pub FollowsAsTold : Type 0
FollowsAsTold = (policy : Policy) (facts : Facts) (view : ℕ) → ((decision_of policy facts).leaving ≡ Follows view) ↔ (facts.follow ≡ Some view)
