-- How long a request waits before the next view is asked for (OSDI 1999 section 4.5.2). Times are in microseconds.
use Rattle.std.specs.Prelude.{ℕ, ◌*◌, Bool, ◌||◌, Option, None, min, nat_lt, if◌then◌else◌}
use Rattle.bfs_policy.specs.Times.{has_lasted, since_when}
use Rattle.bfs_policy.specs.declared.facts.Standing.{Standing}
use Rattle.bfs_policy.specs.declared.timer.Timer.{Timer}

-- the longest that a request waits
abbrev pub most_patience : ℕ
most_patience = 60000000

abbrev pub nowhere : Standing
nowhere = record { view = 0; asked = 0; last = 0; stable = 0 }

-- nothing waits yet
abbrev pub new_timer : (patience : ℕ) → Timer
new_timer patience = record { least = min patience most_patience; patience = min patience most_patience; since = None; seen = nowhere }

-- since it looked last it has executed something
abbrev pub has_executed : Timer → (own : Standing) → Bool
has_executed timer own = nat_lt timer.seen.last own.last

-- or has asked for a view
abbrev pub has_asked : Timer → (own : Standing) → Bool
has_asked timer own = nat_lt timer.seen.asked own.asked

-- or has entered one
abbrev pub has_entered : Timer → (own : Standing) → Bool
has_entered timer own = nat_lt timer.seen.view own.view

-- it waits the least once something was executed, and twice as long after each view that it has asked for
abbrev pub patience_after : Timer → (own : Standing) → ℕ
patience_after timer own = if has_executed timer own then timer.least else if has_asked timer own then min (2 * timer.patience) most_patience else timer.patience

-- what it does ends the waiting, and another one may begin
abbrev pub waited_after : Timer → (own : Standing) → Option ℕ
waited_after timer own = if has_executed timer own || (has_asked timer own || has_entered timer own) then None else timer.since

-- it looks where it stands, and whether something waits
abbrev pub timer_after : (own : Standing) → (waits : Bool) → (now : ℕ) → Timer → Timer
timer_after own waits now timer = record {
  least = timer.least;
  patience = patience_after timer own;
  since = since_when (waited_after timer own) waits now;
  seen = own;
}

-- a request has waited too long
abbrev pub is_late : (now : ℕ) → Timer → Bool
is_late now timer = has_lasted timer.since timer.patience now
