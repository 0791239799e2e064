-- Time, in microseconds.
use Rattle.std.specs.Prelude.{ℕ, ◌+◌, Bool, true, false, ◌||◌, Option, Some, None, min, nat_le, nat_lt}

-- since when something is so: since the look at which it began to be. A clock that was set back begins anew
abbrev pub since_when : Option ℕ → (is_so : Bool) → (now : ℕ) → Option ℕ
since_when before false now = None
since_when None true now = Some now
since_when (Some began) true now = Some (min began now)

-- it has been so for that time
abbrev pub has_lasted : Option ℕ → (time now : ℕ) → Bool
has_lasted None time now = false
has_lasted (Some began) time now = nat_le (began + time) now

-- nothing was done yet, or so long ago, or the clock was set back since
abbrev pub is_past : Option ℕ → (time now : ℕ) → Bool
is_past None time now = true
is_past (Some done) time now = nat_lt now done || nat_le (done + time) now
