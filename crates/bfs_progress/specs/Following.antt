-- Following others to a later view (OSDI 1999 section 4.5.2).
use Rattle.std.specs.Prelude.{◌≡◌, ℕ, zero, suc, ◌+◌, ◌≤◌, ◌==◌, max, Bool, true, ◌&&◌, not, nat_le, if◌then◌else◌}
use Rattle.bfs_votes.specs.Votes.{count_below, replicas}
use Rattle.bfs_agreement.specs.Histories.{World}

-- how many others are heard to ask for a view or a later one
abbrev pub askers : (f me : ℕ) → (heard : ℕ → ℕ) → (view : ℕ) → ℕ
askers f me heard view = count_below (λ k. not (k == me) && nat_le view (heard k)) (replicas f)

-- f + 1 are, so a correct one among them (OSDI 1999 section 4.5.2)
abbrev pub may_follow : (f me : ℕ) → (heard : ℕ → ℕ) → (view : ℕ) → Bool
may_follow f me heard view = nat_le (f + 1) (askers f me heard view)

-- the latest view that one below a bound is heard to ask for
abbrev pub latest_heard : (heard : ℕ → ℕ) → (bound : ℕ) → ℕ
latest_heard heard zero = 0
latest_heard heard (suc k) = max (heard k) (latest_heard heard k)

-- the latest view up to one that a replica may follow to, and 0 where there is none
abbrev pub followed_to : (f me : ℕ) → (heard : ℕ → ℕ) → (most : ℕ) → ℕ
followed_to f me heard zero = 0
followed_to f me heard (suc view) = if may_follow f me heard (suc view) then suc view else followed_to f me heard view

-- the view that each follows to, by what it has heard of each
abbrev pub follows : (f : ℕ) → (heard : ℕ → ℕ → ℕ) → (me : ℕ) → ℕ
follows f heard me = followed_to f me (heard me) (latest_heard (heard me) (replicas f))

-- each member has heard what each has asked for; of others it may have heard anything
abbrev pub AskedIsHeard : (members : ℕ → Bool) → World → (heard : ℕ → ℕ → ℕ) → Type 0
AskedIsHeard members w heard = (j k : ℕ) → members j ≡ true → members k ≡ true → heard j k ≡ (w k).now.asked

-- f + 1 of the members have asked for a view or a later one
abbrev pub SomeHaveAsked : (f : ℕ) (members : ℕ → Bool) → World → (view : ℕ) → Type 0
SomeHaveAsked f members w view = f + 1 ≤ count_below (λ k. members k && nat_le view (w k).now.asked) (replicas f)
