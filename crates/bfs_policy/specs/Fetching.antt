-- From whom a state is fetched: from one after another. Times are in microseconds.
use Rattle.std.specs.Prelude.{ℕ, ◌+◌, ◌*◌, ◌==◌, Bool, ◌&&◌, ◌||◌, Option, Some, None, min, nat_lt, if◌then◌else◌}
use Rattle.bfs_policy.specs.Times.{has_lasted, is_past, since_when}
use Rattle.bfs_policy.specs.declared.fetching.Fetching.{Fetching}

-- how long others are ahead before a state is asked for
abbrev pub behind_time : ℕ
behind_time = 300000

-- how long the next piece of it is waited for
abbrev pub piece_time : ℕ
piece_time = 500000

abbrev pub nothing_fetched : Fetching
nothing_fetched = record { since = None; from = 0; asked_at = None; asks = 0 }

-- the replica behind one of 3f + 1, the first behind the last
abbrev pub next_of : (f k : ℕ) → ℕ
next_of f k = if nat_lt k (3 * f) then k + 1 else 0

-- the next one that isn't this one
abbrev pub next_other : (f me k : ℕ) → ℕ
next_other f me k = if next_of f k == me then next_of f me else next_of f k

-- how often it may ask in vain before it hopes for none: each other one twice
abbrev pub most_asks : (f : ℕ) → ℕ
most_asks f = 6 * f

abbrev pub is_hopeful : (f : ℕ) → Fetching → Bool
is_hopeful f fetching = nat_lt fetching.asks (most_asks f)

-- it looks whether it has executed something, by itself or by a state that has come, whether it is behind, and whether a piece has come
abbrev pub fetching_seen : (has_executed is_behind has_piece : Bool) → (now : ℕ) → Fetching → Fetching
fetching_seen has_executed is_behind has_piece now fetching = record {
  since = since_when (if has_executed then None else fetching.since) is_behind now;
  from = fetching.from;
  asked_at = if has_piece then Some now else (if has_executed then None else fetching.asked_at);
  asks = if has_executed then 0 else fetching.asks;
}

-- it has been behind for long, or has executed nothing and may have forgotten all; and no answer is waited for
abbrev pub is_fetch_due : (f last now : ℕ) → Fetching → Bool
is_fetch_due f last now fetching =
    (has_lasted fetching.since behind_time now || ((last == 0) && is_hopeful f fetching)) && is_past fetching.asked_at piece_time now

-- the next one is asked
abbrev pub fetching_asked : (f me now : ℕ) → Fetching → Fetching
fetching_asked f me now fetching = record {
  since = fetching.since;
  from = next_other f me fetching.from;
  asked_at = Some now;
  asks = min (fetching.asks + 1) (most_asks f);
}

abbrev pub fetching_after : (f me last now : ℕ) → Fetching → Fetching
fetching_after f me last now fetching = if is_fetch_due f last now fetching then fetching_asked f me now fetching else fetching

abbrev pub fetched_from : (f me last now : ℕ) → Fetching → Option ℕ
fetched_from f me last now fetching = if is_fetch_due f last now fetching then Some (next_other f me fetching.from) else None
