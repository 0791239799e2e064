-- The requests of a part of a batch.
use Rattle.std.specs.Prelude.{ℕ, List, drop, take}

-- so many requests of a batch, from a place on
abbrev pub requests_from : (first count : ℕ) → (batch : List (List ℕ)) → List (List ℕ)
requests_from first count batch = take count (drop first batch)
