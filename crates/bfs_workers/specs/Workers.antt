-- How many workers there can be.
use Rattle.std.specs.Prelude.{ℕ}

abbrev pub most_workers : ℕ
most_workers = 64
