-- What a crash leaves of bytes of which some are synced.
use Rattle.std.specs.Prelude.{◌≡◌, ℕ, ◌≤◌, List, take}

-- a front of them, with all that are synced
abbrev pub LeavesFront : (synced : ℕ) → (bytes c : List ℕ) → Type 0
LeavesFront synced bytes c = (count : ℕ) × (synced ≤ count) × (c ≡ take count bytes)
