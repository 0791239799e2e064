-- How often the entries of all directories name an inode, as far as it is counted.
use Rattle.std.specs.Prelude.{◌≡◌, ℕ, ◌+◌, ◌≤◌, min}
use Rattle.std.specs.Option.{unwrap_or}
use Rattle.std.specs.Ordering.{nat_cmp}
use Rattle.std.specs.FinMap.{FinMap, get}

-- counts by fileid
abbrev pub Counted : Type 0
Counted = FinMap nat_cmp ℕ

-- no more are counted than a word holds, which is more links than an inode may have
abbrev pub most_counted : ℕ
most_counted = 4294967295

abbrev pub counted_at : Counted → (id : ℕ) → ℕ
counted_at names id = unwrap_or (get names id) 0

abbrev pub AreWithin : Counted → Type 0
AreWithin names = (id : ℕ) → counted_at names id ≤ most_counted

-- so often more for each inode
abbrev pub Adds : (old : Counted) → (more : ℕ → ℕ) → (new : Counted) → Type 0
Adds old more new = (id : ℕ) → counted_at new id ≡ min (counted_at old id + more id) most_counted
