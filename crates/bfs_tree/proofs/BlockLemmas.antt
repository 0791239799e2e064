-- The blocks of all inodes are few enough for a sum of 64 bits, since their fileids are different numbers of 32 bits.
use Rattle.std.proofs.Common.{◌≡◌, ℕ, ◌+◌, ◌*◌, ◌<◌, ◌≤◌, List, [], ◌∷◌, sum_by, sym, ap, arith}
use Rattle.std.specs.Prelude.{⊤}
use Rattle.std.specs.Ordering.{nat_cmp}
use Rattle.std.specs.declared.cmp.Ordering.TheVariants.{Less}
use Rattle.std.specs.List.{AllByRecursion}
use Rattle.std.specs.List.Sorted.{IsStrictlySortedBy}
use Rattle.std.specs.Map.{keys_of}
use Rattle.std.specs.Cmp.{ranked}
use Rattle.bfs_model.specs.Server.Tree.{Inode}
use Rattle.bfs_model.specs.Bytes.Attributes.{blocks_of, size_of}

-- each inode counts fewer blocks than a word can tell
abbrev most : ℕ
most = 4294967295

abbrev pub blocks_at : ℕ × Inode → ℕ
blocks_at entry = blocks_of (size_of entry.1.body)

-- so many blocks before these entries are at most those of an inode for each fileid below
abbrev pub IsRoom : ℕ → List (ℕ × Inode) → Type 0
IsRoom blocks [] = ⊤
IsRoom blocks (e ∷ es) = (blocks ≤ most * e.0) × ((more : ℕ) → more ≤ most → IsRoom (blocks + more) es)

above : (n k : ℕ) (es : List (ℕ × Inode)) → n ≤ k → AllByRecursion (λ y. nat_cmp k y ≡ Less) (keys_of es) → AllByRecursion (λ y. n + 1 ≤ y) (keys_of es)
above n k [] h all = tt
above n k (e ∷ es) h all = (let lt : k < e.0 = ranked k e.0 Less (sym all.0) in omega arith, above n k es h all.1)

room_from : (n blocks : ℕ) (es : List (ℕ × Inode)) → blocks ≤ most * n → AllByRecursion (λ y. n ≤ y) (keys_of es) → IsStrictlySortedBy nat_cmp (keys_of es) → IsRoom blocks es
unfolding IsStrictlySortedBy
room_from n blocks [] h all sorted = tt
room_from n blocks (e ∷ es) h all sorted =
    (let le : n ≤ e.0 = all.0 in omega arith, λ more few. room_from (n + 1) (blocks + more) es (omega arith) (above n e.0 es all.0 sorted.0) sorted.1)

all_above_zero : (es : List (ℕ × Inode)) → AllByRecursion (λ y. 0 ≤ y) (keys_of es)
all_above_zero [] = tt
all_above_zero (e ∷ es) = (omega arith, all_above_zero es)

pub is_room : (es : List (ℕ × Inode)) → IsStrictlySortedBy nat_cmp (keys_of es) → IsRoom 0 es
is_room es sorted = room_from 0 0 es (omega arith) (all_above_zero es) sorted

-- at the end of the entries all are counted
pub all_counted : (blocks : ℕ) (rest all : List (ℕ × Inode)) → rest ≡ [] → blocks + sum_by blocks_at rest ≡ sum_by blocks_at all → blocks ≡ sum_by blocks_at all
all_counted blocks rest all none total = omega (arith, ap (sum_by blocks_at) none, total)
