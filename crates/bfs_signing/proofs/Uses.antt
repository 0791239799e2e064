-- Uses of indexes that rise.
use Rattle.std.proofs.Common.{ℕ, ◌+◌, ◌≤◌, List, [], ◌∷◌, ◌++◌, arith}
use Rattle.bfs_signing.specs.Indexes.{Use, next_after, uses_of}
use Rattle.bfs_signing.specs.Lives.{RiseFrom}

-- and the last one is below that number
abbrev pub RiseTo : (least : ℕ) → List Use → (next : ℕ) → Type 0
RiseTo least [] next = least ≤ next
RiseTo least (one ∷ uses) next = (least ≤ one.index) × RiseTo (one.index + 1) uses next

pub to_lower : (lower least next : ℕ) (uses : List Use) → lower ≤ least → RiseTo least uses next → RiseTo lower uses next
to_lower lower least next [] le rise = omega (arith, le, rise)
to_lower lower least next (one ∷ uses) le rise = (omega (arith, le, rise.0), rise.1)

from_lower : (lower least : ℕ) (uses : List Use) → lower ≤ least → RiseFrom least uses → RiseFrom lower uses
from_lower lower least [] le rise = tt
from_lower lower least (one ∷ uses) le rise = (omega (arith, le, rise.0), rise.1)

-- those of one turn
pub one_use : (index : ℕ) (texts : List (List ℕ)) → RiseTo index (uses_of index texts) (next_after index texts)
one_use index [] = omega arith
one_use index (text ∷ texts) = (omega arith, omega arith)

-- some, and then others
pub rise_more : (least mid next : ℕ) (uses more : List Use) → RiseTo least uses mid → RiseTo mid more next → RiseTo least (uses ++ more) next
rise_more least mid next [] more first second = to_lower least mid next more first second
rise_more least mid next (one ∷ uses) more first second = (first.0, rise_more (one.index + 1) mid next uses more first.1 second)

pub rise_on : (least mid high : ℕ) (uses more : List Use) → RiseTo least uses mid → mid ≤ high → RiseFrom high more → RiseFrom least (uses ++ more)
rise_on least mid high [] more first le second = from_lower least high more (omega (arith, first, le)) second
rise_on least mid high (one ∷ uses) more first le second = (first.0, rise_on (one.index + 1) mid high uses more first.1 le second)
