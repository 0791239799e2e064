-- A store that is whole answers for all that any call reads, and may change all that it writes.
use Rattle.std.proofs.Common.{◌≡◌, ℕ, Bool, true, IsTrue, List, [], ◌∷◌}
use Rattle.std.specs.List.{AllByRecursion}
use Rattle.bfs_model.specs.Server.Footprints.{Footprint, known, whole}
use Rattle.bfs_tree.specs.Reach.{Reach, Knows}

all_of : (p : ℕ → Bool) (xs : List ℕ) → ((q : ℕ) → p q ≡ true) → AllByRecursion (λ q. IsTrue (p q)) xs
all_of p [] each = tt
all_of p (x ∷ xs) each = (each x, all_of p xs each)

pub knows_all_touched : (reach : Reach) (footprint : Footprint) → reach.whole ≡ true → ((id : ℕ) → reach.known id ≡ true) → ((id : ℕ) → reach.owned id ≡ true) → Knows reach footprint
knows_all_touched reach (known reads writes) is-whole knows owns = (all_of reach.known reads knows, all_of reach.owned writes owns)
knows_all_touched reach whole is-whole knows owns = is-whole
