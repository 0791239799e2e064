-- Who leads, and that a request goes to replicas.
use Rattle.std.proofs.Common.{◌≡◌, ◌∙◌, ℕ, ◌+◌, ◌<◌, Bool, true, false, cond, if◌then◌else◌, List, [], ◌∷◌, ◌++◌, filter, fold, get_or, length, max, take, refl, ap}
use Rattle.std.specs.Prelude.{nat_le}
use Rattle.std.proofs.lemmas.List.Elements.{filter-append}
use Rattle.std.proofs.lemmas.List.Sums.{fold-append}
use Rattle.bfs_relay.proofs.Folding.{taken_more}
use Rattle.bfs_model.specs.Server.Limits.{most_faults}
use Rattle.bfs_votes.specs.Votes.{primary}
use Rattle.bfs_frames.specs.declared.parcels.To.TheVariants.{Replica, Replicas}
use Rattle.bfs_relay.specs.Leaders.{IsToReplicas, leader, view_reached}

pub leader_is_replica : (f : ℕ) (views : List ℕ) → IsToReplicas (leader f views)
leader_is_replica f views = go (nat_le f most_faults)
  where
    go : (few : Bool) → IsToReplicas (cond few (Replica (primary f (view_reached f views))) Replicas)
    go true = tt
    go false = tt

-- one number more, of those that pass
greatest_more : (p : ℕ → Bool) (xs : List ℕ) (x : ℕ) → fold max 0 (filter p (xs ++ x ∷ [])) ≡ (if p x then max (fold max 0 (filter p xs)) x else fold max 0 (filter p xs))
greatest_more p xs x =
    ap (fold max 0) (filter-append p xs (x ∷ [])) ∙ fold-append max 0 (filter p xs) (filter p (x ∷ [])) ∙ go (p x)
  where
    go : (b : Bool) → fold max (fold max 0 (filter p xs)) (cond b (x ∷ []) []) ≡ (if b then max (fold max 0 (filter p xs)) x else fold max 0 (filter p xs))
    go true = refl
    go false = refl

pub reached_more : (p : ℕ → Bool) (xs : List ℕ) (i x : ℕ) → i < length xs → x ≡ get_or xs i x
    → fold max 0 (filter p (take (i + 1) xs)) ≡ (if p x then max (fold max 0 (filter p (take i xs))) x else fold max 0 (filter p (take i xs)))
reached_more p xs i x within is = ap (λ some. fold max 0 (filter p some)) (taken_more xs i x within is) ∙ greatest_more p (take i xs) x
