-- What a request of a batch finds when its turn comes.
use Rattle.std.proofs.Common.{ℕ, zero, suc, ◌<◌, List, [], ◌∷◌, length, sym, subst, arith, inl, inr}
use Rattle.bfs_model.specs.Server.Tree.{Time, Inodes}
use Rattle.bfs_model.specs.Server.Serial.{ordinal_after, answer}
use Rattle.bfs_model.specs.Server.Footprints.{Footprint, IsFreshFor}
use Rattle.bfs_model.specs.Server.Conflicts.{AgreeOn}
use Rattle.bfs_model.specs.Server.Events.{state}
use Rattle.bfs_model.specs.Laws.Overtaking.{answered, asked_at}
use Rattle.bfs_model.proofs.Public.{IsServable, answer_keeps, new_in, shifted}

-- the inodes at a place of the batch serve its request
pub servable_there : (n : ℕ) (feet : ℕ → Footprint) (m : Inodes) (o : ℕ) (t : Time) (requests : List (List ℕ)) (k : ℕ) → IsServable m o → k < length requests
    → IsServable (state answered n (asked_at o t requests) feet m k) (asked_at o t requests k).ordinal
servable_there n feet m o t [] k good less = absurd (omega arith)
servable_there n feet m o t (request ∷ requests) zero good less = good
servable_there n feet m o t (request ∷ requests) (suc k) good less =
    subst (λ after. IsServable after (asked_at (ordinal_after o 1) t requests k).ordinal) (sym (shifted n feet (asked_at o t (request ∷ requests)) m k))
    (servable_there n feet (answer m o t request).0 (ordinal_after o 1) t requests k (answer_keeps m o t request good) (omega arith))

-- an ordinal is new where it is new on inodes that agree with these
pub fresh_seen : (m others : Inodes) (o : ℕ) (f : Footprint) → AgreeOn f m others → IsFreshFor m o f → IsFreshFor others o f
fresh_seen m others o f agree (inl spent) = inl spent
fresh_seen m others o f agree (inr new) = inr (new_in o m others f agree new)
