-- Levels rise from a call to a later one that conflicts with it.
use Rattle.std.proofs.Common.{◌≡◌, ℕ, ◌+◌, ◌<◌, ◌⊎◌, inl, inr, Bool, true, IsTrue, List, [], ◌∷◌, if◌then◌else◌, zero, suc, length, get_or, refl, ap, sym, ◌∙◌, arith}
use Rattle.bfs_model.specs.Server.Conflicts.{conflict}
use Rattle.bfs_model.specs.Laws.Overtaking.{footprint_at}
use Rattle.bfs_model.specs.Server.Footprints.{Footprint}
use Rattle.bfs_levels.specs.Planning.{height, level_behind, levels_behind, levels_of}

-- that call is one of these
IsIn : (Footprint × ℕ) → List (Footprint × ℕ) → Type 0
IsIn call [] = ⊥
IsIn call (other ∷ calls) = (call ≡ other) ⊎ IsIn call calls

below_height : (test : Footprint → Bool) (call : Footprint × ℕ) (calls : List (Footprint × ℕ)) → IsIn call calls → test call.0 ≡ true → call.1 < height test calls
unfolding IsIn
below_height test call [] is passes = absurd is
below_height test call (other ∷ calls) (inl same) passes =
    let level = ap (λ c. c.1) same in
    let first = ap (λ b. if b then other.1 + 1 else 0) (sym (ap (λ c. test c.0) same) ∙ passes) in
    omega arith
below_height test call (other ∷ calls) (inr rest) passes = let below = below_height test call calls rest passes in omega arith

above : (call : Footprint × ℕ) (earlier : List (Footprint × ℕ)) (footprints : List Footprint) (j : ℕ) → IsIn call earlier → j < length footprints → IsTrue (conflict call.0 (footprint_at footprints j))
    → call.1 < get_or (levels_behind earlier footprints) j 0
unfolding IsIn
above call earlier [] j is within meets = absurd (let no : ⊥ = omega arith in no)
above call earlier (footprint ∷ footprints) zero is within meets = below_height (λ other. conflict other footprint) call earlier is meets
above call earlier (footprint ∷ footprints) (suc j) is within meets = above call ((footprint, level_behind earlier footprint) ∷ earlier) footprints j (inr is) (omega arith) meets

rise_behind : (earlier : List (Footprint × ℕ)) (footprints : List Footprint) (i j : ℕ) → i < j → j < length footprints → IsTrue (conflict (footprint_at footprints i) (footprint_at footprints j))
    → get_or (levels_behind earlier footprints) i 0 < get_or (levels_behind earlier footprints) j 0
unfolding IsIn
rise_behind earlier [] i j before within meets = absurd (let no : ⊥ = omega arith in no)
rise_behind earlier (footprint ∷ footprints) i zero before within meets = absurd (let no : ⊥ = omega arith in no)
rise_behind earlier (footprint ∷ footprints) zero (suc j) before within meets =
    above (footprint, level_behind earlier footprint) ((footprint, level_behind earlier footprint) ∷ earlier) footprints j (inl refl) (omega arith) meets
rise_behind earlier (footprint ∷ footprints) (suc i) (suc j) before within meets = rise_behind ((footprint, level_behind earlier footprint) ∷ earlier) footprints i j (omega arith) (omega arith) meets

pub levels_rise : (footprints : List Footprint) (i j : ℕ) → i < j → j < length footprints → IsTrue (conflict (footprint_at footprints i) (footprint_at footprints j))
    → get_or (levels_of footprints) i 0 < get_or (levels_of footprints) j 0
levels_rise footprints = rise_behind [] footprints
