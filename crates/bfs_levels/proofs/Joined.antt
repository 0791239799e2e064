-- One more call of a plan.
use Rattle.std.proofs.Common.{◌≡◌, ℕ, ◌+◌, ◌||◌, ◌≤◌, Bool, true, false, nat_eq, nat_lt, not, None, Some, max, List, [], ◌∷◌, ◌++◌, if◌then◌else◌, length, map, refl, ap, sym, subst, ◌∙◌, arith}
use Rattle.std.specs.List.{list_any}
use Rattle.bfs_model.specs.Server.Footprints.{Footprint}
use Rattle.bfs_model.specs.Server.Conflicts.{conflict}
use Rattle.bfs_levels.specs.Planning.{Touch, height, level_behind, levels_behind, levels_of, parts}
use Rattle.bfs_levels.specs.Marking.{IsMarked, levelled, levelled_behind}
use Rattle.bfs_levels.specs.Planned.{IsPlan, calls_in, level_joined}
use Rattle.bfs_levels.specs.declared.plans.Rule.{Rule}
use Rattle.std.specs.Bool.{then_some}
use Rattle.bfs_levels.specs.declared.plans.Plan.{Plan}
use Rattle.bfs_footprint.specs.Seen.{footprint_seen}
use Rattle.bfs_footprint.specs.declared.footprints.Footprint.{Footprint as Code}
use Rattle.std.proofs.lemmas.List.{map-append}
use Rattle.bfs_levels.specs.declared.marks.Marks.{Marks}
use Rattle.bfs_levels.proofs.Heights.{height_low}

pub levels_more_behind : (earlier : List (Footprint × ℕ)) (footprints : List Footprint) (footprint : Footprint)
    → levels_behind earlier (footprints ++ footprint ∷ []) ≡ levels_behind earlier footprints ++ level_behind (levelled_behind earlier footprints) footprint ∷ []
levels_more_behind earlier [] footprint = refl
levels_more_behind earlier (first ∷ footprints) footprint = ap (λ levels. level_behind earlier first ∷ levels) (levels_more_behind ((first, level_behind earlier first) ∷ earlier) footprints footprint)

pub levels_more : (footprints : List Footprint) (footprint : Footprint) → levels_of (footprints ++ footprint ∷ []) ≡ levels_of footprints ++ level_behind (levelled footprints) footprint ∷ []
levels_more footprints footprint = levels_more_behind [] footprints footprint

pub levelled_more_behind : (earlier : List (Footprint × ℕ)) (footprints : List Footprint) (footprint : Footprint)
    → levelled_behind earlier (footprints ++ footprint ∷ []) ≡ (footprint, level_behind (levelled_behind earlier footprints) footprint) ∷ levelled_behind earlier footprints
levelled_more_behind earlier [] footprint = refl
levelled_more_behind earlier (first ∷ footprints) footprint = levelled_more_behind ((first, level_behind earlier first) ∷ earlier) footprints footprint

pub levelled_more : (footprints : List Footprint) (footprint : Footprint) → levelled (footprints ++ footprint ∷ []) ≡ (footprint, level_behind (levelled footprints) footprint) ∷ levelled footprints
levelled_more footprints footprint = levelled_more_behind [] footprints footprint

length_levelled_behind : (earlier : List (Footprint × ℕ)) (footprints : List Footprint) → length (levelled_behind earlier footprints) ≡ length footprints + length earlier
length_levelled_behind earlier [] = omega arith
length_levelled_behind earlier (first ∷ footprints) = let more = length_levelled_behind ((first, level_behind earlier first) ∷ earlier) footprints in omega arith

pub length_levelled : (footprints : List Footprint) → length (levelled footprints) ≡ length footprints
length_levelled footprints = let all = length_levelled_behind [] footprints in omega arith

or_past : (a b c : Bool) → (b || (a || c)) ≡ ((a || b) || c)
or_past true true c = refl
or_past true false c = refl
or_past false b c = refl

any_levelled_behind : (test : Footprint → Bool) (earlier : List (Footprint × ℕ)) (footprints : List Footprint)
    → list_any (λ call. test call.0) (levelled_behind earlier footprints) ≡ (list_any (λ call. test call.0) earlier || list_any test footprints)
any_levelled_behind test earlier [] = or_false (list_any (λ call. test call.0) earlier)
  where
    or_false : (b : Bool) → b ≡ (b || false)
    or_false true = refl
    or_false false = refl
any_levelled_behind test earlier (first ∷ footprints) =
    any_levelled_behind test ((first, level_behind earlier first) ∷ earlier) footprints
    ∙ sym (or_past (test first) (list_any (λ call. test call.0) earlier) (list_any test footprints))

-- a test that one of the calls passes is passed by one of those with levels
pub any_levelled : (test : Footprint → Bool) (footprints : List Footprint) → list_any (λ call. test call.0) (levelled footprints) ≡ list_any test footprints
any_levelled test footprints = any_levelled_behind test [] footprints

positive_or : (b : Bool) (n h : ℕ) → nat_lt 0 (max (if b then n + 1 else 0) h) ≡ (b || nat_lt 0 h)
positive_or true n h = grind arith
positive_or false n h = ap (nat_lt 0) (omega arith)

-- the height is above 0 where a call passes the test
pub height_positive : (test : Footprint → Bool) (calls : List (Footprint × ℕ)) → nat_lt 0 (height test calls) ≡ list_any (λ call. test call.0) calls
height_positive test [] = refl
height_positive test (call ∷ calls) = positive_or (test call.0) call.1 (height test calls) ∙ ap (λ rest. test call.0 || rest) (height_positive test calls)

-- whether a call is parted from one that is planned is told by the marks
pub parts_told : (test : Footprint → Bool) (footprints : List Footprint) (mark : ℕ) → mark ≡ height test (levelled footprints) → nat_lt 0 mark ≡ list_any test footprints
parts_told test footprints mark is = ap (nat_lt 0) is ∙ height_positive test (levelled footprints) ∙ any_levelled test footprints

-- and where none parts it, so is its level
pub level_told : (rule : Rule) (calls : List Footprint) (call : Touch) (parting level : ℕ) → parting ≡ height (λ other. parts rule other call) (levelled calls) → level ≡ level_behind (levelled calls) call.footprint
    → then_some (nat_eq parting 0) level ≡ level_joined rule calls call
level_told rule calls call parting level parted is =
    ap (λ b. then_some b level) (positive_not parting) ∙ ap (λ b. then_some (not b) level) (parts_told (λ other. parts rule other call) calls parting parted) ∙ chosen (list_any (λ other. parts rule other call) calls) ∙ ap (λ l. if list_any (λ other. parts rule other call) calls then None else Some l) is
  where
    positive_not : (n : ℕ) → nat_eq n 0 ≡ not (nat_lt 0 n)
    positive_not n = grind arith

    chosen : (b : Bool) → then_some (not b) level ≡ (if b then None else Some level)
    chosen true = refl
    chosen false = refl

pub level_low : (marks : Marks) (footprints : List Footprint) (footprint : Footprint) → IsMarked marks (levelled footprints) → level_behind (levelled footprints) footprint ≤ length footprints
level_low marks footprints footprint is =
    let below = height_low (λ other. conflict other footprint) (levelled footprints) in
    let low = is.low in
    let count = length_levelled footprints in
    omega arith

-- once the footprint stands behind those of a plan, its level behind their levels, and the marks hold it, it is a plan of one call more
pub planned_more : (plan next : Plan) (footprint : Code) (level : ℕ) → IsPlan plan → level ≡ level_behind (levelled (calls_in plan)) (footprint_seen footprint)
    → next.footprints.items ≡ plan.footprints.items ++ footprint ∷ [] → next.level_of.items ≡ plan.level_of.items ++ level ∷ []
    → ((earlier : List (Footprint × ℕ)) → level ≤ length earlier → IsMarked plan.marks earlier → IsMarked next.marks ((footprint_seen footprint, level) ∷ earlier)) → IsPlan next
planned_more plan next footprint level is is_level footprints levels more =
    let within = level_low plan.marks (calls_in plan) (footprint_seen footprint) is.marked in
    let count = length_levelled (calls_in plan) in
    let calls = sym (ap (map footprint_seen) footprints ∙ map-append footprint_seen plan.footprints.items (footprint ∷ [])) in
    let P : List (Footprint × ℕ) → Type 0 = λ calls. IsMarked next.marks calls in
    record {
      levels_are = levels ∙ ap (λ first. first ++ level ∷ []) is.levels_are ∙ ap (λ l. levels_of (calls_in plan) ++ l ∷ []) is_level ∙ sym (levels_more (calls_in plan) (footprint_seen footprint)) ∙ ap levels_of calls;
      marked = subst P (ap (λ l. (footprint_seen footprint, l) ∷ levelled (calls_in plan)) is_level ∙ sym (levelled_more (calls_in plan) (footprint_seen footprint)) ∙ ap levelled calls) (more (levelled (calls_in plan)) (omega arith) is.marked);
    }

-- Which calls join -----------------------------------------------------------------------------------------------------------

pub joins : (rule : Rule) (calls : List Footprint) (call : Touch) (level : ℕ) → Some level ≡ level_joined rule calls call
    → (list_any (λ earlier. parts rule earlier call) calls ≡ false) × (level ≡ level_behind (levelled calls) call.footprint)
joins rule calls call level is = go (list_any (λ earlier. parts rule earlier call) calls) is
  where
    go : (parted : Bool) → Some level ≡ (if parted then None else Some (level_behind (levelled calls) call.footprint)) → (parted ≡ false) × (level ≡ level_behind (levelled calls) call.footprint)
    go true is = absurd (let no : ⊥ = cc in no)
    go false is = (refl, let same : level ≡ level_behind (levelled calls) call.footprint = cc in same)

pub joins_none : (rule : Rule) (calls : List Footprint) (call : Touch) → None ≡ level_joined rule calls call → list_any (λ earlier. parts rule earlier call) calls ≡ true
joins_none rule calls call is = go (list_any (λ earlier. parts rule earlier call) calls) is
  where
    go : (parted : Bool) → None ≡ (if parted then None else Some (level_behind (levelled calls) call.footprint)) → parted ≡ true
    go true is = refl
    go false is = absurd (let no : ⊥ = cc in no)
