-- The level of a call is told by the marks at its own fileids.
use Rattle.std.proofs.Common.{◌≡◌, ℕ, ◌+◌, ◌==◌, ◌||◌, ◌≤◌, Bool, true, false, max, List, [], ◌∷◌, ◌++◌, if◌then◌else◌, refl, ap, sym, ◌∙◌, arith}
use Rattle.std.specs.List.{list_any}
use Rattle.std.specs.HashMap.{HashMap}
use Rattle.std.proofs.lemmas.List.Folds.{list_any-append}
use Rattle.bfs_model.specs.Server.Footprints.{Footprint, known, whole}
use Rattle.bfs_model.specs.Server.Conflicts.{among, conflict, is_touched}
use Rattle.bfs_model.specs.Server.Conflicts.{is_whole}
use Rattle.bfs_levels.specs.Planning.{Touch, height, level_behind, parts_groups}
use Rattle.bfs_levels.specs.Marking.{IsMarked, highest_at, higher, mark_at, names_written, names_touched, no_mark}
use Rattle.bfs_levels.specs.declared.marks.Mark.{Mark}
use Rattle.bfs_levels.specs.declared.marks.Marks.{Marks}

-- Heights of tests -------------------------------------------------------------------------------------------------------

one_or : (p q : Bool) (n l r : ℕ) → max (if (p || q) then n else 0) (max l r) ≡ max (max (if p then n else 0) l) (max (if q then n else 0) r)
one_or true true n l r = omega arith
one_or true false n l r = omega arith
one_or false true n l r = omega arith
one_or false false n l r = omega arith

-- of those that pass one test or another the highest is the highest of the two
pub height_or : (p q : Footprint → Bool) (calls : List (Footprint × ℕ)) → height (λ f. p f || q f) calls ≡ max (height p calls) (height q calls)
height_or p q [] = refl
height_or p q (call ∷ calls) =
    ap (max (if (p call.0 || q call.0) then call.1 + 1 else 0)) (height_or p q calls) ∙ one_or (p call.0) (q call.0) (call.1 + 1) (height p calls) (height q calls)

pub height_none : (calls : List (Footprint × ℕ)) → height (λ f. false) calls ≡ 0
height_none [] = refl
height_none (call ∷ calls) = ap (max 0) (height_none calls)

pub height_same : (p q : Footprint → Bool) (calls : List (Footprint × ℕ)) → ((f : Footprint) → p f ≡ q f) → height p calls ≡ height q calls
height_same p q [] same = refl
height_same p q (call ∷ calls) same =
    ap (λ b. max (if b then call.1 + 1 else 0) (height p calls)) (same call.0) ∙ ap (max (if q call.0 then call.1 + 1 else 0)) (height_same p q calls same)

one_low : (p : Bool) (n l r : ℕ) → l ≤ r → max (if p then n else 0) l ≤ max n r
one_low true n l r low = omega arith
one_low false n l r low = omega arith

-- no test finds any higher than the highest
pub height_low : (p : Footprint → Bool) (calls : List (Footprint × ℕ)) → height p calls ≤ height (λ f. true) calls
height_low p [] = omega arith
height_low p (call ∷ calls) = one_low (p call.0) (call.1 + 1) (height p calls) (height (λ f. true) calls) (height_low p calls)

-- Over fileids ------------------------------------------------------------------------------------------------------------

written_over : {S : Type 0} (marks : HashMap ℕ Mark S) (calls : List (Footprint × ℕ)) (mark : Mark) (ids : List ℕ) → ((id : ℕ) → (mark_at marks id).written ≡ height (λ f. names_written f id) calls)
    → (highest_at marks mark ids).written ≡ max mark.written (height (λ f. list_any (names_written f) ids) calls)
written_over marks calls mark [] is = let none = height_none calls in omega arith
written_over marks calls mark (id ∷ ids) is =
    let rest = written_over marks calls (higher mark (mark_at marks id)) ids is in
    let both = height_or (λ f. names_written f id) (λ f. list_any (names_written f) ids) calls in
    let first = is id in omega arith

touched_over : {S : Type 0} (marks : HashMap ℕ Mark S) (calls : List (Footprint × ℕ)) (mark : Mark) (ids : List ℕ) → ((id : ℕ) → (mark_at marks id).touched ≡ height (λ f. names_touched f id) calls)
    → (highest_at marks mark ids).touched ≡ max mark.touched (height (λ f. list_any (names_touched f) ids) calls)
touched_over marks calls mark [] is = let none = height_none calls in omega arith
touched_over marks calls mark (id ∷ ids) is =
    let rest = touched_over marks calls (higher mark (mark_at marks id)) ids is in
    let both = height_or (λ f. names_touched f id) (λ f. list_any (names_touched f) ids) calls in
    let first = is id in omega arith

-- Conflicts, by the fileids of the later call ---------------------------------------------------------------------------------

eq_turned : (m n : ℕ) → (m == n) ≡ (n == m)
eq_turned m n = grind arith

pub any_none : (ids : List ℕ) → list_any (λ id. false) ids ≡ false
any_none [] = refl
any_none (id ∷ ids) = any_none ids

pub or_middle : (a b c d : Bool) → ((a || b) || (c || d)) ≡ ((a || c) || (b || d))
or_middle true b c d = refl
or_middle false true true d = refl
or_middle false true false d = refl
or_middle false false c d = refl

pub any_or : (p q : ℕ → Bool) (ids : List ℕ) → list_any (λ id. p id || q id) ids ≡ (list_any p ids || list_any q ids)
any_or p q [] = refl
any_or p q (id ∷ ids) = ap (λ rest. (p id || q id) || rest) (any_or p q ids) ∙ or_middle (p id) (q id) (list_any p ids) (list_any q ids)

among_as_any : (ids : List ℕ) (x : ℕ) → list_any (λ id. x == id) ids ≡ among ids x
among_as_any [] x = refl
among_as_any (id ∷ ids) x = ap (λ b. b || list_any (λ y. x == y) ids) (eq_turned x id) ∙ ap (λ rest. id == x || rest) (among_as_any ids x)

-- two lists meet whichever is gone through
any_turned : (xs ys : List ℕ) → list_any (among xs) ys ≡ list_any (among ys) xs
any_turned [] ys = any_none ys
any_turned (x ∷ xs) ys = any_or (λ id. x == id) (among xs) ys ∙ ap (λ b. b || list_any (among xs) ys) (among_as_any ys x) ∙ ap (λ rest. among ys x || rest) (any_turned xs ys)

or_twice : (a b c : Bool) → ((a || b) || (c || b)) ≡ (a || (c || b))
or_twice true b c = refl
or_twice false true true = refl
or_twice false true false = refl
or_twice false false c = refl

-- an earlier call conflicts with a later one where it has all inodes, writes one that the later reads, or touches one that it writes
pub conflict_by_ids : (reads writes : List ℕ) (earlier : Footprint)
    → conflict earlier (known reads writes) ≡ (is_whole earlier || (list_any (names_written earlier) reads || list_any (names_touched earlier) writes))
conflict_by_ids reads writes whole = refl
conflict_by_ids reads writes (known others theirs) =
    ap (λ b. b || list_any (is_touched (known others theirs)) writes) (any_or (among reads) (among writes) theirs ∙ ap (λ b. b || list_any (among writes) theirs) (any_turned reads theirs) ∙ ap (λ b. list_any (among theirs) reads || b) (any_turned writes theirs))
    ∙ ap (λ b. (list_any (among theirs) reads || list_any (among theirs) writes) || b) (any_or (among others) (among theirs) writes)
    ∙ or_twice (list_any (among theirs) reads) (list_any (among theirs) writes) (list_any (among others) writes)
    ∙ ap (λ b. list_any (among theirs) reads || b) (sym (any_or (among others) (among theirs) writes))

-- Levels -------------------------------------------------------------------------------------------------------------------

pub level_of_known : (marks : Marks) (earlier : List (Footprint × ℕ)) (reads writes : List ℕ) → IsMarked marks earlier
    → max (max marks.whole (highest_at marks.by_id no_mark reads).written) (highest_at marks.by_id no_mark writes).touched ≡ level_behind earlier (known reads writes)
level_of_known marks earlier reads writes is =
    let by = height_same (λ f. conflict f (known reads writes)) (λ f. is_whole f || (list_any (names_written f) reads || list_any (names_touched f) writes)) earlier (conflict_by_ids reads writes) in
    let first = height_or is_whole (λ f. list_any (names_written f) reads || list_any (names_touched f) writes) earlier in
    let second = height_or (λ f. list_any (names_written f) reads) (λ f. list_any (names_touched f) writes) earlier in
    let reading = written_over marks.by_id earlier no_mark reads is.written in
    let writing = touched_over marks.by_id earlier no_mark writes is.touched in
    let all = is.whole in
    omega arith

-- Groups -------------------------------------------------------------------------------------------------------------------

parted_by_known : (reads writes first second : List ℕ) (earlier : Footprint)
    → parts_groups earlier (record { footprint = known reads writes; resolved = first ++ second }) ≡ (is_whole earlier || (list_any (names_written earlier) first || list_any (names_written earlier) second))
parted_by_known reads writes first second whole = refl
parted_by_known reads writes first second (known others theirs) = list_any-append (among theirs) first second

pub parting_of_known : (marks : Marks) (earlier : List (Footprint × ℕ)) (reads writes first second : List ℕ) → IsMarked marks earlier
    → max (max marks.whole (highest_at marks.by_id no_mark first).written) (highest_at marks.by_id no_mark second).written
    ≡ height (λ other. parts_groups other (record { footprint = known reads writes; resolved = first ++ second })) earlier
parting_of_known marks earlier reads writes first second is =
    let call : Touch = record { footprint = known reads writes; resolved = first ++ second } in
    let by = height_same (λ f. parts_groups f call) (λ f. is_whole f || (list_any (names_written f) first || list_any (names_written f) second)) earlier (parted_by_known reads writes first second) in
    let or_one = height_or is_whole (λ f. list_any (names_written f) first || list_any (names_written f) second) earlier in
    let or_other = height_or (λ f. list_any (names_written f) first) (λ f. list_any (names_written f) second) earlier in
    let one = written_over marks.by_id earlier no_mark first is.written in
    let other = written_over marks.by_id earlier no_mark second is.written in
    let all = is.whole in
    omega arith
