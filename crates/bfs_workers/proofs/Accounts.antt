-- The parts and the jobs taken of all passes, when one of them changes.
use Rattle.std.proofs.Common.{◌≡◌, ◌∙◌, ℕ, zero, suc, ◌+◌, ◌≤◌, List, [], ◌∷◌, ◌++◌, length, refl, sym, ap, subst, append_assoc, append-nil, arith, slice_set}
use Rattle.std.specs.Prelude.{IsPermutation}
use Rattle.std.specs.List.{AllByRecursion}
use Rattle.std.proofs.lemmas.List.{length-append}
use Rattle.std.proofs.lemmas.List.Sorted.{IsPermutation-append_comm, IsPermutation-append_left, IsPermutation-append_right, IsPermutation-refl, IsPermutation-trans}
use mathlib.Core.Option.{some, some-injective, some-ne-none}
use lib.ListN.{get_elem?}
use Rattle.bfs_handover.specs.declared.job.Job.{Job}
use Rattle.bfs_workers.specs.Rule.{Fits, parts_of, taken_by}
use Rattle.bfs_workers.specs.declared.rule.Account.{Account}

-- Parts ------------------------------------------------------------------------------------------------------------------

pub parts_at : (passes : List Account) (port : ℕ) (v : Account) → get_elem? passes port ≡ some v → v.parts ≤ parts_of passes
parts_at [] port v at = absurd (some-ne-none v (sym at))
parts_at (pass ∷ passes) zero v at = let same = ap (λ (u : Account). u.parts) (some-injective pass v at) in omega arith
parts_at (pass ∷ passes) (suc port) v at = let rest = parts_at passes port v at in omega arith

pub parts_set : (passes : List Account) (port : ℕ) (v w : Account) → get_elem? passes port ≡ some v → parts_of (slice_set passes port w) + v.parts ≡ parts_of passes + w.parts
parts_set [] port v w at = absurd (some-ne-none v (sym at))
parts_set (pass ∷ passes) zero v w at = let same = ap (λ (u : Account). u.parts) (some-injective pass v at) in omega arith
parts_set (pass ∷ passes) (suc port) v w at = let rest = parts_set passes port v w at in omega arith

pub parts_with : (passes : List Account) (w : Account) → parts_of (passes ++ w ∷ []) ≡ parts_of passes + w.parts
parts_with [] w = omega arith
parts_with (pass ∷ passes) w = let rest = parts_with passes w in omega arith

-- What fits --------------------------------------------------------------------------------------------------------------

pub fits_at : (put : List Job) (passes : List Account) (port : ℕ) (v : Account) → get_elem? passes port ≡ some v → AllByRecursion (Fits put) passes → Fits put v
fits_at put [] port v at fits = absurd (some-ne-none v (sym at))
fits_at put (pass ∷ passes) zero v at fits = subst (Fits put) (some-injective pass v at) fits.0
fits_at put (pass ∷ passes) (suc port) v at fits = fits_at put passes port v at fits.1

pub fits_set : (put : List Job) (passes : List Account) (port : ℕ) (w : Account) → Fits put w → AllByRecursion (Fits put) passes → AllByRecursion (Fits put) (slice_set passes port w)
fits_set put [] port w here fits = tt
fits_set put (pass ∷ passes) zero w here fits = (here, fits.1)
fits_set put (pass ∷ passes) (suc port) w here fits = (fits.0, fits_set put passes port w here fits.1)

pub fits_with : (put : List Job) (passes : List Account) (w : Account) → Fits put w → AllByRecursion (Fits put) passes → AllByRecursion (Fits put) (passes ++ w ∷ [])
fits_with put [] w here fits = (here, tt)
fits_with put (pass ∷ passes) w here fits = (fits.0, fits_with put passes w here fits.1)

-- a pass without a part fits whatever was put
fits_idle : (put more : List Job) (pass : Account) → pass.parts ≡ 0 → Fits put pass → Fits more pass
fits_idle put more pass none fits = record { knows = λ some_part. absurd (omega arith); idle = fits.idle }

fits_none : (put more : List Job) (passes : List Account) → parts_of passes ≡ 0 → AllByRecursion (Fits put) passes → AllByRecursion (Fits more) passes
fits_none put more [] none fits = tt
fits_none put more (pass ∷ passes) none fits = (fits_idle put more pass (omega arith) fits.0, fits_none put more passes (omega arith) fits.1)

-- where one pass has all parts, what was put may change
pub fits_alone : (put more : List Job) (passes : List Account) (port : ℕ) (v w : Account) → get_elem? passes port ≡ some v → parts_of passes ≡ v.parts → Fits more w → AllByRecursion (Fits put) passes
    → AllByRecursion (Fits more) (slice_set passes port w)
fits_alone put more [] port v w at alone here fits = absurd (some-ne-none v (sym at))
fits_alone put more (pass ∷ passes) zero v w at alone here fits =
    let same = ap (λ (u : Account). u.parts) (some-injective pass v at) in
    (here, fits_none put more passes (omega arith) fits.1)
fits_alone put more (pass ∷ passes) (suc port) v w at alone here fits =
    let some_parts = parts_at passes port v at in
    (fits_idle put more pass (omega arith) fits.0, fits_alone put more passes port v w at (omega arith) here fits.1)

-- What was taken ---------------------------------------------------------------------------------------------------------

swapped : {A : Type 0} (xs ys zs : List A) → IsPermutation (xs ++ (ys ++ zs)) (ys ++ (xs ++ zs))
swapped xs ys zs =
    subst (λ list. IsPermutation list (ys ++ (xs ++ zs))) (append_assoc xs ys zs)
    (subst (IsPermutation ((xs ++ ys) ++ zs)) (append_assoc ys xs zs) (IsPermutation-append_left zs (xs ++ ys) (ys ++ xs) (IsPermutation-append_comm xs ys)))

pub taken_at : (passes : List Account) (port : ℕ) (v : Account) → get_elem? passes port ≡ some v → length v.taken ≤ length (taken_by passes)
taken_at [] port v at = absurd (some-ne-none v (sym at))
taken_at (pass ∷ passes) zero v at = let same = ap (λ (u : Account). length u.taken) (some-injective pass v at) in let long = length-append pass.taken (taken_by passes) in omega arith
taken_at (pass ∷ passes) (suc port) v at = let rest = taken_at passes port v at in let long = length-append pass.taken (taken_by passes) in omega arith

pub taken_same : (passes : List Account) (port : ℕ) (v w : Account) → get_elem? passes port ≡ some v → w.taken ≡ v.taken → taken_by (slice_set passes port w) ≡ taken_by passes
taken_same [] port v w at same = absurd (some-ne-none v (sym at))
taken_same (pass ∷ passes) zero v w at same = ap (λ jobs. jobs ++ taken_by passes) (same ∙ sym (ap (λ (u : Account). u.taken) (some-injective pass v at)))
taken_same (pass ∷ passes) (suc port) v w at same = ap (λ jobs. pass.taken ++ jobs) (taken_same passes port v w at same)

pub taken_with : (passes : List Account) (w : Account) → w.taken ≡ [] → taken_by (passes ++ w ∷ []) ≡ taken_by passes
taken_with [] w none = ap (λ jobs. jobs ++ []) none
taken_with (pass ∷ passes) w none = ap (λ jobs. pass.taken ++ jobs) (taken_with passes w none)

-- a pass took some more
pub taken_more : (passes : List Account) (port : ℕ) (v w : Account) (more : List Job) → get_elem? passes port ≡ some v → w.taken ≡ v.taken ++ more → IsPermutation (more ++ taken_by passes) (taken_by (slice_set passes port w))
taken_more [] port v w more at is = absurd (some-ne-none v (sym at))
taken_more (pass ∷ passes) zero v w more at is =
    let rest = taken_by passes in
    let before = ap (λ (u : Account). u.taken) (some-injective pass v at) in
    subst (IsPermutation (more ++ (pass.taken ++ rest))) (sym (append_assoc pass.taken more rest) ∙ ap (λ jobs. (jobs ++ more) ++ rest) before ∙ sym (ap (λ jobs. jobs ++ rest) is)) (swapped more pass.taken rest)
taken_more (pass ∷ passes) (suc port) v w more at is =
    IsPermutation-trans _ _ _ (swapped more pass.taken (taken_by passes)) (IsPermutation-append_right pass.taken _ _ (taken_more passes port v w more at is))

-- a pass gave away all that it took
taken_less : (passes : List Account) (port : ℕ) (v w : Account) → get_elem? passes port ≡ some v → w.taken ≡ [] → IsPermutation (taken_by passes) (v.taken ++ taken_by (slice_set passes port w))
taken_less [] port v w at none = absurd (some-ne-none v (sym at))
taken_less (pass ∷ passes) zero v w at none =
    let rest = taken_by passes in
    let before = ap (λ (u : Account). u.taken) (some-injective pass v at) in
    subst (IsPermutation (pass.taken ++ rest)) (ap (λ jobs. jobs ++ rest) before ∙ sym (ap (λ jobs. v.taken ++ (jobs ++ rest)) none)) (IsPermutation-refl (pass.taken ++ rest))
taken_less (pass ∷ passes) (suc port) v w at none =
    IsPermutation-trans _ _ _ (IsPermutation-append_right pass.taken _ _ (taken_less passes port v w at none)) (swapped pass.taken v.taken (taken_by (slice_set passes port w)))

-- one pass gave another all that it took
pub taken_merged : (passes : List Account) (port other : ℕ) (v u both spent : Account) → get_elem? passes port ≡ some v → get_elem? passes other ≡ some u → ¬ (other ≡ port) → both.taken ≡ v.taken ++ u.taken → spent.taken ≡ []
    → IsPermutation (taken_by passes) (taken_by (slice_set (slice_set passes port both) other spent))
taken_merged [] port other v u both spent at at_other apart is none = absurd (some-ne-none v (sym at))
taken_merged (pass ∷ passes) zero zero v u both spent at at_other apart is none = absurd (apart refl)
taken_merged (pass ∷ passes) zero (suc other) v u both spent at at_other apart is none =
    let rest = taken_by (slice_set passes other spent) in
    let mine = ap (λ (w : Account). w.taken) (some-injective pass v at) in
    subst (IsPermutation (pass.taken ++ taken_by passes)) (sym (append_assoc pass.taken u.taken rest) ∙ ap (λ jobs. (jobs ++ u.taken) ++ rest) mine ∙ sym (ap (λ jobs. jobs ++ rest) is))
    (IsPermutation-append_right pass.taken _ _ (taken_less passes other u spent at_other none))
taken_merged (pass ∷ passes) (suc port) zero v u both spent at at_other apart is none =
    let theirs = ap (λ (w : Account). w.taken) (some-injective pass u at_other) in
    subst (λ jobs. IsPermutation (jobs ++ taken_by passes) (spent.taken ++ taken_by (slice_set passes port both))) (sym theirs)
    (subst (λ jobs. IsPermutation (u.taken ++ taken_by passes) (jobs ++ taken_by (slice_set passes port both))) (sym none) (taken_more passes port v both u.taken at is))
taken_merged (pass ∷ passes) (suc port) (suc other) v u both spent at at_other apart is none =
    IsPermutation-append_right pass.taken _ _ (taken_merged passes port other v u both spent at at_other (λ same. apart (ap suc same)) is none)

-- where no pass has a part, none has taken any
taken_none : (put : List Job) (passes : List Account) → parts_of passes ≡ 0 → AllByRecursion (Fits put) passes → taken_by passes ≡ []
taken_none put [] none fits = refl
taken_none put (pass ∷ passes) none fits = ap (λ jobs. jobs ++ taken_by passes) (fits.0.idle (omega arith)) ∙ taken_none put passes (omega arith) fits.1

-- a pass with all parts has taken all
pub taken_alone : (put : List Job) (passes : List Account) (port : ℕ) (v : Account) → get_elem? passes port ≡ some v → parts_of passes ≡ v.parts → AllByRecursion (Fits put) passes → taken_by passes ≡ v.taken
taken_alone put [] port v at alone fits = absurd (some-ne-none v (sym at))
taken_alone put (pass ∷ passes) zero v at alone fits =
    let same = ap (λ (u : Account). u.parts) (some-injective pass v at) in
    ap (λ jobs. pass.taken ++ jobs) (taken_none put passes (omega arith) fits.1) ∙ append-nil pass.taken ∙ ap (λ (u : Account). u.taken) (some-injective pass v at)
taken_alone put (pass ∷ passes) (suc port) v at alone fits =
    let some_parts = parts_at passes port v at in
    ap (λ jobs. jobs ++ taken_by passes) (fits.0.idle (omega arith)) ∙ taken_alone put passes port v at (omega arith) fits.1
