-- What comes home of jobs that were split off a tree is what their requests leave one after another.
use Rattle.std.proofs.Common.{◌≡◌, ℕ, zero, suc, ◌+◌, ◌-◌, ◌<◌, ◌≤◌, Bool, true, false, cond, ◌||◌, List, [], ◌∷◌, map, length, get_or, take, drop, Option, Some, None, is_some, refl, ap, sym, subst, ◌∙◌, arith, inl, inr, eqb, true≢false}
use Rattle.std.specs.Prelude.{⊤}
use Rattle.std.specs.Ordering.{nat_cmp}
use Rattle.std.specs.List.{All, AllByRecursion, AllZip, Contains, list_any, range_with_len}
use Rattle.std.specs.List.Sorted.{IsPermutation, IsStrictlyIncreasing}
use Rattle.std.specs.FinMap.{get, len, empty, get-empty, len-empty, same_map, nat_cmp-IsAntisymmetric}
use Rattle.std.proofs.lemmas.Bool.{cases_order, false_from_ne_true}
use Rattle.std.proofs.lemmas.Cmp.{nat_cmp_total}
use Rattle.std.proofs.lemmas.List.{get_or-map, get_or_default, length-map, same_lists}
use Rattle.std.proofs.lemmas.List.Elements.{All-cons, All-head, All-nil, All-tail, All-from_recursion, Contains-get_or}
use Rattle.std.proofs.lemmas.List.FromFn.{length-range_with_len, get_or-range_with_len, length-map-range_with_len, get_or-map-range_with_len}
use Rattle.std.proofs.lemmas.List.Kept.{AllPairs-from_increasing}
use Rattle.std.proofs.lemmas.List.Sorted.{All-permutation, Contains-permutation, IsPermutation-sym}
use Rattle.std.proofs.lemmas.Slice.Zip.{AllZip-long}
use Rattle.bfs_model.specs.Server.Tree.{Time, Inodes, spent_ordinal}
use Rattle.bfs_model.specs.Server.Serial.{ordinal_after, answer, inodes_after, replies_to}
use Rattle.bfs_model.specs.Server.Footprints.{Footprint, known, whole, footprint_of}
use Rattle.bfs_model.specs.Server.Conflicts.{among, is_whole, is_written, is_touched, conflict, closed}
use Rattle.bfs_model.specs.Laws.Overtaking.{footprint_at}
use Rattle.bfs_model.specs.Server.Groups.{footprints_at, AreDisjoint, all_closed, all_replies}
use Rattle.bfs_model.specs.Server.Shares.{moved_for, all_moved, without, share_of, footprints_on}
use Rattle.bfs_model.proofs.Public.{among_left, among_right, apart, get-closed, runs_come_home, same_inodes, shares_have_footprints, written_is_touched}
use Rattle.bfs_tree.specs.Reach.{Reach, Knows}
use Rattle.bfs_tree.specs.Slots.{Slots}
use Rattle.bfs_tree.specs.Tree.{at_home, lent, reach_of}
use Rattle.bfs_handover.specs.Loans.{ids_of, loaned, put_in, reach_with}
use Rattle.bfs_handover.specs.Moves.{AreDistinct}
use Rattle.bfs_handover.specs.Jobs.{CanRun, IsDone}
use Rattle.bfs_handover.specs.Splitting.{PlannedPart, IsJobOf, footprint_for, footprints_for}
use Rattle.bfs_handover.specs.Merging.{IsOut, all_in, reply_in}
use Rattle.bfs_handover.specs.Laws.Homecoming.{numbers_from, numbers_of, requests_of, ResultsAreOut, ResultsComeHome}
use Rattle.bfs_handover.specs.declared.job.Job.{Job}
use Rattle.bfs_handover.specs.declared.job.Done.{Done}
use Rattle.bfs_handover.specs.declared.results.NumberedReply.{NumberedReply}
use Rattle.bfs_handover.proofs.LoanLemmas.{get-put_in, get_owned}
use Rattle.bfs_handover.proofs.MoveLemmas.{among_both}
use Rattle.bfs_handover.proofs.SplitLemmas.{moved_written, step_after, written_is_moved}

-- Two lists, place by place ------------------------------------------------------------------------------------------------

module _ {A B : Type 0} (R : A → B → Type 0) where
  zipped_at : (xs : List A) (ys : List B) (k : ℕ) (d : A) (e : B) → AllZip R xs ys → k < length xs → R (get_or xs k d) (get_or ys k e)
  zipped_at [] ys k d e all lt = absurd (omega arith)
  zipped_at (x ∷ xs) [] k d e all lt = absurd all
  zipped_at (x ∷ xs) (y ∷ ys) zero d e all lt = all.0
  zipped_at (x ∷ xs) (y ∷ ys) (suc k) d e all lt = zipped_at xs ys k d e all.1 (omega arith)

  zipped_from : (xs : List A) (ys : List B) → length xs ≡ length ys → ((k : ℕ) (d : A) (e : B) → k < length xs → R (get_or xs k d) (get_or ys k e)) → AllZip R xs ys
  zipped_from [] [] long each = tt
  zipped_from [] (y ∷ ys) long each = absurd (omega arith)
  zipped_from (x ∷ xs) [] long each = absurd (omega arith)
  zipped_from (x ∷ xs) (y ∷ ys) long each = (each 0 x y (omega arith), zipped_from xs ys (omega arith) (λ k d e lt. each (suc k) d e (omega arith)))

  module _ (f : A → ℕ) (g : B → ℕ) (tie : (a : A) (b : B) → R a b → g b ≡ f a) where
    -- numbers that rise stand at one place each
    same_place : (ns : List ℕ) → IsStrictlyIncreasing ns → (i k : ℕ) → i < length ns → k < length ns → get_or ns i 0 ≡ get_or ns k 0 → i ≡ k
    same_place ns up i k li lk same =
        elim (cases_order i k) as (λ _. i ≡ k) [
          | inl e ↦ e
          | inr apart ↦ elim apart as (λ _. i ≡ k) [
            | inl lt ↦ let below : get_or ns i 0 < get_or ns k 0 = AllPairs-from_increasing ns up i k 0 lt lk in absurd (omega arith)
            | inr gt ↦ let above : get_or ns k 0 < get_or ns i 0 = AllPairs-from_increasing ns up k i 0 gt li in absurd (omega arith)
          ]
        ]

    tied_in : (run : List A) (us : List B) (v : B) (d : A) → AllZip R run us → Contains us v → (x : A) × Contains run x × R x v
    tied_in run us v d all found =
        let there : found.0 < length run = omega (arith, found.1, AllZip-long R run us all) in
        (get_or run found.0 d, Contains-get_or run found.0 d there, subst (R (get_or run found.0 d)) found.2 (zipped_at run us found.0 d v all there))

    in_place : (xs : List A) (vs : List B) (x : A) (k : ℕ) (d : A) (e : B) → IsStrictlyIncreasing (map f xs) → map g vs ≡ map f xs → Contains xs x → k < length xs → k < length vs
        → R x (get_or vs k e) → R (get_or xs k d) (get_or vs k e)
    in_place xs vs x k d e up keys back lt within tied =
        let keyed : length (map f xs) ≡ length xs = length-map xs f in
        let key_here : get_or (map f xs) k 0 ≡ f x = ap (λ ns. get_or ns k 0) (sym keys) ∙ get_or-map g vs k e 0 within ∙ tie x (get_or vs k e) tied in
        let key_there : get_or (map f xs) back.0 0 ≡ f x = get_or-map f xs back.0 x 0 back.1 ∙ ap f back.2 in
        let place : back.0 ≡ k = same_place (map f xs) up back.0 k (omega (arith, back.1)) (omega arith) (key_there ∙ sym key_here) in
        let here : x ≡ get_or xs k d = sym back.2 ∙ ap (λ i. get_or xs i x) place ∙ get_or_default xs k x d lt in
        subst (λ y. R y (get_or vs k e)) here tied

    -- what is tied in some order is tied in the order of the keys, where these rise
    pub matched : (xs run : List A) (us vs : List B) → IsStrictlyIncreasing (map f xs) → IsPermutation xs run → AllZip R run us → IsPermutation us vs → map g vs ≡ map f xs → AllZip R xs vs
    matched xs run us vs up moved all moved_too keys =
        let long : length xs ≡ length vs = sym (length-map xs f) ∙ sym (ap length keys) ∙ length-map vs g in
        zipped_from xs vs long (λ k d e lt.
        let found = tied_in run us (get_or vs k e) d all (Contains-permutation vs us (get_or vs k e) (IsPermutation-sym us vs moved_too) (Contains-get_or vs k e (omega arith))) in
        in_place xs vs found.0 k d e up keys (Contains-permutation run xs found.0 (IsPermutation-sym xs run moved) found.1) lt (omega arith) found.2)

-- Numbers and footprints of a part -------------------------------------------------------------------------------------------

pub from_rise : (first count : ℕ) → IsStrictlyIncreasing (numbers_from first count)
from_rise first count k lt =
    let long : length (range_with_len first count) ≡ count = length-range_with_len first count in
    let here : get_or (range_with_len first count) k 0 ≡ first + k = get_or-range_with_len first count k 0 (omega arith) in
    let next : get_or (range_with_len first count) (k + 1) 0 ≡ first + (k + 1) = get_or-range_with_len first count (k + 1) 0 (omega arith) in omega arith

footprint_is : (fs : List Footprint) (k : ℕ) (d : Footprint) → k < length fs → footprint_at fs k ≡ get_or fs k d
footprint_is [] k d lt = absurd (omega arith)
footprint_is (f ∷ fs) zero d lt = refl
footprint_is (f ∷ fs) (suc k) d lt = footprint_is fs k d (omega arith)

pub all_footprints : (part : PlannedPart) → footprints_for part (numbers_of part) ≡ part.footprints
all_footprints part =
    let n = length part.footprints in
    let long : length (map (footprint_for part) (range_with_len part.first n)) ≡ n = length-map-range_with_len (footprint_for part) part.first n in
    same_lists _ _ long (λ k d lt.
    let within : k < length part.footprints = omega arith in
    let from : (part.first + k) - part.first ≡ k = omega arith in
    get_or-map-range_with_len (footprint_for part) part.first n k (part.first + k) d within refl
    ∙ ap (footprint_at part.footprints) from
    ∙ footprint_is part.footprints k d within)

-- Of split jobs ------------------------------------------------------------------------------------------------------------

module _ (old new : Slots) (part : PlannedPart) where
  pub job_numbers : (numbers : List ℕ) (jobs : List Job) → AllZip (IsJobOf old new part) numbers jobs → map (λ (job : Job). job.number) jobs ≡ numbers
  job_numbers [] [] all = refl
  job_numbers [] (job ∷ jobs) all = absurd all
  job_numbers (number ∷ numbers) [] all = absurd all
  job_numbers (number ∷ numbers) (job ∷ jobs) all = λ i. all.0.number_is i ∷ job_numbers numbers jobs all.1 i

  -- what all results bring home is what was moved
  pub all_brought : (numbers : List ℕ) (jobs : List Job) (dones : List Done) (q : ℕ) → AllZip (IsJobOf old new part) numbers jobs → AllZip (IsDone new) jobs dones
      → list_any (λ (done : Done). among (ids_of done.inodes) q) dones ≡ among (all_moved (footprints_for part numbers)) q
  all_brought [] [] [] q all run = refl
  all_brought [] [] (done ∷ dones) q all run = absurd run
  all_brought [] (job ∷ jobs) dones q all run = absurd all
  all_brought (number ∷ numbers) [] dones q all run = absurd all
  all_brought (number ∷ numbers) (job ∷ jobs) [] q all run = absurd run
  all_brought (number ∷ numbers) (job ∷ jobs) (done ∷ dones) q all run =
      (λ i. (ap (λ ids. among ids q) run.0.ids ∙ all.0.ids q) i || all_brought numbers jobs dones q all.1 run.1 i)
      ∙ sym (among_both (moved_for (footprint_for part number)) (all_moved (footprints_for part numbers)) q)

-- Results are out ----------------------------------------------------------------------------------------------------------

-- the number of the first job that has a fileid
abbrev number_in : List Job → ℕ → ℕ
number_in [] id = 0
number_in (job ∷ jobs) id = cond (among (ids_of job.inodes) id) job.number (number_in jobs id)

module _ (old new : Slots) (part : PlannedPart) where
  abbrev Lacks : Footprint → Job → Type 0
  Lacks f job = (id : ℕ) → among (moved_for f) id ≡ true → among (ids_of job.inodes) id ≡ false

  abbrev Owns : List Job → Job → Type 0
  Owns jobs job = (id : ℕ) → among (ids_of job.inodes) id ≡ true → number_in jobs id ≡ job.number

  others_lack : (f : Footprint) (numbers : List ℕ) (jobs : List Job) → AllZip (IsJobOf old new part) numbers jobs → AllByRecursion (λ other. conflict f other ≡ false) (footprints_for part numbers) → AllByRecursion (Lacks f) jobs
  others_lack f [] [] all none = tt
  others_lack f [] (job ∷ jobs) all none = absurd all
  others_lack f (number ∷ numbers) [] all none = absurd all
  others_lack f (number ∷ numbers) (job ∷ jobs) all none = (
    (λ id is. false_from_ne_true (among (ids_of job.inodes) id) (λ both.
        let g = footprint_for part number in
        let touched : is_touched g id ≡ true = written_is_touched g id (moved_written g id (sym (all.0.ids id) ∙ both)) in
        true≢false (sym touched ∙ (apart f g none.0).first id (moved_written f id is)))),
    others_lack f numbers jobs all.1 none.1,
  )

  still_own : (number : ℕ) (job : Job) (jobs others : List Job) → IsJobOf old new part number job → AllByRecursion (Lacks (footprint_for part number)) others → AllByRecursion (Owns jobs) others → AllByRecursion (Owns (job ∷ jobs)) others
  still_own number job jobs [] is lack own = tt
  still_own number job jobs (other ∷ others) is lack own = (
    (λ id has.
        let free : among (ids_of job.inodes) id ≡ false = false_from_ne_true (among (ids_of job.inodes) id) (λ both. true≢false (sym has ∙ lack.0 id (sym (is.ids id) ∙ both))) in
        ap (λ b. cond b job.number (number_in jobs id)) free ∙ own.0 id has),
    still_own number job jobs others is lack.1 own.1,
  )

  all_own : (numbers : List ℕ) (jobs : List Job) → AllZip (IsJobOf old new part) numbers jobs → AreDisjoint (footprints_for part numbers) → AllByRecursion (Owns jobs) jobs
  all_own [] [] all disjoint = tt
  all_own [] (job ∷ jobs) all disjoint = absurd all
  all_own (number ∷ numbers) [] all disjoint = absurd all
  all_own (number ∷ numbers) (job ∷ jobs) all disjoint = (
    (λ id is. ap (λ b. cond b job.number (number_in jobs id)) is),
    still_own number job jobs jobs all.0 (others_lack (footprint_for part number) numbers jobs all.1 disjoint.0) (all_own numbers jobs all.1 disjoint.1),
  )

  record IsAway (numbers : List ℕ) (job : Job) : Type 0 where
    distinct : AreDistinct (ids_of job.inodes)
    moved : (id : ℕ) → among (ids_of job.inodes) id ≡ true → among (all_moved (footprints_for part numbers)) id ≡ true

  more_away : (number : ℕ) (numbers : List ℕ) (jobs : List Job) → AllByRecursion (IsAway numbers) jobs → AllByRecursion (IsAway (number ∷ numbers)) jobs
  more_away number numbers [] away = tt
  more_away number numbers (job ∷ jobs) away = (
    record { distinct = away.0.distinct; moved = λ id is. among_right (moved_for (footprint_for part number)) (all_moved (footprints_for part numbers)) id (away.0.moved id is) },
    more_away number numbers jobs away.1,
  )

  all_away : (numbers : List ℕ) (jobs : List Job) → AllZip (IsJobOf old new part) numbers jobs → AllByRecursion (IsAway numbers) jobs
  all_away [] [] all = tt
  all_away [] (job ∷ jobs) all = absurd all
  all_away (number ∷ numbers) [] all = absurd all
  all_away (number ∷ numbers) (job ∷ jobs) all = (
    record { distinct = all.0.distinct; moved = λ id is. among_left (moved_for (footprint_for part number)) (all_moved (footprints_for part numbers)) id (sym (all.0.ids id) ∙ is) },
    more_away number numbers jobs (all_away numbers jobs all.1),
  )

  outs : (numbers : List ℕ) (jobs run : List Job) (dones : List Done) → ((id : ℕ) → is_some (get (lent new) id) ≡ among (all_moved (footprints_for part numbers)) id)
      → AllZip (IsDone new) run dones → All (IsAway numbers) run → All (Owns jobs) run → All (IsOut new (number_in jobs)) dones
  outs numbers jobs [] [] out all away own = All-nil (IsOut new (number_in jobs))
  outs numbers jobs [] (done ∷ dones) out all away own = absurd all
  outs numbers jobs (job ∷ run) [] out all away own = absurd all
  outs numbers jobs (job ∷ run) (done ∷ dones) out all away own =
      let here : IsAway numbers job = All-head (IsAway numbers) job run away in
      All-cons (IsOut new (number_in jobs)) done dones
      (record {
        distinct = subst AreDistinct (sym all.0.ids) here.distinct;
        lent_out = λ id is. out id ∙ here.moved id (ap (λ ids. among ids id) (sym all.0.ids) ∙ is);
        owned = λ id is. All-head (Owns jobs) job run own id (ap (λ ids. among ids id) (sym all.0.ids) ∙ is) ∙ sym all.0.number;
      })
      (outs numbers jobs run dones out all.1 (All-tail (IsAway numbers) job run away) (All-tail (Owns jobs) job run own))

pub results_are_out : ResultsAreOut
results_are_out old new part numbers jobs run dones disjoint split moved all = (
  number_in jobs,
  outs old new part numbers jobs run dones split.out all
      (All-permutation (IsAway old new part numbers) jobs run moved (All-from_recursion (IsAway old new part numbers) jobs (all_away old new part numbers jobs split.each)))
      (All-permutation (Owns old new part jobs) jobs run moved (All-from_recursion (Owns old new part jobs) jobs (all_own old new part numbers jobs split.each disjoint))),
)

-- Results come home --------------------------------------------------------------------------------------------------------

-- a call whose share answers for all that it touches is not one that touches all
known_there : (reach : Reach) (f : Footprint) → reach.whole ≡ false → Knows reach f → is_whole f ≡ false
known_there reach (known reads writes) part knows = refl
known_there reach whole part knows = absurd (true≢false (sym knows ∙ part))

module _ (old new : Slots) (time : Time) where
  abbrev rest_of : (first ordinal : ℕ) → List (List ℕ) → List Footprint → PlannedPart
  rest_of first ordinal requests footprints = record { first = first; ordinal = ordinal; time = time; requests = requests; footprints = footprints }

  -- a job of a later number is one of the rest
  job_later : (first o : ℕ) (request : List ℕ) (requests : List (List ℕ)) (f : Footprint) (fs : List Footprint) (number : ℕ) (job : Job) → first + 1 ≤ number
      → IsJobOf old new (rest_of first o (request ∷ requests) (f ∷ fs)) number job → IsJobOf old new (rest_of (first + 1) (ordinal_after o 1) requests fs) number job
  job_later first o request requests f fs number job above is =
      let on : number - first ≡ suc (number - (first + 1)) = omega arith in
      let same : footprint_at (f ∷ fs) (number - first) ≡ footprint_at fs (number - (first + 1)) = ap (footprint_at (f ∷ fs)) on in record {
        number_is = is.number_is;
        request = is.request ∙ ap (λ k. get_or (request ∷ requests) k []) on;
        ordinal = is.ordinal ∙ ap (ordinal_after o) on ∙ sym (step_after o (number - (first + 1)));
        time = is.time;
        share = is.share ∙ ap (share_of (at_home old) (at_home new)) same;
        ids = λ id. is.ids id ∙ ap (λ g. among (moved_for g) id) same;
        distinct = is.distinct;
      }

  jobs_later : (first o : ℕ) (request : List ℕ) (requests : List (List ℕ)) (f : Footprint) (fs : List Footprint) (from count : ℕ) (jobs : List Job) → first + 1 ≤ from
      → AllZip (IsJobOf old new (rest_of first o (request ∷ requests) (f ∷ fs))) (range_with_len from count) jobs
      → AllZip (IsJobOf old new (rest_of (first + 1) (ordinal_after o 1) requests fs)) (range_with_len from count) jobs
  jobs_later first o request requests f fs from zero [] above all = tt
  jobs_later first o request requests f fs from zero (job ∷ jobs) above all = absurd all
  jobs_later first o request requests f fs from (suc count) [] above all = absurd all
  jobs_later first o request requests f fs from (suc count) (job ∷ jobs) above all =
      (job_later first o request requests f fs from job above all.0, jobs_later first o request requests f fs (from + 1) count jobs (omega arith) all.1)

  -- the first job is that of the first request
  record IsFirst (o : ℕ) (request : List ℕ) (f : Footprint) (job : Job) : Type 0 where
    asks : (own : Inodes) → own ≡ put_in job.inodes (at_home new) → answer own o time request ≡ answer (put_in job.inodes (at_home new)) job.ordinal job.time job.request.now
    touches : (own : Inodes) → own ≡ put_in job.inodes (at_home new) → footprint_of own o time request ≡ footprint_of (put_in job.inodes (at_home new)) job.ordinal job.time job.request.now
    share : share_of (at_home old) (at_home new) f ≡ put_in job.inodes (at_home new)
    ids : (id : ℕ) → among (ids_of job.inodes) id ≡ among (moved_for f) id

  job_first : (first o : ℕ) (request : List ℕ) (requests : List (List ℕ)) (f : Footprint) (fs : List Footprint) (job : Job) → o ≤ spent_ordinal
      → IsJobOf old new (rest_of first o (request ∷ requests) (f ∷ fs)) first job → IsFirst o request f job
  job_first first o request requests f fs job most is =
      let at : first - first ≡ 0 = omega arith in
      let asked : job.request.now ≡ request = is.request ∙ ap (λ k. get_or (request ∷ requests) k []) at in
      let ordinal : job.ordinal ≡ o = is.ordinal ∙ ap (ordinal_after o) at ∙ omega arith in
      let same : footprint_at (f ∷ fs) (first - first) ≡ f = ap (footprint_at (f ∷ fs)) at in record {
        asks = λ own e. λ i. answer (e i) (sym ordinal i) (sym is.time i) (sym asked i);
        touches = λ own e. λ i. footprint_of (e i) (sym ordinal i) (sym is.time i) (sym asked i);
        share = sym (is.share ∙ ap (share_of (at_home old) (at_home new)) same);
        ids = λ id. is.ids id ∙ ap (λ g. among (moved_for g) id) same;
      }

  -- what one result brings home is what its call leaves where it writes
  one_home : (o : ℕ) (request : List ℕ) (f : Footprint) (job : Job) (done : Done) → IsFirst o request f job → is_whole f ≡ false → IsDone new job done → (home : Inodes)
      → put_in done.inodes home ≡ closed f (answer (share_of (at_home old) (at_home new) f) o time request).0 home
  one_home o request f job done is part run home =
      let left = (answer (share_of (at_home old) (at_home new) f) o time request).0 in
      let ends : put_in done.inodes (at_home new) ≡ left = ap (λ end. end.0) (run.answers ∙ sym (is.asks (share_of (at_home old) (at_home new) f) is.share)) in
      same_inodes (put_in done.inodes home) (closed f left home) (λ q.
      let owned : is_written f q ≡ among (ids_of done.inodes) q = sym (written_is_moved f q part) ∙ sym (is.ids q) ∙ ap (λ ids. among ids q) (sym run.ids) in
      get-put_in done.inodes home q ∙ by_test left ends q (among (ids_of done.inodes) q) refl ∙ ap (λ b. cond b (get left q) (get home q)) (sym owned) ∙ sym (get-closed f left home q))
    where
      by_test : (left : Inodes) → put_in done.inodes (at_home new) ≡ left → (q : ℕ) (b : Bool) → among (ids_of done.inodes) q ≡ b → cond b (loaned done.inodes q) (get home q) ≡ cond b (get left q) (get home q)
      by_test left ends q true has = sym (get_owned done.inodes (at_home new) q has) ∙ ap (λ inodes. get inodes q) ends
      by_test left ends q false has = refl

  abbrev bytes_in : List Done → List (List ℕ)
  bytes_in dones = map (λ (reply : NumberedReply). reply.bytes.items) (map reply_in dones)

  -- what all results bring home is what all calls leave where they write
  all_come : (first o : ℕ) (requests : List (List ℕ)) (fs : List Footprint) (jobs : List Job) (dones : List Done) (home : Inodes) → o ≤ spent_ordinal
      → fs ≡ footprints_at (at_home old) o time (take (length fs) requests)
      → footprints_on o time (take (length fs) requests) (map (share_of (at_home old) (at_home new)) fs) ≡ fs
      → AllZip (IsJobOf old new (rest_of first o requests fs)) (range_with_len first (length fs)) jobs → All (CanRun new) jobs → AllZip (IsDone new) jobs dones
      → (all_in dones home ≡ all_closed o time (take (length fs) requests) fs (map (share_of (at_home old) (at_home new)) fs) home)
      × (bytes_in dones ≡ all_replies o time (take (length fs) requests) (map (share_of (at_home old) (at_home new)) fs))
  all_come first o requests [] [] [] home most found on all can run = (refl, refl)
  all_come first o requests [] [] (done ∷ dones) home most found on all can run = absurd run
  all_come first o requests [] (job ∷ jobs) dones home most found on all can run = absurd all
  all_come first o [] (f ∷ fs) jobs dones home most found on all can run = absurd cc
  all_come first o (request ∷ requests) (f ∷ fs) [] dones home most found on all can run = absurd all
  all_come first o (request ∷ requests) (f ∷ fs) (job ∷ jobs) [] home most found on all can run = absurd run
  all_come first o (request ∷ requests) (f ∷ fs) (job ∷ jobs) (done ∷ dones) home most found on all can run =
      let own = share_of (at_home old) (at_home new) f in
      let is : IsFirst o request f job = job_first first o request requests f fs job most all.0 in
      let runs : CanRun new job = All-head (CanRun new) job jobs can in
      let here : footprint_of (put_in job.inodes (at_home new)) job.ordinal job.time job.request.now ≡ f = sym (is.touches own is.share) ∙ ap (λ gs. footprint_at gs 0) on in
      let reach = reach_with (lent new) (at_home new) (ids_of job.inodes) in
      let part : is_whole f ≡ false = known_there reach f refl (subst (Knows reach) here runs.known) in
      let after = closed f (answer own o time request).0 home in
      let rest =
      all_come (first + 1) (ordinal_after o 1) requests fs jobs dones after (omega arith) (ap (drop 1) found) (ap (drop 1) on)
      (jobs_later first o request requests f fs (first + 1) (length fs) jobs (omega arith) all.1) (All-tail (CanRun new) job jobs can) run.1 in (
        ap (all_in dones) (one_home o request f job done is part run.0 home) ∙ rest.0,
        (λ i. (ap (λ end. end.1) (run.0.answers ∙ sym (is.asks own is.share))) i ∷ rest.1 i),
      )

abbrev AsInOrder : Inodes → ℕ → Time → List (List ℕ) → List Footprint → Inodes → Type 0
AsInOrder m o time requests fs home =
    (all_closed o time requests fs (map (share_of m home) fs) home ≡ inodes_after m o time requests)
    × (all_replies o time requests (map (share_of m home) fs) ≡ replies_to m o time requests)

as_in_order : (m : Inodes) (o : ℕ) (time : Time) (requests : List (List ℕ)) (fs : List Footprint) (home : Inodes) → fs ≡ footprints_at m o time requests → home ≡ without (all_moved fs) m → AreDisjoint fs → AsInOrder m o time requests fs home
as_in_order m o time requests fs home found stays disjoint =
    subst (AsInOrder m o time requests fs) (sym stays)
    (subst (λ gs. AreDisjoint gs → AsInOrder m o time requests gs (without (all_moved gs) m)) (sym found) (runs_come_home m o time requests) disjoint)

on_shares : (m : Inodes) (o : ℕ) (time : Time) (requests : List (List ℕ)) (fs : List Footprint) (home : Inodes) → fs ≡ footprints_at m o time requests → home ≡ without (all_moved fs) m → AreDisjoint fs
    → footprints_on o time requests (map (share_of m home) fs) ≡ fs
on_shares m o time requests fs home found stays disjoint =
    subst (λ there. footprints_on o time requests (map (share_of m there) fs) ≡ fs) (sym stays)
    (subst (λ gs. AreDisjoint gs → footprints_on o time requests (map (share_of m (without (all_moved gs) m)) gs) ≡ gs) (sym found) (shares_have_footprints m o time requests) disjoint)

none_there : {X : Type 0} (o : Option X) → is_some o ≡ false → o ≡ None
none_there None is = refl
none_there (Some x) is = absurd (true≢false is)

pub gone_by : {X : Type 0} (b : Bool) (o : Option X) → is_some o ≡ b → cond b None o ≡ None
gone_by true o is = refl
gone_by false o is = none_there o is

pub none_lent : (s : Slots) → ((q : ℕ) → get (lent s) q ≡ None) → (reach_of s).whole ≡ true
none_lent s none =
    let bare : lent s ≡ empty = same_map nat_cmp_total nat_cmp-IsAntisymmetric _ _ (λ q. none q ∙ sym (get-empty nat_cmp q)) in
    ap (λ m. eqb (len m) 0) bare ∙ ap (λ n. eqb n 0) (len-empty nat_cmp ⊤)

pub results_come_home : ResultsComeHome
results_come_home old new after part jobs run dones replies most found disjoint split moved all merged =
    let m = at_home old in
    let numbers = numbers_of part in
    let requests = requests_of part in
    let numbered : map (λ (job : Job). job.number) jobs ≡ numbers = job_numbers old new part numbers jobs split.each in
    let tied : AllZip (IsDone new) jobs merged.order =
    matched (IsDone new) (λ (job : Job). job.number) (λ (done : Done). done.number) (λ job done is. is.number) jobs run dones merged.order
    (subst IsStrictlyIncreasing (sym numbered) (from_rise part.first (length part.footprints))) moved all merged.each (merged.numbers_are ∙ sym numbered) in
    let stays : at_home new ≡ without (all_moved part.footprints) m = split.home ∙ ap (λ gs. without (all_moved gs) m) (all_footprints part) in
    let law : AsInOrder m part.ordinal part.time requests part.footprints (at_home new) = as_in_order m part.ordinal part.time requests part.footprints (at_home new) found stays disjoint in
    let come =
    all_come old new part.time part.first part.ordinal part.requests part.footprints jobs merged.order (at_home new) most found
    (on_shares m part.ordinal part.time requests part.footprints (at_home new) found stays disjoint) split.each split.can_run tied in (
      merged.home ∙ come.0 ∙ law.0,
      ap (map (λ (reply : NumberedReply). reply.bytes.items)) merged.replies_are ∙ come.1 ∙ law.1,
      none_lent after (λ q. merged.still_out q ∙ gone_by (list_any (λ (done : Done). among (ids_of done.inodes) q) merged.order) (get (lent new) q) (split.out q ∙ sym (all_brought old new part numbers jobs merged.order q split.each tied))),
    )
