-- What is split off a tree is what was found before, and can be run on what stays.
use Rattle.std.proofs.Common.{◌≡◌, ℕ, zero, suc, ◌+◌, ◌-◌, ◌<◌, ◌≤◌, Bool, true, false, cond, not, true≢false, List, [], ◌∷◌, ◌++◌, length, map, take, drop, get_or, Option, None, is_some, Result, Ok, Err, IfOk, inl, inr, refl, sym, ap, subst, ◌∙◌, arith, eqb-true}
use Rattle.std.specs.Prelude.{◌==◌, ◌||◌, min}
use Rattle.std.specs.List.{All, AllByRecursion, AllZip}
use Rattle.std.specs.FinMap.{get}
use Rattle.std.proofs.Math.Bool.{or-false, or_comm}
use Rattle.std.proofs.lemmas.Bool.{false_from_ne_true, or_left, or_right}
use Rattle.std.proofs.lemmas.List.{append-nil, append_assoc, get_or-take, length-drop, length-take, take_more}
use Rattle.std.proofs.lemmas.List.Elements.{All-from_recursion, recursion_from_All}
use Rattle.bfs_model.specs.Server.Tree.{Time, Inodes, spent_ordinal}
use Rattle.bfs_model.specs.Server.Serial.{ordinal_after}
use Rattle.bfs_model.specs.Server.Footprints.{Footprint, known, whole, footprint_of, IsFreshFor}
use Rattle.bfs_model.specs.Server.Conflicts.{among, is_whole, is_written, is_touched, conflict, AgreeOn}
use Rattle.bfs_model.specs.Server.Groups.{footprints_at, AreDisjoint}
use Rattle.bfs_model.specs.Laws.Overtaking.{footprint_at}
use Rattle.bfs_model.specs.Server.Shares.{moved_for, all_moved, without, share_of, is_there}
use Rattle.bfs_model.proofs.Public.{all_among, apart, get-closed, get-without, moved_is_written, new_in, request_footprints_agree, same_inodes, shares_know, written_is_touched}
use Rattle.bfs_tree.specs.Reach.{Knows}
use Rattle.bfs_tree.specs.Slots.{Slots}
use Rattle.bfs_tree.specs.Tree.{at_home, lent, reach_of}
use Rattle.bfs_tree.specs.Laws.Knowing.{knows_all}
use Rattle.bfs_footprint.specs.Seen.{footprint_seen}
use Rattle.bfs_footprint.specs.declared.footprints.Footprint as declared
use Rattle.bfs_handover.specs.Loans.{ids_of, loaned, put_in, reach_with}
use Rattle.bfs_handover.specs.Jobs.{CanRun}
use Rattle.bfs_handover.specs.Moves.{AreAtHome, AreOwned, lent_out, taken}
use Rattle.bfs_handover.specs.Splitting.{CanBeSplit, IsFoundOn, IsJobOf, IsSplit, PlannedPart, footprint_for, footprints_for, ordinal_of, request_of}
use Rattle.bfs_handover.specs.Inside.Taking.{AreJobs, AreOnce, IsTaken, all_ids, all_loans}
use Rattle.bfs_handover.specs.declared.job.Job.{Job}
use Rattle.bfs_handover.specs.declared.loans.Loan.{Loan}
use Rattle.bfs_handover.proofs.LoanLemmas.{get-put_in}
use Rattle.bfs_handover.proofs.MoveLemmas.{among_both, none_among, distinct_both, from_here, out_both, taken_both, are_at_home, at_home_both, home_out, is_out, loaned_taken}

-- Each fileid once -----------------------------------------------------------------------------------------------------------

kept_by : (x q : ℕ) (xs : List ℕ) (b : Bool) → (x == q) ≡ b → among xs x ≡ true → among xs q ≡ (among xs q || (b || false))
kept_by x q xs true is member = let there : among xs q ≡ true = ap (among xs) (sym (eqb-true x q is)) ∙ member in there ∙ sym (or_right (among xs q) true refl)
kept_by x q xs false is member = sym (or-false (among xs q))

pub once_kept : (once ids : List ℕ) (x : ℕ) → AreOnce once ids → among once x ≡ true → AreOnce once (ids ++ x ∷ [])
once_kept once ids x are member = record {
  same = λ q. kept_by x q once (x == q) refl member ∙ ap (λ b. b || ((x == q) || false)) (are.same q) ∙ sym (among_both ids (x ∷ []) q);
  distinct = are.distinct;
}

pub once_added : (once ids : List ℕ) (x : ℕ) → AreOnce once ids → among once x ≡ false → AreOnce (once ++ x ∷ []) (ids ++ x ∷ [])
once_added once ids x are new = record {
  same = λ q. among_both once (x ∷ []) q ∙ ap (λ b. b || ((x == q) || false)) (are.same q) ∙ sym (among_both ids (x ∷ []) q);
  distinct = distinct_both once (x ∷ []) are.distinct (refl, tt) (λ q is. other q (x == q) refl is);
}
  where
    other : (q : ℕ) (b : Bool) → (x == q) ≡ b → among once q ≡ true → (b || false) ≡ false
    other q true e is = absurd (true≢false (sym is ∙ ap (among once) (sym (eqb-true x q e)) ∙ new))
    other q false e is = refl

-- One number -----------------------------------------------------------------------------------------------------------------

pub footprint_is : (footprints : List declared.Footprint) (k : ℕ) (d : declared.Footprint) → k < length (map footprint_seen footprints) → footprint_at (map footprint_seen footprints) k ≡ footprint_seen (get_or footprints k d)
footprint_is [] k d less = absurd (omega arith)
footprint_is (first ∷ rest) zero d less = refl
footprint_is (first ∷ rest) (suc k) d less = footprint_is rest k d (omega arith)

first_after : (o : ℕ) → o ≤ spent_ordinal → o ≡ ordinal_after o 0
first_after o most = omega arith

pub step_after : (o k : ℕ) → ordinal_after (ordinal_after o 1) k ≡ ordinal_after o (suc k)
step_after o k = omega arith

-- a number of these requests is one of the batch
pub requested : (first number : ℕ) (batch : List (List ℕ)) → first ≤ number → number < first + length (drop first batch) → number < length batch
requested first number batch from within = omega (arith, length-drop first batch)

module _ (m : Inodes) (t : Time) where
  pub length-footprints_at : (o : ℕ) (requests : List (List ℕ)) → length (footprints_at m o t requests) ≡ length requests
  length-footprints_at o [] = refl
  length-footprints_at o (request ∷ requests) = ap suc (length-footprints_at (ordinal_after o 1) requests)

  found_at : (o : ℕ) (requests : List (List ℕ)) (k : ℕ) → o ≤ spent_ordinal → k < length requests → footprint_at (footprints_at m o t requests) k ≡ footprint_of m (ordinal_after o k) t (get_or requests k [])
  found_at o [] k most less = absurd (omega arith)
  found_at o (request ∷ requests) zero most less = ap (λ p. footprint_of m p t request) (first_after o most)
  found_at o (request ∷ requests) (suc k) most less =
      found_at (ordinal_after o 1) requests k (omega arith) (omega arith) ∙ ap (λ p. footprint_of m p t (get_or requests k [])) (step_after o k)

  -- where the footprints were found on these inodes, each number's is its own
  pub found : (first o n number : ℕ) (requests : List (List ℕ)) (fs : List Footprint) → o ≤ spent_ordinal → fs ≡ footprints_at m o t (take n requests) → first ≤ number → number < first + length fs
      → IsFoundOn m (record { first = first; ordinal = o; time = t; requests = requests; footprints = fs }) number
  found first o n number requests fs most are from within =
      let k = number - first in
      let long : length fs ≡ min n (length requests) = ap length are ∙ length-footprints_at o (take n requests) ∙ length-take n requests in
      let there : k < length (take n requests) = subst (λ l. k < l) (sym (length-take n requests)) (omega arith) in record {
        requested = omega arith;
        own = sym (ap (λ gs. footprint_at gs k) are ∙ found_at o (take n requests) k most there ∙ ap (footprint_of m (ordinal_after o k) t) (get_or-take n requests k [] (omega arith)));
      }

-- What is moved --------------------------------------------------------------------------------------------------------------

pub moved_written : (f : Footprint) (q : ℕ) → among (moved_for f) q ≡ true → is_written f q ≡ true
moved_written (known reads writes) q is = is
moved_written whole q is = refl

pub written_is_moved : (f : Footprint) (q : ℕ) → is_whole f ≡ false → among (moved_for f) q ≡ is_written f q
written_is_moved (known reads writes) q is = refl
written_is_moved whole q is = absurd (true≢false is)

-- what one moves the others don't
apart_from_all : (f : Footprint) (gs : List Footprint) (q : ℕ) → AllByRecursion (λ g. conflict f g ≡ false) gs → among (moved_for f) q ≡ true → among (all_moved gs) q ≡ false
apart_from_all f [] q all is = refl
apart_from_all f (g ∷ gs) q all is =
    none_among (moved_for g) (all_moved gs) q
    (moved_is_written g q (false_from_ne_true (is_written g q) (λ both. true≢false (sym (written_is_touched g q both) ∙ (apart f g all.0).first q (moved_written f q is)))))
    (apart_from_all f gs q all.1 is)

module _ (part : PlannedPart) where
  moved_are : (numbers : List ℕ) (jobs : List Job) (s : Slots) (q : ℕ) → AreJobs part numbers jobs s → among (all_ids jobs) q ≡ among (all_moved (footprints_for part numbers)) q
  moved_are [] [] s q are = refl
  moved_are [] (job ∷ jobs) s q are = absurd are
  moved_are (n ∷ ns) [] s q are = absurd are
  moved_are (n ∷ ns) (job ∷ jobs) s q are =
      among_both (ids_of job.inodes) (all_ids jobs) q
      ∙ ap (λ b. b || among (all_ids jobs) q) (are.0.ids.same q)
      ∙ ap (λ b. among (moved_for (footprint_for part n)) q || b) (moved_are ns jobs (lent_out (ids_of job.inodes) s) q are.1)
      ∙ sym (among_both (moved_for (footprint_for part n)) (all_moved (footprints_for part ns)) q)

  first_apart : (n : ℕ) (ns : List ℕ) (job : Job) (jobs : List Job) (s : Slots) (q : ℕ) → AreJobs part (n ∷ ns) (job ∷ jobs) s → AreDisjoint (footprints_for part (n ∷ ns))
      → among (ids_of job.inodes) q ≡ true → among (all_ids jobs) q ≡ false
  first_apart n ns job jobs s q are disjoint is =
      moved_are ns jobs (lent_out (ids_of job.inodes) s) q are.1 ∙ apart_from_all (footprint_for part n) (footprints_for part ns) q disjoint.0 (sym (are.0.ids.same q) ∙ is)

  one_more : (numbers : List ℕ) (jobs : List Job) (s : Slots) (number : ℕ) (job : Job) → AreJobs part numbers jobs s → IsTaken part number (lent_out (all_ids jobs) s) job → AreJobs part (numbers ++ number ∷ []) (jobs ++ job ∷ []) s
  one_more [] [] s number job are one = (one, tt)
  one_more [] (first ∷ jobs) s number job are one = absurd are
  one_more (n ∷ ns) [] s number job are one = absurd are
  one_more (n ∷ ns) (first ∷ jobs) s number job are one = (
    are.0,
    one_more ns jobs (lent_out (ids_of first.inodes) s) number job are.1 (subst (λ t. IsTaken part number t job) (out_both (ids_of first.inodes) (all_ids jobs) s) one),
  )

  pub loans_taken : (numbers : List ℕ) (jobs : List Job) (s : Slots) → AreJobs part numbers jobs s → all_loans jobs ≡ taken (all_ids jobs) s
  loans_taken [] [] s are = refl
  loans_taken [] (job ∷ jobs) s are = absurd are
  loans_taken (n ∷ ns) [] s are = absurd are
  loans_taken (n ∷ ns) (job ∷ jobs) s are =
      ap (λ (loans : List Loan). loans ++ all_loans jobs) are.0.inodes
      ∙ ap (λ (loans : List Loan). taken (ids_of job.inodes) s ++ loans) (loans_taken ns jobs (lent_out (ids_of job.inodes) s) are.1)
      ∙ sym (taken_both (ids_of job.inodes) (all_ids jobs) s)

pub ids_more : (jobs : List Job) (job : Job) → all_ids (jobs ++ job ∷ []) ≡ all_ids jobs ++ ids_of job.inodes
ids_more [] job = append-nil (ids_of job.inodes)
ids_more (first ∷ jobs) job = ap (λ ids. ids_of first.inodes ++ ids) (ids_more jobs job) ∙ sym (append_assoc (ids_of first.inodes) (all_ids jobs) (ids_of job.inodes))

or_none : (a b : Bool) → (a || b) ≡ false → b ≡ false
or_none true b none = absurd (true≢false none)
or_none false b none = none

-- Number after number --------------------------------------------------------------------------------------------------------

-- the jobs of the first of these numbers are taken, and what the others write is not lent out
pub record AreBegun (old : Slots) (part : PlannedPart) (numbers : List ℕ) (at : ℕ) (jobs : List Job) (t : Slots) : Type 0 where
  pub begun : AreJobs part (take at numbers) jobs old
  pub out : t ≡ lent_out (all_ids jobs) old
  pub home : AreAtHome old (all_ids jobs)
  pub whole : (reach_of old).whole ≡ true
  pub disjoint : AreDisjoint (footprints_for part (drop at numbers))
  pub apart : (q : ℕ) → among (all_ids jobs) q ≡ true → among (all_moved (footprints_for part (drop at numbers))) q ≡ false

pub begin : (old : Slots) (part : PlannedPart) (numbers : List ℕ) → (reach_of old).whole ≡ true → AreDisjoint (footprints_for part numbers) → AreBegun old part numbers 0 [] old
begin old part numbers all_home disjoint = record { begun = tt; out = refl; home = tt; whole = all_home; disjoint = disjoint; apart = λ q is. absurd (true≢false (sym is)) }

any_default : (xs : List ℕ) (k d e : ℕ) → k < length xs → get_or xs k d ≡ get_or xs k e
any_default [] k d e less = absurd (omega arith)
any_default (x ∷ xs) zero d e less = refl
any_default (x ∷ xs) (suc k) d e less = any_default xs k d e (omega arith)

module _ (old : Slots) (part : PlannedPart) (numbers : List ℕ) (at : ℕ) (jobs : List Job) (t : Slots) (are : AreBegun old part numbers at jobs t) (less : at < length numbers) where
  abbrev pub number : ℕ
  number = get_or numbers at 0

  from : drop at numbers ≡ number ∷ drop (at + 1) numbers
  from = from_here numbers at number less (any_default numbers at 0 number less)

  disjoint_from : AreDisjoint (footprints_for part (number ∷ drop (at + 1) numbers))
  disjoint_from = subst (λ ns. AreDisjoint (footprints_for part ns)) from are.disjoint

  pub next_owned : AreOwned t (moved_for (footprint_for part number))
  next_owned q moved =
      let free : among (all_ids jobs) q ≡ false = false_from_ne_true (among (all_ids jobs) q) (λ both. true≢false (sym
      (among_both (moved_for (footprint_for part number)) (all_moved (footprints_for part (drop (at + 1) numbers))) q ∙ or_left (among (moved_for (footprint_for part number)) q) (among (all_moved (footprints_for part (drop (at + 1) numbers))) q) moved)
      ∙ sym (ap (λ ns. among (all_moved (footprints_for part ns)) q) from) ∙ are.apart q both)) in
      ap (λ s. not (is_some (get (lent s) q))) are.out ∙ ap not (is_out (all_ids jobs) old q ∙ ap (λ b. b || is_some (get (lent old) q)) free) ∙ knows_all (lent old) are.whole q

  pub next : (job : Job) (u : Slots) → IsTaken part number t job → u ≡ lent_out (ids_of job.inodes) t → AreBegun old part numbers (at + 1) (jobs ++ job ∷ []) u
  next job u one out =
      let ids = ids_of job.inodes in
      let here : AreAtHome (lent_out (all_ids jobs) old) ids = subst (λ s. AreAtHome s ids) are.out (are_at_home ids t (λ q member. next_owned q (sym (one.ids.same q) ∙ member)) one.ids.distinct) in
      record {
        begun = subst (λ ns. AreJobs part ns (jobs ++ job ∷ []) old) (sym (take_more numbers at 0 less)) (one_more part (take at numbers) jobs old number job are.begun (subst (λ s. IsTaken part number s job) are.out one));
        out = out ∙ ap (lent_out ids) are.out ∙ sym (out_both (all_ids jobs) ids old) ∙ ap (λ xs. lent_out xs old) (sym (ids_more jobs job));
        home = subst (AreAtHome old) (sym (ids_more jobs job)) (at_home_both (all_ids jobs) ids old are.home here);
        whole = are.whole;
        disjoint = disjoint_from.1;
        apart = λ q member. by_test q (among ids q) refl (sym (ap (λ xs. among xs q) (ids_more jobs job) ∙ among_both (all_ids jobs) ids q) ∙ member);
      }
    where
      by_test : (q : ℕ) (b : Bool) → among (ids_of job.inodes) q ≡ b → (among (all_ids jobs) q || b) ≡ true → among (all_moved (footprints_for part (drop (at + 1) numbers))) q ≡ false
      by_test q true e member = apart_from_all (footprint_for part number) (footprints_for part (drop (at + 1) numbers)) q disjoint_from.0 (sym (one.ids.same q) ∙ e)
      by_test q false e member =
          let before : among (all_ids jobs) q ≡ true = sym (or-false (among (all_ids jobs) q)) ∙ member in
          or_none (among (moved_for (footprint_for part number)) q) (among (all_moved (footprints_for part (drop (at + 1) numbers))) q)
          (sym (ap (λ ns. among (all_moved (footprints_for part ns)) q) from ∙ among_both (moved_for (footprint_for part number)) (all_moved (footprints_for part (drop (at + 1) numbers))) q) ∙ are.apart q before)

-- a share is the same as all inodes where its call looks
pub share_seen : (m : Inodes) (f : Footprint) (fs : List Footprint) → ((q : ℕ) → is_touched f q ≡ true → is_there fs f q ≡ true) → AgreeOn f m (share_of m (without (all_moved fs) m) f)
share_seen m f fs there q touched = get-closed f m (without (all_moved fs) m) q ∙ by_test (is_written f q) refl
  where
    left : (a b : Bool) → b ≡ false → (not a || b) ≡ true → a ≡ false
    left true b none is = absurd (true≢false (sym is ∙ none))
    left false b none is = refl

    by_test : (b : Bool) → is_written f q ≡ b → cond b (get m q) (get (without (all_moved fs) m) q) ≡ get m q
    by_test true is = refl
    by_test false is =
        get-without (all_moved fs) m q
        ∙ ap (λ b. cond (not b) (get m q) None) (left (among (all_moved fs) q) (among (moved_for f) q) (moved_is_written f q is) (there q touched))

-- What comes of it -----------------------------------------------------------------------------------------------------------

module _ (old new : Slots) (part : PlannedPart) where
  job_is : (number : ℕ) (job : Job) (s : Slots) → IsTaken part number s job → is_whole (footprint_for part number) ≡ false → ((q : ℕ) → among (ids_of job.inodes) q ≡ true → get (at_home s) q ≡ get (at_home old) q) → IsJobOf old new part number job
  job_is number job s is not_whole same = record {
    number_is = is.number_is;
    request = is.request;
    ordinal = is.ordinal;
    time = is.time;
    share = same_inodes _ _ (λ q.
        get-put_in job.inodes (at_home new) q
        ∙ by_test q (among (ids_of job.inodes) q) refl
        ∙ ap (λ b. cond b (get (at_home old) q) (get (at_home new) q)) (is.ids.same q ∙ written_is_moved (footprint_for part number) q not_whole)
        ∙ sym (get-closed (footprint_for part number) (at_home old) (at_home new) q));
    ids = is.ids.same;
    distinct = is.ids.distinct;
  }
    where
      by_test : (q : ℕ) (b : Bool) → among (ids_of job.inodes) q ≡ b → cond b (loaned job.inodes q) (get (at_home new) q) ≡ cond b (get (at_home old) q) (get (at_home new) q)
      by_test q true e = ap (λ loans. loaned loans q) is.inodes ∙ loaned_taken (ids_of job.inodes) s q e ∙ same q e
      by_test q false e = refl

  each_job : (numbers : List ℕ) (jobs : List Job) (s : Slots) → AreJobs part numbers jobs s → AreDisjoint (footprints_for part numbers) → AllByRecursion (CanBeSplit (at_home old) part) numbers
      → ((q : ℕ) → among (all_ids jobs) q ≡ true → get (at_home s) q ≡ get (at_home old) q) → AllZip (IsJobOf old new part) numbers jobs
  each_job [] [] s are disjoint can same = tt
  each_job [] (job ∷ jobs) s are disjoint can same = absurd are
  each_job (n ∷ ns) [] s are disjoint can same = absurd are
  each_job (n ∷ ns) (job ∷ jobs) s are disjoint can same =
      let ids = ids_of job.inodes in (
        job_is n job s are.0 can.0.known (λ q is. same q (among_both ids (all_ids jobs) q ∙ or_left (among ids q) (among (all_ids jobs) q) is)),
        each_job ns jobs (lent_out ids s) are.1 disjoint.1 can.1 (λ q is.
            home_out ids s q
            ∙ ap (λ b. cond b None (get (at_home s) q)) (false_from_ne_true (among ids q) (λ both. true≢false (sym is ∙ first_apart part n ns job jobs s q are disjoint both)))
            ∙ same q (among_both ids (all_ids jobs) q ∙ or_right (among ids q) (among (all_ids jobs) q) is)),
      )

  -- What can be run ------------------------------------------------------------------------------------------------------------

  module _ (fs : List Footprint) (home : at_home new ≡ without (all_moved fs) (at_home old)) (out : (q : ℕ) → is_some (get (lent new) q) ≡ among (all_moved fs) q) where
    abbrev IsThere : Footprint → Type 0
    IsThere f = (q : ℕ) → is_touched f q ≡ true → is_there fs f q ≡ true

    -- what a call touches is on its share as it was
    agrees : (f : Footprint) → IsThere f → AgreeOn f (at_home old) (share_of (at_home old) (at_home new) f)
    agrees f there = subst (λ h. AgreeOn f (at_home old) (share_of (at_home old) h f)) (sym home) (share_seen (at_home old) f fs there)

    -- and its share answers for it
    knows : (f : Footprint) (ids : List ℕ) → is_whole f ≡ false → IsThere f → ((q : ℕ) → among ids q ≡ among (moved_for f) q) → Knows (reach_with (lent new) (at_home new) ids) f
    knows (known reads writes) ids is there same = (
      all_among (λ q. (among ids q || not (is_some (get (lent new) q))) ≡ true) reads (λ q read.
          ap (λ b. b || not (is_some (get (lent new) q))) (same q)
          ∙ ap (λ b. among writes q || not b) (out q)
          ∙ or_comm (among writes q) (not (among (all_moved fs) q))
          ∙ there q (or_left (among reads q) (among writes q) read)),
      all_among (λ q. among ids q ≡ true) writes (λ q written. same q ∙ written),
    )
    knows whole ids is there same = absurd (true≢false is)

    fresh_on : (f : Footprint) (o : ℕ) (others : Inodes) → AgreeOn f (at_home old) others → IsFreshFor (at_home old) o f → IsFreshFor others o f
    fresh_on f o others agree (inl spent) = inl spent
    fresh_on f o others agree (inr new) = inr (new_in o (at_home old) others f agree new)

    can_run : (number : ℕ) (job : Job) → IsJobOf old new part number job → CanBeSplit (at_home old) part number → IsThere (footprint_for part number)
        → footprint_of (at_home old) (ordinal_of part number) part.time (request_of part number) ≡ footprint_for part number → CanRun new job
    can_run number job is can there found =
        let f = footprint_for part number in
        let own = put_in job.inodes (at_home new) in
        let agree : AgreeOn f (at_home old) own = subst (AgreeOn f (at_home old)) (sym is.share) (agrees f there) in
        let asked : footprint_of own job.ordinal job.time job.request.now ≡ footprint_of own (ordinal_of part number) part.time (request_of part number) =
        ap (λ o. footprint_of own o job.time job.request.now) is.ordinal ∙ ap (λ t. footprint_of own (ordinal_of part number) t job.request.now) is.time ∙ ap (footprint_of own (ordinal_of part number) part.time) is.request in
        let feet : footprint_of own job.ordinal job.time job.request.now ≡ f =
        asked ∙ request_footprints_agree (at_home old) own (ordinal_of part number) part.time (request_of part number) (subst (λ g. AgreeOn g (at_home old) own) (sym found) agree) ∙ found in
        record {
          known = subst (Knows (reach_with (lent new) (at_home new) (ids_of job.inodes))) (sym feet) (knows f (ids_of job.inodes) can.known there is.ids);
          fresh = subst (IsFreshFor own job.ordinal) (sym feet) (subst (λ o. IsFreshFor own o f) (sym is.ordinal) (fresh_on f (ordinal_of part number) own agree can.fresh));
        }

    can_run_each : (numbers : List ℕ) (jobs : List Job) → AllZip (IsJobOf old new part) numbers jobs → AllByRecursion (CanBeSplit (at_home old) part) numbers → AllByRecursion IsThere (footprints_for part numbers)
        → AllByRecursion (IsFoundOn (at_home old) part) numbers → AllByRecursion (CanRun new) jobs
    can_run_each [] [] are can there found = tt
    can_run_each [] (job ∷ jobs) are can there found = absurd are
    can_run_each (n ∷ ns) [] are can there found = absurd are
    can_run_each (n ∷ ns) (job ∷ jobs) are can there found = (can_run n job are.0 can.0 there.0 found.0.own, can_run_each ns jobs are.1 can.1 there.1 found.1)

-- All together ---------------------------------------------------------------------------------------------------------------

-- what is known of a result in two ways
pub from_both : {A E : Type 0} {P Q R : A → Type 0} (r : Result A E) → ((x : A) → P x → Q x → R x) → IfOk r P → IfOk r Q → IfOk r R
from_both (Ok x) both p q = both x p q
from_both (Err e) both p q = tt

pub is_split : (old new : Slots) (part : PlannedPart) (numbers : List ℕ) (jobs : List Job) → (reach_of old).whole ≡ true → AreDisjoint (footprints_for part numbers) → All (CanBeSplit (at_home old) part) numbers
    → All (IsFoundOn (at_home old) part) numbers → AreJobs part numbers jobs old → new ≡ lent_out (all_ids jobs) old → IsSplit old new part numbers jobs
is_split old new part numbers jobs all_home disjoint can located are out_is =
    let fs = footprints_for part numbers in
    let each_can = recursion_from_All (CanBeSplit (at_home old) part) numbers can in
    let home : at_home new ≡ without (all_moved fs) (at_home old) = same_inodes _ _ (λ q.
    ap (λ s. get (at_home s) q) out_is ∙ home_out (all_ids jobs) old q
    ∙ ap (λ b. cond b None (get (at_home old) q)) (moved_are part numbers jobs old q are)
    ∙ turned (among (all_moved fs) q) (get (at_home old) q) ∙ sym (get-without (all_moved fs) (at_home old) q)) in
    let out : (q : ℕ) → is_some (get (lent new) q) ≡ among (all_moved fs) q = λ q.
    ap (λ s. is_some (get (lent s) q)) out_is ∙ is_out (all_ids jobs) old q
    ∙ none_more (among (all_ids jobs) q) (is_some (get (lent old) q)) (knows_all (lent old) all_home q) ∙ moved_are part numbers jobs old q are in
    let each : AllZip (IsJobOf old new part) numbers jobs = each_job old new part numbers jobs old are disjoint each_can (λ q _. refl) in
    record {
      each = each;
      home = home;
      out = out;
      can_run = All-from_recursion (CanRun new) jobs (can_run_each old new part fs home out numbers jobs each each_can (shares_know fs disjoint) (recursion_from_All (IsFoundOn (at_home old) part) numbers located));
    }
  where
    turned : {X : Type 0} (b : Bool) (o : Option X) → cond b None o ≡ cond (not b) o None
    turned true o = refl
    turned false o = refl

    none_more : (a b : Bool) → not b ≡ true → (a || b) ≡ a
    none_more true b none = refl
    none_more false true none = absurd (true≢false (sym none))
    none_more false false none = refl
