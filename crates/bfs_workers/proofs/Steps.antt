-- Each step at the queue keeps its rule.
use Rattle.std.proofs.Common.{◌≡◌, ◌∙◌, ℕ, ◌+◌, ◌-◌, ◌<◌, [], ◌∷◌, ◌++◌, length, refl, sym, ap, subst, append_assoc, arith, slice_set}
use Rattle.std.specs.Prelude.{IsPermutation}
use Rattle.std.specs.List.{Contains}
use Rattle.std.proofs.lemmas.List.{length-append}
use Rattle.std.proofs.lemmas.List.Elements.{Contains-append_right}
use Rattle.std.proofs.lemmas.List.Sorted.{Contains-permutation, IsPermutation-append_comm, IsPermutation-append_left, IsPermutation-refl, IsPermutation-sym, IsPermutation-trans, length_permutation}
use mathlib.Core.Option.{some}
use lib.ListN.{get_elem?}
use Rattle.crossbeam_queue.specs.Fifo.{Forks, Learns, Merges, Pops, Pushes}
use Rattle.crossbeam_queue.proofs.Lists.{set_else}
use Rattle.bfs_handover.specs.declared.job.Job.{Job}
use Rattle.bfs_workers.specs.Rule.{Balanced, KnowsAll, PutOne, TookOne, account, all_parts, taken_by}
use Rattle.bfs_workers.specs.declared.rule.Account.{Account}
use Rattle.bfs_workers.proofs.Accounts.{fits_alone, fits_at, fits_set, fits_with, parts_set, parts_with, taken_alone, taken_at, taken_merged, taken_more, taken_same, taken_with}

pub begins : Balanced [] (account all_parts [] [] ∷ [])
begins = record { put = []; parts = refl; fits = (record { knows = λ _. refl; idle = λ _. refl }, tt); each_once = IsPermutation-refl [] }

pub puts : (n port : ℕ) (v : Account) (job : Job) → v.parts ≡ all_parts → Pushes Balanced n port v job (PutOne v job)
puts n port v job all items passes room rule at =
    let w = account v.parts (v.put ++ job ∷ []) v.taken in
    let more = parts_set passes port v w at in
    let parts = rule.parts in
    let known = (fits_at rule.put passes port v at rule.fits).knows (omega arith) in
    let taken = taken_same passes port v w at refl in (
      w,
      record {
        put = v.put ++ job ∷ [];
        parts = omega arith;
        fits = fits_alone rule.put (v.put ++ job ∷ []) passes port v w at (parts ∙ sym all) (record { knows = λ _. refl; idle = λ none. absurd (omega arith) }) rule.fits;
        each_once = subst (λ jobs. IsPermutation (v.put ++ job ∷ []) (jobs ++ (items ++ job ∷ []))) (sym taken)
            (subst (IsPermutation (v.put ++ job ∷ [])) (append_assoc (taken_by passes) items (job ∷ [])) (IsPermutation-append_left (job ∷ []) v.put _ (subst (λ put. IsPermutation put (taken_by passes ++ items)) (sym known) rule.each_once)));
      },
      refl,
    )

pub takes : (port : ℕ) (v : Account) → 0 < v.parts → Pops Balanced port v (TookOne v)
takes port v some_part job items passes rule at =
    let w = account v.parts v.put (v.taken ++ job ∷ []) in
    let more = parts_set passes port v w at in
    let parts = rule.parts in
    let fits = fits_at rule.put passes port v at rule.fits in
    let known = fits.knows some_part in
    let taken = taken_by passes in
    let moved : IsPermutation (taken ++ (job ∷ items)) (taken_by (slice_set passes port w) ++ items) =
    subst (λ jobs. IsPermutation jobs (taken_by (slice_set passes port w) ++ items)) (append_assoc taken (job ∷ []) items)
    (IsPermutation-append_left items (taken ++ job ∷ []) _ (IsPermutation-trans _ _ _ (IsPermutation-append_comm taken (job ∷ [])) (taken_more passes port v w (job ∷ []) at refl))) in
    let first : Contains (job ∷ items) job = (0, omega arith, refl) in
    let was_put : Contains rule.put job = Contains-permutation _ _ job (IsPermutation-sym _ _ rule.each_once) (Contains-append_right taken (job ∷ items) job first) in
    let long = length_permutation _ _ rule.each_once in
    let longer = length-append taken (job ∷ items) in
    let mine = taken_at passes port v at in
    let same = ap length known in (
      w,
      record {
        put = rule.put;
        parts = omega arith;
        fits = fits_set rule.put passes port w (record { knows = λ _. known; idle = λ none. absurd (omega arith) }) rule.fits;
        each_once = IsPermutation-trans _ _ _ rule.each_once moved;
      },
      record { taken = refl; was_put = subst (λ put. Contains put job) (sym known) was_put; left = omega arith },
    )

pub forks : (port : ℕ) (v : Account) → 1 < v.parts → Forks Balanced port v (account (v.parts - 1) v.put v.taken) (account 1 v.put [])
forks port v two_parts items passes rule at =
    let left = account (v.parts - 1) v.put v.taken in
    let right = account 1 v.put [] in
    let less = parts_set passes port v left at in
    let more = parts_with (slice_set passes port left) right in
    let parts = rule.parts in
    let known = (fits_at rule.put passes port v at rule.fits).knows (omega arith) in
    record {
      put = rule.put;
      parts = omega arith;
      fits = fits_with rule.put (slice_set passes port left) right (record { knows = λ _. known; idle = λ _. refl })
          (fits_set rule.put passes port left (record { knows = λ _. known; idle = λ none. absurd (omega arith) }) rule.fits);
      each_once = subst (λ jobs. IsPermutation rule.put (jobs ++ items)) (sym (taken_with (slice_set passes port left) right refl ∙ taken_same passes port v left at refl)) rule.each_once;
    }

pub merges : (port : ℕ) (v : Account) (other : ℕ) (u : Account) → 0 < v.parts → Merges Balanced port v other u (account (v.parts + u.parts) v.put (v.taken ++ u.taken)) (account 0 [] [])
merges port v other u some_part items passes rule at apart at_other =
    let both = account (v.parts + u.parts) v.put (v.taken ++ u.taken) in
    let spent = account 0 [] [] in
    let theirs : get_elem? passes other ≡ some u = sym (set_else passes port other both apart) ∙ at_other in
    let more = parts_set passes port v both at in
    let less = parts_set (slice_set passes port both) other u spent at_other in
    let parts = rule.parts in
    let known = (fits_at rule.put passes port v at rule.fits).knows some_part in
    record {
      put = rule.put;
      parts = omega arith;
      fits = fits_set rule.put (slice_set passes port both) other spent (record { knows = λ none. absurd (omega arith); idle = λ _. refl })
          (fits_set rule.put passes port both (record { knows = λ _. known; idle = λ none. absurd (omega arith) }) rule.fits);
      each_once = IsPermutation-trans _ _ _ rule.each_once (IsPermutation-append_left items _ _ (taken_merged passes port other v u both spent at theirs apart refl refl));
    }

pub learns : (port : ℕ) (v : Account) → Learns Balanced port v (KnowsAll v)
learns port v items passes rule at all =
    let parts = rule.parts in
    let known = (fits_at rule.put passes port v at rule.fits).knows (omega arith) in
    subst (λ jobs. IsPermutation v.put (jobs ++ items)) (taken_alone rule.put passes port v at (parts ∙ sym all) rule.fits) (subst (λ put. IsPermutation put (taken_by passes ++ items)) (sym known) rule.each_once)
