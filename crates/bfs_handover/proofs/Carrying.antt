-- What is split off, run and merged is carried out on its share.
use Rattle.std.proofs.Common.{◌≡◌, ℕ, Bool, true, false, cond, List, [], ◌∷◌, map, refl, ap, sym, subst, ◌∙◌}
use Rattle.std.specs.List.{AllByRecursion, AllZip, list_any}
use Rattle.std.specs.List.Sorted.{IsStrictlyIncreasing}
use Rattle.std.specs.FinMap.{get}
use Rattle.std.proofs.lemmas.List.Elements.{recursion_from_All}
use Rattle.bfs_model.specs.Server.Tree.{Inodes}
use Rattle.bfs_model.specs.Server.Serial.{answer}
use Rattle.bfs_model.specs.Server.Conflicts.{among, is_whole, is_written, closed}
use Rattle.bfs_model.proofs.Public.{get-closed, same_inodes}
use Rattle.bfs_tree.specs.Slots.{Slots}
use Rattle.bfs_tree.specs.Tree.{at_home, lent}
use Rattle.bfs_handover.specs.Loans.{ids_of, loaned, put_in}
use Rattle.bfs_handover.specs.Jobs.{IsDone}
use Rattle.bfs_handover.specs.Splitting.{CanBeSplit, IsJobOf, PlannedPart, footprint_for}
use Rattle.bfs_handover.specs.Merging.{all_in, reply_in}
use Rattle.bfs_handover.specs.Laws.Carrying.{SplitRequestsAreCarriedOut, all_back, outcome_for}
use Rattle.bfs_handover.specs.declared.job.Job.{Job}
use Rattle.bfs_handover.specs.declared.job.Done.{Done}
use Rattle.bfs_handover.specs.declared.results.NumberedReply.{NumberedReply}
use Rattle.bfs_handover.proofs.LoanLemmas.{get-put_in, get_owned}
use Rattle.bfs_handover.proofs.Homecoming.{all_brought, gone_by, job_numbers, matched, none_lent}
use Rattle.bfs_handover.proofs.SplitLemmas.{written_is_moved}

module _ (old new : Slots) (part : PlannedPart) where
  abbrev outcome : ℕ → Inodes × List ℕ
  outcome number = outcome_for (at_home old) (at_home new) part number

  done_so : (number : ℕ) (job : Job) (done : Done) → IsJobOf old new part number job → IsDone new job done → ◌≡◌ {A = Inodes × List ℕ} (put_in done.inodes (at_home new), done.reply.items) (outcome number)
  done_so number job done is run = run.answers ∙ (λ i. answer (is.share i) (is.ordinal i) (is.time i) (is.request i))

  -- a result brings home what its request left where it writes
  one_back : (number : ℕ) (job : Job) (done : Done) → IsJobOf old new part number job → IsDone new job done → is_whole (footprint_for part number) ≡ false → (left : Inodes)
      → put_in done.inodes left ≡ closed (footprint_for part number) (outcome number).0 left
  one_back number job done is run known left = same_inodes _ _ (λ q.
      let f = footprint_for part number in
      let owned : is_written f q ≡ among (ids_of done.inodes) q = sym (written_is_moved f q known) ∙ sym (is.ids q) ∙ ap (λ ids. among ids q) (sym run.ids) in
      get-put_in done.inodes left q ∙ by_test q (among (ids_of done.inodes) q) refl ∙ ap (λ b. cond b (get (outcome number).0 q) (get left q)) (sym owned) ∙ sym (get-closed f (outcome number).0 left q))
    where
      by_test : (q : ℕ) (b : Bool) → among (ids_of done.inodes) q ≡ b → cond b (loaned done.inodes q) (get left q) ≡ cond b (get (outcome number).0 q) (get left q)
      by_test q true has = sym (get_owned done.inodes (at_home new) q has) ∙ ap (λ (end : Inodes × List ℕ). get end.0 q) (done_so number job done is run)
      by_test q false has = refl

  pub record AreBack (numbers : List ℕ) (dones : List Done) (left : Inodes) : Type 0 where
    pub home : all_in dones left ≡ all_back (at_home old) (at_home new) part numbers left
    pub numbered : map (λ (reply : NumberedReply). reply.number) (map reply_in dones) ≡ numbers
    pub answers : map (λ (reply : NumberedReply). reply.bytes.items) (map reply_in dones) ≡ map (λ number. (outcome number).1) numbers

  pub are_back : (numbers : List ℕ) (jobs : List Job) (dones : List Done) (left : Inodes) → AllZip (IsJobOf old new part) numbers jobs → AllZip (IsDone new) jobs dones
      → AllByRecursion (CanBeSplit (at_home old) part) numbers → AreBack numbers dones left
  are_back [] [] [] left all run can = record { home = refl; numbered = refl; answers = refl }
  are_back [] [] (done ∷ dones) left all run can = absurd run
  are_back [] (job ∷ jobs) dones left all run can = absurd all
  are_back (number ∷ numbers) [] dones left all run can = absurd all
  are_back (number ∷ numbers) (job ∷ jobs) [] left all run can = absurd run
  are_back (number ∷ numbers) (job ∷ jobs) (done ∷ dones) left all run can =
      let rest = are_back numbers jobs dones (closed (footprint_for part number) (outcome number).0 left) all.1 run.1 can.1 in record {
        home = ap (all_in dones) (one_back number job done all.0 run.0 can.0.known left) ∙ rest.home;
        numbered = λ i. (run.0.number ∙ all.0.number_is) i ∷ rest.numbered i;
        answers = λ i. (ap (λ (end : Inodes × List ℕ). end.1) (done_so number job done all.0 run.0)) i ∷ rest.answers i;
      }

pub split_requests_are_carried_out : SplitRequestsAreCarriedOut
split_requests_are_carried_out old new after part numbers jobs run dones replies up can split moved all merged =
    let m = at_home old in
    let numbered : map (λ (job : Job). job.number) jobs ≡ numbers = job_numbers old new part numbers jobs split.each in
    let tied : AllZip (IsDone new) jobs merged.order =
    matched (IsDone new) (λ (job : Job). job.number) (λ (done : Done). done.number) (λ job done is. is.number) jobs run dones merged.order
    (subst IsStrictlyIncreasing (sym numbered) up) moved all merged.each (merged.numbers_are ∙ sym numbered) in
    let back = are_back old new part numbers jobs merged.order (at_home new) split.each tied (recursion_from_All (CanBeSplit m part) numbers can) in (
      record {
        home = merged.home ∙ back.home ∙ ap (λ home. all_back m home part numbers home) split.home;
        numbered = ap (map (λ (reply : NumberedReply). reply.number)) merged.replies_are ∙ back.numbered;
        answers = ap (map (λ (reply : NumberedReply). reply.bytes.items)) merged.replies_are ∙ back.answers ∙ ap (λ home. map (λ number. (outcome_for m home part number).1) numbers) split.home;
      },
      none_lent after (λ q. merged.still_out q ∙ gone_by (list_any (λ (done : Done). among (ids_of done.inodes) q) merged.order) (get (lent new) q) (split.out q ∙ sym (all_brought old new part numbers jobs merged.order q split.each tied))),
    )
