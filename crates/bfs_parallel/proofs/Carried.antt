-- Replies of which each has been run by the gate.
use Rattle.std.proofs.Common.{ℕ, List, [], ◌∷◌, ◌∙◌, arith, map, sym, subst}
use Rattle.std.specs.List.{All, AllByRecursion, AllZip}
use Rattle.std.proofs.lemmas.List.Elements.{All-from_recursion, All-head, recursion_from_All}
use Rattle.std.proofs.lemmas.List.Sorted.{All-permutation, IsPermutation-refl}
use Rattle.bfs_tree.specs.Slots.{Slots}
use Rattle.bfs_tree.specs.Tree.{at_home}
use Rattle.bfs_handover.specs.Jobs.{IsDone}
use Rattle.bfs_handover.specs.Merging.{AreOut, IsMerged, reply_in}
use Rattle.bfs_handover.specs.Splitting.{CanBeSplit, IsSplit, PlannedPart}
use Rattle.bfs_handover.specs.declared.job.Job.{Job}
use Rattle.bfs_handover.specs.declared.job.Done.{Done}
use Rattle.bfs_handover.specs.declared.results.NumberedReply.{NumberedReply}
use Rattle.bfs_handover.proofs.Public.{results_are_out, split_requests_are_carried_out}
use Rattle.bfs_workers.specs.Results.{EachOnce, Gives}
use Rattle.bfs_parallel.specs.Parts.{IsCarriedOut}

module _ (ran : ℕ → List ℕ → Type 0) where
  abbrev Gated : Done → Type 0
  Gated done = ran done.number done.reply.items

  abbrev GatedReply : NumberedReply → Type 0
  GatedReply reply = ran reply.number reply.bytes.items

  all_gated : (tree : Slots) (jobs : List Job) (dones : List Done) → AllZip (Gives ran tree) jobs dones → AllByRecursion Gated dones
  all_gated tree [] [] all = tt
  all_gated tree [] (done ∷ dones) all = absurd all
  all_gated tree (job ∷ jobs) [] all = absurd all
  all_gated tree (job ∷ jobs) (done ∷ dones) all = (all.0.gated, all_gated tree jobs dones all.1)

  pub all_done : (tree : Slots) (jobs : List Job) (dones : List Done) → AllZip (Gives ran tree) jobs dones → AllZip (IsDone tree) jobs dones
  all_done tree [] [] all = tt
  all_done tree [] (done ∷ dones) all = absurd all
  all_done tree (job ∷ jobs) [] all = absurd all
  all_done tree (job ∷ jobs) (done ∷ dones) all = (all.0.result, all_done tree jobs dones all.1)

  in_replies : (dones : List Done) → AllByRecursion Gated dones → AllByRecursion GatedReply (map reply_in dones)
  in_replies [] all = tt
  in_replies (done ∷ dones) all = (all.0, in_replies dones all.1)

  pub gated_replies : (old new : Slots) (numbers : List ℕ) (jobs : List Job) (dones : List Done) (replies : List NumberedReply) → EachOnce ran old jobs dones → IsMerged old new numbers dones replies → All GatedReply replies
  gated_replies old new numbers jobs dones replies once merged =
      let each = All-permutation Gated dones merged.order merged.each (All-from_recursion Gated dones (all_gated old once.order dones once.given)) in
      subst (All GatedReply) (sym merged.replies_are) (All-from_recursion GatedReply (map reply_in merged.order) (in_replies merged.order (recursion_from_All Gated merged.order each)))

-- A request that is split off alone ---------------------------------------------------------------------------------------

module _ (ran : ℕ → List ℕ → Type 0) (old new : Slots) (part : PlannedPart) (number : ℕ) (job : Job) (done : Done) (split : IsSplit old new part (number ∷ []) (job ∷ [])) (gives : Gives ran new job done) where
  pub one_out : AreOut new (done ∷ [])
  one_out = results_are_out old new part (number ∷ []) (job ∷ []) (job ∷ []) (done ∷ []) (tt, tt) split (IsPermutation-refl (job ∷ [])) (gives.result, tt)

  pub one_carried_out : (after : Slots) (reply : NumberedReply) → CanBeSplit (at_home old) part number → IsMerged new after (done.number ∷ []) (done ∷ []) (reply ∷ []) → IsCarriedOut ran old after part number reply
  one_carried_out after reply can merged =
      let merged_there = subst (λ n. IsMerged new after (n ∷ []) (done ∷ []) (reply ∷ [])) (gives.result.number ∙ split.each.0.number_is) merged in
      let is = split_requests_are_carried_out old new after part (number ∷ []) (job ∷ []) (job ∷ []) (done ∷ []) (reply ∷ []) (λ k less. absurd (omega (arith, less))) (All-from_recursion (CanBeSplit (at_home old) part) (number ∷ []) (can, tt)) split (IsPermutation-refl (job ∷ [])) (gives.result, tt) merged_there in
      let once : EachOnce ran new (job ∷ []) (done ∷ []) = record { order = job ∷ []; permuted = IsPermutation-refl (job ∷ []); given = (gives, tt) } in
      record {
        done = is.0;
        whole = is.1;
        gated = All-head (λ (r : NumberedReply). ran r.number r.bytes.items) reply [] (gated_replies ran new after (number ∷ []) (job ∷ []) (done ∷ []) (reply ∷ []) once merged_there);
      }
