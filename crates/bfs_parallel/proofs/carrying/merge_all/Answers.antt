-- Where each number has its result, once, only memory is a reason not to merge.
use Rattle.std.proofs.Common.{◌≡◌, ◌⊎◌, Option, Some, None, is_some, inl, inr, ap, sym, ◌∙◌, true≢false}
use Rattle.bfs_handover.specs.declared.results.MergeError.{MergeError}
use Rattle.bfs_handover.specs.declared.results.MergeError.TheVariants.{Stranger, Double, Missing, Memory}
use Rattle.bfs_handover.proofs.Public.{complete_results_are_taken}
use Rattle.bfs_parallel.proofs.carrying.merge_all.Goals as goal

only_memory : (refused : MergeError) (refusal : Option MergeError) → refusal ≡ None → (refusal ≡ Some refused) ⊎ ((refused ≡ Memory) × (refusal ≡ None)) → refused ≡ Memory
only_memory refused refusal none (inl is) = absurd (true≢false (sym (ap is_some is) ∙ ap is_some none))
only_memory refused refusal none (inr is) = is.0

another : (refused : MergeError) → (refused ≡ Stranger) ⊎ ((refused ≡ Double) ⊎ (refused ≡ Missing)) → refused ≡ Memory → ⊥
another refused (inl is) memory = absurd cc
another refused (inr (inl is)) memory = absurd cc
another refused (inr (inr is)) memory = absurd cc

pub unreachable-requires : goal.unreachable-requires
unreachable-requires c =
    another c.in-Err.refused c.in-Stranger.is (only_memory c.in-Err.refused _ (complete_results_are_taken c.args.numbers.now c.args.dones.items c.requires.rising c.requires.each) c.in-Err.ensures.refused)
