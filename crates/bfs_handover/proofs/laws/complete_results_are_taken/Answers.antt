-- By the lemma of that name.
use Rattle.bfs_handover.proofs.NumberLemmas.{complete_results_are_taken}
use Rattle.bfs_handover.proofs.laws.complete_results_are_taken.Goals as goal

pub returns : goal.returns
returns c = complete_results_are_taken
