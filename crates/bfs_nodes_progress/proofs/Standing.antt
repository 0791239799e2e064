-- What is proposed stands in the log.
use Rattle.std.proofs.Common.{◌≡◌, true, false, [], ◌∷◌, ◌++◌, Option, sym, subst, ◌∙◌}
use Rattle.std.specs.List.{list_any}
use Rattle.std.proofs.lemmas.Bool.{or_left, or_right}
use Rattle.bfs_votes.specs.Votes.{says, Told}
use Rattle.bfs_log.specs.Headers.{header}
use Rattle.bfs_log.specs.Logs.{headers}
use Rattle.bfs_order.specs.Replica.Proposing.{batch_digest, next_number, proposal, proposal_commits}
use Rattle.bfs_order.specs.Replica.States.{known}
use Rattle.bfs_agreement.proofs.Public.{says_itself}
use Rattle.bfs_node.specs.Proposing.{pending_batch, proposed}
use Rattle.bfs_node.specs.declared.error.NodeError.{NodeError}
use Rattle.bfs_nodes_agree.specs.Nodes.Steps.{unless}
use Rattle.bfs_nodes_agree.proofs.Public.{any_both}
use Rattle.bfs_nodes_progress.specs.Laws.{ProposalsStand}

pub proposals_stand : ProposalsStand
proposals_stand node time none =
    let s = node.order in
    let batch = pending_batch node time in
    let m = proposal node.keys s batch in
    let vs = proposal_commits node.keys s batch in
    let test = says 2 s.me s.view (next_number s) (batch_digest batch) in
    let itself : list_any test (headers (m ∷ [])) ≡ true = or_left (test (header m)) false (says_itself (header m)) in
    let first : list_any test (headers (s.log ++ m ∷ [])) ≡ true = any_both test s.log (m ∷ []) ∙ or_right (list_any test (known s)) (list_any test (headers (m ∷ []))) itself in
    let all : list_any test (headers ((s.log ++ m ∷ []) ++ vs)) ≡ true = any_both test (s.log ++ m ∷ []) vs ∙ or_left (list_any test (headers (s.log ++ m ∷ []))) (list_any test (headers vs)) first in
    subst (λ (r : Option NodeError). Told (known (unless r node (proposed node time)).now.order) 2 s.me s.view (next_number s) (batch_digest batch)) (sym none) all
