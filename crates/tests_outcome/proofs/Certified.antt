-- A CHECKPOINT that makes a checkpoint stable: what was copied before it came makes it stable.
use Rattle.std.proofs.Common.{◌≡◌, ℕ, Bool, true, List, [], ◌∷◌, ◌++◌, sym, ap, subst, ◌∙◌}
use Rattle.bfs_votes.specs.Votes.{SlotsDiffer, is_stable}
use Rattle.bfs_log.specs.Certificates.{MakesStable, StableCheckpoint}
use Rattle.bfs_log.specs.Headers.{header}
use Rattle.bfs_log.specs.Logs.{Log, headers}
use Rattle.bfs_messages.specs.declared.signed.Signed.{Signed}
use Rattle.bfs_messages.specs.declared.order_messages.OrderMessage.{OrderMessage}
use Rattle.bfs_checkpoints.specs.Certificates.{told_checkpoint}
use Rattle.bfs_checkpoints.proofs.Public.{certificate_of}

pub certified : (f faults number : ℕ) (digest : List ℕ) (signed : Signed OrderMessage) (before messages after : Log) (certificate : StableCheckpoint) (stable : Bool) → faults ≡ f
    → (header signed).number ≡ number → (header signed).digest ≡ digest → messages ≡ before
    → certificate ≡ told_checkpoint (header signed).number (header signed).digest (messages ++ signed ∷ []) → after ≡ before ++ signed ∷ []
    → SlotsDiffer (headers after) → stable ≡ is_stable faults (headers after) number digest → stable ≡ true → MakesStable f certificate
certified f faults number digest signed before messages after certificate stable same_faults number_is digest_is same copied came differ test holds =
    let told : certificate ≡ told_checkpoint number digest after =
    copied
    ∙ ap (λ n. told_checkpoint n (header signed).digest (messages ++ signed ∷ [])) number_is
    ∙ ap (λ d. told_checkpoint number d (messages ++ signed ∷ [])) digest_is
    ∙ ap (λ log. told_checkpoint number digest (log ++ signed ∷ [])) same
    ∙ ap (λ log. told_checkpoint number digest log) (sym came) in
    subst (λ k. MakesStable k certificate) same_faults (subst (λ c. MakesStable faults c) (sym told) (certificate_of faults number digest after differ (sym test ∙ holds)))
