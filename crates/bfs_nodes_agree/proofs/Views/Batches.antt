-- What is chosen from VIEW-CHANGEs stands in their certificates, or is the null request.
use Rattle.std.proofs.Common.{ℕ, ◌+◌, ◌-◌, ◌==◌, List, [], ◌∷◌, Option, Some, None, inl, inr, refl}
use Rattle.std.specs.Prelude.{fold}
use Rattle.std.specs.List.{filter, range_with_len}
use Rattle.std.specs.Ordering.{is_lt}
use Rattle.std.proofs.lemmas.Bool.{cond_both}
use Rattle.bfs_messages.specs.Messages as model
use Rattle.bfs_messages.specs.Messages.{Batch, PreparedBatch}
use Rattle.bfs_log.specs.Certificates.{number_in}
use Rattle.bfs_nodes_agree.proofs.Orders.Lists.{AllIn, both_in, filter_in, none_in}
use Rattle.bfs_nodes_agree.proofs.Views.Lists.{map_in}
use Rattle.bfs_view_change.specs.Changes.Choice.{Candidate, Chosen, batch_of, best, better, candidate, candidates, candidates_in, choice, chosen_for, last_number, latest_stable, rank}

-- it holds of each batch of its certificates
abbrev pub AreSo : (Batch → Type 0) → model.ViewChange → Type 0
AreSo P change = AllIn (λ (c : PreparedBatch). P c.proposal.message.batch) change.certificates

module _ (P : Batch → Type 0) (null : P None) where
  abbrev IsSo : Candidate → Type 0
  IsSo c = P c.batch

  abbrev IsSoIfAny : Option Candidate → Type 0
  IsSoIfAny None = Unit {0}
  IsSoIfAny (Some c) = P c.batch

  candidates_so : (n : ℕ) (changes : List model.ViewChange) → AllIn (AreSo P) changes → AllIn IsSo (candidates n changes)
  candidates_so n [] all = none_in IsSo
  candidates_so n (change ∷ changes) all =
      both_in IsSo (candidates_in n change) (candidates n changes)
      (map_in IsSo (candidate change.sender) (filter (λ c. number_in c == n) change.certificates)
      (filter_in (λ (c : PreparedBatch). P c.proposal.message.batch) (λ c. number_in c == n) change.certificates (all change (inl refl))))
      (candidates_so n changes (λ x i. all x (inr i)))

  best_so : (found : List Candidate) (o : Option Candidate) → IsSoIfAny o → AllIn IsSo found → IsSoIfAny (fold better o found)
  best_so [] o so all = so
  best_so (c ∷ found) None so all = best_so found (Some c) (all c (inl refl)) (λ x i. all x (inr i))
  best_so (c ∷ found) (Some b) so all = best_so found (better (Some b) c) (cond_both (is_lt (rank c b)) c b IsSo (λ _. all c (inl refl)) (λ _. so)) (λ x i. all x (inr i))

  batch_so : (o : Option Candidate) → IsSoIfAny o → P (batch_of o)
  batch_so None so = null
  batch_so (Some c) so = so

  pub chosen_so : (changes : List model.ViewChange) → AllIn (AreSo P) changes → AllIn (λ (c : Chosen). P c.batch) (choice changes).chosen
  chosen_so changes all =
      map_in (λ (c : Chosen). P c.batch) (chosen_for changes) (range_with_len (latest_stable changes + 1) (last_number changes - latest_stable changes))
      (λ n i. batch_so (best (candidates n changes)) (best_so (candidates n changes) None tt (candidates_so n changes all)))
