-- VIEW-CHANGEs and NEW-VIEWs are read just where they were written.
use Rattle.std.proofs.Common.{refl, arith}
use Rattle.bfs_model.specs.Server.Limits.{log_size, most_replicas}
use Rattle.bfs_model.proofs.Public.{IsExact, as_exact, list_exact, then_exact, with_exact, word_exact}
use Rattle.bfs_messages.specs.Changes.{behind_proposal_text, prepared_batch_text, new_view_text, proposal_text, view_change_text}
use Rattle.bfs_messages.specs.Limits.{FitsPreparedBatch, FitsNewView, FitsPrePrepare, FitsSigned, FitsViewChange}
use Rattle.bfs_codec.specs.ChangeReading.{behind_proposal_from, prepared_batch_from, new_view_from, proposal_from, view_change_from}
use Rattle.bfs_codec.proofs.AuthExact.{auth_exact}
use Rattle.bfs_codec.proofs.PartsExact.{checkpoint_exact, number_exact, signed_as_exact, tagged_as_exact, vote_exact}
use Rattle.bfs_codec.proofs.BatchesExact.{IsBatchOf, batch_of_exact}

pub behind_proposal_exact : IsExact behind_proposal_text (FitsSigned FitsPrePrepare) behind_proposal_from
unfolding behind_proposal_from
behind_proposal_exact =
    as_exact _ (with_exact {Fb = λ p. IsBatchOf p.0.digest} (then_exact vote_exact auth_exact) (λ p h. batch_of_exact p.0.digest))
    (λ p h. (refl, (record { vote = h.0.0; batch = h.1.0; digest = h.1.1 }, h.0.1)))
    (λ s h. (((s.message.vote, s.auth), s.message.batch), refl, ((h.0.vote, h.1), (h.0.batch, h.0.digest))))

proposal_exact : IsExact proposal_text (FitsSigned FitsPrePrepare) proposal_from
proposal_exact = tagged_as_exact 2 (omega arith) refl behind_proposal_exact

prepared_batch_exact : IsExact prepared_batch_text FitsPreparedBatch prepared_batch_from
unfolding prepared_batch_from
prepared_batch_exact =
    as_exact _ (then_exact proposal_exact (list_exact most_replicas (omega arith) (signed_as_exact 3 (omega arith) refl vote_exact)))
    (λ p h. (refl, record { proposal = h.0; prepares = h.1 }))
    (λ c h. ((c.proposal, c.prepares), refl, (h.proposal, h.prepares)))

pub view_change_exact : IsExact view_change_text FitsViewChange view_change_from
unfolding view_change_from view_change_text
view_change_exact =
    as_exact _
    (then_exact (then_exact (then_exact (then_exact word_exact number_exact) number_exact) (list_exact most_replicas (omega arith) (signed_as_exact 5 (omega arith) refl checkpoint_exact))) (list_exact log_size (omega arith) prepared_batch_exact))
    (λ p h. (refl, record { sender = h.0.0.0.0; view = h.0.0.0.1; stable = h.0.0.1; checkpoints = h.0.1; certificates = h.1 }))
    (λ v h. (((((v.sender, v.view), v.stable), v.checkpoints), v.certificates), refl, ((((h.sender, h.view), h.stable), h.checkpoints), h.certificates)))

pub new_view_exact : IsExact new_view_text FitsNewView new_view_from
unfolding new_view_from new_view_text
new_view_exact =
    as_exact _
    (then_exact (then_exact (then_exact word_exact number_exact) (list_exact most_replicas (omega arith) (signed_as_exact 6 (omega arith) refl view_change_exact))) (list_exact log_size (omega arith) proposal_exact))
    (λ p h. (refl, record { sender = h.0.0.0; view = h.0.0.1; changes = h.0.1; proposals = h.1 }))
    (λ n h. ((((n.sender, n.view), n.changes), n.proposals), refl, (((h.sender, h.view), h.changes), h.proposals)))
