-- How VIEW-CHANGEs and NEW-VIEWs are read.
use Rattle.std.specs.Prelude.{ℕ, List}
use Rattle.bfs_model.specs.Bytes.Formats.{Reading, word_from, as_from, with_from, then_from, list_from}
use Rattle.bfs_model.specs.Server.Limits.{log_size, most_replicas}
use Rattle.bfs_messages.specs.Messages.{PrePrepare, PreparedBatch, ViewChange, NewView}
use Rattle.bfs_codec.specs.Parts.{auth_from, batch_of_from, checkpoint_from, number_from, signed_as_from, tagged_from, vote_from}
use Rattle.bfs_messages.specs.declared.signed.Signed.{Signed}
use Rattle.bfs_votes.specs.Tags.{checkpoint_tag, pre_prepare_tag, prepare_tag, view_change_tag}

unfoldable pub behind_proposal_from : List ℕ → Reading (Signed PrePrepare)
behind_proposal_from bytes =
    as_from (λ p. record { message = record { vote = p.0.0; batch = p.1 }; auth = p.0.1 })
    (with_from (then_from vote_from auth_from) (λ p. batch_of_from p.0.digest)) bytes

abbrev pub proposal_from : List ℕ → Reading (Signed PrePrepare)
proposal_from bytes = tagged_from pre_prepare_tag behind_proposal_from bytes

unfoldable pub prepared_batch_from : List ℕ → Reading PreparedBatch
prepared_batch_from bytes = as_from (λ p. record { proposal = p.0; prepares = p.1 }) (then_from proposal_from (list_from most_replicas (signed_as_from prepare_tag vote_from))) bytes

unfoldable pub view_change_from : List ℕ → Reading ViewChange
view_change_from bytes =
    as_from (λ p. record { sender = p.0.0.0.0; view = p.0.0.0.1; stable = p.0.0.1; checkpoints = p.0.1; certificates = p.1 })
    (then_from (then_from (then_from (then_from word_from number_from) number_from) (list_from most_replicas (signed_as_from checkpoint_tag checkpoint_from))) (list_from log_size prepared_batch_from)) bytes

unfoldable pub new_view_from : List ℕ → Reading NewView
new_view_from bytes =
    as_from (λ p. record { sender = p.0.0.0; view = p.0.0.1; changes = p.0.1; proposals = p.1 })
    (then_from (then_from (then_from word_from number_from) (list_from most_replicas (signed_as_from view_change_tag view_change_from))) (list_from log_size proposal_from)) bytes
