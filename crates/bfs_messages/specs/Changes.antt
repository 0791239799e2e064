-- The texts of VIEW-CHANGEs and NEW-VIEWs.
use Rattle.std.specs.Prelude.{ℕ, List, ◌++◌}
use Rattle.bfs_model.specs.Bytes.Items.{word, hyper}
use Rattle.bfs_model.specs.Bytes.Formats.{list_text}
use Rattle.bfs_messages.specs.Messages.{PrePrepare, PreparedBatch, ViewChange, NewView}
use Rattle.bfs_messages.specs.Batches.{signed_as, auth_text, vote_text, checkpoint_text, batch_text}
use Rattle.bfs_messages.specs.declared.signed.Signed.{Signed}
use Rattle.bfs_votes.specs.Tags.{checkpoint_tag, pre_prepare_tag, prepare_tag, view_change_tag}

-- a PRE-PREPARE's batch follows its authenticator, which is of the batch's digest
abbrev pub behind_proposal_text : Signed PrePrepare → List ℕ
behind_proposal_text signed = vote_text signed.message.vote ++ auth_text signed.auth ++ batch_text signed.message.batch

abbrev pub proposal_text : Signed PrePrepare → List ℕ
proposal_text signed = word pre_prepare_tag ++ behind_proposal_text signed

abbrev pub prepared_batch_text : PreparedBatch → List ℕ
prepared_batch_text certificate = proposal_text certificate.proposal ++ list_text (signed_as prepare_tag vote_text) certificate.prepares

unfoldable pub view_change_text : ViewChange → List ℕ
view_change_text change =
    word change.sender ++ hyper change.view ++ hyper change.stable ++ list_text (signed_as checkpoint_tag checkpoint_text) change.checkpoints ++ list_text prepared_batch_text change.certificates

unfoldable pub new_view_text : NewView → List ℕ
new_view_text new = word new.sender ++ hyper new.view ++ list_text (signed_as view_change_tag view_change_text) new.changes ++ list_text proposal_text new.proposals
