-- What is signed of messages that others hold.
use Rattle.std.specs.Prelude.{ℕ, List, ◌++◌}
use Rattle.bfs_model.specs.Bytes.Items.{word}
use Rattle.bfs_messages.specs.Batches.{checkpoint_text, request_text, vote_text}
use Rattle.bfs_messages.specs.Changes.{new_view_text, view_change_text}
use Rattle.bfs_messages.specs.declared.bodies.Body.{Body}
use Rattle.bfs_messages.specs.declared.bodies.Body.TheVariants as body
use Rattle.bfs_votes.specs.Tags.{checkpoint_tag, new_view_tag, pre_prepare_tag, prepare_tag, request_tag, view_change_tag}

-- a tag, and what stands behind it
abbrev pub text_of : Body → List ℕ
text_of (body.Request request) = word request_tag ++ request_text request.now
text_of (body.PrePrepare vote) = word pre_prepare_tag ++ vote_text vote.now
text_of (body.Prepare vote) = word prepare_tag ++ vote_text vote.now
text_of (body.Checkpoint checkpoint) = word checkpoint_tag ++ checkpoint_text checkpoint.now
text_of (body.ViewChange change) = word view_change_tag ++ view_change_text change.now
text_of (body.NewView new) = word new_view_tag ++ new_view_text new.now
