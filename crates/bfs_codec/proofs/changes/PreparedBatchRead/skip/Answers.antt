use Rattle.bfs_model.specs.Bytes.Formats.{list_from}
use Rattle.bfs_model.specs.Server.Limits.{most_replicas}
use Rattle.bfs_votes.specs.Tags.{prepare_tag}
use Rattle.bfs_codec.specs.ChangeReading.{prepared_batch_from, proposal_from}
use Rattle.bfs_codec.specs.Parts.{signed_as_from, vote_from}
use Rattle.bfs_codec.proofs.Passed.{then_passed}
use Rattle.bfs_codec.proofs.changes.PreparedBatchRead.skip.Goals as goal

pub returns : goal.returns
unfolding prepared_batch_from
returns c =
    then_passed (λ p. record { proposal = p.0; prepares = p.1 }) proposal_from (list_from most_replicas (signed_as_from prepare_tag vote_from))
    c.args.reader.now c.skip.new.reader c.skip_list.new.self c.skip_list.result c.in_ok-skip.ensures c.skip_list.ensures
