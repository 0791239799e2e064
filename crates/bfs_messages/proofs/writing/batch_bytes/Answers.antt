use Rattle.std.proofs.Common.{[]}
use Rattle.bfs_messages.proofs.writing.batch_bytes.Goals as goal

pub returns : goal.returns
returns c = c.in_ok-put_batch.ensures.text [] c.new-bytes.ensures.items
