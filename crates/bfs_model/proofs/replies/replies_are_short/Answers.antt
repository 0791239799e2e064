use Rattle.bfs_model.proofs.ReplyLengths.{short_replies}
use Rattle.bfs_model.proofs.replies.replies_are_short.Goals as goal

pub returns : goal.returns
returns c = short_replies
