-- The replies that are put, and those that are left.
use Rattle.std.proofs.Common.{◌≡◌, ◌<◌, ◌≤◌, length}
use Rattle.std.specs.List.{All}
use Rattle.bfs_model.specs.Server.Limits.{most_reply_bytes}
use Rattle.bfs_handover.specs.declared.results.NumberedReply.{NumberedReply}
use Rattle.bfs_parallel.specs.Levels.{all_put}
use Rattle.bfs_parallel.proofs.levels.put_all.Given as goal

abbrev pub invariant-loop-reply : goal.invariant-loop-reply
invariant-loop-reply l = record {
  put : all_put l.reply-iterator.rest.items l.replies ≡ all_put l.fn.carried.items l.fn.replies;
  count : length l.replies ≡ length l.fn.replies;
  there : All (λ (reply : NumberedReply). (reply.number < length l.fn.replies) × (length reply.bytes.items ≤ most_reply_bytes)) l.reply-iterator.rest.items;
}
