-- One reply more is at its place.
use Rattle.std.proofs.Common.{◌<◌, ◌≤◌, length, ap, sym, subst, ◌∙◌}
use Rattle.std.specs.List.{All}
use Rattle.std.proofs.lemmas.List.{length-set}
use Rattle.std.proofs.lemmas.List.Elements.{All-tail}
use Rattle.bfs_model.specs.Server.Limits.{most_reply_bytes}
use Rattle.bfs_handover.specs.declared.results.NumberedReply.{NumberedReply}
use Rattle.bfs_parallel.specs.Levels.{all_put}
use Rattle.bfs_parallel.proofs.levels.put_all.Goals as goal

pub loop-reply-preserved : goal.loop-reply-preserved
loop-reply-preserved c =
    let reply = c.in-Some.reply in
    let rest = c.next.new.self.rest.items in
    let replies = c.loop-reply.replies in
    let there = λ (other : NumberedReply). (other.number < length c.args.replies.now) × (length other.bytes.items ≤ most_reply_bytes) in
    rw c.put.ensures record {
      put = ap (λ left. all_put left replies) (sym c.in-Some.ensures.steps.0) ∙ c.loop-reply.invariant.put;
      count = length-set replies reply.number reply.bytes.items ∙ c.loop-reply.invariant.count;
      there = All-tail there reply rest (subst (All there) c.in-Some.ensures.steps.0 c.loop-reply.invariant.there);
    }
