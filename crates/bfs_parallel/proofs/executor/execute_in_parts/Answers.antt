-- At least one request is executed, and behind it less is left.
use Rattle.std.proofs.Common.{◌+◌, take, drop, ◌++◌, ap, ◌∙◌, arith}
use Rattle.std.proofs.lemmas.List.{append_assoc, length-append}
use Rattle.bfs_model.specs.Server.Serial.{ordinal_after, inodes_after, replies_to}
use Rattle.bfs_levels.specs.Parts.{requests_in}
use Rattle.bfs_tree.specs.Tree.{at_home}
use Rattle.bfs_parallel.specs.Ran.{AllRan}
use Rattle.bfs_parallel.proofs.Progress.{few_left, inodes_left, length-replies_to, replies_left, formed_left, ran_further}
use Rattle.bfs_parallel.proofs.executor.execute_in_parts.Goals as goal

pub loop-left-preserved : goal.loop-left-preserved
loop-left-preserved g c =
    let part = c.args.part.now in
    let left = c.loop-left.left in
    let requests = left.batch.now.requests in
    let done = left.first in
    let m = at_home c.loop-left.tree in
    let o = left.ordinal in
    let t = left.time in
    let n = c.in_ok-count.count in
    let rest = drop done requests in
    let executed = c.in_ok-count.ensures in
    rw (c.after-left.ensures, executed.inodes, executed.replies) record {
      whole = executed.whole;
      formed = formed_left m o t requests done n c.loop-left.invariant.formed executed.within;
      placed = length-append c.loop-left.replies (replies_to m o t (take n rest)) ∙ (let long = length-replies_to m o t (take n rest) in let few = few_left n done requests executed.within in let placed = c.loop-left.invariant.placed in omega arith);
      inodes = inodes_left m o t requests done n c.loop-left.invariant.formed executed.within ∙ c.loop-left.invariant.inodes;
      replies = append_assoc c.loop-left.replies (replies_to m o t (take n rest)) (replies_to (inodes_after m o t (take n rest)) (ordinal_after o n) t (drop (done + n) requests))
          ∙ ap (λ xs. c.loop-left.replies ++ xs) (replies_left m o t requests done n c.loop-left.invariant.formed executed.within) ∙ c.loop-left.invariant.replies;
      ran = ran_further g.G.Gate.ran (AllRan g.G.Gate.ran part.first (requests_in part)) m o t requests done n c.loop-left.replies executed.within executed.gated c.loop-left.invariant.ran;
    }
