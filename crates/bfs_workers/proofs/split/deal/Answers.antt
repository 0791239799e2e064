-- The job is in the list whose turn it was, and the turn goes round.
use Rattle.std.proofs.Common.{◌∙◌, ◌<◌, length, arith}
use Rattle.std.proofs.lemmas.List.{length-set}
use Rattle.bfs_workers.proofs.Dealing.{dealt}
use Rattle.bfs_workers.proofs.split.deal.Goals as goal

pub loop-job-preserved-then-turn-count : goal.loop-job-preserved-then-turn-count
loop-job-preserved-then-turn-count c =
    let lists = c.loop-job.lists.items in
    let turn = c.loop-job.invariant.turn in
    let count = c.loop-job.invariant.count in
    let within : c.loop-job.turn < length lists = omega arith in
    record {
      turn = omega arith;
      count = length-set lists c.loop-job.turn c.push.new.self ∙ count;
      dealt = dealt c.loop-job.yielded lists c.loop-job.turn c.index_mut.result.now c.push.new.self c.in-Some.job c.loop-job.invariant.dealt within c.index_mut.ensures.value c.in_ok-push.ensures.items;
    }

pub loop-job-preserved : goal.loop-job-preserved
loop-job-preserved c =
    let lists = c.loop-job.lists.items in
    let turn = c.loop-job.invariant.turn in
    let count = c.loop-job.invariant.count in
    let not_all = c.if-turn-count.false in
    let within : c.loop-job.turn < length lists = omega arith in
    record {
      turn = omega arith;
      count = length-set lists c.loop-job.turn c.push.new.self ∙ count;
      dealt = dealt c.loop-job.yielded lists c.loop-job.turn c.index_mut.result.now c.push.new.self c.in-Some.job c.loop-job.invariant.dealt within c.index_mut.ensures.value c.in_ok-push.ensures.items;
    }
