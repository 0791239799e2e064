-- Nothing stands at the level that is put behind.
use Rattle.std.proofs.Common.{◌≡◌, ◌+◌, length, ap, ◌∙◌, arith}
use Rattle.std.proofs.lemmas.List.{length_push}
use Rattle.bfs_parallel.specs.Levels.{bucket_at}
use Rattle.bfs_parallel.proofs.Places.{nothing_behind}
use Rattle.bfs_parallel.proofs.levels.grow.Goals as goal

pub loop-alloc-preserved : goal.loop-alloc-preserved
loop-alloc-preserved c =
    let was = c.loop-alloc.levels.items in
    let shorter = c.loop-alloc.invariant.no_shorter in
    let more : length c.push.new.self.items ≡ length was + 1 = ap length c.in_ok-push.ensures.items ∙ length_push was c.new.result in
    record {
      no_shorter = omega arith;
      same = λ other. ap (λ levels. bucket_at levels other) c.in_ok-push.ensures.items ∙ nothing_behind was c.new.result c.new.ensures.items other ∙ c.loop-alloc.invariant.same other;
    }
