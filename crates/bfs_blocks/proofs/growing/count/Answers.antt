use Rattle.std.proofs.Common.{arith}
use Rattle.bfs_blocks.proofs.BlockLemmas.{last_is}
use Rattle.bfs_blocks.proofs.growing.count.Goals as goal

pub overflow_mul-result : goal.overflow_mul-result
overflow_mul-result c =
    let last = last_is c.args.blocks.now c.in-Some.last.now c.requires.filled c.in-Some.ensures.value in
    omega (arith, last.total, c.requires.few)

pub overflow_add-result : goal.overflow_add-result
overflow_add-result c =
    let last = last_is c.args.blocks.now c.in-Some.last.now c.requires.filled c.in-Some.ensures.value in
    omega (arith, last.total, c.requires.few, c.len.ensures)

pub returns-in-Some : goal.returns-in-Some
returns-in-Some c =
    let last = last_is c.args.blocks.now c.in-Some.last.now c.requires.filled c.in-Some.ensures.value in
    omega (arith, last.total, c.len.ensures)
