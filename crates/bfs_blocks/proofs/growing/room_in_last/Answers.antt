use Rattle.std.proofs.Common.{arith}
use Rattle.bfs_blocks.proofs.BlockLemmas.{last_is}
use Rattle.bfs_blocks.proofs.growing.room_in_last.Goals as goal

pub overflow_sub-result : goal.overflow_sub-result
overflow_sub-result c =
    let last = last_is c.args.blocks.now c.in-Some.last.now c.requires c.in-Some.ensures.value in
    omega (arith, last.few, c.len.ensures)

pub returns-in-Some : goal.returns-in-Some
returns-in-Some c =
    let last = last_is c.args.blocks.now c.in-Some.last.now c.requires c.in-Some.ensures.value in
    omega (arith, last.some, last.few, last.total, c.len.ensures)
