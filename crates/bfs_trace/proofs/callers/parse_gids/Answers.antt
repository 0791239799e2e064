use Rattle.std.proofs.Common.{◌≡◌, ◌<◌, length, Some, arith}
use Rattle.bfs_trace.specs.Callers.{most_gids}
use Rattle.bfs_trace.specs.Operands.{most_number}
use Rattle.bfs_trace.specs.Words.{number_spelled}
use Rattle.bfs_trace.proofs.Cuts.{word_is}
use Rattle.bfs_trace.proofs.Gids.{preserved}
use Rattle.bfs_trace.proofs.callers.parse_gids.Goals as goal

pub loop-word-preserved : goal.loop-word-preserved
loop-word-preserved c =
    let number : number_spelled most_number c.in-Some.word.now ≡ Some c.in_ok-gid.gid = grind (arith, c.parse_number.ensures.value, c.in_ok-gid.is) in
    let room : length c.loop-word.gids < most_gids = grind (arith, c.as_slice.ensures.value, c.as_slice.ensures.within, c.if-as_slice-eq-MOST_GIDS.false) in
    preserved _ c.loop-word.words c.next_word.new.self c.loop-word.gids c.push.new.self c.in-Some.word.now c.in_ok-gid.gid c.loop-word.invariant.0 (word_is c.loop-word.words c.in-Some.ensures.word) number c.push.ensures room
