use Rattle.std.proofs.Common.{◌+◌, ◌-◌, arith}
use Rattle.bfs_model.proofs.Public.{turn, turn_none, turns_done}
use Rattle.bfs_replies.specs.Parsing.{last_seen}
use Rattle.bfs_replies.specs.TextReading.{last_from}
use Rattle.bfs_replies.proofs.reading.read_lasts.Goals as goal

pub unreachable-requires : goal.unreachable-requires
unreachable-requires c =
    let none = turn_none last_from (c.args.count - c.loop-last._last) (c.args.count - (c.loop-last._last + 1)) c.loop-last.reader.left c.loop-last.lasts.items _ (omega arith) c.in_default.ensures.read c.loop-last.invariant.1 in
    let impossible = rw none at c.requires.spelled in
    absurd cc

pub loop-last-preserved : goal.loop-last-preserved
loop-last-preserved c =
    let read = c.in-Ok.ensures.read in (
      read.1,
      rw (c.in_ok-push.ensures.items, c.in_ok-kept.ensures) (turn last_from (c.args.count - c.loop-last._last) (c.args.count - (c.loop-last._last + 1)) c.loop-last.reader.left c.loop-last.lasts.items (last_seen c.in-Ok.last) c.read_last.new.reader.left _ (omega arith) read.0 c.loop-last.invariant.1),
    )

pub returns : goal.returns
returns c = turns_done last_from (c.args.count - c.loop-last._last) 0 c.loop-last.reader.left c.loop-last.lasts.items _ (omega arith) c.loop-last.invariant.1
