use Rattle.std.proofs.Common.{sym, ◌∙◌, arith}
use Rattle.bfs_frames.proofs.Reading.{frame_given, frame_read_over}
use Rattle.bfs_frames.proofs.turns.read_frame.Goals as goal

pub returns-in_ok-payload-in-Some-clause-frame : goal.returns-in_ok-payload-in-Some-clause-frame
returns-in_ok-payload-in-Some-clause-frame g c =
    frame_given c.args.limits.now _ _ _ _ c.in_ok-number.number c.in_ok-len.len _ (omega arith) (omega arith) (sym c.kind_within.ensures
    ∙ c.in-Some.is) c.in_ok-payload-in-Some.ensures.len
    c.in_ok-number.ensures.byte c.in_ok-len.ensures.word c.in_ok-payload-in-Some.ensures.bytes

pub returns-in_ok-skip_bytes-in-None-clause-frame : goal.returns-in_ok-skip_bytes-in-None-clause-frame
returns-in_ok-skip_bytes-in-None-clause-frame g c =
    frame_read_over c.args.limits.now _ _ _ _ c.in_ok-number.number c.in_ok-len.len (omega arith) (omega arith) (sym c.kind_within.ensures ∙ c.in-None.is)
    c.in_ok-number.ensures.byte c.in_ok-len.ensures.word c.in_ok-skip_bytes-in-None.ensures.over
