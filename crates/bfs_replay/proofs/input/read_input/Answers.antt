-- Fewer bytes were read than were asked for, so these are all.
use Rattle.std.proofs.Common.{arith, rules, ◌+◌, ◌≤◌, ◌≡◌, length}
use Rattle.bfs_replay.specs.declared.input.TheConstants.{MOST_TRACE_BYTES}
use Rattle.bfs_replay.proofs.Takes.{all_taken}
use Rattle.bfs_replay.proofs.input.read_input.Goals as goal

pub returns-clause-all : goal.returns-clause-all
returns-clause-all g c =
    let limit : c.take-limited.result.limit ≡ MOST_TRACE_BYTES + 1 = c.take-limited.ensures.limit in
    let few : length c.read_to_end.new.buf.items ≤ MOST_TRACE_BYTES = search rules in
    rw (← c.take-limited.ensures.inner)
    (all_taken (g.R.Read.remaining c.take-limited.result.inner) c.take-limited.result.limit c.read_to_end.new.buf.items c.new-bytes.result.items
    c.in_default.ensures.bytes c.new-bytes.ensures.items (omega (arith, few, limit)))
