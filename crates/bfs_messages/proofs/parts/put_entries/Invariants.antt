use Rattle.std.proofs.Common.{take, flat_map}
use Rattle.bfs_model.specs.Bytes.Items.{fixed}
use Rattle.bfs_xdr.specs.Sinks.{Takes}
use Rattle.bfs_messages.proofs.parts.put_entries.Given as goal

abbrev pub invariant-loop-entry : goal.invariant-loop-entry
invariant-loop-entry g l = Takes g.S.Sink.holds l.fn.out l.out (flat_map fixed (take l.entry-index l.entries))
