use Rattle.std.proofs.Common.{take, flat_map}
use Rattle.std.specs.List.{AllByRecursion}
use Rattle.bfs_xdr.specs.Sinks.{Takes}
use Rattle.bfs_messages.proofs.parts.put_all.Given as goal

abbrev pub invariant-loop-part : goal.invariant-loop-part
invariant-loop-part g l = Takes g.S.Sink.holds l.fn.out l.out (flat_map g.T.Part.text (take l.part-index l.list)) × AllByRecursion g.T.Part.fits (take l.part-index l.list)
