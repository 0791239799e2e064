use Rattle.std.proofs.Common.{take}
use Rattle.bfs_service.specs.Journals.{Journals}
use Rattle.bfs_service.specs.Turns.{Hears}
use Rattle.bfs_service.proofs.acting.Actor.deliver_all.Given as goal

abbrev pub invariant-loop-frame : goal.invariant-loop-frame
invariant-loop-frame g l = record {
  hears : Hears l.time (take l.frame-index l.frames) l.fn.self.acting l.self.acting;
  journals : Journals l.fn.self l.self;
}
