use Rattle.std.proofs.Common.{◌≡◌, take}
use Rattle.bfs_trace.specs.Callers.{first_callers}
use Rattle.bfs_trace.proofs.callers.Callers.new.Given as goal

-- those of the clients so far
abbrev pub invariant-loop-client : goal.invariant-loop-client
invariant-loop-client l = take l.client l.creds ≡ first_callers l.client
