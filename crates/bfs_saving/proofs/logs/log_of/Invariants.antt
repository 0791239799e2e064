use Rattle.std.proofs.Common.{◌≡◌, ◌++◌}
use Rattle.bfs_saving.proofs.logs.log_of.Given as goal

abbrev pub invariant-loop-signed : goal.invariant-loop-signed
invariant-loop-signed l = record {
  so_far : l.log ≡ l.yielded;
  left : l.fn.messages.items ≡ l.yielded ++ l.signed-iterator.rest.items;
}
