use Rattle.std.proofs.Common.{◌≡◌, take}
use Rattle.std.specs.BTreeMap.{get}
use Rattle.bfs_messages.specs.Messages.{Request}
use Rattle.bfs_messages.specs.declared.signed.Signed.{Signed}
use Rattle.bfs_pending.specs.Indexes.{left_of}
use Rattle.bfs_pending.specs.Names.{name_cmp, name_of}
use Rattle.bfs_pending.proofs.waiting.forget.Given as goal

abbrev pub invariant-loop-signed : goal.invariant-loop-signed
invariant-loop-signed l = (one : Signed Request) → get name_cmp l.last (name_of one) ≡ left_of (take l.signed-index l.requests) one (get name_cmp l.fn.last (name_of one))
