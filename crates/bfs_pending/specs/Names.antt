-- How requests are found: by client and timestamp.
use Rattle.std.specs.declared.cmp.Ordering.{Ordering}
use Rattle.bfs_messages.specs.Messages.{Request}
use Rattle.bfs_messages.specs.declared.signed.Signed.{Signed}
use Rattle.bfs_pending.specs.declared.names.Name.{Name}
use Rattle.bfs_pending.specs.contracts.names.NameOrd.TheImpl as name_ord

abbrev pub name_cmp : Name → Name → Ordering
name_cmp = (name_ord.ghosts).cmp

abbrev pub name_of : Signed Request → Name
name_of one = record { client = one.message.client; timestamp = one.message.timestamp }
