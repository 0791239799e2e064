-- Whose messages can stand in a log.
use Rattle.std.specs.Prelude.{Bool, nat_lt}
use Rattle.std.specs.List.{list_all}
use Rattle.bfs_messages.specs.declared.signed.Signed.{Signed}
use Rattle.bfs_messages.specs.declared.order_messages.OrderMessage.{OrderMessage}
use Rattle.bfs_log.specs.Headers.{header}
use Rattle.bfs_log.specs.Logs.{Log}
use Rattle.bfs_model.specs.Server.Limits.{most_replicas}

-- the sender can be a replica
abbrev pub is_from_few : Signed OrderMessage → Bool
is_from_few m = nat_lt (header m).sender most_replicas

abbrev pub are_from_few : Log → Bool
are_from_few messages = list_all is_from_few messages
