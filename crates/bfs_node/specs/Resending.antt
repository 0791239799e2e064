-- What a replica has said is given again to another one that tells how far it is.
use Rattle.std.specs.Prelude.{[], ◌++◌, map, nat_lt, option_to_list, if◌then◌else◌}
use Rattle.bfs_log.specs.Logs.{as_messages}
use Rattle.bfs_messages.specs.Signing.{as_message}
use Rattle.bfs_messages.specs.declared.message.Message.TheVariants.{NewView, ViewChange}
use Rattle.bfs_node.specs.Nodes.{Messages, Node}
use Rattle.bfs_order.specs.Replica.Resending as order
use Rattle.bfs_order.specs.declared.resending.Lag.{Lag}

-- while it is leaving: its VIEW-CHANGE
abbrev pub change_resent : Node → Messages
change_resent node = if nat_lt node.order.view node.order.asked then map (as_message ViewChange) (option_to_list node.changes.own) else []

-- to one that is in an earlier view: the NEW-VIEW by which it has entered its own, whoever made it
abbrev pub new_view_resent : Node → Lag → Messages
new_view_resent node to = if nat_lt to.view node.order.view then map (as_message NewView) (option_to_list node.new_view) else []

-- and then what it has said of the order
abbrev pub resent : Node → Lag → Messages
resent node to = change_resent node ++ (new_view_resent node to ++ as_messages (order.resent node.order to))
