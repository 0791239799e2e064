-- To whom a message goes (OSDI 1999 section 4.1).
use Rattle.bfs_messages.specs.declared.message.Message.{Message}
use Rattle.bfs_messages.specs.declared.message.Message.TheVariants.{Reply}
use Rattle.bfs_node.specs.declared.receivers.Receivers.{Receivers}
use Rattle.bfs_node.specs.declared.receivers.Receivers.TheVariants.{Replicas, Client}

abbrev pub receivers_of : Message → Receivers
receivers_of (Reply reply) = Client reply.client
receivers_of _ = Replicas
