-- The requests of a block come to the replicas.
use Rattle.std.specs.Prelude.{◌≢◌, [], length, ◌⊎◌, Option, Some}
use Rattle.std.specs.List.{fold, range_with_len}
use Rattle.bfs_model.specs.Bytes.Call.{◌>>=◌}
use Rattle.bfs_model.specs.Server.Tree.{Time}
use Rattle.bfs_messages.specs.declared.message.Message.{Message}
use Rattle.bfs_messages.specs.declared.signed.Signed.{Signed}
use Rattle.bfs_node.specs.Advancing.{unless_refused}
use Rattle.bfs_node.specs.Nodes.{Messages, Node, Outcome}
use Rattle.bfs_node.specs.Proposing.{proposal_refusal, proposed}
use Rattle.bfs_cluster.specs.Steps.{delivery}
use Rattle.bfs_cluster.specs.World.{SomeActs, SomeHeard, World, done_if, node_at}

-- each replica that is heard does that, by rising number
abbrev pub each_does : (act : Node → Option Outcome) → World → World
each_does act world = fold (λ so_far number. done_if number so_far (node_at so_far number >>= act)) world (range_with_len 0 (length world.replicas))

-- a client's request comes to each
abbrev pub requested : World → Signed Message → World
requested world signed = each_does (delivery signed) world

-- a replica proposes, unless it is refused: one that is not the primary is
abbrev pub proposal : Time → Node → Option Outcome
proposal time node = unless_refused (proposal_refusal node) (Some (proposed node time))

-- requests, already signed by their clients, come to each replica, one after another; then each proposes at that time
abbrev pub with_block : World → Time → Messages → World
with_block world time requests = each_does (proposal time) (fold requested world requests)

-- a request comes to some replica that is heard
abbrev pub HasRequests : World → Messages → Type 0
HasRequests world requests = (requests ≢ []) × SomeHeard world

-- or one that is heard proposes then
abbrev pub HasBlockWork : World → Time → Messages → Type 0
HasBlockWork world time requests = HasRequests world requests ⊎ SomeActs (proposal time) (fold requested world requests)
