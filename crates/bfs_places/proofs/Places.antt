-- What messages of replicas are of, by their kinds: that is what is read of their texts, where their numbers fit.
use Rattle.std.specs.Prelude.{Option, Some, None}
use Rattle.bfs_auth.specs.declared.places.Place.{Place}
use Rattle.bfs_auth.specs.declared.places.Place.TheVariants.{Checkpoint, NewView, ViewChange, Vote}
use Rattle.bfs_messages.specs.declared.message.Message.{Message}
use Rattle.bfs_messages.specs.declared.message.Message.TheVariants as message
use Rattle.bfs_messages.specs.declared.order_messages.OrderMessage.{OrderMessage}
use Rattle.bfs_messages.specs.declared.order_messages.OrderMessage.TheVariants as order

abbrev pub order_place : OrderMessage → Option Place
order_place (order.PrePrepare proposal) = Some (Vote proposal.vote.view proposal.vote.number)
order_place (order.Prepare vote) = Some (Vote vote.view vote.number)
order_place (order.Commit vote) = None
order_place (order.Checkpoint checkpoint) = Some (Checkpoint checkpoint.number)

-- others are of no place
abbrev pub place_of : Message → Option Place
place_of (message.Order message) = order_place message
place_of (message.ViewChange change) = Some (ViewChange change.view)
place_of (message.NewView new) = Some (NewView new.view)
place_of (message.Request request) = None
place_of (message.Reply reply) = None
