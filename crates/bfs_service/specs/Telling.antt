-- What a replica tells: the messages that its node gave to be sent, each to those who are to have it, and notes that are no messages.
use Rattle.std.specs.Prelude.{◌≡◌, ℕ, Bool, true, false, List, All, ◌++◌, map}
use Rattle.bfs_agreement.specs.Histories.{IsIn}
use Rattle.bfs_frames.specs.Parcels.{Told}
use Rattle.bfs_frames.specs.declared.kind.Kind.{Kind}
use Rattle.bfs_frames.specs.declared.kind.Kind.TheVariants as kind
use Rattle.bfs_frames.specs.declared.parcels.To.{To}
use Rattle.bfs_frames.specs.declared.parcels.To.TheVariants as to
use Rattle.bfs_messages.specs.Spelling.{signed_text}
use Rattle.bfs_messages.specs.declared.message.Message.{Message}
use Rattle.bfs_messages.specs.declared.message.Message.TheVariants.{Request, Order, ViewChange, NewView, Reply}
use Rattle.bfs_messages.specs.declared.signed.Signed.{Signed}
use Rattle.bfs_node.specs.Nodes.{Node}
use Rattle.bfs_node.specs.Receivers.{receivers_of}
use Rattle.bfs_node.specs.Resending.{resent}
use Rattle.bfs_node.specs.declared.receivers.Receivers.{Receivers}
use Rattle.bfs_node.specs.declared.receivers.Receivers.TheVariants.{Replicas, Client}
use Rattle.bfs_order.specs.declared.resending.Lag.{Lag}
use Rattle.bfs_service.specs.Acting.{Acting}

abbrev pub kind_of : Message → Kind
kind_of (Request request) = kind.Request
kind_of (Order message) = kind.Order
kind_of (ViewChange change) = kind.ViewChange
kind_of (NewView new) = kind.NewView
kind_of (Reply reply) = kind.Reply

abbrev pub place_of : Receivers → To
place_of Replicas = to.Replicas
place_of (Client number) = to.Client number

-- a message's text
abbrev pub told_to : To → Signed Message → Told
told_to to signed = record { to = to; kind = kind_of signed.message; payload = signed_text signed }

-- to those who are to have it
abbrev pub message_told : Signed Message → Told
message_told signed = told_to (place_of (receivers_of signed.message)) signed

-- to one replica, once more
abbrev pub message_given : (number : ℕ) → Signed Message → Told
message_given number signed = told_to (to.Replica number) signed

-- it is what a node gives again to a replica that is so far
abbrev pub IsGiven : Node → Told → Type 0
IsGiven node t = (number : ℕ) × (lag : Lag) × (m : Signed Message) × IsIn m (resent node lag) × (t ≡ message_given number m)

-- what a node gives again was put behind what was told
pub record HasGiven (node : Node) (before after : List Told) : Type 0 where
  pub given : List Told
  pub each : (t : Told) → IsIn t given → IsGiven node t
  pub told_is : after ≡ before ++ given

-- frames of that kind hold no messages
abbrev pub is_note : Kind → Bool
is_note kind.Status = true
is_note kind.AskState = true
is_note kind.State = true
is_note kind.Report = true
is_note kind.Log = true
is_note _ = false

-- notes were put behind what was told
pub record HasNotes (before after : List Told) : Type 0 where
  pub notes : List Told
  pub none_is_a_message : All (λ t. is_note t.kind ≡ true) notes
  pub told_is : after ≡ before ++ notes

-- the messages that were sent, in their order, then messages that are given again, and then notes
pub record Tells (acting : Acting) (told : List Told) : Type 0 where
  pub given : List Told
  pub notes : List Told
  pub each : (t : Told) → IsIn t given → IsGiven acting.node t
  pub none_is_a_message : All (λ t. is_note t.kind ≡ true) notes
  pub told_is : told ≡ map message_told acting.sent ++ (given ++ notes)
