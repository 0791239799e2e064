-- What is asked of the network, of authenticators and of digests.
use Rattle.std.specs.Prelude.{◌≡◌, ℕ, Bool, true, false, List, [], ◌∷◌, length, Some, None, ◌⊎◌}
use Rattle.bfs_votes.specs.Votes.{replicas}
use Rattle.bfs_auth.specs.Keys.{Keys}
use Rattle.bfs_auth.specs.declared.principals.Principal.TheVariants as principal
use Rattle.bfs_model.specs.Server.Stored.{AreBytes}
use Rattle.bfs_checkpoints.specs.Texts.{node_digest}
use Rattle.bfs_log.specs.Certificates.{as_checkpoints, checkpoints_in, messages_in}
use Rattle.bfs_log.specs.Logs.{Log, as_messages}
use Rattle.bfs_messages.specs.Fits.{FitsMessage}
use Rattle.bfs_messages.specs.Messages as model
use Rattle.bfs_codec.specs.Reading.{message_of}
use Rattle.bfs_messages.specs.Signing.{as_message, sender_of, is_signed}
use Rattle.bfs_messages.specs.declared.signed.Signed.{Signed}
use Rattle.bfs_messages.specs.declared.message.Message.{Message}
use Rattle.bfs_messages.specs.declared.message.Message.TheVariants.{Order, ViewChange, NewView}
use Rattle.bfs_messages.specs.declared.order_messages.OrderMessage.{OrderMessage}
use Rattle.bfs_messages.specs.declared.order_messages.OrderMessage.TheVariants.{PrePrepare}
use Rattle.bfs_agreement.specs.Histories.{IsIn}
use Rattle.bfs_order.specs.Replica.Views.{as_proposals}
use Rattle.bfs_node.specs.Nodes.{Messages}
use Rattle.bfs_nodes_agree.specs.Nodes.Replicas.{Keyring, NodeReplicas, Standing, NodeTurn, after_node_turn}
use Rattle.bfs_nodes_agree.specs.Nodes.Steps.{NodeStep, Delivers, Takes, Adopts, Settles}

-- Keys ------------------------------------------------------------------------------------------------------------------------

-- each replica shares keys with 3f + 1
abbrev pub AreShared : (f : ℕ) → Keyring → Type 0
AreShared f keys = (k : ℕ) → length (keys k).replicas ≡ replicas f

-- Messages within messages ----------------------------------------------------------------------------------------------------

-- one of these messages of the order
abbrev pub IsAmong : Signed Message → Log → Type 0
IsAmong p messages = IsIn p (as_messages messages)

-- a message of a VIEW-CHANGE's certificates: a CHECKPOINT of its stable number, or one by which a batch was prepared
abbrev pub IsProofIn : Signed Message → model.ViewChange → Type 0
IsProofIn p change = IsAmong p (as_checkpoints change.checkpoints) ⊎ ((c : model.PreparedBatch) × IsIn c change.certificates × IsAmong p (messages_in c))

-- the VIEW-CHANGE, or a message of its certificates
abbrev pub IsOfChange : Signed Message → Signed model.ViewChange → Type 0
IsOfChange p s = (p ≡ as_message ViewChange s) ⊎ IsProofIn p s.message

-- within a NEW-VIEW are its PRE-PREPAREs, and its VIEW-CHANGEs with what is within them
abbrev pub IsWithin : Signed Message → Message → Type 0
IsWithin p (ViewChange change) = IsProofIn p change
IsWithin p (NewView new) = IsAmong p (as_proposals new.proposals) ⊎ ((s : Signed model.ViewChange) × IsIn s new.changes × IsOfChange p s)
IsWithin p _ = ⊥

-- the message, or one within it
abbrev pub IsOf : (part whole : Signed Message) → Type 0
IsOf p m = (p ≡ m) ⊎ IsWithin p m.message

-- it holds of the message, and of each within it
abbrev pub IsWholly : (Signed Message → Type 0) → Signed Message → Type 0
IsWholly P m = (p : Signed Message) → IsOf p m → P p

-- it holds of what comes to a node, bytes or a message within the limits, and of what a certificate is shown by
abbrev pub Comes : (Signed Message → Type 0) → NodeStep → Type 0
Comes P (Delivers bytes) = AreBytes bytes × ((m : Signed Message) → message_of bytes ≡ Some m → IsWholly P m)
Comes P (Takes signed) = FitsMessage signed.message × IsWholly P signed
Comes P (Adopts certificate files table) = (m : Signed Message) → IsAmong m (checkpoints_in certificate) → P m
Comes P (Settles certificate) = (m : Signed Message) → IsAmong m (checkpoints_in certificate) → P m
Comes P _ = Unit {0}

-- where nothing more is asked of it
abbrev pub IsAny : Signed Message → Type 0
IsAny m = Unit {0}

-- each where it comes, by the keys of the node that it comes to
abbrev pub EachComes : (NodeReplicas → Keys → Signed Message → Type 0) → NodeReplicas → List NodeTurn → Type 0
EachComes P w [] = Unit {0}
EachComes P w (turn ∷ turns) = Comes (P w (w turn.who).node.keys) turn.step × EachComes P (after_node_turn w turn) turns

-- Authenticators ------------------------------------------------------------------------------------------------------------

-- the PRE-PREPAREs of a NEW-VIEW, which are signed by themselves
abbrev pub offers_in : Message → Log
offers_in (NewView new) = as_proposals new.proposals
offers_in _ = []

-- of what a message's authenticator is: of a PRE-PREPARE the batch is attached, and it is of its digest
abbrev pub order_signed_part : OrderMessage → OrderMessage
order_signed_part (PrePrepare proposal) = PrePrepare (record proposal { batch = None })
order_signed_part other = other

abbrev pub signed_part : Message → Message
signed_part (Order message) = Order (order_signed_part message)
signed_part other = other

-- two messages say the same
abbrev pub SaysTheSame : Message → Message → Type 0
SaysTheSame one other = signed_part one ≡ signed_part other

-- a message of those that were sent says it, or a PRE-PREPARE in one of them
abbrev pub HasSaid : Messages → Message → Type 0
HasSaid sent message = (s : Signed Message) × IsIn s sent
    × (SaysTheSame s.message message ⊎ ((p : Signed OrderMessage) × IsIn p (offers_in s.message) × SaysTheSame (Order p.message) message))

-- what passes under a correct sender's name was sent by it (OSDI 1999 section 2: authenticators aren't forged)
abbrev pub IsAuthentic : (faulty : ℕ → Bool) → NodeReplicas → Keys → Signed Message → Type 0
IsAuthentic faulty w keys m = (k : ℕ) → sender_of m.message ≡ principal.Replica k → is_signed keys m ≡ true → faulty k ≡ false → HasSaid (w k).sent m.message

-- so is all that comes
abbrev pub AreAuthentic : (faulty : ℕ → Bool) → NodeReplicas → List NodeTurn → Type 0
AreAuthentic faulty w turns = EachComes (IsAuthentic faulty) w turns

-- What is given -----------------------------------------------------------------------------------------------------------------

-- a correct replica, whichever, gave to be sent a message that says it or that has one within it that does
pub record WasGiven (faulty : ℕ → Bool) (w : NodeReplicas) (message : Message) : Type 0 where
  pub who : ℕ
  pub correct : faulty who ≡ false
  pub sent : Signed Message
  pub given : IsIn sent (w who).sent
  pub part : Signed Message
  pub is : IsOf part sent
  pub same : SaysTheSame part.message message

-- the sender is faulty or a client, the authenticator is wrong for the receiver, or it was given
abbrev pub IsFair : (faulty : ℕ → Bool) → NodeReplicas → Keys → Signed Message → Type 0
IsFair faulty w keys m = (k : ℕ) → sender_of m.message ≡ principal.Replica k → is_signed keys m ≡ true → faulty k ≡ false → WasGiven faulty w m.message

-- so is the message, and each within it
abbrev pub IsWhollyFair : (faulty : ℕ → Bool) → NodeReplicas → Keys → Signed Message → Type 0
IsWhollyFair faulty w keys m = IsWholly (IsFair faulty w keys) m

-- so is all that comes
abbrev pub AreFair : (faulty : ℕ → Bool) → NodeReplicas → List NodeTurn → Type 0
AreFair faulty w turns = EachComes (IsFair faulty) w turns

-- Digests -------------------------------------------------------------------------------------------------------------------

abbrev pub standing_digest : Standing → List ℕ
standing_digest s = node_digest s.files s.table

abbrev pub AreSame : Standing → Standing → Type 0
AreSame s t = (s.files ≡ t.files) × (s.table ≡ t.table)

-- no two states that correct replicas have been in after one number have one digest
abbrev pub StatesDontCollide : (faulty : ℕ → Bool) → NodeReplicas → Type 0
StatesDontCollide faulty w = (i j : ℕ) (s t : Standing) → faulty i ≡ false → faulty j ≡ false → IsIn s (w i).reached → IsIn t (w j).reached
    → s.number ≡ t.number → standing_digest s ≡ standing_digest t → AreSame s t
