-- The statements that are proved of the definitions: each is the contract of a function of src/laws.rt, which does nothing.
use Rattle.std.specs.Prelude.{◌≡◌, ℕ, Bool, false, List, Option, Some, option_and_then}
use Rattle.lms.specs.Signers.{HssKey}
use Rattle.bfs_auth.specs.Places.{index_of, place_in}
use Rattle.bfs_auth.specs.declared.places.Place.{Place}
use Rattle.bfs_messages.specs.Spelling.{body_text}
use Rattle.bfs_messages.specs.declared.message.Message.{Message}
use Rattle.bfs_node.specs.Nodes.{Messages}
use Rattle.bfs_nodes_agree.specs.Nodes.Premises.{AreAuthentic, AreShared, HasSaid}
use Rattle.bfs_nodes_agree.specs.Nodes.Replicas.{Beginning, Keyring, NodeTurn, after_node_turns, new_node_replicas}

-- of all that these say, and PRE-PREPAREs in them, what is of one place has one text
abbrev pub HasOneTextOfEachPlace : (sent : Messages) → Type 0
HasOneTextOfEachPlace sent = (one other : Message) (place : Place) → HasSaid sent one → HasSaid sent other
    → place_in (body_text one) ≡ Some place → place_in (body_text other) ≡ Some place → body_text one ≡ body_text other

-- the index of a key that signs a text: that of its place, if it has one
abbrev pub index_for : HssKey → (text : List ℕ) → Option ℕ
index_for key text = option_and_then (index_of key) (place_in text)

-- of all that these say, and PRE-PREPAREs in them, what one index of the key signs has one text
abbrev pub HasOneTextOfEachIndex : HssKey → (sent : Messages) → Type 0
HasOneTextOfEachIndex key sent = (one other : Message) (index : ℕ) → HasSaid sent one → HasSaid sent other
    → index_for key (body_text one) ≡ Some index → index_for key (body_text other) ≡ Some index → body_text one ≡ body_text other

-- it holds of all that a correct replica gave to be sent, over every list of calls of nodes and deliveries of bytes
abbrev pub IsTrueOfAllThatIsSent : (Messages → Type 0) → Type 0
IsTrueOfAllThatIsSent P = (f : ℕ) (keys : Keyring) (start : Beginning) (faulty : ℕ → Bool) (steps : List NodeTurn) → AreShared f keys → AreAuthentic faulty (new_node_replicas f keys start) steps
    → (k : ℕ) → faulty k ≡ false → P (after_node_turns (new_node_replicas f keys start) steps k).sent

abbrev pub OneTextOfEachPlace : Type 0
OneTextOfEachPlace = IsTrueOfAllThatIsSent HasOneTextOfEachPlace

-- whatever the key
abbrev pub OneTextOfEachIndex : Type 0
OneTextOfEachIndex = (key : HssKey) → IsTrueOfAllThatIsSent (HasOneTextOfEachIndex key)
