-- One text of each place and of each index of a key, over all lives of replicas.
use Rattle.std.specs.Prelude.{◌≡◌, ◌<◌, ℕ, Bool, false, List}
use Rattle.std.specs.List.{AllByRecursion}
use Rattle.lms.specs.Signers.{HssKey}
use Rattle.bfs_nodes_agree.specs.Nodes.Premises.{AreAuthentic, AreShared}
use Rattle.bfs_nodes_agree.specs.Nodes.Replicas.{Beginning, Keyring, NodeReplicas, NodeTurn, after_node_turns, new_node_replicas}
use Rattle.bfs_places.specs.Laws.{HasOneTextOfEachIndex, HasOneTextOfEachPlace}
use Rattle.bfs_service.specs.Processes.{AreNodes, ProcessTurn, TellsWhatWasSaid}
use Rattle.bfs_votes.specs.Votes.{replicas}
use Rattle.bfs_recovery.specs.Lives.{AreKept, AreNew, Event, HaveHappened, Lives, acting_in, who_of}

-- of all that a correct replica has said, what is of one place has one text, and so has what one index of a key signs, whatever the key
abbrev pub HaveOneText : (faulty : ℕ → Bool) → NodeReplicas → Type 0
HaveOneText faulty w = (k : ℕ) → faulty k ≡ false → HasOneTextOfEachPlace (w k).sent × ((key : HssKey) → HasOneTextOfEachIndex key (w k).sent)

-- whenever processes end: the turns that were answered, with at most one more of each that ended, are steps of nodes. Whatever a correct replica told in any of its lives was
-- said by these, and of all that was said so what is of one place, or of one index of a key, has one text
abbrev pub LivesSayOneText : Type 0
LivesSayOneText = (f : ℕ) (keys : Keyring) (start : Beginning) (events : List Event) (before after : Lives)
    → AreNew f keys start before
    → AllByRecursion (λ event. who_of event < replicas f) events
    → HaveHappened keys before events after
    → (turns : List ProcessTurn) × AreKept events turns
    × (steps : List NodeTurn) × AreNodes f keys start turns (acting_in after) steps
    × ((faulty : ℕ → Bool) → 0 < f → AreShared f keys → AreAuthentic faulty (new_node_replicas f keys start) steps
    → TellsWhatWasSaid faulty turns (after_node_turns (new_node_replicas f keys start) steps) steps
    × HaveOneText faulty (after_node_turns (new_node_replicas f keys start) steps))
