-- Of a journal that was cut a replica is recovered.
use Rattle.std.specs.Prelude.{ℕ, ◌≤◌, List, ◌++◌, length, map, take, All}
use Rattle.std.specs.List.{AllByRecursion}
use Rattle.bfs_auth.specs.Keys.{Keys}
use Rattle.bfs_journal.specs.Laws.{IsFront}
use Rattle.bfs_journal.specs.Records.{IsBody, Splits, journal_of}
use Rattle.bfs_node.specs.Nodes.{Node}
use Rattle.bfs_node.specs.Saving.{IsOf, IsSavable, text_of}
use Rattle.bfs_nodes_agree.specs.Nodes.Steps.{NodeStep}
use Rattle.bfs_steps.specs.Steps.{FitSteps, body_text}
use Rattle.bfs_recovery.specs.Holding.{IsHeld, after_turns}

-- of a journal that was cut behind what was synced, that replica is recovered which it was behind a beginning of its turns, with all that were synced
abbrev pub TheNodeComesBack : Type 0
TheNodeComesBack = (keys : Keys) (saved : Node) (synced more : List (List NodeStep)) (count : ℕ) (bodies : List (List ℕ)) (rest : List ℕ)
    → IsSavable saved
    → IsOf keys saved
    → AllByRecursion FitSteps (synced ++ more)
    → All IsBody (map body_text (synced ++ more))
    → length (journal_of (map body_text synced)) ≤ count
    → Splits (take count (journal_of (map body_text (synced ++ more)))) bodies rest
    → (front : List (List NodeStep)) × IsFront synced (synced ++ more) front
    × IsHeld keys (record { text = text_of saved; bodies = bodies }) (after_turns saved front)
