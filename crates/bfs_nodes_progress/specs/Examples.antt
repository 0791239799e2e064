-- Runs of four nodes of which one is silent, whatever keys they share and whatever state they begin with: the primary proposes, or time runs out.
use Rattle.std.specs.Prelude.{List, [], ◌∷◌, Some}
use Rattle.bfs_model.specs.Server.Tree.{Time}
use Rattle.bfs_messages.specs.Messages.{Batch}
use Rattle.bfs_order.specs.Replica.Proposing.{batch_digest}
use Rattle.bfs_agreement.specs.Examples.{silent}
use Rattle.bfs_progress.specs.Examples.{present}
use Rattle.bfs_nodes_agree.specs.Nodes.Premises.{AreShared}
use Rattle.bfs_nodes_agree.specs.Nodes.Replicas.{Beginning, Keyring, NodeTurn}
use Rattle.bfs_nodes_agree.specs.Nodes.Steps.{Proposes, TimesOut}
use Rattle.bfs_nodes_progress.specs.Runs.{IsARun, reached}
use Rattle.bfs_nodes_progress.specs.Entering.{HaveAsked}
use Rattle.bfs_nodes_progress.specs.Following.{AreMembers, HaveSupport, SupportIsHeard}
use Rattle.bfs_nodes_progress.specs.Members.{AreTogether, HasRoom, IsProposed}

abbrev pub one_proposal : Time → List NodeTurn
one_proposal time = record { who = 0; step = Proposes time } ∷ []

-- of no request
abbrev pub first_batch : Time → Batch
first_batch time = Some (record { time = time; requests = [] })

-- it is a run, the others are together with the primary in view 0 and have room for number 1, which it has proposed
abbrev pub HoldInAView : Type 0
HoldInAView = (keys : Keyring) (start : Beginning) (time : Time) → AreShared 1 keys
    → IsARun 1 keys start silent (one_proposal time)
    × AreTogether 1 silent present (reached 1 keys start (one_proposal time)) 0
    × HasRoom present (reached 1 keys start (one_proposal time)) 1
    × IsProposed 1 (reached 1 keys start (one_proposal time)) 0 1 (batch_digest (first_batch time))

-- each of three asks for the next view
abbrev pub three_timeouts : List NodeTurn
three_timeouts = record { who = 0; step = TimesOut } ∷ record { who = 1; step = TimesOut } ∷ record { who = 2; step = TimesOut } ∷ []

-- it is a run, and they have asked for view 1
abbrev pub HoldBetweenViews : Type 0
HoldBetweenViews = (keys : Keyring) (start : Beginning) → AreShared 1 keys
    → IsARun 1 keys start silent three_timeouts × HaveAsked 1 silent present (reached 1 keys start three_timeouts) 1

-- so they need follow nobody to it
abbrev pub HoldWhereAllAsk : Type 0
HoldWhereAllAsk = (keys : Keyring) (start : Beginning) → AreShared 1 keys
    → AreMembers 1 silent present
    × HaveSupport 1 present present (reached 1 keys start three_timeouts) 1
    × SupportIsHeard present present (reached 1 keys start three_timeouts) 1
