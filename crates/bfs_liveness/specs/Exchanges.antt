-- Ways in a view: members give one another all that they have said in it, and execute what is committed (OSDI 1999 sections 4.2 and 4.3).
use Rattle.std.specs.Prelude.{ℕ, ◌+◌, ◌-◌, ◌==◌, Bool, ◌&&◌, not, List, [], ◌∷◌, ◌++◌, map, if◌then◌else◌}
use Rattle.std.specs.List.{flat_map, range_with_len}
use Rattle.bfs_log.specs.Logs.{Log}
use Rattle.bfs_messages.specs.Signing.{as_message}
use Rattle.bfs_messages.specs.declared.message.Message.TheVariants.{Order}
use Rattle.bfs_model.specs.Server.Limits.{log_size}
use Rattle.bfs_model.specs.Server.Tree.{Time}
use Rattle.bfs_order.specs.Replica.Proposing.{next_number}
use Rattle.bfs_order.specs.Replica.Resending.{own_message, own_votes}
use Rattle.bfs_order.specs.Replica.States.{State}
use Rattle.bfs_votes.specs.Tags.{checkpoint_tag}
use Rattle.bfs_votes.specs.Votes.{primary, replicas}
use Rattle.bfs_nodes_agree.specs.Nodes.Replicas.{NodeReplicas, NodeTurn, after_node_turns}
use Rattle.bfs_nodes_agree.specs.Nodes.Steps.{Checkpoints, Takes}
use Rattle.bfs_nodes_progress.specs.Following.{each_takes}
use Rattle.bfs_nodes_progress.specs.Requests.{executions, proposing}
use Rattle.bfs_nodes_progress.specs.Runs.{order_of}

-- what a node has said in its view, as its log has it, of each number above its low mark and up to the high one
unfoldable pub said_in_view : State → Log
said_in_view s = flat_map (own_votes s) (range_with_len (s.low + 1) log_size)

-- a node takes these, one after another
abbrev pub taking : (who : ℕ) → Log → List NodeTurn
taking who log = map (λ m. record { who = who; step = Takes (as_message Order m) }) log

-- what each other member has said comes to one
abbrev pub hearing : (f : ℕ) (members : ℕ → Bool) → NodeReplicas → (who : ℕ) → List NodeTurn
hearing f members w who = each_takes (λ i. if members i && not (i == who) then taking who (said_in_view (order_of w i)) else []) (replicas f)

-- and so to each
unfoldable pub exchange : (f : ℕ) (members : ℕ → Bool) → NodeReplicas → List NodeTurn
exchange f members w = each_takes (λ k. if members k then hearing f members w k else []) (replicas f)

-- three times: the PRE-PREPAREs come, then the PREPAREs, then the COMMITs (OSDI 1999 section 4.2)
abbrev pub three_exchanges : (f : ℕ) (members : ℕ → Bool) → NodeReplicas → List NodeTurn
three_exchanges f members w =
    let one = exchange f members w in
    let heard = after_node_turns w one in
    let two = exchange f members heard in
    one ++ (two ++ exchange f members (after_node_turns heard two))

-- each member executes up to a number
abbrev pub all_execute : (f : ℕ) (members : ℕ → Bool) → NodeReplicas → (number : ℕ) → List NodeTurn
all_execute f members w number = each_takes (λ k. if members k then executions k (number - (order_of w k).last) else []) (replicas f)

-- what is proposed, and what has been, comes in three exchanges, and each member executes it
abbrev pub hearing_and_executing : (f : ℕ) (members : ℕ → Bool) → NodeReplicas → (number : ℕ) → List NodeTurn
hearing_and_executing f members w number = let heard = three_exchanges f members w in heard ++ all_execute f members (after_node_turns w heard) number

-- the view's primary proposes what waits at that time, and each member comes to execute it
abbrev pub ordering : (f : ℕ) (members : ℕ → Bool) → NodeReplicas → (view : ℕ) → Time → List NodeTurn
ordering f members w view time =
    let first = proposing f view time in
    first ++ hearing_and_executing f members (after_node_turns w first) (next_number (order_of w (primary f view)))

-- A full window -------------------------------------------------------------------------------------------------------

-- each member tells the checkpoint at the number that it has executed last (OSDI 1999 section 4.3)
abbrev pub all_tell : (f : ℕ) (members : ℕ → Bool) → List NodeTurn
all_tell f members = each_takes (λ k. if members k then record { who = k; step = Checkpoints } ∷ [] else []) (replicas f)

-- what each other member has told of the number comes to one
abbrev pub told_to : (f : ℕ) (members : ℕ → Bool) → NodeReplicas → (number who : ℕ) → List NodeTurn
told_to f members w number who = each_takes (λ i. if members i && not (i == who) then taking who (own_message (order_of w i) checkpoint_tag 0 number) else []) (replicas f)

-- all that is proposed, up to a number, is executed; each member tells the checkpoint there, and the primary of the view hears it
abbrev pub emptying : (f : ℕ) (members : ℕ → Bool) → NodeReplicas → (view number : ℕ) → List NodeTurn
emptying f members w view number =
    let heard = hearing_and_executing f members w number in
    let told = all_tell f members in
    heard ++ (told ++ told_to f members (after_node_turns (after_node_turns w heard) told) number (primary f view))
