-- Time runs out for the view: each replica asks for the next one (OSDI 1999 section 4.4), and its primary proposes the requests that have waited.
use Rattle.std.specs.Prelude.{◌==◌, length, Option, Some, None, if◌then◌else◌}
use Rattle.bfs_model.specs.Server.Tree.{Time}
use Rattle.bfs_node.specs.Advancing.{unless_refused}
use Rattle.bfs_node.specs.Changing.{timed_out, timeout_refusal}
use Rattle.bfs_node.specs.Nodes.{Node, Outcome}
use Rattle.bfs_cluster.specs.Blocks.{each_does, proposal}
use Rattle.bfs_cluster.specs.World.{World}

abbrev pub timing_out : Node → Option Outcome
timing_out node = unless_refused (timeout_refusal node) (Some (timed_out node))

-- time runs out for each replica that is heard
abbrev pub with_timeout : World → World
with_timeout world = each_does timing_out world

-- a primary proposes only where requests wait
abbrev pub waiting_proposal : Time → Node → Option Outcome
waiting_proposal time node = if length node.pending == 0 then None else proposal time node

-- each primary that is heard proposes the requests that wait, if there are any, at that time
abbrev pub with_waiting : World → Time → World
with_waiting world time = each_does (waiting_proposal time) world
