use Rattle.std.proofs.Common.{◌≡◌, true}
use Rattle.bfs_tree.specs.Tree.{reach_of}
use Rattle.tests_server.proofs.steps.runs.Given as goal

-- the tree is whole as before
abbrev pub invariant-loop-step : goal.invariant-loop-step
invariant-loop-step l = ((reach_of l.tree).whole ≡ true) × (reach_of l.tree ≡ reach_of l.fn.tree)
