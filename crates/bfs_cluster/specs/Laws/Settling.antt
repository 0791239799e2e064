-- What settling comes to depends neither on the number of steps that are made, nor on what holds before each batch that is executed.
use Rattle.std.specs.Prelude.{◌≡◌}
use Rattle.bfs_node.specs.Nodes.{Node}
use Rattle.bfs_cluster.specs.Steps.{Settles}
use Rattle.bfs_cluster.specs.World.{World}

abbrev pub SettlesToOneWorld : (First Second : Node → Type 0) → Type 0
SettlesToOneWorld First Second = (world one other : World) → Settles First world one → Settles Second world other → one ≡ other
