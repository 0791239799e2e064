-- Where replicas stand: the view that enough of them are in; and at the end, those that are heard and have executed the most show their digests,
-- and the others how far they are.
use Rattle.std.specs.Prelude.{ℕ, ◌+◌, ◌*◌, ◌/◌, ◌==◌, Bool, ◌&&◌, max, List, [], ◌∷◌, count_by, find, length, Option, Some, nat_le, if◌then◌else◌}
use Rattle.std.specs.Option.{option_map}
use Rattle.bfs_model.specs.Bytes.Call.{◌>>=◌}
use Rattle.bfs_checkpoints.specs.Texts.{node_digest}
use Rattle.bfs_node.specs.Nodes.{Node}
use Rattle.bfs_cluster.specs.World.{Replica, World}
use Rattle.bfs_cluster.specs.declared.standings.Standing.{Standing}
use Rattle.bfs_cluster.specs.declared.standings.Standing.TheVariants as standing

-- the most that one which is heard has executed
abbrev pub most_executed : List Replica → ℕ
most_executed [] = 0
most_executed (replica ∷ rest) = if replica.heard then max replica.node.order.last (most_executed rest) else most_executed rest

-- none where its file system has failed
abbrev pub digest_at : Node → Option (List ℕ)
digest_at node = option_map (λ live. node_digest live node.table) node.files

abbrev pub standing_at : (most number : ℕ) → Node → Option Standing
standing_at most number node =
    if node.order.last == most then option_map (λ digest. standing.Digest number digest) (digest_at node) else Some (standing.Behind number node.order.last)

abbrev pub standings_from : (most number : ℕ) → List Replica → Option (List Standing)
standings_from most number [] = Some []
standings_from most number (replica ∷ rest) =
    if replica.heard then (do
      first ← standing_at most number replica.node
      more ← standings_from most (number + 1) rest
      Some (first ∷ more)) else standings_from most (number + 1) rest

-- by rising number
abbrev pub standings : World → Option (List Standing)
standings world = standings_from (most_executed world.replicas) 0 world.replicas

-- Views --------------------------------------------------------------------------------------------------------------------

-- it is heard, and has entered that view last
abbrev pub is_in : (view : ℕ) → Replica → Bool
is_in view replica = replica.heard && (replica.node.order.view == view)

-- 2f + 1 of 3f + 1 replicas
abbrev pub quorum : (replicas : ℕ) → ℕ
quorum replicas = 2 * (replicas / 3) + 1

abbrev pub are_in : World → (view : ℕ) → Bool
are_in world view = nat_le (quorum (length world.replicas)) (count_by (is_in view) world.replicas)

-- the first replica whose view 2f + 1 are in
abbrev pub first_among_enough : World → Option Replica
first_among_enough world = find (λ replica. are_in world replica.node.order.view) world.replicas

-- that view: there is one at most
abbrev pub common_view : World → Option ℕ
common_view world = option_map (λ replica. replica.node.order.view) (first_among_enough world)
