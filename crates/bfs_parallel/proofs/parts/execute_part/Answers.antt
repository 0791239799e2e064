-- A group has as many levels as requests, and their numbers are below those that a batch may have.
use Rattle.std.proofs.Common.{map, arith}
use Rattle.std.proofs.lemmas.List.{length-map}
use Rattle.bfs_footprint.specs.Seen.{footprint_seen}
use Rattle.bfs_tree.specs.Tree.{at_home}
use Rattle.bfs_parallel.proofs.Levelled.{as_many_levels}
use Rattle.bfs_parallel.proofs.parts.execute_part.Goals as goal

pub levels_in-requires : goal.levels_in-requires
levels_in-requires g c =
    let a = c.args in
    let group = c.in_ok-group.group in
    let planned = c.in_ok-group.ensures in
    let more = c.if-count-gt1.true in
    let count = c.len-count.ensures in
    let fs = map footprint_seen group.footprints.items in
    let long = as_many_levels (at_home a.tree.now) a.part.now.first a.part.now.ordinal a.part.now.time a.part.now.batch.now.requests fs group.level_of.items (planned.together (λ one. omega (arith, one, more, count))) in
    let same = length-map group.footprints.items footprint_seen in
    let first = planned.first in
    let within = planned.within in
    omega (arith, c.len.ensures.value, c.len.ensures.within)
