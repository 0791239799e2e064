use Rattle.std.proofs.Common.{◌≡◌, ◌++◌}
use Rattle.std.specs.Prelude.{is_ok}
use Rattle.std.specs.List.{filter_map, list_all}
use Rattle.bfs_auth.specs.Gathered.{gathered_from}
use Rattle.bfs_auth.proofs.gathering.gather.Given as goal

abbrev pub invariant-loop-one : goal.invariant-loop-one
invariant-loop-one g l =
    (list_all is_ok l.one-iterator.rest.items ≡ list_all is_ok l.fn.each.items)
    × (l.all.items ++ filter_map gathered_from l.one-iterator.rest.items ≡ filter_map gathered_from l.fn.each.items)
