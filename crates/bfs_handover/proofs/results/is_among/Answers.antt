-- A search finds what is among numbers that rise.
use Rattle.std.proofs.Common.{◌∙◌}
use Rattle.std.proofs.lemmas.List.Sorted.{searched}
use Rattle.bfs_handover.proofs.NumberLemmas.{found_among, no_later_is_below}
use Rattle.bfs_handover.proofs.results.is_among.Goals as goal

pub returns : goal.returns
returns c =
    let numbers = c.args.numbers.now in
    let found = searched numbers c.args.number _ c.binary_search.ensures.position (no_later_is_below numbers c.requires) in
    c.is_ok.ensures.value ∙ found_among numbers c.args.number _ found
