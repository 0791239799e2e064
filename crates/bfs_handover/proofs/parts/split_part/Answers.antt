-- What was taken out for these numbers is split off.
use Rattle.bfs_handover.specs.Splitting.{part_with}
use Rattle.bfs_handover.proofs.SplitLemmas.{from_both, is_split, requested}
use Rattle.bfs_handover.proofs.parts.split_part.Goals as goal

pub take_all-requires-clause-within : goal.take_all-requires-clause-within
take_all-requires-clause-within c = λ k d less.
    let a = c.args in
    let can = c.requires.numbers k d less in
    record {
      from = can.from;
      within = can.within;
      requested = requested a.part.now.first _ a.part.now.batch.now.requests can.from (c.requires.footprints k d less).requested;
    }

pub returns-clause-split : goal.returns-clause-split
returns-clause-split c =
    let a = c.args in
    let part = part_with a.part.now a.footprints.now in
    from_both c.take_all.result
    (λ jobs are out. is_split a.tree.now c.take_all.new.tree part a.numbers.now jobs.items c.requires.whole c.requires.disjoint c.requires.numbers c.requires.footprints are out)
    c.take_all.ensures.jobs c.take_all.ensures.out
