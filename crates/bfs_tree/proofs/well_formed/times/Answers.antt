-- The entries that pass the test are counted.
use Rattle.std.proofs.Common.{rules, tests, ◌∙◌}
use Rattle.std.specs.Prelude.{◌==◌}
use Rattle.std.proofs.lemmas.Iterator.Consumers.{YieldsList-at, YieldsList-from_first, YieldsList-from_filter, count_from_yields_List}
use Rattle.std.proofs.lemmas.List.Sums.{length-filter}
use Rattle.bfs_model.specs.Server.Tree.{Entry}
use Rattle.bfs_tree.proofs.WellFormed.Lists.{times_counted}
use Rattle.bfs_tree.proofs.well_formed.times.Goals as goal

pub returns : goal.returns
returns c =
    let es = c.args.directory.now.entries in
    count_from_yields_List c.filter.result c.count.result c.count.ensures.ran
    (YieldsList-from_filter _ (λ (entry : Entry). entry.child == c.args.id) (YieldsList-at c.filter.ensures.source (YieldsList-from_first (λ x. x.now) (λ entries. entries) es c.iter.ensures.value)) c.filter.ensures.closure (λ x b q k. search (rules, tests)))
    ∙ length-filter _ es ∙ times_counted c.args.id es
