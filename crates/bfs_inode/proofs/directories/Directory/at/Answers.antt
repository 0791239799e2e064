use Rattle.std.proofs.Common.{refl, ap, ◌∙◌}
use Rattle.std.specs.List.{slice_get}
use Rattle.std.proofs.lemmas.Iterator.Consumers.{YieldsList-from_first, nth_from_yields_List}
use Rattle.bfs_inode.proofs.directories.Directory.at.Goals as goal

pub returns : goal.returns
returns c = nth_from_yields_List c.nth.result _ c.args.place c.nth.ensures.ran (YieldsList-from_first (λ x. x.now) (λ es. es) c.iter.result refl) ∙ ap (λ es. slice_get es c.args.place) c.iter.ensures.value
