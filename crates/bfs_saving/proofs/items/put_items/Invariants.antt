use Rattle.std.proofs.Common.{◌≡◌, ◌++◌, take, flat_map}
use Rattle.std.specs.List.{AllByRecursion}
use Rattle.bfs_saving.proofs.items.put_items.Given as goal

abbrev pub invariant-loop-item : goal.invariant-loop-item
invariant-loop-item g l = (l.out.items ≡ l.fn.out.items ++ flat_map g.T.Saved.text (take l.item-index l.list)) × AllByRecursion g.T.Saved.fits (take l.item-index l.list)
