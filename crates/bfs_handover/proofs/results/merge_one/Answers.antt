-- One result comes home as the only one.
use Rattle.bfs_handover.proofs.MergeLemmas.{one_is_lent, one_is_merged}
use Rattle.bfs_handover.proofs.results.merge_one.Goals as goal

pub bring-requires : goal.bring-requires
bring-requires c = one_is_lent c.args.done c.args.tree.now c.requires

pub returns : goal.returns
returns c = one_is_merged c.args.done c.args.tree.now c.bring.new.tree c.requires c.bring.ensures
