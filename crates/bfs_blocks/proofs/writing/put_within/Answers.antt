use Rattle.std.proofs.Common.{sym, subst}
use Rattle.std.proofs.lemmas.Result.{on_err_weaker, on_ok_weaker}
use Rattle.bfs_blocks.specs.Blocks.{AreFilled, pieces_of}
use Rattle.bfs_blocks.proofs.PieceLemmas.{filled_drop}
use Rattle.bfs_blocks.proofs.WriteLemmas.{filled_on, put_on, same_on, starts_in, suffix_is}
use Rattle.bfs_blocks.proofs.writing.put_within.Goals as goal

pub put_from-requires-clause-filled : goal.put_from-requires-clause-filled
put_from-requires-clause-filled c = subst AreFilled (sym (suffix_is c.args.blocks.now c.min-first.result)) (filled_drop c.min-first.result (pieces_of c.args.blocks.now) c.requires.filled)

pub put_from-requires-clause-within : goal.put_from-requires-clause-within
put_from-requires-clause-within c = (starts_in c.args.offset _ c.min-first.result c.args.blocks.now c.requires.filled c.min-first.ensures c.requires.within).rest

pub returns-clause-filled : goal.returns-clause-filled
returns-clause-filled c =
    let starts = starts_in c.args.offset _ c.min-first.result c.args.blocks.now c.requires.filled c.min-first.ensures c.requires.within in
    filled_on c.args.blocks.now c.put_from.new.blocks c.min-first.result starts.below c.requires.filled c.put_from.ensures.filled c.put_from.auto.blocks

pub returns-clause-ok : goal.returns-clause-ok
returns-clause-ok c =
    let starts = starts_in c.args.offset _ c.min-first.result c.args.blocks.now c.requires.filled c.min-first.ensures c.requires.within in
    on_ok_weaker c.put_from.result (put_on c.args.offset c.min-first.result c.args.blocks.now c.put_from.new.blocks c.args.bytes.now starts c.put_from.auto.blocks) c.put_from.ensures.ok

pub returns-clause-err : goal.returns-clause-err
returns-clause-err c = on_err_weaker c.put_from.result (same_on c.args.blocks.now c.put_from.new.blocks c.min-first.result c.put_from.auto.blocks) c.put_from.ensures.err
