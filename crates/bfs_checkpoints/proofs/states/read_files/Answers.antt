-- Bytes are what was written, or there are none.
use Rattle.std.proofs.Common.{◌≡◌, ◌∙◌, sym, ap, arith}
use Rattle.bfs_checkpoints.proofs.StateTexts.{are_none, are_some, none_there, restored_as}
use Rattle.bfs_checkpoints.proofs.states.read_files.Goals as goal

pub returns-in-Ok-clause-only : goal.returns-in-Ok-clause-only
returns-in-Ok-clause-only c = λ files live is.
    c.in-Ok.ensures ∙ none_there c.args.bytes.now files (are_none c.args.bytes.now c.is_empty.result c.is_empty.ensures c.if-is_empty.true) is

pub returns-else-is_empty-clause-only : goal.returns-else-is_empty-clause-only
returns-else-is_empty-clause-only c = λ files live is.
    let e = c.restore_latest.ensures in
    restored_as c.args.bytes.now c.restore_latest.result e.ok e.malformed e.wrong_version e.ill_formed (are_some c.args.bytes.now c.is_empty.result c.is_empty.ensures c.if-is_empty.false) files live is
