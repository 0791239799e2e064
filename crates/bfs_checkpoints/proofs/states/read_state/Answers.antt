-- The table stands in front, and what stands behind it is read as the file system.
use Rattle.std.proofs.Common.{Err, ap}
use Rattle.bfs_model.proofs.Public.{bytes_are}
use Rattle.bfs_checkpoints.proofs.StateTexts.{parts, some_table, state_read}
use Rattle.bfs_checkpoints.proofs.states.read_state.Goals as goal

pub returns-in-Ok-read_files-clause-text : goal.returns-in-Ok-read_files-clause-text
returns-in-Ok-read_files-clause-text c =
    state_read c.args.bytes.now c.in-Ok.rest.now c.in-Ok-read_files.files c.in-Ok.table (bytes_are c.args.bytes.now (λ k. (c.type_inv.bytes k).fits)) c.in-Ok.ensures.read c.in-Ok-read_files.ensures.text

pub returns-in-Ok-read_files-clause-only : goal.returns-in-Ok-read_files-clause-only
returns-in-Ok-read_files-clause-only c = λ files table live kept is.
    let there = parts c.args.bytes.now c.in-Ok.rest.now c.in-Ok.table table files c.in-Ok.ensures.read kept is in
    (c.in-Ok-read_files.ensures.only files live there.rest_is, there.table_is)

pub returns-in-Err-clause-only : goal.returns-in-Err-clause-only
returns-in-Err-clause-only c = λ files table live kept is.
    let there = parts c.args.bytes.now c.in-Ok.rest.now c.in-Ok.table table files c.in-Ok.ensures.read kept is in
    c.in-Err.ensures.only files live there.rest_is

pub returns-in-Err-Malformed-clause-only : goal.returns-in-Err-Malformed-clause-only
returns-in-Err-Malformed-clause-only c = λ files table live kept is. absurd (some_table c.args.bytes.now table files (c.in-Err-Malformed.ensures.malformed.0 (ap Err c.in-Err-Malformed.field-0-is)) kept is)
