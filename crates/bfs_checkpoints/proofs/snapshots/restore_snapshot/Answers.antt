-- What is read is the state that was taken, and that has one snapshot.
use Rattle.std.proofs.Common.{◌≡◌, ◌∙◌, Some, None, Err, sym, ap}
use Rattle.bfs_checkpoints.proofs.StateTexts.{same_state, snapshot_text_is, taken_of}
use Rattle.bfs_checkpoints.proofs.snapshots.restore_snapshot.Goals as goal

pub returns-in-Ok-take_snapshot-clause-text : goal.returns-in-Ok-take_snapshot-clause-text
returns-in-Ok-take_snapshot-clause-text g c = snapshot_text_is c.args.bytes.now c.in-Ok.files c.in-Ok.table c.in-Ok-take_snapshot.snapshot c.in-Ok.ensures.text c.in-Ok-take_snapshot.ensures.value

pub returns-in-Ok-take_snapshot-clause-only : goal.returns-in-Ok-take_snapshot-clause-only
returns-in-Ok-take_snapshot-clause-only g c = λ snapshot taken is.
    let of = taken_of snapshot taken in
    let same = c.in-Ok.ensures.only (Some taken.files) taken.table of.live of.kept (is ∙ of.text) in
    same_state snapshot c.in-Ok-take_snapshot.snapshot (Some taken.files) c.in-Ok.files taken.table c.in-Ok.table of same.0 same.1 c.in-Ok-take_snapshot.ensures.value

pub returns-in-Err-Failed-clause-only : goal.returns-in-Err-Failed-clause-only
returns-in-Err-Failed-clause-only g c = λ snapshot taken is.
    let of = taken_of snapshot taken in
    let same = c.in-Ok.ensures.only (Some taken.files) taken.table of.live of.kept (is ∙ of.text) in
    let none : c.in-Ok.files ≡ None = c.in-Err-Failed.ensures.failed.0 (ap Err c.in-Err-Failed.field-0-is) in
    let both = sym same.0 ∙ none in
    absurd cc

pub returns-clause-only : goal.returns-clause-only
returns-clause-only g c = λ snapshot taken is.
    let of = taken_of snapshot taken in
    c.in-Err.ensures.only (Some taken.files) taken.table of.live of.kept (is ∙ of.text)
