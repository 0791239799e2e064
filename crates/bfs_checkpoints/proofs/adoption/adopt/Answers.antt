-- What is read is taken over by its digest.
use Rattle.std.proofs.Common.{Err, not, ap, ◌∙◌}
use Rattle.std.specs.Prelude.{bytes_eq}
use Rattle.bfs_checkpoints.proofs.Taken.{differ, has_digest, other_digest, refused_ill_formed}
use Rattle.bfs_checkpoints.proofs.adoption.adopt.Goals as goal

pub returns-in_err-files-clause-ill_formed : goal.returns-in_err-files-clause-ill_formed
returns-in_err-files-clause-ill_formed g c =
    λ told. c.in_err-files.ensures.ill_formed (ap Err (refused_ill_formed c.from_residual.result c.in_err-files.field-0.0 c.from_residual.ensures.1 told))

pub returns-then-ne-clause-differs : goal.returns-then-ne-clause-differs
returns-then-ne-clause-differs g c = λ told.
    let snapshot = c.in-Some.snapshot in
    let other = c.ne.ensures ∙ ap (λ digest. not (bytes_eq digest c.args.digest.now)) c.digest.ensures in
    other_digest c.args.clients c.args.bytes.now snapshot.digest c.args.digest.now c.in_ok-files.files c.in_ok-files.table c.in_ok-files.ensures.ok (has_digest c.in_ok-files.files c.in_ok-files.table snapshot c.in-Some.ensures.value)
    (differ c.ne.result snapshot.digest c.args.digest.now other c.if-ne.true)
