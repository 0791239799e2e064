use Rattle.std.proofs.Common.{subst, arith}
use Rattle.bfs_model.proofs.Public.{bytes_are}
use Rattle.bfs_codec.specs.Codes.{Fails}
use Rattle.bfs_saving.specs.Saved.{saved_of}
use Rattle.bfs_saving.proofs.Again.{found, never, only}
use Rattle.bfs_saving.proofs.saved.read_saved.Goals as goal

pub returns-in-Ok-clause-found : goal.returns-in-Ok-clause-found
returns-in-Ok-clause-found c =
    found c.args.keys.now c.args.f c.args.me (omega (arith, c.requires.faults)) (omega (arith, c.requires.faults, c.requires.me)) (omega (arith, c.requires.clients)) c.args.bytes.now c.in-Ok.saved
    (bytes_are c.args.bytes.now (λ i. omega (arith, c.type_inv.bytes i))) c.in-Ok.ensures

pub returns-in-Ok-clause-only : goal.returns-in-Ok-clause-only
returns-in-Ok-clause-only c = λ s fits e.
    only c.args.keys.now c.args.f c.args.me (omega (arith, c.requires.faults)) (omega (arith, c.requires.faults, c.requires.me)) (omega (arith, c.requires.clients)) c.args.bytes.now c.in-Ok.saved s c.in-Ok.ensures fits e

pub returns-in-Err-Malformed-clause-only : goal.returns-in-Err-Malformed-clause-only
returns-in-Err-Malformed-clause-only c = λ s fits e.
    absurd (never c.args.keys.now c.args.f c.args.me (omega (arith, c.requires.faults)) (omega (arith, c.requires.faults, c.requires.me)) (omega (arith, c.requires.clients)) c.args.bytes.now s (subst (λ error. Fails error (saved_of c.args.keys.now c.args.f c.args.me c.args.bytes.now)) c.in-Err-Malformed.field-0-is c.in-Err-Malformed.ensures) fits e)
