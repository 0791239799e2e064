-- What is told of the rest is told of the whole.
use Rattle.std.proofs.Common.{◌≡◌, Ok, Err, sym, ap}
use Rattle.std.specs.Result.{IsErrOf}
use Rattle.bfs_model.proofs.Public.{bytes_are}
use Rattle.bfs_checkpoints.proofs.Standing.{ill_formed_node, is_read, malformed_node, malformed_rest, other_node, other_rest, stands}
use Rattle.bfs_checkpoints.proofs.reading.read_parts.Goals as goal

-- the same refusal of another call
again : {A B E : Type 0} (one other : E) → IsErrOf {T = A} {E = E} (Err one) other → IsErrOf {T = B} {E = E} (Err one) other
again one other e = let same : one ≡ other = cc in ap Err same

pub returns-in-Err-clause-malformed : goal.returns-in-Err-clause-malformed
returns-in-Err-clause-malformed c =
    let there = stands c.args.bytes.now c.args.clients c.args.rest.now (bytes_are c.args.bytes.now (λ k. (c.type_inv.bytes k).fits)) (sym c.requires) in (
      λ told. malformed_node c.args.clients c.args.bytes.now there.0 c.args.rest.now there.1 (c.in-Err.ensures.malformed.0 (again _ _ told)),
      λ malformed. again _ _ (c.in-Err.ensures.malformed.1 (malformed_rest c.args.clients c.args.bytes.now there.0 c.args.rest.now there.1 malformed)),
    )

pub returns-in-Err-clause-wrong_version : goal.returns-in-Err-clause-wrong_version
returns-in-Err-clause-wrong_version c =
    let there = stands c.args.bytes.now c.args.clients c.args.rest.now (bytes_are c.args.bytes.now (λ k. (c.type_inv.bytes k).fits)) (sym c.requires) in (
      λ told. other_node c.args.clients c.args.bytes.now there.0 c.args.rest.now there.1 (c.in-Err.ensures.wrong_version.0 (again _ _ told)),
      λ other. again _ _ (c.in-Err.ensures.wrong_version.1 (other_rest c.args.clients c.args.bytes.now there.0 c.args.rest.now there.1 c.args.clients other)),
    )

pub returns-in-Err-clause-ill_formed : goal.returns-in-Err-clause-ill_formed
returns-in-Err-clause-ill_formed c =
    let there = stands c.args.bytes.now c.args.clients c.args.rest.now (bytes_are c.args.bytes.now (λ k. (c.type_inv.bytes k).fits)) (sym c.requires) in
    λ told. ill_formed_node c.args.clients c.args.bytes.now there.0 c.args.rest.now there.1 (c.in-Err.ensures.ill_formed (again _ _ told))

pub returns-in-Ok-read-clause-ok : goal.returns-in-Ok-read-clause-ok
returns-in-Ok-read-clause-ok c =
    let there = stands c.args.bytes.now c.args.clients c.args.rest.now (bytes_are c.args.bytes.now (λ k. (c.type_inv.bytes k).fits)) (sym c.requires) in
    is_read c.args.clients c.args.bytes.now there.0 c.args.rest.now there.1 c.in-Ok.files c.in-Ok-read.table c.in-Ok-read.field-0-1.now c.in-Ok-read.ensures.read c.in-Ok.ensures.ok

-- where the rest is restored, no refusal of it is told
ok_is_no_error : {A E : Type 0} (x : A) (e : E) → IsErrOf {T = A} {E = E} (Ok x) e → ⊥
ok_is_no_error x e told = cc

pub returns-in-Ok-read-clause-malformed : goal.returns-in-Ok-read-clause-malformed
returns-in-Ok-read-clause-malformed c =
    let there = stands c.args.bytes.now c.args.clients c.args.rest.now (bytes_are c.args.bytes.now (λ k. (c.type_inv.bytes k).fits)) (sym c.requires) in
    (λ told. absurd cc, λ told. absurd (ok_is_no_error _ _ (c.in-Ok.ensures.malformed.1 (malformed_rest c.args.clients c.args.bytes.now there.0 c.args.rest.now there.1 told))))

pub returns-in-Ok-read-clause-wrong_version : goal.returns-in-Ok-read-clause-wrong_version
returns-in-Ok-read-clause-wrong_version c =
    let there = stands c.args.bytes.now c.args.clients c.args.rest.now (bytes_are c.args.bytes.now (λ k. (c.type_inv.bytes k).fits)) (sym c.requires) in
    (λ told. absurd cc, λ told. absurd (ok_is_no_error _ _ (c.in-Ok.ensures.wrong_version.1 (other_rest c.args.clients c.args.bytes.now there.0 c.args.rest.now there.1 c.args.clients told))))

pub returns-in-Err-Memory-clause-malformed : goal.returns-in-Err-Memory-clause-malformed
returns-in-Err-Memory-clause-malformed c =
    let there = stands c.args.bytes.now c.args.clients c.args.rest.now (bytes_are c.args.bytes.now (λ k. (c.type_inv.bytes k).fits)) (sym c.requires) in
    (λ told. absurd cc, λ told. absurd (ok_is_no_error _ _ (c.in-Ok.ensures.malformed.1 (malformed_rest c.args.clients c.args.bytes.now there.0 c.args.rest.now there.1 told))))

pub returns-in-Err-Memory-clause-wrong_version : goal.returns-in-Err-Memory-clause-wrong_version
returns-in-Err-Memory-clause-wrong_version c =
    let there = stands c.args.bytes.now c.args.clients c.args.rest.now (bytes_are c.args.bytes.now (λ k. (c.type_inv.bytes k).fits)) (sym c.requires) in
    (λ told. absurd cc, λ told. absurd (ok_is_no_error _ _ (c.in-Ok.ensures.wrong_version.1 (other_rest c.args.clients c.args.bytes.now there.0 c.args.rest.now there.1 c.args.clients told))))
