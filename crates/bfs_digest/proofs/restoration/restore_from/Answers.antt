-- What was built of the records is what the bytes spell.
use Rattle.std.proofs.Common.{◌≡◌, Err, ap}
use Rattle.std.specs.Result.{IsErrOf}
use Rattle.bfs_model.proofs.Public.{bytes_are}
use Rattle.bfs_digest.proofs.Restoring.{restored, spells_ill_formed}
use Rattle.bfs_digest.proofs.restoration.restore_from.Goals as goal

pub returns-in-Some-clause-ok : goal.returns-in-Some-clause-ok
returns-in-Some-clause-ok c =
    let fits = bytes_are c.args.bytes.now (λ k. (c.type_inv.bytes k).fits) in
    restored c.args.oldest c.args.bytes.now c.in-Ok.header c.in-Ok.records.now c.in-Some.files fits c.in-Ok.ensures.ok (rw c.in-Some.is at c.in_ok-files-in-Ok.ensures)

pub returns-in-None-clause-ill_formed : goal.returns-in-None-clause-ill_formed
returns-in-None-clause-ill_formed c =
    let fits = bytes_are c.args.bytes.now (λ k. (c.type_inv.bytes k).fits) in
    λ told. spells_ill_formed c.args.oldest c.args.bytes.now c.in-Ok.header c.in-Ok.records.now fits c.in-Ok.ensures.ok (rw c.in-None.is at c.in_ok-files-in-Ok.ensures)

-- the same refusal of another call
again : {A B E : Type 0} (one other : E) → IsErrOf {T = A} {E = E} (Err one) other → IsErrOf {T = B} {E = E} (Err one) other
again one other e = let same : one ≡ other = cc in ap Err same

pub returns-in-Err-clause-malformed : goal.returns-in-Err-clause-malformed
returns-in-Err-clause-malformed c = (λ told. c.in-Err.ensures.malformed.0 (again _ _ told), λ malformed. again _ _ (c.in-Err.ensures.malformed.1 malformed))

pub returns-in-Err-clause-wrong_version : goal.returns-in-Err-clause-wrong_version
returns-in-Err-clause-wrong_version c = (λ told. c.in-Err.ensures.wrong_version.0 (again _ _ told), λ other. again _ _ (c.in-Err.ensures.wrong_version.1 other))
