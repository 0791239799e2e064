use Rattle.std.proofs.Common.{◌≡◌, ◌∙◌, None, ap}
use Rattle.replica.proofs.Documents.{unsigned_spelled}
use Rattle.replica.proofs.keys.shared_keys_at.Goals as goal

pub returns-clause-unsigned : goal.returns-clause-unsigned
returns-clause-unsigned g c =
    ap (λ keys. keys.signer) c.with_replica_signers-keys.ensures ∙ ap (λ keys. keys.signer) c.with_signers.ensures
    ∙ unsigned_spelled c.as_slice.result.now c.in_ok-parse_keys.field-0 c.in_ok-parse_keys.ensures
