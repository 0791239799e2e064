use Rattle.std.proofs.Common.{◌∙◌, List, ℕ, ap}
use Rattle.lms.specs.Levels.{hss_public_key_bytes}
use Rattle.bfs_signatures.specs.Signature.{is_signature_of_leaf}
use Rattle.bfs_auth.proofs.checker.Checker.is_signature.Goals as goal

pub returns : goal.returns
returns g c =
    c.is_signature_of_leaf.ensures ∙ ap (λ (key : List ℕ). is_signature_of_leaf key c.leaf_hash.result c.args.signature.now) c.to_bytes.ensures
    ∙ ap (λ (leaf : List ℕ). is_signature_of_leaf (hss_public_key_bytes c.args.public_key.now) leaf c.args.signature.now) c.leaf_hash.ensures
