-- Signatures with one root.
use Rattle.std.proofs.Common.{◌≡◌, ℕ, Bool, true, false, List, Some, None, refl}
use Rattle.std.specs.Prelude.{◌&&◌, if◌then◌else◌}
use Rattle.lms.specs.Levels.{hss_verifies}
use Rattle.bfs_signatures.specs.Signature.{is_formed, root_in, root_signature_in}
use Rattle.bfs_signatures.specs.Laws.{PassesLike}

-- what passes, by a root and a signature where there are such
alike : (passes : List ℕ → List ℕ → Bool) (formed other_formed : Bool) (root other_root signature other_signature : List ℕ)
    → (if formed then Some root else None) ≡ (if other_formed then Some other_root else None)
    → (if formed then Some signature else None) ≡ (if other_formed then Some other_signature else None)
    → (formed && passes root signature) ≡ (other_formed && passes other_root other_signature)
alike passes true true root other_root signature other_signature same_root same_signature =
    let one : root ≡ other_root = cc in
    let two : signature ≡ other_signature = cc in
    cc
alike passes true false root other_root signature other_signature same_root same_signature = cc
alike passes false true root other_root signature other_signature same_root same_signature = cc
alike passes false false root other_root signature other_signature same_root same_signature = refl

pub passes_like : PassesLike
passes_like public_key leaf other_leaf bytes other_bytes same_root same_signature =
    alike (hss_verifies public_key) (is_formed bytes) (is_formed other_bytes) (root_in leaf bytes) (root_in other_leaf other_bytes)
    (root_signature_in bytes) (root_signature_in other_bytes) same_root same_signature
