-- A text's signature, by the root that it tells and the signature of that.
use Rattle.std.proofs.Common.{◌≡◌, ℕ, Bool, true, false, List, Some, None, refl}
use Rattle.std.specs.Prelude.{◌&&◌, if◌then◌else◌}
use Rattle.lms.specs.Levels.{hss_verifies}
use Rattle.bfs_signatures.specs.Signature.{is_formed, is_signature_of_leaf, root_in, root_of, root_signature_in, root_signature_of}

-- what may be there is there
both : (verifies : List ℕ → List ℕ → Bool) (formed : Bool) (own_root own_signature root signature : List ℕ)
    → (if formed then Some own_root else None) ≡ Some root
    → (if formed then Some own_signature else None) ≡ Some signature
    → (formed && verifies own_root own_signature) ≡ verifies root signature
both verifies true own_root own_signature root signature has_root has_signature =
    let one : own_root ≡ root = cc in
    let two : own_signature ≡ signature = cc in
    cc
both verifies false own_root own_signature root signature has_root has_signature = absurd (cc)

neither : (formed other : Bool) (own : List ℕ) → (if formed then Some own else None) ≡ None → (formed && other) ≡ false
neither true other own none = absurd (cc)
neither false other own none = refl

there : (formed : Bool) (own signature : List ℕ) → (if formed then Some own else None) ≡ Some signature → own ≡ signature
there true own signature has = cc
there false own signature has = absurd (cc)

pub by_root : (public_key leaf bytes root signature : List ℕ) → root_of leaf bytes ≡ Some root → root_signature_of bytes ≡ Some signature
    → is_signature_of_leaf public_key leaf bytes ≡ hss_verifies public_key root signature
by_root public_key leaf bytes root signature has_root has_signature =
    both (hss_verifies public_key) (is_formed bytes) (root_in leaf bytes) (root_signature_in bytes) root signature has_root has_signature

pub no_root : (public_key leaf bytes : List ℕ) → root_of leaf bytes ≡ None → is_signature_of_leaf public_key leaf bytes ≡ false
no_root public_key leaf bytes none = neither (is_formed bytes) (hss_verifies public_key (root_in leaf bytes) (root_signature_in bytes)) (root_in leaf bytes) none

pub no_root_signature : (public_key leaf bytes : List ℕ) → root_signature_of bytes ≡ None → is_signature_of_leaf public_key leaf bytes ≡ false
no_root_signature public_key leaf bytes none =
    neither (is_formed bytes) (hss_verifies public_key (root_in leaf bytes) (root_signature_in bytes)) (root_signature_in bytes) none

pub root_signature_is : (bytes signature : List ℕ) → root_signature_of bytes ≡ Some signature → root_signature_in bytes ≡ signature
root_signature_is bytes signature has = there (is_formed bytes) (root_signature_in bytes) signature has
