use Rattle.std.proofs.Common.{◌≡◌, List, ℕ, Vec, Global, map, subst}
use Rattle.bfs_signatures.specs.Hashes.{leaf_hash}
use Rattle.bfs_signatures.specs.Signing.{signatures_of_leaves}
use Rattle.bfs_frames.specs.Parcels.{Told, told_by}
use Rattle.bfs_frames.specs.declared.parcels.Parcel.{Parcel}
use Rattle.bfs_signing.specs.Requests.{signed_texts, told_with}
use Rattle.bfs_signing.proofs.Texts.{told_of_leaves}
use Rattle.bfs_signing.proofs.signing.Signing.signed.Goals as goal

pub returns-clause-told : goal.returns-clause-told
returns-clause-told g c =
    let key = c.args.self.now.key in
    let index = c.args.self.now.next in
    let given : List Told = map told_by c.in_ok-with_signatures.field-0.items in
    let told : List Told = map told_by c.args.parcels.items in
    let signatures : List (List ℕ) = map (λ (bytes : Vec ℕ Global). bytes.items) c.in_ok-signatures.signatures.items in
    let leaves : List (List ℕ) = c.in_ok-leaves.leaves.items in
    let is : given ≡ told_with signatures told =
    subst (λ (lent : List (Vec ℕ Global)). given ≡ told_with (map (λ (bytes : Vec ℕ Global). bytes.items) lent) told) c.deref-3.ensures.value
    c.in_ok-with_signatures.ensures in
    let made : signatures ≡ signatures_of_leaves key index leaves =
    subst (λ (lent : List (List ℕ)). signatures ≡ signatures_of_leaves key index lent) c.deref-2.ensures.value c.in_ok-signatures.ensures.signatures in
    let of_texts : leaves ≡ map leaf_hash (signed_texts told) =
    subst (λ (lent : List Parcel). leaves ≡ map leaf_hash (signed_texts (map told_by lent))) c.deref.ensures.value c.in_ok-leaves.ensures.leaves in
    told_of_leaves key index told given signatures leaves is made of_texts
