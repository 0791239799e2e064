use Rattle.std.proofs.Common.{◌≡◌, ℕ, List, ◌++◌, Some, length, sym, ap, ◌∙◌, arith}
use Rattle.std.specs.Int.{to_be_bytes, w32}
use Rattle.std.specs.List.{flat_map}
use Rattle.lms.specs.declared.place.Place.{Place}
use Rattle.lms.specs.declared.types.TreeTypes.{TreeTypes}
use Rattle.lms.specs.declared.private_key.PrivateKey.{PrivateKey}
use Rattle.lms.specs.Secrets.{signature_of}
use Rattle.lms.specs.Signers.{head_of, key_at, last_key, last_leaf, places_of}
use Rattle.lms.proofs.Ways.{places_long, put_in_order}
use Rattle.lms.proofs.signer.Signer.sign.Goals as goal

pub returns-clause-ok : goal.returns-clause-ok
returns-clause-ok c =
    let key = c.args.self.now.first in
    let below = c.args.self.now.below in
    let index = c.args.index in
    let links : List Place = c.renew.new.links.items in
    let front = to_be_bytes w32 (length below) in
    let tree : PrivateKey = c.tree_at.result.now in
    let first : PrivateKey = c.self.inside.first in
    let levels : List TreeTypes = c.deref.result.now in
    let first_is : first ≡ key = ap (λ k. k.first) c.self.view_is in
    let levels_are : levels ≡ below = c.deref.ensures.value ∙ ap (λ k. k.below) c.self.view_is in
    let made : links ≡ places_of first levels index = c.in_ok-leaf.ensures.places in
    let placed : links ≡ places_of key below index = made ∙ ap (λ (k : PrivateKey). places_of k levels index) first_is ∙ ap (λ (b : List TreeTypes). places_of key b index) levels_are in
    let end : key_at first links (length links) ≡ Some (last_key first levels index) = c.in_ok-leaf.ensures.last in
    let kept : c.deref-3.result.now ≡ links = c.deref-3.ensures.value in
    let long : c.len-2.result ≡ length links = omega (arith, c.len-2.ensures) in
    let count : c.len.result ≡ length below = omega (arith, c.len.ensures, ap length placed, places_long key below index) in
    let got : key_at first c.deref-3.result.now c.len-2.result ≡ Some tree = c.tree_at.ensures in
    let found : Some tree ≡ Some (last_key key below index) =
    sym got ∙ ap (λ (p : List Place). key_at first p c.len-2.result) kept ∙ ap (key_at first links) long ∙ end
    ∙ ap (λ (k : PrivateKey). Some (last_key k levels index)) first_is ∙ ap (λ (b : List TreeTypes). Some (last_key key b index)) levels_are in
    let at : c.in_ok-leaf.leaf ≡ last_leaf below index = c.in_ok-leaf.ensures.leaf ∙ ap (λ (b : List TreeTypes). last_leaf b index) levels_are in
    let again : c.deref-2.result.now ≡ links = c.deref-2.ensures.value in
    let counted : c.to_be_bytes.result ≡ front = c.to_be_bytes.ensures ∙ ap (to_be_bytes w32) count in
    let begun : c.extend_from_slice.new.self.items ≡ front =
    c.in_ok-extend_from_slice.ensures.items ∙ ap (λ (l : List ℕ). l ++ c.to_be_bytes.result) c.new-out.ensures.items ∙ counted in
    let heads : c.put_heads.new.out.items ≡ front ++ flat_map head_of links =
    c.in_ok-put_heads.ensures ∙ ap (λ (l : List ℕ). l ++ flat_map head_of c.deref-2.result.now) begun ∙ ap (λ (p : List Place). front ++ flat_map head_of p) again in
    let last : c.put_signature.new.out.items ≡ c.put_heads.new.out.items ++ signature_of tree c.in_ok-leaf.leaf c.args.text.now = c.in_ok-put_signature.ensures in
    put_in_order key below index c.args.text.now front c.put_heads.new.out.items c.put_signature.new.out.items links tree c.in_ok-leaf.leaf placed found at heads last
