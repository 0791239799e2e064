use Rattle.std.proofs.Common.{◌≡◌, ◌<◌, ◌/◌, List, arith, ap, ◌∙◌}
use Rattle.std.proofs.lemmas.Bool.{lt-ltb}
use borrow.Author.Tests.{ltb-true}
use Rattle.lms.specs.declared.types.TreeTypes.{TreeTypes}
use Rattle.lms.specs.declared.private_key.PrivateKey.{PrivateKey}
use Rattle.lms.specs.Types.{leaf_count}
use Rattle.lms.specs.Signers.{count_below}
use Rattle.lms.proofs.Ways.{leaf_within, within_leaf}
use Rattle.lms.proofs.signer.Signer.has_index.Goals as goal

pub returns : goal.returns
returns c =
    let key = c.args.self.now in
    let index = c.args.index in
    let leaf = c.split_index-leaf.result.0 in
    let levels_are : c.deref.result.now ≡ key.below = c.deref.ensures.value ∙ ap (λ k. k.below) c.self.view_is in
    let told : leaf ≡ index / count_below key.below = c.split_index-leaf.ensures.leaf ∙ ap (λ (b : List TreeTypes). index / count_below b) levels_are in
    let first_is : c.key.result.now ≡ key.first = c.key.ensures ∙ ap (λ k. k.first) c.self.view_is in
    let leaves : c.from.result ≡ leaf_count key.first.lms = c.from.ensures ∙ c.leaf_count.ensures ∙ ap (λ (k : PrivateKey). leaf_count k.lms) first_is in (
      λ there.
          let fits : leaf < leaf_count key.first.lms = omega (arith, leaves, ltb-true leaf c.from.result there) in
          within_leaf (leaf_count key.first.lms) key.below index leaf fits told,
      λ fits. lt-ltb leaf c.from.result (omega (arith, leaves, leaf_within (leaf_count key.first.lms) key.below index leaf fits told)),
    )
