use Rattle.std.proofs.Common.{◌≡◌, ℕ, List, ◌++◌, sym, ap, ◌∙◌}
use Rattle.std.proofs.lemmas.List.{append-nil}
use Rattle.lms.specs.Types.{width}
use Rattle.lms.specs.Digits.{coef}
use Rattle.lms.specs.Chains.{joined}
use Rattle.lms.specs.Secrets.{signed_value, value_after}
use Rattle.lms.proofs.Steps.{joined_more, joined_none}
use Rattle.lms.proofs.signing.put_values.Goals as goal

pub loop-chain-init : goal.loop-chain-init
loop-chain-init c =
    sym (append-nil c.args.out.now.items) ∙ ap (λ (l : List ℕ). c.args.out.now.items ++ l) (sym (joined_none (signed_value c.args.key.now c.args.leaf c.args.hash.now)))

pub loop-chain-preserved : goal.loop-chain-preserved
loop-chain-preserved c =
    let f : ℕ → List ℕ = signed_value c.args.key.now c.args.leaf c.args.hash.now in
    let digit = c.digit_at-cut.ensures ∙ ap (λ (l : List ℕ). coef (width c.args.key.now.ots) l c.loop-chain.chain) c.with_checksum-digits.ensures in
    let end : c.value_after.result ≡ f c.loop-chain.chain = c.value_after.ensures ∙ ap (value_after c.args.key.now c.args.leaf c.loop-chain.chain) digit in
    let step = joined_more c.args.out.now.items f c.loop-chain.chain in
    c.in_ok-extend_from_slice.ensures.items ∙ ap (λ (l : List ℕ). l ++ c.value_after.result) c.loop-chain.invariant
    ∙ ap (λ (l : List ℕ). (c.args.out.now.items ++ joined f c.loop-chain.chain) ++ l) end ∙ step
