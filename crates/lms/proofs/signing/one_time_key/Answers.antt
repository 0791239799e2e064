use Rattle.std.proofs.Common.{◌≡◌, ℕ, List, ◌++◌, subst, sym, ap, ◌∙◌}
use Rattle.std.proofs.lemmas.List.{append-nil}
use Rattle.sha2.specs.Hashers.{Holds256}
use Rattle.lms.specs.Chains.{front, joined, one_time_key_kind}
use Rattle.lms.specs.Secrets.{end_of, value_after}
use Rattle.lms.proofs.Steps.{joined_more, joined_none}
use Rattle.lms.proofs.signing.one_time_key.Goals as goal

pub loop-chain-init : goal.loop-chain-init
loop-chain-init c =
    let fronts = front c.args.key.now.id c.args.leaf one_time_key_kind in
    let none = joined_none (end_of c.args.key.now c.args.leaf) in
    subst (λ (m : List ℕ). Holds256 c.hasher_at-hasher.result m) (sym (append-nil fronts) ∙ ap (λ (l : List ℕ). fronts ++ l) (sym none)) c.hasher_at-hasher.ensures

pub loop-chain-preserved : goal.loop-chain-preserved
loop-chain-preserved c =
    let f : ℕ → List ℕ = end_of c.args.key.now c.args.leaf in
    let before = front c.args.key.now.id c.args.leaf one_time_key_kind ++ joined f c.loop-chain.chain in
    let held = c.update.ensures before c.loop-chain.invariant in
    let end : c.value_after.result ≡ f c.loop-chain.chain = c.value_after.ensures ∙ ap (value_after c.args.key.now c.args.leaf c.loop-chain.chain) c.last_step.ensures in
    let step = joined_more (front c.args.key.now.id c.args.leaf one_time_key_kind) f c.loop-chain.chain in
    subst (λ (m : List ℕ). Holds256 c.update.new.self m) (ap (λ (l : List ℕ). before ++ l) end ∙ step) held
