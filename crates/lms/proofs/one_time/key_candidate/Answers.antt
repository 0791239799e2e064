use Rattle.std.proofs.Common.{◌≡◌, ℕ, List, ◌++◌, take, drop, subst, sym, ap, ◌∙◌, arith}
use Rattle.std.proofs.lemmas.List.{append-nil, length-drop, take_all}
use Rattle.sha2.specs.Hashers.{Holds256}
use Rattle.lms.specs.Chains.{front, joined, one_time_key_kind}
use Rattle.lms.specs.OneTime.{end_from}
use Rattle.lms.proofs.Steps.{joined_more, joined_none}
use Rattle.lms.proofs.one_time.key_candidate.Goals as goal

pub loop-chain-init : goal.loop-chain-init
loop-chain-init c =
    let fronts = front c.args.id.now c.args.leaf one_time_key_kind in
    let none = joined_none (end_from c.args.ots c.args.id.now c.args.leaf c.args.hash.now c.args.values.now) in
    subst (λ (m : List ℕ). Holds256 c.hasher_at-hasher.result m) (sym (append-nil fronts) ∙ ap (λ (l : List ℕ). fronts ++ l) (sym none)) c.hasher_at-hasher.ensures

pub loop-chain-preserved : goal.loop-chain-preserved
loop-chain-preserved c =
    let f : ℕ → List ℕ = end_from c.args.ots c.args.id.now c.args.leaf c.args.hash.now c.args.values.now in
    let before = front c.args.id.now c.args.leaf one_time_key_kind ++ joined f c.loop-chain.chain in
    let held = c.update.ensures before c.loop-chain.invariant in
    let whole : take 32 (drop 23 c.run_steps.new.block) ≡ drop 23 c.run_steps.new.block = take_all 32 (drop 23 c.run_steps.new.block) (omega (arith, length-drop 23 c.run_steps.new.block)) in
    let end : drop 23 c.run_steps.new.block ≡ f c.loop-chain.chain = cc in
    let step = joined_more (front c.args.id.now c.args.leaf one_time_key_kind) f c.loop-chain.chain in
    subst (λ (m : List ℕ). Holds256 c.update.new.self m) (ap (λ (l : List ℕ). before ++ l) (whole ∙ end) ∙ step) held
