use Rattle.std.proofs.Common.{◌≡◌, ◌-◌, ℕ, List, drop, ap, ◌∙◌, arith}
use Rattle.std.proofs.lemmas.List.{length-drop, take_all}
use Rattle.lms.specs.Chains.{front, steps}
use Rattle.lms.proofs.private_key.PrivateKey.value_after.Goals as goal

pub returns : goal.returns
returns c =
    let key = c.args.self.now in
    let block = c.run_steps.new.block in
    let fronts = front key.id c.args.leaf c.args.chain in
    let held = drop 23 c.secret_block-block.result in
    let all : c.args.count - 0 ≡ c.args.count = omega arith in
    c.array_at.ensures ∙ take_all 32 (drop 23 block) (omega (arith, length-drop 23 block))
    ∙ c.run_steps.ensures.value
    ∙ ap (λ (l : List ℕ). steps l 0 (c.args.count - 0) held) c.secret_block-block.ensures.front
    ∙ ap (λ n. steps fronts 0 n held) all
    ∙ ap (λ (l : List ℕ). steps fronts 0 c.args.count l) c.secret_block-block.ensures.value
