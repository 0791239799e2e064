use Rattle.std.proofs.Common.{ℕ, List, ◌++◌, length, ◌∙◌, ap, arith}
use Rattle.std.specs.Int.{to_be_bytes, w32}
use Rattle.lms.proofs.Parts.{front_of, last}
use Rattle.lms.proofs.chains.chain_block.Goals as goal

pub returns-clause-front : goal.returns-clause-front
returns-clause-front c =
    let number = c.to_be_bytes.ensures in
    let chain = c.to_be_bytes-2.ensures in
    front_of c.args.id.now c.to_be_bytes.result c.to_be_bytes-2.result c.args.value.now c.put_at.new.bytes c.put_at-2.new.bytes c.put_at-3.new.bytes c.put_at-4.new.bytes
    (omega arith) (ap length number) (ap length chain) (omega arith) c.put_at.ensures.front c.put_at-2.ensures.front c.put_at-3.ensures.front c.put_at-4.ensures.front
    ∙ ap (λ (l : List ℕ). c.args.id.now ++ (l ++ c.to_be_bytes-2.result)) number
    ∙ ap (λ (l : List ℕ). c.args.id.now ++ (to_be_bytes w32 c.args.number ++ l)) chain

pub returns-clause-value : goal.returns-clause-value
returns-clause-value c = last 23 c.args.value.now c.put_at-3.new.bytes c.put_at-4.new.bytes (omega arith) (omega arith) c.put_at-4.ensures.front
