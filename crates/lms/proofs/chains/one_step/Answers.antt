use Rattle.std.proofs.Common.{◌≡◌, length, drop, ap, ◌∙◌, arith}
use Rattle.sha2.specs.Sha256.{sha256}
use Rattle.std.specs.Prelude.{slice_set}
use Rattle.std.proofs.lemmas.List.{length-set, take-set}
use Rattle.lms.proofs.Parts.{kept, last}
use Rattle.lms.proofs.Steps.{numbered}
use Rattle.lms.proofs.chains.one_step.Goals as goal

pub returns-clause-front : goal.returns-clause-front
returns-clause-front c =
    let block = c.args.block.now in
    let marked = slice_set block 22 c.args.number in
    let long : length marked ≡ 55 = omega (arith, length-set block 22 c.args.number) in
    kept 22 23 c.digest-value.result marked c.put_at.new.bytes (omega arith) (omega (arith, long)) c.put_at.ensures.front ∙ take-set block 22 c.args.number

pub returns-clause-value : goal.returns-clause-value
returns-clause-value c =
    let block = c.args.block.now in
    let marked = slice_set block 22 c.args.number in
    let long : length marked ≡ 55 = omega (arith, length-set block 22 c.args.number) in
    let value : drop 23 c.put_at.new.bytes ≡ c.digest-value.result =
    last 23 c.digest-value.result marked c.put_at.new.bytes (omega (arith, long)) (omega (arith, long)) c.put_at.ensures.front in
    value ∙ c.digest-value.ensures ∙ ap sha256 (c.as_slice.ensures ∙ numbered block c.args.number (omega arith))
