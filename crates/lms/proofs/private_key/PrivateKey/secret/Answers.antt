use Rattle.std.proofs.Common.{drop, ◌∙◌, arith}
use Rattle.std.proofs.lemmas.List.{length-drop, take_all}
use Rattle.lms.proofs.private_key.PrivateKey.secret.Goals as goal

pub returns : goal.returns
returns c =
    let block = c.secret_block.result in
    c.array_at.ensures ∙ take_all 32 (drop 23 block) (omega (arith, length-drop 23 block)) ∙ c.secret_block.ensures.value
