use Rattle.std.proofs.Common.{◌<◌, ◌≤◌, length, length-set, arith, ap, sym, ◌∙◌}
use Rattle.std.proofs.lemmas.List.{take_all}
use Rattle.bfs_auth.proofs.Blocks.{masked_more}
use Rattle.bfs_auth.specs.Hmac.{masked}
use Rattle.bfs_auth.proofs.keyed_hash.mask.Goals as goal

pub loop-i-preserved : goal.loop-i-preserved
loop-i-preserved c =
    let before = c.loop-i.invariant in
    let inside : c.loop-i.i < length c.args.block.now = omega (arith, c.told-block, c.loop-i-test.true) in
    let room : c.loop-i.i < length c.loop-i.out = omega (arith, before.0, c.loop-i-test.true) in
    (length-set c.loop-i.out c.loop-i.i _ ∙ before.0, masked_more c.args.mask c.loop-i.i c.args.block.now c.loop-i.out inside room before.1)

pub returns : goal.returns
returns c =
    let done = c.loop-i.invariant in
    let whole : length c.loop-i.out ≤ c.loop-i.i = omega (arith, done.0, c.loop-i-test.false) in
    let end : length c.args.block.now ≤ c.loop-i.i = omega (arith, c.told-block, c.loop-i-test.false) in
    sym (take_all c.loop-i.i c.loop-i.out whole) ∙ done.1 ∙ ap (masked c.args.mask) (take_all c.loop-i.i c.args.block.now end)
