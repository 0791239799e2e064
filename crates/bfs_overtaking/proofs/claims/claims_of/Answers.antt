-- Each call's claims are put behind those so far, until there are none left.
use Rattle.bfs_overtaking.proofs.Holding.{all_claimed, next_claimed}
use Rattle.bfs_overtaking.proofs.claims.claims_of.Goals as goal

pub loop-place-preserved : goal.loop-place-preserved
loop-place-preserved c =
    next_claimed c.loop-place.claims c.put.new.self c.args.footprints.now c.loop-place.place c.index-footprints-place.result c.loop-place-test.true c.index-footprints-place.is c.loop-place.invariant c.in_ok-put.ensures

pub returns : goal.returns
returns c = all_claimed c.loop-place.claims c.args.footprints.now c.loop-place.place c.loop-place-test.false c.loop-place.invariant
