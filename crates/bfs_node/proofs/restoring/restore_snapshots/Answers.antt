-- Each state is read to the snapshot at its place.
use Rattle.bfs_node.proofs.SavedStates.{at_place, found_more, only_more, pushed}
use Rattle.bfs_node.proofs.restoring.restore_snapshots.Goals as goal

pub returns-in-Err-clause-refused : goal.returns-in-Err-clause-refused
returns-in-Err-clause-refused g c = λ kept taken is.
    let here = at_place c.args.states.now kept c.loop-state.state-index c.state-item.result c.loop-state-test.true c.state-item.is taken is in
    c.in-Err.ensures.only here.one here.taken here.state_is

pub loop-state-preserved : goal.loop-state-preserved
loop-state-preserved g c =
    let states = c.args.states.now in
    let i = c.loop-state.state-index in
    let state = c.state-item.result in
    let old = c.loop-state.kept.items in
    let put = pushed old c.push.new.self.items c.in-Ok.one _ c.is_err.result c.push.ensures.items c.is_err.ensures.negation c.if-is_err.false in
    record {
      found = found_more states old c.push.new.self.items i c.in-Ok.one state c.loop-state-test.true c.state-item.is c.loop-state.invariant.found put c.in-Ok.ensures.found;
      only = λ kept taken is.
          let here = at_place states kept i state c.loop-state-test.true c.state-item.is taken is in
          only_more kept old c.push.new.self.items i c.in-Ok.one state here (c.loop-state.invariant.only kept taken is) put (c.in-Ok.ensures.only here.one here.taken here.state_is);
    }
