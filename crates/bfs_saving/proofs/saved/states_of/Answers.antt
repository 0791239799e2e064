use Rattle.std.proofs.Common.{◌+◌, ◌-◌, arith}
use Rattle.std.proofs.lemmas.Result.{err_from_is_err_and}
use Rattle.bfs_model.proofs.Public.{turn, turns_done}
use Rattle.bfs_saving.specs.Saved.{state_from}
use Rattle.bfs_saving.proofs.Loops.{fails}
use Rattle.bfs_saving.proofs.saved.states_of.Goals as goal

pub returns-in_err-read_state : goal.returns-in_err-read_state
returns-in_err-read_state c =
    let p = err_from_is_err_and c.from_residual.result c.from_residual.ensures.1 in
    rw (p.1, p.2) (fails state_from c.in_err-read_state.field-0.0 (c.args.count - c.loop-state._state) (c.args.count - (c.loop-state._state + 1)) c.loop-state.reader c.loop-state.states.items _ (omega arith) c.in_err-read_state.ensures c.loop-state.invariant)

pub loop-state-preserved : goal.loop-state-preserved
loop-state-preserved c =
    let e = c.in_ok-push.ensures.items in
    let x = c.in_ok-read_state.field-0 in
    rw e (turn state_from (c.args.count - c.loop-state._state) (c.args.count - (c.loop-state._state + 1)) c.loop-state.reader c.loop-state.states.items x c.read_state.new.reader _ (omega arith) c.in_ok-read_state.ensures c.loop-state.invariant)

pub returns : goal.returns
returns c = turns_done state_from (c.args.count - c.loop-state._state) 0 c.loop-state.reader c.loop-state.states.items _ (omega arith) c.loop-state.invariant
