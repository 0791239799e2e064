use Rattle.std.proofs.Common.{Result, Ok, Err, ◌++◌}
use Rattle.std.specs.Prelude.{OnErr}
use Rattle.bfs_log.specs.Logs.{as_messages}
use Rattle.bfs_order.specs.Replica.Views.{all_taken_over, as_proposals}
use Rattle.bfs_order.proofs.Entering.{over_step, grown_step}
use Rattle.bfs_order.proofs.order.Order.take_over_all.Goals as goal

whatever : {A E : Type 0} (r : Result A E) (P : Type 0) → P → OnErr r P
whatever (Ok x) P p = tt
whatever (Err e) P p = p

pub returns-in_err-append-clause-err : goal.returns-in_err-append-clause-err
returns-in_err-append-clause-err c =
    whatever c.from_residual-in_err-append.result _ (grown_step c.args.keys.now c.args.self.now c.loop-proposal.self c.take_over.new.self c.in-Some.proposal c.loop-proposal.invariant.2 c.in_ok-more.ensures.now)

pub loop-proposal-preserved : goal.loop-proposal-preserved
loop-proposal-preserved c =
    let all = all_taken_over c.args.keys.now c.args.self.now (as_proposals c.args.handed.items) in
    let step = over_step c.args.keys.now c.loop-proposal.self c.loop-proposal.handed.items c.pop.new.self.items c.in-Some.proposal c.in-Some.ensures.items c.take_over.new.self c.in_ok-more.ensures.now
    c.in_ok-more.more.items c.in_ok-more.ensures.sent all.now (c.args.sent.items ++ as_messages all.sent) c.loop-proposal.sent.items c.loop-proposal.invariant.0 c.loop-proposal.invariant.1 in
    (step.0, rw c.in_ok-append.ensures.items step.1, grown_step c.args.keys.now c.args.self.now c.loop-proposal.self c.take_over.new.self c.in-Some.proposal c.loop-proposal.invariant.2 c.in_ok-more.ensures.now)
