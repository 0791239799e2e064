use Rattle.std.proofs.Common.{Bor, ℕ, List, map}
use Rattle.bfs_recovery.specs.Holding.{Held}
use Rattle.bfs_recovery.proofs.Bodies.{not_replayed, recovered}
use Rattle.bfs_recovery.proofs.recovering.recover.Goals as goal

pub returns-in-Ok-clause-held : goal.returns-in-Ok-clause-held
returns-in-Ok-clause-held g c =
    let held : Held = record { text = c.args.text.now; bodies = map (λ (body : Bor (List ℕ)). body.now) c.args.bodies.now } in
    recovered c.args.keys held c.in_ok-node.node c.replay_all.new.node c.in_ok-node.ensures.only c.in-Ok.ensures

pub returns-in-Err-clause-held : goal.returns-in-Err-clause-held
returns-in-Err-clause-held g c =
    let held : Held = record { text = c.args.text.now; bodies = map (λ (body : Bor (List ℕ)). body.now) c.args.bodies.now } in
    not_replayed c.args.keys held c.in_ok-node.node c.replay_all.new.node c.in-Err.error c.from.result c.in_ok-node.ensures.only c.in-Err.ensures c.from.ensures
