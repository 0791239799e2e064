use Rattle.std.proofs.Common.{subst}
use Rattle.bfs_service.specs.Journals.{Acts, Doing}
use Rattle.bfs_service.proofs.Doing.{acts_taken}
use Rattle.bfs_service.proofs.acting.Actor.act.Goals as goal

pub returns-then-is_taken : goal.returns-then-is_taken
returns-then-is_taken g c =
    let inside = c.self.inside in
    let before : Doing = record { acting = record { node = inside.node; sent = inside.sent.items }; body = inside.steps.items; is_spelled = inside.is_spelled } in
    let after : Doing = record { acting = record { node = c.make.new.node; sent = c.make.new.sent.items }; body = c.put_step.new.out.items; is_spelled = c.stay_spelled-is_spelled.result } in
    subst (λ (d : Doing). Acts c.args.call d after) c.self.view_is
    (acts_taken c.args.call before after c.in_ok-is_taken.ensures.made c.in_ok-put_step.ensures.fits c.in_ok-put_step.ensures.text c.stay_spelled-is_spelled.ensures)
