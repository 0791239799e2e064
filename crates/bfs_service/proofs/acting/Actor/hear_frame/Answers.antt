use Rattle.std.proofs.Common.{subst}
use Rattle.bfs_service.specs.Acting.{Acting, GoesOn, IsOwn}
use Rattle.bfs_service.proofs.Doing.{journals_both}
use Rattle.bfs_service.proofs.acting.Actor.hear_frame.Goals as goal

pub returns : goal.returns
returns g c = record {
  hears = (
    c.forget_before.new.self.acting,
    c.in_ok-forget_before.ensures.goes,
    subst (λ (a : Acting). GoesOn (IsOwn c.args.time) a c.advance_if_ready.new.self.acting) c.in_ok-deliver_frame.ensures.delivered c.in_ok-advance_if_ready.ensures.goes,
  );
  journals = journals_both c.args.self.now c.forget_before.new.self c.advance_if_ready.new.self c.in_ok-forget_before.ensures.journals
      (journals_both c.forget_before.new.self c.deliver_frame.new.self c.advance_if_ready.new.self c.in_ok-deliver_frame.ensures.journals c.in_ok-advance_if_ready.ensures.journals);
}
