use Rattle.std.proofs.Common.{◌∙◌, sym, ap, subst}
use Rattle.std.specs.Prelude.{nat_le, ◌*◌}
use Rattle.bfs_order.specs.Replica.Checkpoints.{OneMoreIsTooFew}
use Rattle.bfs_order.specs.Replica.States.{State}
use Rattle.bfs_order.proofs.Nearly.{nearly_stable}
use Rattle.bfs_order.proofs.order.Order.is_nearly_stable.Goals as goal

pub returns-clause-only : goal.returns-clause-only
returns-clause-only c few =
    let state : State = record {
      f = c.self.inside.f;
      me = c.self.inside.me;
      view = c.self.inside.view;
      asked = c.self.inside.asked;
      low = c.self.inside.low;
      min_s = c.self.inside.min_s;
      handed = c.self.inside.handed;
      last = c.self.inside.last;
      log = c.self.inside.log;
    } in
    subst (λ (s : State). OneMoreIsTooFew s c.args.number c.args.digest.now) c.self.view_is
    (nearly_stable state c.args.number c.args.digest.now (sym (ap (nat_le (2 * c.self.inside.f)) c.checkpoint_votes.ensures) ∙ few))
