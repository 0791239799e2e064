use Rattle.std.proofs.Common.{rules, ◌≡◌}
use Rattle.std.proofs.lemmas.Fn.{filter_same}
use Rattle.bfs_log.specs.Headers.{header}
use Rattle.bfs_log.specs.Logs.{kept_after, stays}
use Rattle.bfs_log.proofs.Keeping.{dropped}
use Rattle.bfs_log.proofs.logs.Log.drop_up_to.Goals as goal

pub invariant_of-self : goal.invariant_of-self
invariant_of-self c =
    let kept : c.retain.new.self.items ≡ kept_after c.args.number c.args.digest.now c.self.inside.messages.items =
    filter_same _ (λ m. stays c.args.number c.args.digest.now (header m)) _ (λ x b f' k. search rules) _ _ c.retain.ensures.filtered in
    rw kept (dropped c.args.number c.args.digest.now c.self.inside.messages.items c.self.inside.places c.drop_up_to.new.places c.self.invariant c.drop_up_to.ensures)

pub returns : goal.returns
returns c = rw (← c.self.view_is) (filter_same _ (λ m. stays c.args.number c.args.digest.now (header m)) _ (λ x b f' k. search rules) _ _ c.retain.ensures.filtered)
