use Rattle.std.proofs.Common.{◌++◌, ◌∷◌, sym, ap, ◌∙◌}
use Rattle.bfs_log.specs.Logs.{Log}
use Rattle.bfs_saving.proofs.Apart.{no_log}
use Rattle.bfs_saving.proofs.logs.log_of.Goals as goal

pub returns-then-not-may_follow : goal.returns-then-not-may_follow
returns-then-not-may_follow c =
    let rest = c.next.new.self.rest.items in
    no_log c.args.messages.items c.loop-signed.log c.in-Some.signed rest c.may_follow.result
    (c.loop-signed.invariant.left ∙ ap (λ (l : Log). c.loop-signed.yielded ++ l) c.in-Some.ensures.steps.0 ∙ ap (λ (l : Log). l ++ c.in-Some.signed ∷ rest) (sym c.loop-signed.invariant.so_far))
    c.may_follow.ensures c.if-not-may_follow.true
