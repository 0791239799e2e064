use Rattle.std.proofs.Common.{◌∙◌, sym, ap}
use Rattle.bfs_auth.specs.declared.principals.Principal.{Principal}
use Rattle.bfs_pending.specs.Passed.{waits}
use Rattle.bfs_pending.proofs.Alike.{waiting_passes}
use Rattle.bfs_pending.proofs.checking.is_signed.Goals as goal

pub returns-then-waits : goal.returns-then-waits
returns-then-waits c =
    c.if-waits.true
    ∙ sym (waiting_passes c.args.keys.now c.args.waiting.now c.args.signed.now c.requires
    (ap (λ (me : Principal). waits me c.args.waiting.now c.args.signed.now) (sym c.me.ensures) ∙ sym c.waits.ensures ∙ c.if-waits.true))
