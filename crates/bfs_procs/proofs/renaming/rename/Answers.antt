-- What is planned can be carried out.
use Rattle.std.proofs.Common.{Ok, sym, ap, ◌∙◌}
use Rattle.bfs_procs.proofs.CarryingOut.{can_carry_out}
use Rattle.bfs_procs.proofs.renaming.rename.Goals as goal

pub carry_out-requires-clause-can : goal.carry_out-requires-clause-can
carry_out-requires-clause-can g c =
    can_carry_out _ _ _ _ _ _ _ _
    (sym c.in_ok-renaming.ensures.plan ∙ ap (λ plan. Ok plan) c.in-Some.is)
    (rw c.in-Some.is at c.in_ok-renaming.ensures.within)
    c.requires.fresh c.requires.known (g.met.S.Store.owns_all c.args.store.now)
