use Rattle.std.proofs.Common.{ap, map, subst, sym}
use Rattle.bfs_frames.specs.Parcels.{told_by}
use Rattle.bfs_recovery.specs.Turns.{IsTaken, IsUntold, Living}
use Rattle.bfs_recovery.proofs.Holding.{is_taken, is_untold, on_err}
use Rattle.bfs_recovery.proofs.keeping.Keeping.take_turn.Goals as goal

pub returns-clause-taken : goal.returns-clause-taken
returns-clause-taken g c =
    let told = map told_by c.in_ok-parcels.parcels.items in
    subst (λ (l : Living). IsTaken l c.args.turn.now told (record { acting = c.take_turn.new.self.acting; held = c.keep.new.self.held; due = c.keep.new.self.due })) c.self.view_is
    (is_taken c.args.turn.now c.self.inside.service c.take_turn.new.self told c.self.inside.store c.in_ok-parcels.ensures.turned c.in_ok-parcels.ensures.journals c.deref.result.now c.keep.new.self (ap (map told_by) (sym c.deref.ensures.value)) c.in_ok-keep.ensures.kept)

pub returns-in_err-keep-clause-untold : goal.returns-in_err-keep-clause-untold
returns-in_err-keep-clause-untold g c =
    let told = map told_by c.in_ok-parcels.parcels.items in
    on_err (IsUntold c.args.self.now c.args.turn.now c.keep.new.self.held) c.from_residual-in_err-keep.result
    (subst (λ (l : Living). IsUntold l c.args.turn.now c.keep.new.self.held) c.self.view_is
    (is_untold c.args.turn.now c.self.inside.service c.take_turn.new.self told c.self.inside.store c.in_ok-parcels.ensures.turned c.in_ok-parcels.ensures.journals c.keep.new.self.held c.in_err-keep.ensures.either))
