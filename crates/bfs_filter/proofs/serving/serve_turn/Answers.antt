use Rattle.std.proofs.Common.{List, refl, subst}
use Rattle.bfs_frames.specs.Parcels.{answer_text}
use Rattle.bfs_frames.specs.declared.parcels.Parcel.{Parcel}
use Rattle.bfs_filter.specs.Output.{AppendsFront}
use Rattle.std.proofs.lemmas.Result.{err_from_is_err_and}
use Rattle.bfs_filter.specs.declared.error.ServeError.TheVariants as errors
use Rattle.bfs_filter.proofs.Folding.{refused, stops_at}
use Rattle.bfs_filter.proofs.serving.serve_turn.Goals as goal

pub returns-in_err-parcels-clause-stopped : goal.returns-in_err-parcels-clause-stopped
returns-in_err-parcels-clause-stopped g c =
    let p = err_from_is_err_and c.from_residual-in_err-parcels.result c.from_residual-in_err-parcels.ensures.1 in
    let came = rw c.in-Some.is at c.in_ok-turn.ensures.turn in
    rw (p.1, p.2)
    (stops_at g.M.Machine.takes c.args.limits.now _ _ _ (refused g.M.Machine.takes c.args.limits.now c.in_err-parcels.field-0.0 _ _
    (record { turn = c.in-Some.turn; came = came; unwritten = refl })))

pub returns-clause-stopped : goal.returns-clause-stopped
returns-clause-stopped g c =
    let came = rw c.in-Some.is at c.in_ok-turn.ensures.turn in
    let old = g.W.Write.contents c.args.writer.now in
    let new = g.W.Write.contents c.tell.new.writer in
    let cut = subst (λ (parcels : List Parcel). AppendsFront old new (answer_text parcels)) c.deref.ensures.value c.in-Err.ensures.front in
    stops_at g.M.Machine.takes c.args.limits.now (errors.Write c.in-Err.error) _ _
    (record { turn = c.in-Some.turn; came = came; parcels = c.in_ok-parcels.parcels.items; taken = c.in_ok-parcels.ensures; cut = cut })
