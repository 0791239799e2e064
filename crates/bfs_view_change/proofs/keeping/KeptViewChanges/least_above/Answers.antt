use Rattle.std.proofs.Common.{◌∙◌, ◌++◌, ◌∷◌, [], ℕ, Option, Some, take, get_or, cond, Bool, nat_lt, min, arith, sym, ap}
use Rattle.std.specs.List.{filter}
use Rattle.std.specs.Option.{unwrap_or}
use Rattle.std.proofs.lemmas.Bool.{le-ltb, lt-ltb}
use Rattle.std.proofs.lemmas.List.{append-nil}
use Rattle.std.proofs.lemmas.List.Elements.{filter_more}
use Rattle.bfs_view_change.specs.Changes.Keeping.{least_of}
use Rattle.bfs_view_change.proofs.Folds.{least_of_more}
use Rattle.bfs_view_change.proofs.keeping.KeptViewChanges.least_above.Goals as goal
use Rattle.bfs_view_change.proofs.keeping.KeptViewChanges.least_above.Goals.{then-view-asked, else-view-asked}

pub loop-asked-preserved : goal.loop-asked-preserved
loop-asked-preserved c =
    let view = get_or c.deref-asked-items.result.now c.loop-asked.asked-index 0 in
    let so_far = filter (nat_lt c.args.view) (take c.loop-asked.asked-index c.deref-asked-items.result.now) in
    let more = filter_more (nat_lt c.args.view) c.deref-asked-items.result.now c.loop-asked.asked-index 0 c.loop-asked-test.true in
    elim c.if-view-asked.branch [
      | then-view-asked w ↦ w.least-is ∙ ap Some (w.min.ensures ∙ ap (λ first. min first view) (w.unwrap_or.ensures ∙ ap (λ (least : Option ℕ). unwrap_or least view) c.loop-asked.invariant))
          ∙ least_of_more so_far view ∙ sym (ap least_of (more ∙ ap (λ (b : Bool). so_far ++ cond b (view ∷ []) []) (lt-ltb c.args.view view w.if-view-asked.true)))
      | else-view-asked w ↦ w.least-is ∙ c.loop-asked.invariant ∙ sym (ap least_of (more ∙ ap (λ (b : Bool). so_far ++ cond b (view ∷ []) []) (le-ltb c.args.view view (omega (arith, w.if-view-asked.false))) ∙ append-nil so_far))
    ]
