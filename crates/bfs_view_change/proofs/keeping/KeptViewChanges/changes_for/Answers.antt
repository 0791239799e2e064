use Rattle.std.proofs.Common.{◌≡◌, ◌∙◌, ◌≤◌, ap, length, sym, subst, arith}
use Rattle.std.specs.List.{filter_map}
use Rattle.std.proofs.lemmas.Result.{IfOk-weaker}
use Rattle.bfs_model.specs.Server.Limits.{most_replicas}
use Rattle.bfs_view_change.specs.Changes.Keeping.{if_for}
use Rattle.bfs_view_change.specs.Inside.Near.{AreNear}
use Rattle.bfs_view_change.proofs.Kept.{few_for, near_for}
use Rattle.bfs_view_change.proofs.keeping.KeptViewChanges.changes_for.Goals as goal

pub returns-clause-near : goal.returns-clause-near
returns-clause-near c =
    IfOk-weaker c.copies_for.result (λ changes. changes.items ≡ filter_map (if_for c.args.view) c.deref.result.now) (λ changes. AreNear changes.items)
    (λ changes is. subst AreNear (sym (is ∙ ap (filter_map (if_for c.args.view)) c.deref.ensures.value)) (near_for c.args.view c.self.inside.changes.items c.self.invariant.near)) c.copies_for.ensures

pub returns-clause-few : goal.returns-clause-few
returns-clause-few c =
    IfOk-weaker c.copies_for.result (λ changes. changes.items ≡ filter_map (if_for c.args.view) c.deref.result.now) (λ changes. length changes.items ≤ most_replicas)
    (λ changes is. subst (λ n. n ≤ most_replicas) (sym (ap length (is ∙ ap (filter_map (if_for c.args.view)) c.deref.ensures.value)))
    (omega (arith, few_for c.args.view c.self.inside.changes.items, c.self.invariant.few))) c.copies_for.ensures
