use Rattle.std.proofs.Common.{◌∙◌, sym, ap, length}
use Rattle.bfs_view_change.specs.Changes.Keeping.{changes_for}
use Rattle.bfs_view_change.proofs.Kept.{count_is}
use Rattle.bfs_view_change.proofs.keeping.KeptViewChanges.count_for.Goals as goal

pub returns : goal.returns
returns c =
    c.count_of.ensures ∙ sym (count_is c.args.view c.deref.result.now)
    ∙ ap (λ kept. length (changes_for c.args.view kept)) (ap (λ items. record { asked = c.self.inside.asked.items; changes = items; own = c.self.inside.own }) c.deref.ensures.value ∙ c.self.view_is)
