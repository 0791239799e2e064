use Rattle.std.proofs.Common.{◌≡◌, ◌≤◌, length, sym, subst}
use Rattle.std.proofs.lemmas.List.Elements.{All-contains}
use Rattle.std.proofs.lemmas.Result.{IfOk-weaker}
use Rattle.bfs_model.specs.Server.Limits.{log_size}
use Rattle.bfs_view_change.specs.Changes.Choice.{Choice, choice}
use Rattle.bfs_view_change.specs.Changes.ViewChanges.{messages_of}
use Rattle.bfs_view_change.specs.Inside.Near.{IsNear}
use Rattle.bfs_view_change.proofs.Prepared.{near_short}
use Rattle.bfs_view_change.proofs.proposing.few_chosen.Goals as goal

pub returns-clause-few : goal.returns-clause-few
returns-clause-few c =
    IfOk-weaker c.choice_of.result (λ chosen. chosen ≡ choice (messages_of c.args.changes.now)) (λ chosen. length chosen.chosen ≤ log_size)
    (λ chosen is. subst (λ (made : Choice). length made.chosen ≤ log_size) (sym is) (near_short c.args.changes.now (λ s among. All-contains (λ s. IsNear s.message) c.args.changes.now s c.requires among))) c.choice_of.ensures
