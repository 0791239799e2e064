use Rattle.std.proofs.Common.{◌≡◌, ◌∙◌, ◌≤◌, ℕ, List, length, ap, ap₂, subst, sym}
use Rattle.bfs_model.specs.Server.Limits.{most_replicas}
use Rattle.bfs_log.specs.Batches.{Said}
use Rattle.bfs_log.specs.Places.{said_at}
use Rattle.bfs_log.specs.Showing.{backing, backing_said}
use Rattle.bfs_log.specs.declared.places.Place.{Place}
use Rattle.bfs_log.proofs.Rowed.{backed_there}
use Rattle.bfs_log.proofs.Shown.{few_backing}
use Rattle.bfs_log.proofs.logs.Log.backing.Goals as goal

found_is : (c : goal.In_ok-found) → c.in_ok-found.found.items ≡ backing c.args.f c.args.proposed.now c.args.self.now
found_is c =
    let at : ℕ → ℕ → Place = λ number view. record { number = number; view = view; tag = 3 } in
    c.in_ok-found.ensures ∙ ap (λ (row : List Said). backing_said c.args.f c.args.proposed.now row) c.row.ensures
    ∙ ap (λ (place : Place). backing_said c.args.f c.args.proposed.now (said_at place c.args.self.now)) (ap₂ at c.number.ensures.value c.view.ensures.value)
    ∙ backed_there c.args.f c.args.proposed.now c.args.self.now

pub returns-clause-value : goal.returns-clause-value
returns-clause-value c = found_is c

pub returns-clause-few : goal.returns-clause-few
returns-clause-few c = subst (λ n. n ≤ most_replicas) (sym (ap length (found_is c))) (few_backing c.args.f c.args.proposed.now c.args.self.now c.requires c.messages_differ.ensures.differ)
