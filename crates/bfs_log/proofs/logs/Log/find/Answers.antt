use Rattle.std.proofs.Common.{sym, ap, ◌∙◌}
use Rattle.std.specs.Prelude.{List, find}
use Rattle.bfs_log.specs.Batches.{Said}
use Rattle.bfs_log.specs.Places.{said_at}
use Rattle.bfs_log.specs.Rows.{is_from}
use Rattle.bfs_log.specs.declared.places.Place.{Place}
use Rattle.bfs_log.proofs.Indexes.{found_at}
use Rattle.bfs_log.proofs.logs.Log.find.Goals as goal

pub returns : goal.returns
returns c =
    c.find_from.ensures
    ∙ ap (λ (row : List Said). find (is_from c.args.slot.sender) row) c.row.ensures
    ∙ ap (λ (p : Place). find (is_from c.args.slot.sender) (said_at p c.args.self.now)) c.place.ensures
    ∙ sym (found_at c.args.self.now c.args.slot.tag c.args.slot.sender c.args.slot.view c.args.slot.number)
