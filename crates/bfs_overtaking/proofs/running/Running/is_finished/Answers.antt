use Rattle.std.proofs.Common.{sym, ap, ◌∙◌}
use Rattle.std.specs.List.{list_all}
use Rattle.std.proofs.lemmas.List.Folds.{list_all-map}
use Rattle.bfs_model.specs.Server.Events.{is_done}
use Rattle.bfs_overtaking.specs.Machine.{Standing, is_complete}
use Rattle.bfs_overtaking.specs.Seen.{slot_seen, standing_seen}
use Rattle.bfs_overtaking.specs.declared.calls.Call.{Call}
use Rattle.bfs_overtaking.proofs.running.Running.is_finished.Goals as goal

pub returns : goal.returns
returns c =
    c.all_are_finished.ensures
    ∙ ap (list_all (λ (call : Call). is_done (slot_seen call.state))) c.as_slice.ensures.value
    ∙ sym (list_all-map (λ (s : Standing). is_done s.slot) standing_seen c.self.inside.calls.items) ∙ ap is_complete c.self.view_is
