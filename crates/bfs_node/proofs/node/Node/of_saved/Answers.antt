-- The parts are those of the replica that was saved.
use Rattle.std.proofs.Common.{◌∙◌, sym, ap}
use Rattle.bfs_saving.specs.Saved.{Saved}
use Rattle.bfs_node.proofs.SavedStates.{certified}
use Rattle.bfs_node.proofs.node.Node.of_saved.Goals as goal

pub with_kept-requires : goal.with_kept-requires
with_kept-requires g c =
    certified c.args.keys c.args.parts c.f.result c.parts.inside.stable c.requires (sym (ap (λ (s : Saved). s.stable) c.parts.view_is)) (c.f.ensures.value ∙ ap (λ (s : Saved). s.order.f) c.parts.view_is)
