use Rattle.std.proofs.Common.{refl, sym, true, ◌∙◌, ◌≡◌}
use Rattle.std.specs.Option.{option_map}
use Rattle.std.proofs.lemmas.Result.{IfOk-weaker}
use Rattle.bfs_node.specs.Advancing.{advancing}
use Rattle.bfs_cluster.specs.World.{Replica}
use Rattle.bfs_cluster.proofs.Turns.{node_did, ready_heard}
use Rattle.bfs_cluster.proofs.Wanting.{whatever}
use Rattle.bfs_cluster.proofs.replica.Replica.execute.Goals as goal

pub returns-clause-done : goal.returns-clause-done
returns-clause-done g c =
    let old : Replica = record { heard = c.self.inside.heard; node = c.self.inside.node } in
    let heard : old.heard ≡ true = ready_heard old (rw (← c.self.view_is) at (sym c.is_ready.ensures ∙ c.if-not-is_ready.false)) in
    rw (← c.self.view_is)
    (IfOk-weaker c.advance_once.result _ _ (λ sent. node_did advancing old (record old { node = c.advance_once.new.self }) (option_map (λ all. all.items) sent) heard refl) c.advance_once.ensures.done)

pub returns-clause-ran : goal.returns-clause-ran
returns-clause-ran g c = rw (← c.self.view_is) (IfOk-weaker c.advance_once.result _ _ (λ sent runs some. runs) c.advance_once.ensures.runs)

pub returns-clause-memory : goal.returns-clause-memory
returns-clause-memory g c = whatever c.advance_once.result _ (sym c.is_ready.ensures ∙ c.if-not-is_ready.false)
