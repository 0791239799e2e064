use Rattle.std.proofs.Common.{◌≡◌, ◌∙◌, ◌++◌, ℕ, List, filter, ap, ap₂, subst, sym}
use Rattle.bfs_clients.specs.Tallies.{Tally, waits}
use Rattle.bfs_node.specs.Nodes.{Messages}
use Rattle.bfs_node.specs.Executing.{Runs}
use Rattle.bfs_replay.specs.Output.{answered_lines, view_lines}
use Rattle.bfs_replay.specs.Runs.{Run, TimeoutRuns, counted, higher_view}
use Rattle.bfs_replay.proofs.Running.{timeout_run}
use Rattle.bfs_replay.proofs.timeouts.tally_timeout.Goals as goal

pub returns : goal.returns
returns g c =
    let clients = c.args.clients.now in
    let replies : Messages = c.in_ok-view.replies.items in
    let view = c.in_ok-view.view in
    let run : Run = record { world = c.run.inside.cluster; waiting = c.run.inside.waiting; time = c.run.inside.time; view = c.run.inside.view } in
    let next : Run = record { world = c.settle_timeout.new.cluster; waiting = filter waits c.add_all.new.self; time = c.run.inside.time; view = c.higher_view-run-inside.result } in
    let have : c.add_all.new.self ≡ counted clients replies run.waiting = c.in_ok-add_all.ensures.ok ∙ ap (λ (those : Messages). counted clients those run.waiting) c.deref.ensures.value in
    let runs : TimeoutRuns (Runs g.G.Gate.ran c.args.means.now.executor.engine) clients run next (view_lines run.view (higher_view run.view view) ++ answered_lines (counted clients replies run.waiting)) =
    timeout_run clients run next c.settle_timeout.new.cluster view replies c.in_ok-view.ensures
    (ap₂ (λ (tallies : List Tally) (in_view : ℕ). record { world = c.settle_timeout.new.cluster; waiting = filter waits tallies; time = run.time; view = in_view }) have c.higher_view-run-inside.ensures) in
    rw (← c.run.view_is) (subst (λ (lines : List ℕ). TimeoutRuns (Runs g.G.Gate.ran c.args.means.now.executor.engine) clients run next lines)
    (sym (ap₂ (λ (now : ℕ) (tallies : List Tally). view_lines run.view now ++ answered_lines tallies) c.higher_view-run-inside.ensures have)) runs)
