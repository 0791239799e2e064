use Rattle.std.proofs.Common.{◌≡◌, ◌∙◌, ◌++◌, List, ℕ, filter, map, ap, ap₂, subst, sym}
use Rattle.bfs_node.specs.Nodes.{Messages}
use Rattle.bfs_model.specs.Server.Tree.{Time}
use Rattle.bfs_clients.specs.Tallies.{Tally, all_tallied, tally_of, waits}
use Rattle.bfs_node.specs.Executing.{Runs}
use Rattle.bfs_replay.specs.Inside.Results.{tally_lines}
use Rattle.bfs_replay.specs.Runs.{BlockRuns, Run, counted, unanswered}
use Rattle.bfs_replay.proofs.Lines.{begun, lines_told, told}
use Rattle.bfs_replay.proofs.Running.{block_run}
use Rattle.bfs_replay.proofs.blocks.tally_block.Goals as goal

pub returns : goal.returns
returns g c =
    let clients = c.args.clients.now in
    let block = c.args.block.now in
    let replies : Messages = c.in_ok-replies.replies.items in
    let run : Run = record { world = c.run.inside.cluster; waiting = c.run.inside.waiting; time = c.run.inside.time; view = c.run.inside.view } in
    let own : c.add_checked-2.new.self ≡ map (λ request. tally_of clients replies request.client request.timestamp) block.requests =
    c.in_ok-add_checked-2.ensures.ok
    ∙ ap₂ (λ (those : Messages) (tallies : List Tally). all_tallied clients those tallies) c.deref-4.ensures.value (c.in_ok-tallies.ensures ∙ ap (begun clients) c.requests.ensures.value)
    ∙ told clients replies block.requests in
    let waiting : c.add_checked.new.self ++ filter waits c.add_checked-2.new.self ≡ counted clients replies run.waiting ++ unanswered clients replies block.requests =
    ap₂ (λ (before tallies : List Tally). before ++ filter waits tallies) (c.in_ok-add_checked.ensures.ok ∙ ap (λ (those : Messages). counted clients those run.waiting) c.deref-2.ensures.value) own in
    let next : Run =
    record { world = c.settle_block.new.cluster; waiting = c.add_checked.new.self ++ filter waits c.add_checked-2.new.self; time = c.time-run-inside.result; view = c.run.inside.view } in
    rw (← c.run.view_is) (subst (λ (lines : List ℕ). BlockRuns (Runs g.G.Gate.ran c.args.means.now.executor.engine) clients block run next lines)
    (sym (ap tally_lines own ∙ lines_told clients replies block.requests))
    (block_run clients block run next c.settle_block.new.cluster replies c.in_ok-replies.ensures
    (ap₂ (λ (tallies : List Tally) (time : Time). record { world = c.settle_block.new.cluster; waiting = tallies; time = time; view = run.view }) waiting c.time-run-inside.ensures)))
