use Rattle.std.proofs.Common.{◌∙◌, map, sym, ap}
use Rattle.std.proofs.lemmas.List.{map-id}
use Rattle.bfs_clients.specs.Tallies.{tallied_by}
use Rattle.bfs_clients.proofs.Places.{one_more}
use Rattle.bfs_clients.proofs.tallies.Tallies.add_checked.Goals as goal

pub loop-number-init : goal.loop-number-init
loop-number-init c = sym (map-id c.args.self.now)

pub loop-number-preserved : goal.loop-number-preserved
loop-number-preserved c =
    let signed = c.index-messages-number.result in
    c.in_ok-count.ensures.ok ∙ ap (map (λ tally. tallied_by c.args.clients.now tally signed)) c.loop-number.invariant
    ∙ one_more c.args.clients.now c.args.messages.now c.loop-number.number signed c.loop-number-test.true c.index-messages-number.is c.args.self.now
