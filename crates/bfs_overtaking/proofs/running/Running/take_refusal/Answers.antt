-- A call that waits is refused where an earlier one holds it back.
use Rattle.std.proofs.Common.{true, false, map, sym, ◌∙◌}
use Rattle.bfs_overtaking.specs.Seen.{standing_seen}
use Rattle.bfs_overtaking.proofs.Refusing.{refused_at}
use Rattle.bfs_overtaking.proofs.running.Running.take_refusal.Goals as goal

pub returns-then-hold_back : goal.returns-then-hold_back
returns-then-hold_back c =
    let r = c.self.inside in
    sym (refused_at r.part r.tree r.calls.items c.args.self.now c.args.number c.in-Some.place c.index-call.result.now true c.self.view_is (sym c.place.ensures ∙ c.in-Some.is) c.index-call.ensures
    (sym c.if-not-is_waiting.ensures)
    (sym (c.hold_back.ensures (map standing_seen r.calls.items) c.self.invariant.claimed) ∙ c.if-hold_back.true))

pub returns : goal.returns
returns c =
    let r = c.self.inside in
    sym (refused_at r.part r.tree r.calls.items c.args.self.now c.args.number c.in-Some.place c.index-call.result.now false c.self.view_is (sym c.place.ensures ∙ c.in-Some.is) c.index-call.ensures
    (sym c.if-not-is_waiting.ensures)
    (sym (c.hold_back.ensures (map standing_seen r.calls.items) c.self.invariant.claimed) ∙ c.if-hold_back.false))
