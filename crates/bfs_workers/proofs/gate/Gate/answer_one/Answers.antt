-- What is split off alone, run and brought home is what the request gives on the whole tree.
use Rattle.std.proofs.Common.{ap, sym, ◌∙◌}
use Rattle.std.proofs.lemmas.Result.{IfOk-weaker}
use Rattle.bfs_workers.proofs.Ones.{answered_here, answered_one, can_one, found_one, out_one}
use Rattle.bfs_workers.proofs.gate.Gate.answer_one.Goals as goal

pub split_request-requires-clause-footprint : goal.split_request-requires-clause-footprint
split_request-requires-clause-footprint g c =
    found_one g.Self.Gate.ran c.args.tree.now c.args.part.now.ordinal c.args.part.now.time c.args.part.now.batch.now.requests c.args.part.now.first c.requires.formed c.requires.within c.request-request.result.now c.touch_of-footprint.result.footprint c.request-request.ensures
    c.touch_of-footprint.ensures.footprint

pub split_request-requires-clause-number : goal.split_request-requires-clause-number
split_request-requires-clause-number g c =
    can_one g.Self.Gate.ran c.args.tree.now c.args.part.now.ordinal c.args.part.now.time c.args.part.now.batch.now.requests c.args.part.now.first c.requires.formed c.requires.within c.request-request.result.now c.touch_of-footprint.result.footprint c.request-request.ensures
    c.touch_of-footprint.ensures.footprint (sym c.is_whole.ensures ∙ c.if-is_whole.false)

pub merge_one-requires : goal.merge_one-requires
merge_one-requires g c =
    out_one g.Self.Gate.ran c.args.tree.now c.args.part.now.ordinal c.args.part.now.time c.args.part.now.batch.now.requests c.args.part.now.first c.requires.formed c.requires.within c.request-request.result.now c.touch_of-footprint.result.footprint c.request-request.ensures
    c.touch_of-footprint.ensures.footprint c.split_request.new.tree c.in_ok-job.job c.in_ok-done.done c.in_ok-job.ensures.split c.in_ok-done.ensures

pub returns : goal.returns
returns g c =
    answered_one g.Self.Gate.ran c.args.tree.now c.args.part.now.ordinal c.args.part.now.time c.args.part.now.batch.now.requests c.args.part.now.first c.requires.formed c.requires.within c.request-request.result.now c.touch_of-footprint.result.footprint c.request-request.ensures
    c.touch_of-footprint.ensures.footprint c.split_request.new.tree c.in_ok-job.job c.in_ok-done.done c.in_ok-job.ensures.split c.in_ok-done.ensures c.merge_one.new.tree c.merge_one.result c.merge_one.ensures

pub returns-then-is_whole : goal.returns-then-is_whole
returns-then-is_whole g c =
    IfOk-weaker c.answer_next.result _ _
    (λ reply. answered_here g.Self.Gate.ran c.args.tree.now c.args.part.now.ordinal c.args.part.now.time c.args.part.now.batch.now.requests c.args.part.now.first c.requires.formed c.requires.within c.request-request.result.now c.touch_of-footprint.result.footprint c.request-request.ensures
    c.touch_of-footprint.ensures.footprint c.answer_next.new.store (sym c.is_whole.ensures ∙ c.if-is_whole.true) (ap (λ r. r.whole) c.answer_next.ensures.reach ∙ c.requires.whole) reply.items)
    c.answer_next.ensures.done
