-- The next call joins, or no other does.
use Rattle.std.proofs.Common.{◌≡◌, true, false, [], ◌∷◌, ◌++◌, length, sym, ap, ◌∙◌, arith, drop, take}
use Rattle.std.proofs.lemmas.List.{length_push, length-map, length-take}
use Rattle.bfs_tree.specs.Tree.{at_home}
use Rattle.bfs_footprint.specs.Seen.{footprint_seen}
use Rattle.bfs_levels.specs.Planned.{calls_in}
use Rattle.bfs_levels.specs.Planning.{count_joined, parts, touches_at}
use Rattle.bfs_levels.specs.Touching.{touch_seen}
use Rattle.bfs_levels.proofs.Joined.{joins, joins_none}
use Rattle.bfs_levels.proofs.Left.{all_joined, before, count_left, footprints_left, kept_more, none_left, take-footprints}
use Rattle.bfs_levels.proofs.plans.planned.Goals.{else-loop-index-test, then-loop-index-test+in_default}
use Rattle.bfs_levels.proofs.plans.planned.Goals as goal

pub loop-index-preserved : goal.loop-index-preserved
loop-index-preserved c =
    let call = touch_seen c.touch_of-touch.result in
    let calls = calls_in c.loop-index.plan in
    let here = before c.args.part.now.batch.now.requests c.loop-index.index c.args.end c.request.result.now (let less = c.loop-index-test.true in let end = c.min-stop.ensures in omega arith) c.request.ensures in
    let more = c.in_ok-add.ensures.calls ∙ ap (λ calls. calls ++ call.footprint ∷ []) c.make_room.ensures.calls in
    let count = ap length more ∙ length_push calls call.footprint in
    let joined_one = joins c.args.rule calls call c.in-Some.level (sym c.in-Some.is ∙ c.level.ensures) in
    let next = count_left (parts c.args.rule) (at_home c.args.tree.now) c.loop-index.ordinal c.args.part.now.time (take c.args.end c.args.part.now.batch.now.requests) c.loop-index.index c.request.result.now calls call false here (λ i. record { footprint = c.touch_of-touch.ensures.footprint i; resolved = c.touch_of-touch.ensures.resolved i }) (sym joined_one.0) in
    let place = c.loop-index.invariant.place in
    let joined = c.loop-index.invariant.joined in
    record {
      plan = c.in_ok-add.ensures.plan;
      place = omega arith;
      kept = rw (more, c.next-ordinal.ensures)
          (kept_more calls _ _ _ call.footprint _ c.loop-index.invariant.kept (footprints_left (at_home c.args.tree.now) c.loop-index.ordinal c.args.part.now.time (take c.args.end c.args.part.now.batch.now.requests) c.loop-index.index c.request.result.now here) c.touch_of-touch.ensures.footprint);
      joined = rw (more, c.next-ordinal.ensures, length_push calls call.footprint) (omega arith);
    }

none_joins : (c : goal.After-drop-plan-2) → count_joined (parts c.args.rule) (calls_in c.loop-index.plan) (touches_at (at_home c.args.tree.now) c.loop-index.ordinal c.args.part.now.time (drop c.loop-index.index (take c.args.end c.args.part.now.batch.now.requests))) ≡ 0
none_joins c = elim c.loop-index-test.branch [
  | else-loop-index-test w ↦ none_left (parts c.args.rule) (at_home c.args.tree.now) c.loop-index.ordinal c.args.part.now.time (take c.args.end c.args.part.now.batch.now.requests) c.loop-index.index (calls_in c.loop-index.plan) (let stop = w.loop-index-test.false in let end = c.min-stop.ensures in let count = c.len.ensures.value in let long = length-take c.args.end c.args.part.now.batch.now.requests in omega arith)
  | then-loop-index-test+in_default w ↦
      count_left (parts c.args.rule) (at_home c.args.tree.now) c.loop-index.ordinal c.args.part.now.time (take c.args.end c.args.part.now.batch.now.requests) c.loop-index.index w.request.result.now (calls_in c.loop-index.plan) (touch_seen w.touch_of-touch.result) true (before c.args.part.now.batch.now.requests c.loop-index.index c.args.end w.request.result.now (let less = w.loop-index-test.true in let end = c.min-stop.ensures in omega arith) w.request.ensures) (λ i. record { footprint = w.touch_of-touch.ensures.footprint i; resolved = w.touch_of-touch.ensures.resolved i })
      (sym (joins_none c.args.rule (calls_in c.loop-index.plan) (touch_seen w.touch_of-touch.result) (sym w.in_default.is ∙ w.level.ensures)))
]

pub returns-clause-joined : goal.returns-clause-joined
returns-clause-joined c = all_joined (calls_in c.loop-index.plan) _ _ _ _ c.loop-index.invariant.kept c.loop-index.invariant.joined (none_joins c) ∙ take-footprints (at_home c.args.tree.now) c.args.part.now.ordinal c.args.part.now.time (drop c.args.part.now.first (take c.args.end c.args.part.now.batch.now.requests)) _

pub returns-clause-count : goal.returns-clause-count
returns-clause-count c = let none = none_joins c in let joined = c.loop-index.invariant.joined in let long = length-map c.loop-index.plan.footprints.items footprint_seen in omega arith
