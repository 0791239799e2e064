-- Each level asks for what the group has, and leaves it on its way.
use Rattle.std.proofs.Common.{◌≡◌, ◌+◌, ◌<◌, ◌≤◌, ◌++◌, [], ◌∷◌, List, length, map, ap, sym, subst, ◌∙◌, rules, arith}
use Rattle.std.specs.Prelude.{replicate}
use Rattle.std.proofs.lemmas.List.{length-append, length-map, length-replicate}
use Rattle.std.proofs.lemmas.List.Elements.{All-weaker}
use Rattle.bfs_model.specs.Server.Limits.{most_reply_bytes}
use Rattle.bfs_handover.specs.declared.results.NumberedReply.{NumberedReply}
use Rattle.bfs_footprint.specs.Seen.{footprint_seen}
use Rattle.bfs_footprint.specs.declared.footprints.Footprint as declared
use Rattle.bfs_levels.specs.Requests.{requests_from}
use Rattle.bfs_model.specs.Server.Serial.{inodes_after, replies_to}
use Rattle.bfs_tree.specs.Tree.{at_home}
use Rattle.bfs_handover.specs.Laws.Carrying.{AreCarriedOut}
use Rattle.bfs_handover.specs.Splitting.{part_of}
use Rattle.bfs_parallel.specs.Levels.{all_put}
use Rattle.bfs_parallel.specs.Ran.{AllRan}
use Rattle.bfs_parallel.proofs.Levelled.{IsOnItsWay, IsReady, arrives, further, none_left, placed, ready, sets_out, IsPlaced}
use Rattle.bfs_parallel.proofs.Places.{put_behind, put_from}
use Rattle.bfs_parallel.proofs.levels.execute_levels.Goals.{After-as_slice-in-loop-numbers-2, In_ok-carried}
use Rattle.bfs_parallel.proofs.levels.execute_levels.Goals as goal

pub loop-numbers-init : goal.loop-numbers-init
loop-numbers-init g c =
    let a = c.args in
    let part = a.part.now in
    let items = a.levelled.group.now.footprints.items in
    let gives : c.into_iter-numbers-iterator.result.rest.items ≡ a.levelled.levels.items = search rules in
    record {
      whole = c.requires.whole;
      texts = replicate (length items) [];
      behind = c.in_ok-add_places.ensures.ok ∙ ap (λ n. a.replies.now ++ replicate n []) c.len.ensures;
      way = rw gives
          (sets_out g.G.Gate.ran (at_home a.tree.now) part.first part.ordinal part.time part.batch.now.requests (map footprint_seen items) a.levelled.group.now.level_of.items (replicate (length items) []) a.levelled.levels.items c.requires.group c.requires.levels
          (length-replicate (length items) [] ∙ sym (length-map items footprint_seen)));
    }

-- the group is on its way, with the level whose turn it is before the others that are left
way : (g : _) (c : After-as_slice-in-loop-numbers-2 g)
    → IsOnItsWay g.G.Gate.ran (at_home c.args.tree.now) c.args.part.now.first c.args.part.now.ordinal c.args.part.now.time c.args.part.now.batch.now.requests (map footprint_seen c.args.levelled.group.now.footprints.items) c.args.levelled.group.now.level_of.items (at_home c.loop-numbers.tree) c.loop-numbers.invariant.texts (c.in-Some.numbers ∷ c.next.new.self.rest.items)
way g c =
    let a = c.args in
    subst (λ left. IsOnItsWay g.G.Gate.ran (at_home a.tree.now) a.part.now.first a.part.now.ordinal a.part.now.time a.part.now.batch.now.requests (map footprint_seen a.levelled.group.now.footprints.items) a.levelled.group.now.level_of.items (at_home c.loop-numbers.tree) c.loop-numbers.invariant.texts left) c.in-Some.ensures.steps.0 c.loop-numbers.invariant.way

-- what that level asks for
level : (g : _) (c : After-as_slice-in-loop-numbers-2 g)
    → IsReady g.G.Gate.ran (at_home c.args.tree.now) c.args.part.now.first c.args.part.now.ordinal c.args.part.now.time c.args.part.now.batch.now.requests (map footprint_seen c.args.levelled.group.now.footprints.items) c.args.levelled.group.now.level_of.items (at_home c.loop-numbers.tree) c.loop-numbers.invariant.texts c.in-Some.numbers.items
level g c =
    let a = c.args in
    ready g.G.Gate.ran (at_home a.tree.now) a.part.now.first a.part.now.ordinal a.part.now.time a.part.now.batch.now.requests (map footprint_seen a.levelled.group.now.footprints.items) a.levelled.group.now.level_of.items (at_home c.loop-numbers.tree) c.loop-numbers.invariant.texts c.in-Some.numbers c.next.new.self.rest.items (way g c)

pub carry_out-requires-clause-footprints : goal.carry_out-requires-clause-footprints
carry_out-requires-clause-footprints g c κs within = rw (c.as_slice-in-loop-numbers.ensures.value, c.as_slice-in-loop-numbers-2.ensures.value) (level g (goal.at.carry_out-requires-clause-footprints g c).After-as_slice-in-loop-numbers-2).found

pub carry_out-requires-clause-numbers : goal.carry_out-requires-clause-numbers
carry_out-requires-clause-numbers g c κs within = rw (c.as_slice-in-loop-numbers.ensures.value, c.as_slice-in-loop-numbers-2.ensures.value) (level g (goal.at.carry_out-requires-clause-numbers g c).After-as_slice-in-loop-numbers-2).can

pub carry_out-requires-clause-disjoint : goal.carry_out-requires-clause-disjoint
carry_out-requires-clause-disjoint g c κs within = rw (c.as_slice-in-loop-numbers.ensures.value, c.as_slice-in-loop-numbers-2.ensures.value) (level g (goal.at.carry_out-requires-clause-disjoint g c).After-as_slice-in-loop-numbers-2).apart

pub carry_out-requires-clause-rising : goal.carry_out-requires-clause-rising
carry_out-requires-clause-rising g c κs within = rw c.as_slice-in-loop-numbers-2.ensures.value (level g (goal.at.carry_out-requires-clause-rising g c).After-as_slice-in-loop-numbers-2).rise

-- the level whose turn it was has been carried out
carried : (g : _) (c : In_ok-carried g)
    → AreCarriedOut (at_home c.loop-numbers.tree) (at_home c.carry_out.new.tree) (part_of c.args.part.now.first c.args.part.now.ordinal c.args.part.now.time c.args.part.now.batch.now.requests (map footprint_seen c.args.levelled.group.now.footprints.items)) c.in-Some.numbers.items c.in_ok-carried.carried.items
carried g c =
    let a = c.args in
    let first = a.part.now.first in
    let batch = a.part.now.batch.now.requests in
    let home = at_home c.loop-numbers.tree in
    let after = at_home c.carry_out.new.tree in
    let replies = c.in_ok-carried.carried.items in
    subst (λ ns. AreCarriedOut home after (part_of first a.part.now.ordinal a.part.now.time batch (map footprint_seen a.levelled.group.now.footprints.items)) ns replies) c.as_slice-in-loop-numbers-2.ensures.value
    (subst (λ (items : List declared.Footprint). AreCarriedOut home after (part_of first a.part.now.ordinal a.part.now.time batch (map footprint_seen items)) c.as_slice-in-loop-numbers-2.result.now replies) c.as_slice-in-loop-numbers.ensures.value c.in_ok-carried.ensures.done)

pub put_all-requires : goal.put_all-requires
put_all-requires g c =
    let a = c.args in
    let fs = map footprint_seen a.levelled.group.now.footprints.items in
    let all = c.loop-numbers.replies in
    let long : length all ≡ a.part.now.first + length fs =
    ap length c.loop-numbers.invariant.behind ∙ length-append a.replies.now c.loop-numbers.invariant.texts ∙ (let before = c.requires.placed in let behind = c.loop-numbers.invariant.way.under.many_texts in omega arith) in
    All-weaker (IsPlaced a.part.now.first (length fs)) (λ (reply : NumberedReply). (reply.number < length all) × (length reply.bytes.items ≤ most_reply_bytes)) (λ reply is. (let less = is.1 in omega arith, is.2)) c.in_ok-carried.carried.items
    (placed g.G.Gate.ran (at_home a.tree.now) a.part.now.first a.part.now.ordinal a.part.now.time a.part.now.batch.now.requests fs a.levelled.group.now.level_of.items (at_home c.loop-numbers.tree) c.loop-numbers.invariant.texts c.in-Some.numbers c.next.new.self.rest.items
    (way g (goal.at.put_all-requires g c).After-as_slice-in-loop-numbers-2) (at_home c.carry_out.new.tree) c.in_ok-carried.carried.items (carried g (goal.at.put_all-requires g c).In_ok-carried) c.in_ok-carried.ensures.ran)

pub loop-numbers-preserved : goal.loop-numbers-preserved
loop-numbers-preserved g c =
    let a = c.args in
    let part = a.part.now in
    let m = at_home a.tree.now in
    let fs = map footprint_seen a.levelled.group.now.footprints.items in
    let levels = a.levelled.group.now.level_of.items in
    let batch = part.batch.now.requests in
    let home = at_home c.loop-numbers.tree in
    let texts = c.loop-numbers.invariant.texts in
    let rest = c.next.new.self.rest.items in
    let on = way g (goal.at.loop-numbers-preserved g c).After-as_slice-in-loop-numbers-2 in
    let after = at_home c.carry_out.new.tree in
    let replies = c.in_ok-carried.carried.items in
    let done = carried g (goal.at.loop-numbers-preserved g c).In_ok-carried in
    let ran = c.in_ok-carried.ensures.ran in
    let there = placed g.G.Gate.ran m part.first part.ordinal part.time batch fs levels home texts c.in-Some.numbers rest on after replies done ran in
    record {
      whole = c.in_ok-carried.ensures.whole;
      texts = put_from part.first replies texts;
      behind = c.put_all.ensures ∙ ap (all_put replies) c.loop-numbers.invariant.behind
          ∙ put_behind a.replies.now part.first replies texts c.requires.placed (All-weaker (IsPlaced part.first (length fs)) (λ (reply : NumberedReply). part.first ≤ reply.number) (λ reply is. is.0) replies there);
      way = further g.G.Gate.ran m part.first part.ordinal part.time batch fs levels home texts c.in-Some.numbers rest on after replies done ran;
    }

pub returns : goal.returns
returns g c =
    let a = c.args in
    let part = a.part.now in
    let m = at_home a.tree.now in
    let first = part.first in
    let batch = part.batch.now.requests in
    let items = a.levelled.group.now.footprints.items in
    let fs = map footprint_seen items in
    let home = at_home c.loop-numbers.tree in
    let texts = c.loop-numbers.invariant.texts in
    let rest = c.loop-numbers.numbers-iterator.rest in
    let over : rest.items ≡ [] = none_left rest.items rest.len rest.ok.0 c.in-None.ensures.steps.0 in
    let way = subst (λ left. IsOnItsWay g.G.Gate.ran m first part.ordinal part.time batch fs a.levelled.group.now.level_of.items home texts left) over c.loop-numbers.invariant.way in
    let long : length fs ≡ length items = length-map items footprint_seen in
    let end = subst (λ n. (home ≡ inodes_after m part.ordinal part.time (requests_from first n batch)) × (texts ≡ replies_to m part.ordinal part.time (requests_from first n batch)) × AllRan g.G.Gate.ran first (requests_from first n batch) texts) long
    (arrives g.G.Gate.ran m first part.ordinal part.time batch fs a.levelled.group.now.level_of.items home texts way) in
    record {
      some = c.requires.some;
      within = (let within = c.requires.group.within in omega arith);
      inodes = end.0;
      whole = c.loop-numbers.invariant.whole;
      replies = c.loop-numbers.invariant.behind ∙ ap (λ others. a.replies.now ++ others) end.1;
      gated = subst (AllRan g.G.Gate.ran first (requests_from first (length items) batch)) end.1 end.2;
    }
