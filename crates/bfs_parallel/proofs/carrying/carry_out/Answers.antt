-- What is split off, run and merged is carried out on its share.
use Rattle.std.proofs.Common.{IsTrue, subst}
use Rattle.std.specs.Prelude.{IsPermutation}
use Rattle.std.specs.Global.{Global}
use Rattle.std.specs.List.{All}
use Rattle.std.specs.declared.vec.Vec.{Vec}
use Rattle.std.proofs.lemmas.Result.{IfOk-weaker}
use Rattle.bfs_tree.specs.Tree.{at_home, reach_of}
use Rattle.bfs_handover.specs.Laws.Carrying.{AreCarriedOut}
use Rattle.bfs_handover.specs.Merging.{numbers_in}
use Rattle.bfs_handover.specs.Splitting.{part_with}
use Rattle.bfs_handover.specs.declared.results.NumberedReply.{NumberedReply}
use Rattle.bfs_handover.proofs.Public.{job_numbers, results_are_out, split_requests_are_carried_out}
use Rattle.bfs_workers.proofs.Public.{each_number_once}
use Rattle.bfs_parallel.proofs.Carried.{all_done, gated_replies}
use Rattle.bfs_parallel.proofs.carrying.carry_out.Goals as goal

pub merge_all-requires-clause-each : goal.merge_all-requires-clause-each
merge_all-requires-clause-each g c =
    let a = c.args in
    let part = part_with a.part.now a.footprints.now in
    subst (λ ns. IsPermutation ns (numbers_in c.in_ok-dones.dones.items)) (job_numbers a.tree.now c.split_part.new.tree part a.numbers.now c.in_ok-jobs.jobs.items c.in_ok-jobs.ensures.split.each)
    (each_number_once g.G.Gate.ran c.split_part.new.tree c.in_ok-jobs.jobs.items c.in_ok-dones.dones.items c.in_ok-dones.ensures)

pub merge_all-requires-clause-out : goal.merge_all-requires-clause-out
merge_all-requires-clause-out g c =
    let a = c.args in
    let part = part_with a.part.now a.footprints.now in
    let once = c.in_ok-dones.ensures in
    let dones = c.in_ok-dones.dones.items in
    results_are_out a.tree.now c.split_part.new.tree part a.numbers.now c.in_ok-jobs.jobs.items once.order dones c.requires.disjoint c.in_ok-jobs.ensures.split once.permuted (all_done g.G.Gate.ran c.split_part.new.tree once.order dones once.given)

pub returns-clause-done : goal.returns-clause-done
returns-clause-done g c =
    let a = c.args in
    let part = part_with a.part.now a.footprints.now in
    let once = c.in_ok-dones.ensures in
    let dones = c.in_ok-dones.dones.items in
    IfOk-weaker c.merge_all.result _ (λ (merged : Vec NumberedReply Global). AreCarriedOut (at_home a.tree.now) (at_home c.merge_all.new.tree) part a.numbers.now merged.items) (λ merged is.
    (split_requests_are_carried_out a.tree.now c.split_part.new.tree c.merge_all.new.tree part a.numbers.now c.in_ok-jobs.jobs.items once.order dones merged.items c.requires.rising c.requires.numbers
    c.in_ok-jobs.ensures.split once.permuted (all_done g.G.Gate.ran c.split_part.new.tree once.order dones once.given) is).0) c.merge_all.ensures

pub returns-clause-whole : goal.returns-clause-whole
returns-clause-whole g c =
    let a = c.args in
    let part = part_with a.part.now a.footprints.now in
    let once = c.in_ok-dones.ensures in
    let dones = c.in_ok-dones.dones.items in
    IfOk-weaker c.merge_all.result _ (λ (merged : Vec NumberedReply Global). IsTrue ((reach_of c.merge_all.new.tree).whole)) (λ merged is.
    (split_requests_are_carried_out a.tree.now c.split_part.new.tree c.merge_all.new.tree part a.numbers.now c.in_ok-jobs.jobs.items once.order dones merged.items c.requires.rising c.requires.numbers
    c.in_ok-jobs.ensures.split once.permuted (all_done g.G.Gate.ran c.split_part.new.tree once.order dones once.given) is).1) c.merge_all.ensures

pub returns-clause-ran : goal.returns-clause-ran
returns-clause-ran g c =
    IfOk-weaker c.merge_all.result _ (λ (merged : Vec NumberedReply Global). All (λ (reply : NumberedReply). g.G.Gate.ran reply.number reply.bytes.items) merged.items) (λ merged is.
    gated_replies g.G.Gate.ran c.split_part.new.tree c.merge_all.new.tree c.args.numbers.now c.in_ok-jobs.jobs.items c.in_ok-dones.dones.items merged.items c.in_ok-dones.ensures is) c.merge_all.ensures
