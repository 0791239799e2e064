use Rattle.std.proofs.Common.{ap, arith, length, map, subst, List, ◌∙◌, []}
use Rattle.std.specs.Prelude.{slice_index_or}
use Rattle.std.specs.List.{AllZip}
use Rattle.std.proofs.lemmas.Result.{on_ok_weaker}
use Rattle.bfs_cluster.specs.Inside.Aside.{AreBack, CameTo}
use Rattle.bfs_cluster.specs.Inside.Requests.{with_requests}
use Rattle.bfs_cluster.specs.World.{Replica}
use Rattle.bfs_cluster.specs.declared.side_by_side.Busy.{Busy}
use Rattle.bfs_cluster.proofs.Aside.{came_back, from_places, have_received, written}
use Rattle.bfs_cluster.proofs.cluster.Cluster.take_requests_each.Goals as goal

pub returns : goal.returns
returns g c =
    let messages = c.args.messages.now in
    let before = c.in_ok-all.all.items in
    let lent = c.as_mut_slice.result.now in
    let now = c.par_for_each_mut.new.s in
    let each = from_places (CameTo messages) lent now c.par_for_each_mut.auto.s
    (λ i d within.
    let at = (c.par_for_each_mut.ensures i d within).1 in
    subst (λ (new : Busy). CameTo messages (slice_index_or lent i d) new) at.left (subst (λ (old : Busy). CameTo messages old at.after_call.now) at.argument_is at.call)) in
    let is = written before now c.in_ok-all.all.len (c.par_for_each_mut.auto.s ∙ ap length c.as_mut_slice.ensures.value) (omega (arith, c.in_ok-all.all.ok.0)) in
    on_ok_weaker c.put_back.result
    (λ both. came_back is c.in_ok-all.ensures.now both.1
    ∙ have_received messages before now [] c.args.self.now (subst (λ (all : List Busy). AllZip (CameTo messages) all now) c.as_mut_slice.ensures.value each)
    (subst AreBack is both.0) c.in_ok-all.ensures.sent
    ∙ ap (λ (replicas : List Replica). record c.args.self.now { replicas = map (with_requests messages) replicas }) c.in_ok-all.ensures.all)
    c.put_back.ensures
