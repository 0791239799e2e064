use Rattle.std.proofs.Common.{ap, arith, length, subst, sym, true, List, Some, ◌∙◌, ◌≡◌, []}
use Rattle.std.specs.Prelude.{slice_index_or}
use Rattle.std.specs.List.{AllZip, fold}
use Rattle.std.proofs.lemmas.Result.{on_ok_weaker}
use Rattle.bfs_node.specs.Executing.{Runs}
use Rattle.bfs_cluster.specs.Inside.Aside.{AreBack, CameOut, Goes, back}
use Rattle.bfs_cluster.specs.declared.side_by_side.Busy.{Busy}
use Rattle.bfs_cluster.proofs.Aside.{came_back, from_places, have_executed, written}
use Rattle.bfs_cluster.proofs.cluster.Cluster.execute_each.Goals as goal

pub returns : goal.returns
returns g c =
    let Executes = Runs g.G.Gate.ran c.args.executor.now.engine in
    let world = c.args.self.now in
    let before = c.in_ok-all.all.items in
    let lent = c.as_mut_slice.result.now in
    let now = c.par_for_each_mut.new.s in
    let each = from_places (CameOut Executes) lent now c.par_for_each_mut.auto.s
    (λ i d within.
    let at = (c.par_for_each_mut.ensures i d within).1 in
    subst (λ (new : Busy). CameOut Executes (slice_index_or lent i d) new) at.left (subst (λ (old : Busy). CameOut Executes old at.after_call.now) at.argument_is at.call)) in
    let is = written before now c.in_ok-all.all.len (c.par_for_each_mut.auto.s ∙ ap length c.as_mut_slice.ensures.value) (omega (arith, c.in_ok-all.all.ok.0)) in
    on_ok_weaker c.put_back.result
    (λ both.
    let came : c.put_back.new.self ≡ fold back (record world { replicas = [] }) now = came_back is c.in_ok-all.ensures.now both.1 in
    subst (Goes Executes true (record world { turn = Some 0 })) (sym came)
    (have_executed Executes world before now c.requires c.in_ok-all.ensures.all (subst (λ (all : List Busy). AllZip (CameOut Executes) all now) c.as_mut_slice.ensures.value each)
    (subst AreBack is both.0)))
    c.put_back.ensures
