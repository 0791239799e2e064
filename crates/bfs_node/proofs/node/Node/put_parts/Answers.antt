-- All parts fit.
use Rattle.std.proofs.Common.{◌≡◌, ℕ, ap, subst}
use Rattle.bfs_saving.specs.Certificates.{FitsStable}
use Rattle.bfs_node.proofs.SavedStates.{all_ok}
use Rattle.bfs_node.proofs.node.Node.put_parts.Goals as goal

pub returns-clause-savable : goal.returns-clause-savable
returns-clause-savable c =
    let first = c.in_ok-put_first.ensures in
    let views = c.in_ok-put_views.ensures in
    let kept = c.in_ok-put_kept.ensures in
    let node = c.args.self.now in
    all_ok c.put_own.result c.put_own.ensures.fits c.put_own.ensures.live c.put_own.ensures.kept (λ own live table. record {
      fits = (first.clients, ((((first.order, first.requests), (views.changes, views.new_view)), (subst (λ (f : ℕ). FitsStable f node.snapshots.stable) kept.faults kept.stable, kept.states)), own));
      faults_are = kept.faults;
      taken = kept.taken;
      live = live;
      kept = table;
    })
