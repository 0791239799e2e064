-- What is left in the lent inode is put in its place.
use Rattle.std.proofs.Common.{refl, ap, sym, ◌∙◌}
use Rattle.bfs_tree.specs.Tree.{at_home, lent}
use Rattle.bfs_handover.specs.Loans.{put_in, reach_with}
use Rattle.bfs_handover.proofs.LoanLemmas.{get_owned, put_inserts, ids_after}
use Rattle.bfs_handover.proofs.share.ShareStore.get_mut.Goals as goal

pub returns : goal.returns
returns c =
    let home = c.args.self.now.home.now in
    let own = c.args.self.now.own in (
      (
        refl,
        λ w. (
          λ x e. ap (λ own. put_in own (at_home home)) ((c.get_mut.follows.holds w).0 x e) ∙ put_inserts own (at_home home) c.args.id w c.requires,
          ap (reach_with (lent home) (at_home home)) (ids_after _ _ _ w _ (c.get_mut.follows.holds w)),
        ),
        (λ e. ap (λ own. put_in own (at_home home)) c.get_mut.follows.holds-at-none, ap (λ own. reach_with (lent home) (at_home home) (Rattle.bfs_handover.specs.Loans.ids_of own)) c.get_mut.follows.holds-at-none),
      ),
      record { value = c.get_mut.ensures.value ∙ sym (get_owned own (at_home home) c.args.id c.requires); writes_back = tt },
    )
