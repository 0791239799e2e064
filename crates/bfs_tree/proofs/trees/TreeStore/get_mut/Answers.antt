-- What is left in the lent inode is inserted into the slots, and so into what is at home.
use Rattle.std.proofs.Common.{refl, ap, sym, ◌∙◌}
use Rattle.std.specs.Option.{option_copied_mut}
use Rattle.bfs_tree.specs.Tree.{at_home, reach_of}
use Rattle.bfs_tree.proofs.SlotLemmas.{home_back, reach_back}
use Rattle.bfs_tree.proofs.trees.TreeStore.get_mut.Goals as goal

pub returns : goal.returns
returns c =
    let after = c.inode_mut.follows in
    rw (← c.self.view_is) (
      (
        refl,
        λ w. (
          λ x e. ap at_home (after.holds w) ∙ home_back _ _ _ w (sym c.inode_mut.ensures.value ∙ ap option_copied_mut e),
          ap reach_of (after.holds w) ∙ reach_back _ _ w,
        ),
        (λ e. ap at_home after.holds-at-none, ap reach_of after.holds-at-none),
      ),
      record { value = c.inode_mut.ensures.value; writes_back = tt },
    )
