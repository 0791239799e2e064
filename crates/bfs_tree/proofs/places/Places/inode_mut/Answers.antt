-- What is left in the lent inode is inserted into the finite map, where it is counted as it was.
use Rattle.std.proofs.Common.{is_some, refl, ap, sym, subst, ◌∙◌}
use Rattle.std.specs.Option.{option_copied_mut}
use Rattle.bfs_tree.specs.Maps.{map_of}
use Rattle.bfs_tree.specs.Inside.Counting.{AreCounted}
use Rattle.bfs_tree.specs.Tree.{with_inode_in}
use Rattle.bfs_tree.specs.declared.slots.Slot.{Slot}
use Rattle.bfs_tree.proofs.Laws.{insert_same}
use Rattle.bfs_tree.proofs.MapLemmas.{get-map_of, map_of-inserts}
use Rattle.bfs_tree.proofs.SlotLemmas.{home_at, no_home_at, counted_back}
use Rattle.bfs_tree.proofs.places.Places.inode_mut.Goals as goal

pub invariant_of-self-lent : goal.invariant_of-self-lent
invariant_of-self-lent c r =
    let found = sym c.get_mut.ensures.value ∙ ap option_copied_mut c.in-Some.is in
    let at = get-map_of _ _ ∙ found in
    let left = λ (slot : Slot). map_of-inserts c.self.inside.slots (c.get_mut.follows.lender slot) c.number.result slot ((c.get_mut.follows.holds slot).3 (ap is_some found)) in (
      λ w. subst (λ m. AreCounted m c.self.inside.counts) (sym (left _)) (counted_back _ _ _ w _ at c.self.invariant),
      subst (λ m. AreCounted m c.self.inside.counts) (sym (left _ ∙ insert_same _ _ _ at)) c.self.invariant,
    )

pub returns-in-Some : goal.returns-in-Some
returns-in-Some c =
    let found = sym c.get_mut.ensures.value ∙ ap option_copied_mut c.in-Some.is in
    let at = get-map_of _ _ ∙ found in
    let left = λ (slot : Slot). map_of-inserts c.self.inside.slots (c.get_mut.follows.lender slot) c.number.result slot ((c.get_mut.follows.holds slot).3 (ap is_some found)) in
    rw (← c.self.view_is, ← c.number.ensures) (
      (
        refl,
        λ w. left _ ∙ sym (ap (λ o. with_inode_in (map_of c.self.inside.slots) c.number.result o w) at),
        left _ ∙ insert_same _ _ _ at,
      ),
      record { value = c.inode_mut.ensures.value ∙ sym (home_at _ _ _ at); writes_back = tt },
    )

pub returns-in-None : goal.returns-in-None
returns-in-None c =
    let stays = ap map_of c.get_mut.follows.holds-at-none in
    let none = get-map_of c.self.inside.slots c.number.result ∙ sym c.get_mut.ensures.value ∙ ap option_copied_mut c.in-None.is in
    rw (← c.self.view_is, ← c.number.ensures) (
      (refl, λ w. stays ∙ sym (ap (λ o. with_inode_in (map_of c.self.inside.slots) c.number.result o w) none), stays),
      record { value = sym (no_home_at _ _ none); writes_back = tt },
    )
