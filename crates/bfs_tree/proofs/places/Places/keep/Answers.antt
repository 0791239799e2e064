-- The slot is what it was, and so is the finite map.
use Rattle.std.proofs.Common.{is_some, ap, sym, subst, ◌∙◌}
use Rattle.std.specs.Option.{option_copied_mut}
use Rattle.std.specs.FinMap.{insert}
use Rattle.bfs_tree.specs.Maps.{map_of}
use Rattle.bfs_tree.specs.Inside.Counting.{AreCounted}
use Rattle.bfs_tree.specs.declared.slots.Slot.{Slot}
use Rattle.bfs_tree.proofs.Laws.{insert_same}
use Rattle.bfs_tree.proofs.MapLemmas.{get-map_of, map_of-inserts}
use Rattle.bfs_tree.proofs.SlotLemmas.{home_at}
use Rattle.bfs_tree.proofs.places.Places.keep.Goals as goal

pub keep-requires : goal.keep-requires
keep-requires c =
    let at = get-map_of _ _ ∙ sym c.get_mut.ensures.value ∙ ap option_copied_mut c.in-Some.is in
    λ x is. c.requires x (rw (← c.self.view_is, ← c.number.ensures) (home_at (map_of c.self.inside.slots) c.number.result c.in-Some.slot.now at ∙ is))

pub invariant_of-self-2 : goal.invariant_of-self-2
invariant_of-self-2 c =
    let found = sym c.get_mut.ensures.value ∙ ap option_copied_mut c.in-Some.is in
    let at = get-map_of _ _ ∙ found in
    let left = λ (slot : Slot). map_of-inserts c.self.inside.slots (c.get_mut.follows.lender slot) c.number.result slot ((c.get_mut.follows.holds slot).3 (ap is_some found)) in
    let same = left c.keep.new.self ∙ ap (λ slot. insert (map_of c.self.inside.slots) c.number.result slot) c.keep.ensures ∙ insert_same _ _ _ at in
    subst (λ m. AreCounted m c.self.inside.counts) (sym same) c.self.invariant

pub returns : goal.returns
returns c =
    let found = sym c.get_mut.ensures.value ∙ ap option_copied_mut c.in-Some.is in
    let at = get-map_of _ _ ∙ found in
    let left = λ (slot : Slot). map_of-inserts c.self.inside.slots (c.get_mut.follows.lender slot) c.number.result slot ((c.get_mut.follows.holds slot).3 (ap is_some found)) in
    left c.keep.new.self ∙ ap (λ slot. insert (map_of c.self.inside.slots) c.number.result slot) c.keep.ensures ∙ insert_same _ _ _ at ∙ c.self.view_is
