-- The slot that was there goes, and the new one is inserted into the finite map; the counts follow.
use Rattle.std.proofs.Common.{◌≡◌, ℕ, IsTrue, Some, None, true≢false, is_some, ap, sym, ◌∙◌, arith}
use Rattle.std.specs.FinMap.{contains_key, get, insert}
use Rattle.std.specs.Option.{option_copied_mut}
use Rattle.bfs_tree.specs.Maps.{map_of}
use Rattle.bfs_tree.specs.Slots.{Slots}
use Rattle.bfs_tree.specs.declared.slots.Slot.{Slot}
use Rattle.bfs_tree.proofs.MapLemmas.{get-map_of, map_of-inserts}
use Rattle.bfs_tree.proofs.SlotLemmas.{few_counted, counted_insert}
use Rattle.bfs_tree.proofs.places.Places.replace.Goals as goal

pub prove-unreachable-requires : goal.prove-unreachable-requires
prove-unreachable-requires c = omega (arith, c.if-prove.true, c.len.ensures.len, (few_counted _ _ c.len.ensures.ordered c.self.invariant).0)

pub prove-unreachable-requires-2 : goal.prove-unreachable-requires-2
prove-unreachable-requires-2 c = omega (arith, c.if-prove-2.true, c.len-2.ensures.len, (few_counted _ _ c.len.ensures.ordered c.self.invariant).1)

pub without-self-inside-requires : goal.without-self-inside-requires
without-self-inside-requires c =
    let was = get-map_of _ _ ∙ sym c.get_mut.ensures.value ∙ ap option_copied_mut c.in-Some.is ∙ ap Some (sym c.replace-was.ensures.value) in
    (counted_insert _ _ _ _ _ _ was c.self.invariant c.with-with_both.ensures).0

pub invariant_of-self : goal.invariant_of-self
invariant_of-self c =
    let found = sym c.get_mut.ensures.value ∙ ap option_copied_mut c.in-Some.is in
    let was = get-map_of _ _ ∙ found ∙ ap Some (sym c.replace-was.ensures.value) in
    let left = λ (slot : Slot). map_of-inserts c.self.inside.slots (c.get_mut.follows.lender slot) c.number.result slot ((c.get_mut.follows.holds slot).3 (ap is_some found)) in
    rw (left c.replace-was.new.dest, c.replace-was.ensures.after) ((counted_insert _ _ _ _ _ _ was c.self.invariant c.with-with_both.ensures).1 _ c.without-self-inside.ensures)

pub returns-in-Some-clause-value : goal.returns-in-Some-clause-value
returns-in-Some-clause-value c =
    rw (← c.self.view_is, ← c.number.ensures) (sym (get-map_of _ _ ∙ sym c.get_mut.ensures.value ∙ ap option_copied_mut c.in-Some.is ∙ ap Some (sym c.replace-was.ensures.value)))

pub returns-in-Some-clause-replaced : goal.returns-in-Some-clause-replaced
returns-in-Some-clause-replaced c =
    let found = sym c.get_mut.ensures.value ∙ ap option_copied_mut c.in-Some.is in
    let left = λ (slot : Slot). map_of-inserts c.self.inside.slots (c.get_mut.follows.lender slot) c.number.result slot ((c.get_mut.follows.holds slot).3 (ap is_some found)) in
    rw (← c.self.view_is, ← c.number.ensures) (left c.replace-was.new.dest ∙ ap (λ slot. insert (map_of c.self.inside.slots) c.number.result slot) c.replace-was.ensures.after)

-- it has a slot
never_none : (slots : Slots) (id number : ℕ) (seen : Slots) → IsTrue (contains_key seen id) → slots ≡ seen → number ≡ id → get slots number ≡ None → ⊥
never_none slots id number seen has same there none =
    absurd (true≢false (sym has ∙ ap is_some (sym (ap (λ m. get m id) same) ∙ sym (ap (get slots) there) ∙ none)))

pub returns-in-None-clause-value : goal.returns-in-None-clause-value
returns-in-None-clause-value c =
    absurd (never_none (map_of c.self.inside.slots) c.args.id c.number.result c.args.self.now c.requires c.self.view_is c.number.ensures (get-map_of _ _ ∙ sym c.get_mut.ensures.value ∙ ap option_copied_mut c.in-None.is))

pub returns-in-None-clause-replaced : goal.returns-in-None-clause-replaced
returns-in-None-clause-replaced c =
    absurd (never_none (map_of c.self.inside.slots) c.args.id c.number.result c.args.self.now c.requires c.self.view_is c.number.ensures (get-map_of _ _ ∙ sym c.get_mut.ensures.value ∙ ap option_copied_mut c.in-None.is))
