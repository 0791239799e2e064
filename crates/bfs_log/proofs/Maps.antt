-- What the changes of the index's map do to what is said at each place.
use Rattle.std.proofs.Common.{◌≡◌, ℕ, Bool, true, false, ◌&&◌, cond, List, [], ◌∷◌, ◌++◌, refl, ap, sym, ◌∙◌, append-nil}
use Rattle.std.specs.Prelude.{filter, Option, None, if◌then◌else◌}
use Rattle.std.specs.Ordering.{ordering_then, nat_cmp, is_eq}
use Rattle.std.specs.declared.cmp.Ordering.{Ordering}
use Rattle.std.specs.declared.cmp.Ordering.TheVariants.{Less, Equal, Greater}
use Rattle.std.specs.Cmp.{unsigned_tied}
use Rattle.std.specs.Global.{Vec}
use Rattle.std.specs.BTreeMap as tree
use Rattle.std.specs.Map.{lookup}
use Rattle.std.proofs.lemmas.Map.Entries.{lookup-filter-keys}
use Rattle.bfs_log.specs.Batches.{Said}
use Rattle.bfs_log.specs.Places.{Index, is_above, place_cmp, row_at, row_in, same_place}
use Rattle.bfs_log.specs.declared.places.Place.{Place}
use Rattle.bfs_log.proofs.Indexes.{one_place}

tied_then : (r s : Ordering) → is_eq (ordering_then r s) ≡ (is_eq r && is_eq s)
tied_then Less s = refl
tied_then Equal s = refl
tied_then Greater s = refl

-- the keys of one place are one
pub tied : (p q : Place) → tree.is_at (place_cmp p) q ≡ same_place p q
tied p q =
    tied_then (nat_cmp p.number q.number) (ordering_then (nat_cmp p.view q.view) (nat_cmp p.tag q.tag))
    ∙ ap (λ b. is_eq (nat_cmp p.number q.number) && b) (tied_then (nat_cmp p.view q.view) (nat_cmp p.tag q.tag))
    ∙ rw (unsigned_tied p.number q.number, unsigned_tied p.view q.view, unsigned_tied p.tag q.tag) refl

row_cond : (b : Bool) (found : Option (Vec Said)) → row_in (cond b found None) ≡ (if b then row_in found else [])
row_cond true found = refl
row_cond false found = refl

pub row_filtered : (number : ℕ) (m n : Index) → n.entries ≡ filter (λ e. is_above number e.0) m.entries → (p : Place) → row_at n p ≡ (if is_above number p then row_at m p else [])
row_filtered number m n same p =
    ap (λ es. row_in (lookup (tree.is_at (place_cmp p)) es)) same
    ∙ ap row_in (lookup-filter-keys (tree.is_at (place_cmp p)) (is_above number) (is_above number p) (λ q at. ap (is_above number) (sym (one_place p q (sym (tied p q) ∙ at)))) m.entries)
    ∙ row_cond (is_above number p) (tree.get place_cmp m p)

undone_step : (before after : Index) (rows : Place → List Said) (place p : Place) (said : Said) (b : Bool) → same_place place p ≡ b
    → row_at before p ≡ rows p ++ (if b then said ∷ [] else [])
    → ((row : List Said) (said : Said) → row_at before place ≡ row ++ said ∷ [] → row_at after place ≡ row)
    → ((q : Place) → same_place place q ≡ false → row_at after q ≡ row_at before q) → row_at after p ≡ rows p
undone_step before after rows place p said true here was last others =
    let there : p ≡ place = sym (one_place place p here) in
    ap (row_at after) there ∙ last (rows p) said (ap (row_at before) (sym there) ∙ was)
undone_step before after rows place p said false here was last others = others p here ∙ was ∙ append-nil (rows p)

-- what was put behind the others, and was taken out again
pub undone : (before after : Index) (rows : Place → List Said) (place : Place) (said : Said)
    → ((p : Place) → row_at before p ≡ rows p ++ (if same_place place p then said ∷ [] else []))
    → ((row : List Said) (said : Said) → row_at before place ≡ row ++ said ∷ [] → row_at after place ≡ row)
    → ((q : Place) → same_place place q ≡ false → row_at after q ≡ row_at before q) → (p : Place) → row_at after p ≡ rows p
undone before after rows place said was last others p = undone_step before after rows place p said (same_place place p) refl (was p) last others
