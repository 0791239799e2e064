-- The greatest number proposed in a view is the same by the log and by its index.
use Rattle.std.proofs.Common.{◌≡◌, ℕ, ◌≤◌, Bool, true, false, ◌&&◌, not, cond, max, List, [], ◌∷◌, refl, ap, sym, subst, ◌∙◌, arith, length}
use Rattle.std.specs.Prelude.{◌==◌, map, filter, Option, Some, None}
use Rattle.std.specs.Global.{Vec}
use Rattle.std.specs.BTreeMap as tree
use Rattle.std.specs.List.{AllByRecursion}
use Rattle.std.specs.List.Sorted.{IsStrictlySortedBy}
use Rattle.std.specs.Map.{keys_of, lookup}
use Rattle.std.specs.Ordering.{is_eq}
use Rattle.std.specs.declared.cmp.Ordering.TheVariants.{Less}
use Rattle.std.proofs.lemmas.Bool.{and_parts, and_from, eq-eqb, ne_eqb}
use Rattle.bfs_messages.specs.declared.signed.Signed.{Signed}
use Rattle.bfs_messages.specs.declared.order_messages.OrderMessage.{OrderMessage}
use Rattle.bfs_log.specs.Batches.{Said}
use Rattle.bfs_log.specs.Headers.{header}
use Rattle.bfs_log.specs.Logs.{Log, greatest_proposed, headers, said_in}
use Rattle.bfs_log.specs.Places.{Index, IsIndex, greatest_in, is_at, is_proposed, place_cmp, place_of, row_in, said_at, same_place}
use Rattle.bfs_log.specs.declared.places.Place.{Place}
use Rattle.bfs_log.proofs.Indexes.{one_place}
use Rattle.bfs_log.proofs.Maps.{tied}

abbrev proposes : (view : ℕ) → Place → Bool
proposes view p = (p.tag == 2) && (p.view == view)

abbrev some : List Said → Bool
some row = not (length row == 0)

some_more : (said : Said) (row : List Said) → some (said ∷ row) ≡ true
some_more said row = ap not (ne_eqb (length (said ∷ row)) 0 (λ e. absurd (omega arith)))

itself : (p : Place) → same_place p p ≡ true
itself p = and_from _ _ (eq-eqb p.number p.number refl) (and_from _ _ (eq-eqb p.view p.view refl) (eq-eqb p.tag p.tag refl))

raised : (b : Bool) (n r : ℕ) → b ≡ true → n ≤ cond b (max n r) r
raised true n r holds = omega arith
raised false n r holds = absurd cc

raised_rest : (b : Bool) (n r t : ℕ) → t ≤ r → t ≤ cond b (max n r) r
raised_rest true n r t h = omega arith
raised_rest false n r t h = h

bounded : (b : Bool) (n r t : ℕ) → (b ≡ true → n ≤ t) → r ≤ t → cond b (max n r) r ≤ t
bounded true n r t at rest = let here : n ≤ t = at refl in omega arith
bounded false n r t at rest = rest

-- A place at which something is said counts -----------------------------------------------------------------------------

log_step : (view : ℕ) (p : Place) (m : Signed OrderMessage) (kept : Log) (r : ℕ) (a : Bool) → is_at p (header m) ≡ a → proposes view p ≡ true
    → (some (map said_in kept) ≡ true → p.number ≤ r) → some (map said_in (cond a (m ∷ kept) kept)) ≡ true
    → p.number ≤ cond (proposes view (place_of (header m))) (max (header m).number r) r
log_step view p m kept r true at holds rest said =
    let there = one_place (place_of (header m)) p at in
    subst (λ q. q.number ≤ cond (proposes view (place_of (header m))) (max (header m).number r) r) there
    (raised (proposes view (place_of (header m))) (header m).number r (ap (proposes view) there ∙ holds))
log_step view p m kept r false at holds rest said = raised_rest (proposes view (place_of (header m))) (header m).number r p.number (rest said)

in_log : (view : ℕ) (p : Place) (log : Log) → proposes view p ≡ true → some (said_at p log) ≡ true → p.number ≤ greatest_proposed view (headers log)
in_log view p [] holds said = absurd cc
in_log view p (m ∷ log) holds said =
    log_step view p m (filter (λ m. is_at p (header m)) log) (greatest_proposed view (headers log)) (is_at p (header m)) refl holds (in_log view p log holds) said

index_step : (view : ℕ) (p : Place) (e : Place × Vec Said) (found : Option (Vec Said)) (r : ℕ) (a : Bool) → tree.is_at (place_cmp p) e.0 ≡ a → proposes view p ≡ true
    → (some (row_in found) ≡ true → p.number ≤ r) → some (row_in (cond a (Some e.1) found)) ≡ true → p.number ≤ cond (is_proposed view e) (max e.0.number r) r
index_step view p e found r true at holds rest said =
    let there = one_place p e.0 (sym (tied p e.0) ∙ at) in
    subst (λ q. q.number ≤ cond (is_proposed view e) (max e.0.number r) r) (sym there)
    (raised (is_proposed view e) e.0.number r (and_from (proposes view e.0) (not (length e.1.items == 0)) (ap (proposes view) (sym there) ∙ holds) said))
index_step view p e found r false at holds rest said = raised_rest (is_proposed view e) e.0.number r p.number (rest said)

in_index : (view : ℕ) (p : Place) (es : List (Place × Vec Said)) → proposes view p ≡ true → some (row_in (lookup (tree.is_at (place_cmp p)) es)) ≡ true → p.number ≤ greatest_in view es
in_index view p [] holds said = absurd cc
in_index view p (e ∷ es) holds said =
    index_step view p e (lookup (tree.is_at (place_cmp p)) es) (greatest_in view es) (tree.is_at (place_cmp p) e.0) refl holds (in_index view p es holds) said

-- Nothing else counts ----------------------------------------------------------------------------------------------------

still_step : (a : Bool) (m : Signed OrderMessage) (kept : Log) → some (map said_in kept) ≡ true → some (map said_in (cond a (m ∷ kept) kept)) ≡ true
still_step true m kept h = some_more (said_in m) (map said_in kept)
still_step false m kept h = h

here_step : (a : Bool) (m : Signed OrderMessage) (kept : Log) → a ≡ true → some (map said_in (cond a (m ∷ kept) kept)) ≡ true
here_step true m kept h = some_more (said_in m) (map said_in kept)
here_step false m kept h = absurd cc

log_within : (view top : ℕ) (log : Log) → ((p : Place) → proposes view p ≡ true → some (said_at p log) ≡ true → p.number ≤ top) → greatest_proposed view (headers log) ≤ top
log_within view top [] each = omega arith
log_within view top (m ∷ log) each =
    let p = place_of (header m) in
    bounded (proposes view p) p.number (greatest_proposed view (headers log)) top
    (λ holds. each p holds (here_step (is_at p (header m)) m (filter (λ m. is_at p (header m)) log) (itself p)))
    (log_within view top log (λ q holds said. each q holds (still_step (is_at q (header m)) m (filter (λ m. is_at q (header m)) log) said)))

absent : (p : Place) (es : List (Place × Vec Said)) → AllByRecursion (λ q. place_cmp p q ≡ Less) (keys_of es) → lookup (tree.is_at (place_cmp p)) es ≡ None
absent p [] above = refl
absent p (e ∷ es) above = rw (ap is_eq above.0) (absent p es above.1)

found_step : (a : Bool) (p : Place) (e : Place × Vec Said) (found : Option (Vec Said)) → tree.is_at (place_cmp p) e.0 ≡ a → (p ≡ e.0 → found ≡ None)
    → some (row_in found) ≡ true → some (row_in (cond a (Some e.1) found)) ≡ true
found_step true p e found at none said =
    let gone = none (one_place p e.0 (sym (tied p e.0) ∙ at)) in
    let not_so : false ≡ true = sym (ap (λ o. some (row_in o)) gone) ∙ said in
    absurd cc
found_step false p e found at none said = said

index_within : (view top : ℕ) (es : List (Place × Vec Said)) → IsStrictlySortedBy place_cmp (keys_of es)
    → ((p : Place) → proposes view p ≡ true → some (row_in (lookup (tree.is_at (place_cmp p)) es)) ≡ true → p.number ≤ top) → greatest_in view es ≤ top
unfolding IsStrictlySortedBy
index_within view top [] sorted each = omega arith
index_within view top (e ∷ es) sorted each =
    bounded (is_proposed view e) e.0.number (greatest_in view es) top
    (λ holds.
    let parts = and_parts (proposes view e.0) (not (length e.1.items == 0)) holds in
    each e.0 parts.0 (rw (tied e.0 e.0, itself e.0) parts.1))
    (index_within view top es sorted.1 (λ p holds said.
    each p holds (found_step (tree.is_at (place_cmp p) e.0) p e (lookup (tree.is_at (place_cmp p)) es) refl
    (λ there. ap (λ q. lookup (tree.is_at (place_cmp q)) es) there ∙ absent e.0 es sorted.0) said)))

pub same_greatest : (view : ℕ) (log : Log) (places : Index) → tree.IsOrdered place_cmp places → IsIndex places log → greatest_in view places.entries ≡ greatest_proposed view (headers log)
same_greatest view log places ordered index =
    let down : greatest_in view places.entries ≤ greatest_proposed view (headers log) =
    index_within view (greatest_proposed view (headers log)) places.entries ordered (λ p holds said. in_log view p log holds (sym (ap some (index p)) ∙ said)) in
    let up : greatest_proposed view (headers log) ≤ greatest_in view places.entries =
    log_within view (greatest_in view places.entries) log (λ p holds said. in_index view p places.entries holds (ap some (index p) ∙ said)) in
    omega arith
