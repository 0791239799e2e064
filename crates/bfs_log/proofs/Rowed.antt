-- The PREPAREs that match a PRE-PREPARE stand at one place.
use Rattle.std.proofs.Common.{◌≡◌, ℕ, ◌+◌, ◌<◌, Bool, true, false, cond, List, [], ◌∷◌, ◌++◌, length, get_or, take, refl, sym, ap, ◌∙◌, arith}
use Rattle.std.specs.Prelude.{map}
use Rattle.std.specs.List.{filter}
use Rattle.std.proofs.lemmas.Bool.{and_from, eq-eqb}
use Rattle.std.proofs.lemmas.List.{take-map, get_or-map, length-map}
use Rattle.bfs_messages.specs.Messages.{Vote}
use Rattle.bfs_messages.specs.declared.signed.Signed.{Signed}
use Rattle.bfs_messages.specs.declared.order_messages.OrderMessage.{OrderMessage}
use Rattle.bfs_log.specs.Batches.{Said}
use Rattle.bfs_log.specs.Headers.{header}
use Rattle.bfs_log.specs.Logs.{Log, said_in}
use Rattle.bfs_log.specs.Places.{is_at, said_at}
use Rattle.bfs_log.specs.Showing.{backing, backing_said, backs, prepare_in, prepares}
use Rattle.bfs_log.specs.declared.places.Place.{Place}
use Rattle.bfs_log.proofs.Shown.{backed_by, found_next}

abbrev message_in : Said → Signed OrderMessage
message_in said = said.signed

-- what a row has is what stands in the log there
same_messages : (xs : Log) → map message_in (map said_in xs) ≡ xs
same_messages [] = refl
same_messages (m ∷ xs) = ap (λ ys. m ∷ ys) (same_messages xs)

abbrev place_for : Vote → Place
place_for proposed = record { number = proposed.number; view = proposed.view; tag = 3 }

there : (f : ℕ) (proposed : Vote) (m : Signed OrderMessage) → backs f proposed (header m) ≡ true → is_at (place_for proposed) (header m) ≡ true
there f proposed m e =
    let at = (backed_by f proposed m e).at in
    and_from _ _ (eq-eqb (header m).number proposed.number at.number) (and_from _ _ (eq-eqb (header m).view proposed.view at.view) (eq-eqb (header m).tag 3 at.tag))

pass_step : (p q : Signed OrderMessage → Bool) (m : Signed OrderMessage) (xs : Log) → (p m ≡ true → q m ≡ true) → (a b : Bool) → p m ≡ a → q m ≡ b → filter p (filter q xs) ≡ filter p xs
    → filter p (cond (q m) (m ∷ filter q xs) (filter q xs)) ≡ cond (p m) (m ∷ filter p xs) (filter p xs)
pass_step p q m xs so a true e h rest = rw h (ap (λ ys. cond (p m) (m ∷ ys) ys) rest)
pass_step p q m xs so false false e h rest = rw (h, e) rest
pass_step p q m xs so true false e h rest = let yes = so e in absurd cc

passed_twice : (p q : Signed OrderMessage → Bool) → ((m : Signed OrderMessage) → p m ≡ true → q m ≡ true) → (xs : Log) → filter p (filter q xs) ≡ filter p xs
passed_twice p q so [] = refl
passed_twice p q so (m ∷ xs) = pass_step p q m xs (so m) (p m) (q m) refl refl (passed_twice p q so xs)

pub backed_there : (f : ℕ) (proposed : Vote) (log : Log) → backing_said f proposed (said_at (place_for proposed) log) ≡ backing f proposed log
backed_there f proposed log =
    ap (backing f proposed) (same_messages (filter (λ m. is_at (place_for proposed) (header m)) log))
    ∙ ap prepares (passed_twice (λ m. backs f proposed (header m)) (λ m. is_at (place_for proposed) (header m)) (there f proposed) log)

-- with one message more of the row
pub found_in_row : (f : ℕ) (proposed : Vote) (row : List Said) (i : ℕ) (said : Said) (old new more : List (Signed Vote)) → new ≡ old ++ more → old ≡ backing_said f proposed (take i row)
    → more ≡ backing f proposed (said.signed ∷ []) → i < length row → said ≡ get_or row i said → new ≡ backing_said f proposed (take (i + 1) row)
found_in_row f proposed row i said old new more grown before found lt is =
    let xs = map message_in row in
    let many : length xs ≡ length row = length-map row message_in in
    found_next (λ (m : Signed OrderMessage). prepare_in m.message m.auth) (λ m. backs f proposed (header m)) xs i said.signed old new more grown
    (before ∙ ap (backing f proposed) (sym (take-map message_in i row))) found (omega arith)
    (ap message_in is ∙ sym (get_or-map message_in row i said said.signed lt))
    ∙ ap (backing f proposed) (take-map message_in (i + 1) row)
