-- The checkpoint behind which a view begins.
use Rattle.std.proofs.Common.{◌≡◌, ◌∙◌, ℕ, Bool, true, false, cond, eqb, max, List, [], ◌∷◌, length, refl, sym, ap, subst, arith}
use Rattle.std.specs.Prelude.{Option, Some, None}
use Rattle.std.specs.List.{Contains, find, list_all}
use Rattle.std.specs.Option.{option_map}
use Rattle.std.proofs.lemmas.Bool.{and_parts, eqb-true, eqb-false}
use Rattle.bfs_auth.specs.Keys.{Keys}
use Rattle.bfs_log.specs.Certificates.{StableCheckpoint, certifies, faults, is_shown}
use Rattle.bfs_messages.specs.Messages.{ViewChange}
use Rattle.bfs_messages.specs.Signing.{as_message, is_signed}
use Rattle.bfs_messages.specs.declared.signed.Signed.{Signed}
use Rattle.bfs_messages.specs.declared.message.Message.TheVariants as kind
use Rattle.bfs_order.specs.Replica.Views.{number_of}
use Rattle.bfs_view_change.specs.Changes.Choice.{latest_stable}
use Rattle.bfs_view_change.specs.Changes.NewViews.{latest_checkpoint}
use Rattle.bfs_view_change.specs.Changes.ViewChanges.{are_in_order, has_stable, messages_of, stable_in, valid_view_change}
use Rattle.bfs_view_change.specs.Laws.Choices.{LatestIsOfMinS, ValidShowTheLatest}
use Rattle.bfs_view_change.proofs.Members.{all_at, in_front, in_rest, of_map, some_is}

-- the first VIEW-CHANGE with that stable number
record IsFirst (n : ℕ) (changes : List ViewChange) (change : ViewChange) : Type 0 where
  found : find (λ c. eqb c.stable n) changes ≡ Some change
  number : change.stable ≡ n
  among : Contains changes change

first_at : (n : ℕ) (changes : List ViewChange) → latest_stable changes ≡ n → eqb n 0 ≡ false → (change : ViewChange) × IsFirst n changes change
first_at n [] e some = absurd (eqb-false n 0 some (sym e))
first_at n (m ∷ ms) e some = let first = go (eqb m.stable n) refl (first_at n ms) in (first.0, record { found = first.1; number = first.2; among = first.3 })
  where
    go : (b : Bool) → eqb m.stable n ≡ b → (latest_stable ms ≡ n → eqb n 0 ≡ false → (change : ViewChange) × IsFirst n ms change)
        → (change : ViewChange) × (cond b (Some m) (find (λ c. eqb c.stable n) ms) ≡ Some change) × (change.stable ≡ n) × Contains (m ∷ ms) change
    go true is later = (m, refl, eqb-true m.stable n is, in_front m ms)
    go false is later =
        let differ = eqb-false m.stable n is in
        let rest = later (omega (arith, e, differ)) some in
        (rest.0, rest.1.found, rest.1.number, in_rest rest.0 m ms rest.1.among)

pub latest_is : LatestIsOfMinS
latest_is changes = go (eqb n 0) refl
  where
    n : ℕ
    n = latest_stable changes

    go : (b : Bool) → eqb n 0 ≡ b → number_of (cond b None (option_map stable_in (find (λ c. eqb c.stable n) changes))) ≡ n
    go true is = sym (eqb-true n 0 is)
    go false is = let first = first_at n changes refl is in ap (λ (o : Option ViewChange). number_of (option_map stable_in o)) first.1.found ∙ first.1.number

shown : (keys : Keys) (s : Signed ViewChange) → eqb s.message.stable 0 ≡ false → valid_view_change keys s ≡ true → is_shown keys (faults keys) (stable_in s.message) ≡ true
shown keys s some valid =
    let a = and_parts (are_in_order s.message) _ valid in
    let b = and_parts (is_signed keys (as_message kind.ViewChange s)) _ a.1 in
    let c = and_parts (has_stable keys s.message) (list_all (certifies keys) s.message.certificates) b.1 in
    rw (some) at c.0

pub valid_show : ValidShowTheLatest
valid_show keys changes c valid is = go (eqb n 0) refl is
  where
    ms : List ViewChange
    ms = messages_of changes

    n : ℕ
    n = latest_stable ms

    go : (b : Bool) → eqb n 0 ≡ b → cond b None (option_map stable_in (find (λ m. eqb m.stable n) ms)) ≡ Some c → is_shown keys (faults keys) c ≡ true
    go true none e = absurd cc
    go false some e =
        let first = first_at n ms refl some in
        let same : stable_in first.0 ≡ c = some_is (stable_in first.0) c (sym (ap (option_map stable_in) first.1.found) ∙ e) in
        let from = of_map (λ (s : Signed ViewChange). s.message) first.0 changes first.1.among in
        let number : eqb from.0.message.stable 0 ≡ false = ap (λ (m : ViewChange). eqb m.stable 0) from.2 ∙ ap (λ k. eqb k 0) first.1.number ∙ some in
        let there = shown keys from.0 number (all_at (valid_view_change keys) changes valid from.0 from.1) in
        subst (λ (x : StableCheckpoint). is_shown keys (faults keys) x ≡ true) (ap stable_in from.2 ∙ same) there
