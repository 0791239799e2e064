-- Requests that are executed one after another: what is left of them gives, behind the replies so far, what all of them give.
use Rattle.std.proofs.Common.{◌≡◌, ℕ, zero, suc, ◌+◌, ◌-◌, ◌<◌, ◌≤◌, IsTrue, List, [], ◌∷◌, ◌++◌, length, drop, get_or, refl, ap, sym, subst, ◌∙◌, arith}
use Rattle.std.proofs.lemmas.List.{append_assoc, append-nil, drop_all, length-take-le, length-drop}
use Rattle.bfs_model.specs.Server.Tree.{Time, Inodes}
use Rattle.bfs_model.specs.Server.Serial.{ordinal_after, answer, inodes_after, replies_to}
use Rattle.bfs_model.specs.Server.WellFormed.{IsWellFormed}
use Rattle.bfs_model.proofs.Public.{answer_keeps, formed_again, servable}
use Rattle.bfs_levels.specs.Requests.{requests_from}
use Rattle.bfs_tree.specs.Slots.{Slots}
use Rattle.bfs_tree.specs.Tree.{at_home, reach_of}
use Rattle.bfs_workers.proofs.Public.{one_there}
use Rattle.bfs_parallel.specs.Parts.{IsPartExecuted}
use Rattle.bfs_parallel.specs.Ran.{AllRan}

-- the next of them, and those behind it
next_left : (batch : List (List ℕ)) (first n k place : ℕ) → place ≡ first + k → first + n ≤ length batch → k < n
    → drop k (requests_from first n batch) ≡ get_or batch place [] ∷ drop (suc k) (requests_from first n batch)
next_left [] first n k place there within more = absurd (omega arith)
next_left (request ∷ batch) zero zero k place there within more = absurd (omega arith)
next_left (request ∷ batch) zero (suc n) zero zero there within more = refl
next_left (request ∷ batch) zero (suc n) zero (suc place) there within more = absurd (omega arith)
next_left (request ∷ batch) zero (suc n) (suc k) zero there within more = absurd (omega arith)
next_left (request ∷ batch) zero (suc n) (suc k) (suc place) there within more = next_left batch zero n k place (omega arith) (omega arith) (omega arith)
next_left (request ∷ batch) (suc first) n k zero there within more = absurd (omega arith)
next_left (request ∷ batch) (suc first) n k (suc place) there within more = next_left batch first n k place (omega arith) (omega arith) more

module _ (ran : ℕ → List ℕ → Type 0) (t : Time) (batch : List (List ℕ)) (first n : ℕ) (within : first + n ≤ length batch) (begun : Inodes) (earliest : ℕ) (before : List (List ℕ)) where
  abbrev all : List (List ℕ)
  all = requests_from first n batch

  -- so many of them are executed
  pub record IsGoingOn (k : ℕ) (m : Inodes) (o : ℕ) (replies : List (List ℕ)) : Type 0 where
    pub formed : IsWellFormed (record { tree = m; next_ordinal = o; last_time = t })
    pub inodes : inodes_after m o t (drop k all) ≡ inodes_after begun earliest t all
    pub texts : replies ++ replies_to m o t (drop k all) ≡ before ++ replies_to begun earliest t all
    pub gated : AllRan ran (first + k) (drop k all) (replies_to m o t (drop k all)) → AllRan ran first all (replies_to begun earliest t all)

  pub begins : IsWellFormed (record { tree = begun; next_ordinal = earliest; last_time = t }) → IsGoingOn 0 begun (ordinal_after earliest 0) before
  begins formed = let in_range = formed.ordinal.1 in subst (λ o. IsGoingOn 0 begun o before) (let same : earliest ≡ ordinal_after earliest 0 = omega arith in same) (record {
    formed = formed;
    inodes = refl;
    texts = refl;
    gated = subst (λ number. AllRan ran number all (replies_to begun earliest t all)) (omega arith);
  })

  module _ (k : ℕ) (m : Inodes) (replies : List (List ℕ)) (more : k < n) (going : IsGoingOn k m (ordinal_after earliest k) replies) where
    abbrev o : ℕ
    o = ordinal_after earliest k

    abbrev request : List ℕ
    request = get_or batch (first + k) []

    abbrev rest : List (List ℕ)
    rest = drop (suc k) all

    left : drop k all ≡ request ∷ rest
    left = next_left batch first n k (first + k) refl within more

    here : requests_from (first + k) 1 batch ≡ request ∷ []
    here = one_there batch (first + k) (omega arith)

    pub goes_on : (old new : Slots) (after : List (List ℕ)) → at_home old ≡ m → IsPartExecuted ran old new o t batch (first + k) 1 replies after → IsGoingOn (k + 1) (at_home new) (ordinal_after earliest (k + 1)) after
    goes_on old new after same executed =
        let moved : at_home new ≡ (answer m o t request).0 = executed.inodes ∙ ap (λ m. inodes_after m o t (requests_from (first + k) 1 batch)) same ∙ ap (inodes_after m o t) here in
        let said : after ≡ replies ++ (answer m o t request).1 ∷ [] = executed.replies ∙ ap (λ m. replies ++ replies_to m o t (requests_from (first + k) 1 batch)) same ∙ ap (λ rs. replies ++ replies_to m o t rs) here in
        let has_run = subst (λ rs. AllRan ran (first + k) rs (replies_to m o t rs)) here (subst (λ m. AllRan ran (first + k) (requests_from (first + k) 1 batch) (replies_to m o t (requests_from (first + k) 1 batch))) same executed.gated) in
        subst (λ p. IsGoingOn (k + 1) (at_home new) p after) (let next : ordinal_after o 1 ≡ ordinal_after earliest (k + 1) = omega arith in next)
        (subst (λ j. IsGoingOn j (at_home new) (ordinal_after o 1) after) (let one_more : suc k ≡ k + 1 = omega arith in one_more) (record {
          formed = subst (λ m. IsWellFormed (record { tree = m; next_ordinal = ordinal_after o 1; last_time = t })) (sym moved)
              (formed_again (answer m o t request).0 (ordinal_after o 1) t (answer_keeps m o t request (servable (record { tree = m; next_ordinal = o; last_time = t }) going.formed)));
          inodes = ap (λ m. inodes_after m (ordinal_after o 1) t rest) moved ∙ sym (ap (inodes_after m o t) left) ∙ going.inodes;
          texts = ap (λ m. after ++ replies_to m (ordinal_after o 1) t rest) moved ∙ ap (λ rs. rs ++ replies_to (answer m o t request).0 (ordinal_after o 1) t rest) said
              ∙ append_assoc replies ((answer m o t request).1 ∷ []) (replies_to (answer m o t request).0 (ordinal_after o 1) t rest) ∙ sym (ap (λ rs. replies ++ replies_to m o t rs) left) ∙ going.texts;
          gated = λ later. going.gated (subst (λ rs. AllRan ran (first + k) rs (replies_to m o t rs)) (sym left)
              (has_run.0, subst (λ m. AllRan ran (first + k + 1) rest (replies_to m (ordinal_after o 1) t rest)) moved (subst (λ number. AllRan ran number rest (replies_to (at_home new) (ordinal_after o 1) t rest)) (omega arith) later)));
        }))

  few : length all ≤ n
  few = let left : length (drop first batch) ≡ length batch - first = length-drop first batch in let long : length all ≡ n = length-take-le n (drop first batch) (omega arith) in omega arith

  pub ends : (old new : Slots) (o : ℕ) (after : List (List ℕ)) → 0 < n → begun ≡ at_home old → IsGoingOn n (at_home new) o after → IsTrue ((reach_of new).whole) → IsPartExecuted ran old new earliest t batch first n before after
  ends old new o after some same going whole =
      let none : drop n all ≡ [] = drop_all n all few in record {
        some = some;
        within = within;
        inodes = sym (ap (inodes_after (at_home new) o t) none) ∙ going.inodes ∙ ap (λ m. inodes_after m earliest t all) same;
        whole = whole;
        replies = sym (append-nil after) ∙ sym (ap (λ rs. after ++ replies_to (at_home new) o t rs) none) ∙ going.texts ∙ ap (λ m. before ++ replies_to m earliest t all) same;
        gated = subst (λ m. AllRan ran first all (replies_to m earliest t all)) same (going.gated (subst (λ rs. AllRan ran (first + n) rs (replies_to (at_home new) o t rs)) (sym none) tt));
      }
