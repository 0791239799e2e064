-- What threads answer that ask a test of each element.
use Rattle.std.proofs.Common.{◌≡◌, Bool, true, false, ◌&&◌, List, [], ◌∷◌, map, refl, sym, ap, ◌∙◌, Bor}
use Rattle.std.specs.Prelude.{All, Any, MatchBool}
use Rattle.std.specs.List.{AllZip, list_all, AllByRecursion}
use Rattle.std.specs.Borrow.{MutBor}
use Rattle.std.proofs.lemmas.List.Elements.{recursion_from_All}
use Rattle.std.proofs.lemmas.List.Folds.{list_all_at}
use Rattle.bfs_auth.proofs.Public.{each_answered}

all_true : (answers : List Bool) → AllByRecursion (λ answer. true ≡ answer) answers → true ≡ list_all (λ answer. answer) answers
all_true [] h = refl
all_true (answer ∷ answers) h = all_true answers h.1 ∙ ap (λ b. b && list_all (λ answer. answer) answers) h.0

are_all : (answers : List Bool) (all : Bool) → MatchBool all (All (λ answer. true ≡ answer) answers) (Any (λ answer. false ≡ answer) answers)
    → all ≡ list_all (λ answer. answer) answers
are_all answers true h = all_true answers (recursion_from_All (λ answer. true ≡ answer) answers h)
are_all answers false h = sym (list_all_at (λ answer. answer) answers h.0 h.1 h.2 (h.3 ∙ sym h.4))

of_each : {X : Type 0} (test : X → Bool) (xs : List X) → list_all (λ answer. answer) (map test xs) ≡ list_all test xs
of_each test [] = refl
of_each test (x ∷ xs) = ap (λ b. test x && b) (of_each test xs)

pub asked : {X : Type 0} (S : Type 0) (test : X → Bool) (zs : List (Bor X)) (xs : List X) → map (λ (z : Bor X). z.now) zs ≡ xs → (answers : List Bool)
    → AllZip (λ (z : Bor X) answer. (before after : MutBor S) × (answer ≡ test z.now)) zs answers
    → (all : Bool) → MatchBool all (All (λ answer. true ≡ answer) answers) (Any (λ answer. false ≡ answer) answers) → all ≡ list_all test xs
asked S test zs xs shown answers each all h =
    are_all answers all h ∙ ap (list_all (λ answer. answer)) (each_answered S zs xs shown test answers each) ∙ of_each test xs
