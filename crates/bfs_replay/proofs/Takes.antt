-- What was taken and is shorter than it might have been is all that there was.
use Rattle.std.proofs.Common.{◌≡◌, ℕ, ◌<◌, List, [], ◌++◌, length, take, Option, Some, None, IfSome, option_map, ap, subst, ◌∙◌, arith, length-take}
use Rattle.std.proofs.lemmas.List.{take_all}

pub all_taken : (had : Option (List ℕ)) (most : ℕ) (bytes before : List ℕ) → IfSome (option_map (take most) had) (λ taken. bytes ≡ before ++ taken) → before ≡ [] → length bytes < most → IfSome had (λ all. bytes ≡ all)
all_taken None most bytes before is none short = tt
all_taken (Some all) most bytes before is none short =
    let taken : bytes ≡ take most all = is ∙ ap (λ front. front ++ take most all) none in
    let less : length (take most all) < most = subst (λ x. length x < most) taken short in
    taken ∙ take_all most all (omega (arith, length-take most all, less))
