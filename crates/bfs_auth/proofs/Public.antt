-- What the crates above cite.
use Rattle.std.proofs.Common.{◌≡◌, ◌∙◌, ap, refl, sym, true≢false, List, [], ◌∷◌, map}
use Rattle.std.specs.Prelude.{true, Option, Result, Ok, Err, IfOk, is_ok}
use Rattle.std.specs.Borrow.{Bor, MutBor}
use Rattle.rayon.proofs.ListFacts.{AllZip-weaken}
use Rattle.rayon.proofs.ToStd.{slice-map}
use Rattle.std.specs.List.{AllZip, cons_option, filter_map, list_all}
use Rattle.bfs_auth.specs.Gathered.{gathered_from}

-- where each item was given what a function gives, all together are what it gives of the items
pub all_given : {X Y E : Type 0} (f : X → Option Y) (xs : List X) (each : List (Result (Option Y) E)) → AllZip (λ x one. IfOk one (λ given. given ≡ f x)) xs each → list_all is_ok each ≡ true
    → filter_map gathered_from each ≡ filter_map f xs
all_given f [] [] zipped ok = refl
all_given f [] (one ∷ each) zipped ok = absurd zipped
all_given f (x ∷ xs) [] zipped ok = absurd zipped
all_given f (x ∷ xs) (Ok given ∷ each) zipped ok =
    ap (λ one. cons_option one (filter_map gathered_from each)) zipped.0 ∙ ap (cons_option (f x)) (all_given f xs each zipped.1 ok)
all_given f (x ∷ xs) (Err error ∷ each) zipped ok = absurd (true≢false (sym ok))

-- what is answered of each item of a slice with a state of any kind, where the answer is the same with each
pub each_answered : {X Y : Type 0} (S : Type 0) (zs : List (Bor X)) (xs : List X) → map (λ (z : Bor X). z.now) zs ≡ xs → (f : X → Y) (ys : List Y)
    → AllZip (λ (z : Bor X) y. (before after : MutBor S) × (y ≡ f z.now)) zs ys → ys ≡ map f xs
each_answered {X = X} S zs xs shown f ys each =
    slice-map zs xs shown f ys (AllZip-weaken (λ (z : Bor X) y. (before after : MutBor S) × (y ≡ f z.now)) (λ (z : Bor X) y. y ≡ f z.now) (λ z y told. told.2) zs ys each)
