-- Where an ordinal is fresh and not spent, the cookies of a directory that is written are below it.
use Rattle.std.proofs.Common.{◌≡◌, ℕ, ◌<◌, ◌≤◌, List, [], ◌∷◌, ◌++◌, Option, Some, None, inl, inr, unwrap_or, All, ap, subst, arith}
use Rattle.std.specs.List.{AllByRecursion}
use Rattle.std.specs.FinMap.{get}
use Rattle.std.proofs.lemmas.Bool.{leb-true}
use Rattle.bfs_model.specs.Server.Tree.{Inodes, entries_at, spent_ordinal}
use Rattle.bfs_model.specs.Server.Footprints.{Footprint, known, ids_in, IsNewAt, IsNewIn, IsFreshFor}

pub unspent_is_new : (m : Inodes) (o : ℕ) (touched : Footprint) → IsFreshFor m o touched → o < spent_ordinal → IsNewIn m o touched
unspent_is_new m o touched (inl spent) unspent = let most : spent_ordinal ≤ o = leb-true spent_ordinal o spent in absurd (omega arith)
unspent_is_new m o touched (inr new) unspent = new

pub both : {X : Type 0} (P : X → Type 0) (xs ys : List X) → AllByRecursion P (xs ++ ys) → AllByRecursion P xs × AllByRecursion P ys
both P [] ys all = (tt, all)
both P (x ∷ xs) ys all = let rest = both P xs ys all.1 in ((all.0, rest.0), rest.1)

pub led_to : (P : ℕ → Type 0) (handle : Option ℕ) → AllByRecursion P (ids_in handle) → (id : ℕ) → handle ≡ Some id → P id
led_to P None all id is = absurd cc
led_to P (Some other) all id is = subst P (ap (λ there. unwrap_or there other) is) all.0

pub above_first : (m : Inodes) (o : ℕ) (handle : Option ℕ) (rest : List ℕ) (dir : ℕ) → IsFreshFor m o (known [] (ids_in handle ++ rest)) → o < spent_ordinal → handle ≡ Some dir → All (λ entry. entry.cookie < o) (entries_at (get m dir))
above_first m o handle rest dir fresh unspent is =
    (led_to (IsNewAt m o) handle (both (IsNewAt m o) (ids_in handle) rest (unspent_is_new m o (known [] (ids_in handle ++ rest)) fresh unspent)).0 dir is).1

pub above_second : (m : Inodes) (o : ℕ) (first : List ℕ) (handle : Option ℕ) (dir : ℕ) → IsFreshFor m o (known [] (first ++ ids_in handle)) → o < spent_ordinal → handle ≡ Some dir → All (λ entry. entry.cookie < o) (entries_at (get m dir))
above_second m o first handle dir fresh unspent is =
    (led_to (IsNewAt m o) handle (both (IsNewAt m o) first (ids_in handle) (unspent_is_new m o (known [] (first ++ ids_in handle)) fresh unspent)).1 dir is).1
