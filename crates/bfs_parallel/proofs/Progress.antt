-- What is left of a batch, part after part.
use Rattle.std.proofs.Common.{◌≡◌, ℕ, zero, suc, ◌+◌, ◌-◌, ◌≤◌, List, [], ◌∷◌, ◌++◌, length, take, drop, refl, ap, sym, subst, ◌∙◌, arith}
use Rattle.std.proofs.lemmas.List.{take-append-drop, length-take-le, length-drop, append_assoc}
use Rattle.bfs_model.specs.Server.Tree.{Time, Inodes}
use Rattle.bfs_model.specs.Server.Serial.{ordinal_after, answer, inodes_after, replies_to}
use Rattle.bfs_model.specs.Server.WellFormed.{IsWellFormed}
use Rattle.bfs_model.proofs.Public.{formed_again, parts_follow, requests_keep, servable}
use Rattle.bfs_parallel.specs.Ran.{AllRan}

nothing : {X : Type 0} (n : ℕ) → drop {A = X} n [] ≡ []
nothing zero = refl
nothing (suc n) = refl

pub drop_more : {X : Type 0} (n k : ℕ) (xs : List X) → drop n (drop k xs) ≡ drop (k + n) xs
drop_more n zero xs = ap (λ k. drop k xs) (let same : n ≡ 0 + n = omega arith in same)
drop_more n (suc k) [] = nothing n ∙ sym (nothing (suc k + n))
drop_more n (suc k) (x ∷ xs) = drop_more n k xs ∙ ap (λ i. drop i (x ∷ xs)) (let same : suc (k + n) ≡ suc k + n = omega arith in same)

-- a run and what is left behind it
parted : {X : Type 0} (n k : ℕ) (xs : List X) → drop k xs ≡ take n (drop k xs) ++ drop (k + n) xs
parted n k xs = sym (take-append-drop n (drop k xs)) ∙ ap (λ rest. take n (drop k xs) ++ rest) (drop_more n k xs)

pub few_left : {X : Type 0} (n k : ℕ) (xs : List X) → k + n ≤ length xs → length (take n (drop k xs)) ≡ n
few_left n k xs within = length-take-le n (drop k xs) (let left : length (drop k xs) ≡ length xs - k = length-drop k xs in omega arith)

module _ (m : Inodes) (o : ℕ) (t : Time) (requests : List (List ℕ)) (done n : ℕ) (formed : IsWellFormed (record { tree = m; next_ordinal = o; last_time = t })) (within : done + n ≤ length requests) where
  abbrev run : List (List ℕ)
  run = take n (drop done requests)

  follow : (inodes_after m o t (run ++ drop (done + n) requests) ≡ inodes_after (inodes_after m o t run) (ordinal_after o n) t (drop (done + n) requests))
      × (replies_to m o t (run ++ drop (done + n) requests) ≡ replies_to m o t run ++ replies_to (inodes_after m o t run) (ordinal_after o n) t (drop (done + n) requests))
  follow = subst
      (λ k. (inodes_after m o t (run ++ drop (done + n) requests) ≡ inodes_after (inodes_after m o t run) (ordinal_after o k) t (drop (done + n) requests))
      × (replies_to m o t (run ++ drop (done + n) requests) ≡ replies_to m o t run ++ replies_to (inodes_after m o t run) (ordinal_after o k) t (drop (done + n) requests)))
      (few_left n done requests within) (parts_follow m o t run (drop (done + n) requests) formed.ordinal.1)

  pub inodes_left : inodes_after (inodes_after m o t (take n (drop done requests))) (ordinal_after o n) t (drop (done + n) requests) ≡ inodes_after m o t (drop done requests)
  inodes_left = sym follow.0 ∙ ap (inodes_after m o t) (sym (parted n done requests))

  pub replies_left : replies_to m o t (take n (drop done requests)) ++ replies_to (inodes_after m o t (take n (drop done requests))) (ordinal_after o n) t (drop (done + n) requests) ≡ replies_to m o t (drop done requests)
  replies_left = sym follow.1 ∙ ap (replies_to m o t) (sym (parted n done requests))

  pub formed_left : IsWellFormed (record { tree = inodes_after m o t (take n (drop done requests)); next_ordinal = ordinal_after o n; last_time = t })
  formed_left = subst (λ k. IsWellFormed (record { tree = inodes_after m o t run; next_ordinal = ordinal_after o k; last_time = t })) (few_left n done requests within)
      (formed_again (inodes_after m o t run) (ordinal_after o (length run)) t (requests_keep m o t run (servable (record { tree = m; next_ordinal = o; last_time = t }) formed)))

-- What the gate has run ---------------------------------------------------------------------------------------------------

pub all_ran_on : (ran : ℕ → List ℕ → Type 0) (number : ℕ) (first rest replies more : List (List ℕ)) → length replies ≡ length first
    → AllRan ran number first replies → AllRan ran (number + length first) rest more → AllRan ran number (first ++ rest) (replies ++ more)
all_ran_on ran number [] rest [] more same one two = subst (λ k. AllRan ran k rest more) (let n = number in omega arith) two
all_ran_on ran number [] rest (reply ∷ replies) more same one two = absurd (omega arith)
all_ran_on ran number (request ∷ first) rest [] more same one two = absurd (omega arith)
all_ran_on ran number (request ∷ first) rest (reply ∷ replies) more same one two =
    (one.0, all_ran_on ran (number + 1) first rest replies more (omega arith) one.1 (subst (λ k. AllRan ran k rest more) (omega arith) two))

pub length-replies_to : (m : Inodes) (o : ℕ) (t : Time) (requests : List (List ℕ)) → length (replies_to m o t requests) ≡ length requests
length-replies_to m o t [] = refl
length-replies_to m o t (request ∷ requests) = ap suc (length-replies_to (answer m o t request).0 (ordinal_after o 1) t requests)

-- what holds of the replies so far, whatever comes of the rest
pub ran_further : (ran : ℕ → List ℕ → Type 0) (P : List (List ℕ) → Type 0) (m : Inodes) (o : ℕ) (t : Time) (requests : List (List ℕ)) (done n : ℕ) (replies : List (List ℕ)) → done + n ≤ length requests
    → AllRan ran done (take n (drop done requests)) (replies_to m o t (take n (drop done requests)))
    → ((more : List (List ℕ)) → AllRan ran done (drop done requests) more → P (replies ++ more))
    → (more : List (List ℕ)) → AllRan ran (done + n) (drop (done + n) requests) more → P ((replies ++ replies_to m o t (take n (drop done requests))) ++ more)
ran_further ran P m o t requests done n replies within here before more rest =
    let run = take n (drop done requests) in
    let now = replies_to m o t run in
    subst P (sym (append_assoc replies now more))
    (before (now ++ more) (subst (λ xs. AllRan ran done xs (now ++ more)) (sym (parted n done requests))
    (all_ran_on ran done run (drop (done + n) requests) now more (length-replies_to m o t run) here (subst (λ k. AllRan ran (done + k) (drop (done + n) requests) more) (sym (few_left n done requests within)) rest))))
