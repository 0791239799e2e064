-- Loops that read so many things one after another.
use Rattle.std.proofs.Common.{◌≡◌, ℕ, suc, Bool, true, false, List, [], ◌∷◌, ◌++◌, Option, Some, None, is_some, refl, sym, ap, ◌∙◌, append-nil, append_assoc}
use Rattle.bfs_model.specs.Bytes.Call.{◌>>=◌}
use Rattle.bfs_model.specs.Bytes.Formats.{Reading, items_from}

-- what was read before, and what is still read
abbrev pub with_front : {A : Type 0} → List A → Reading (List A) → Reading (List A)
with_front front reading = reading >>= λ read. Some (front ++ read.0, read.1)

module _ {A : Type 0} (from : List ℕ → Reading A) (n m : ℕ) (bytes : List ℕ) where
  -- so many are left, and one is read
  one_read : (x : A) (rest : List ℕ) → n ≡ suc m → from bytes ≡ Some (x, rest) → items_from from n bytes ≡ with_front (x ∷ []) (items_from from m rest)
  unfolding items_from
  one_read x rest is read = ap (λ k. items_from from k bytes) is ∙ ap (λ o. o >>= λ y. items_from from m y.1 >>= λ ys. Some (y.0 ∷ ys.0, ys.1)) read

  none_read : n ≡ suc m → from bytes ≡ None → items_from from n bytes ≡ None
  unfolding items_from
  none_read is read = ap (λ k. items_from from k bytes) is ∙ ap (λ o. o >>= λ y. items_from from m y.1 >>= λ ys. Some (y.0 ∷ ys.0, ys.1)) read

  none_are_left : n ≡ 0 → items_from from n bytes ≡ Some ([], bytes)
  unfolding items_from
  none_are_left is = ap (λ k. items_from from k bytes) is

  pub turn : (front : List A) (x : A) (rest : List ℕ) (all : Reading (List A)) → n ≡ suc m → from bytes ≡ Some (x, rest)
      → with_front front (items_from from n bytes) ≡ all → with_front (front ++ x ∷ []) (items_from from m rest) ≡ all
  turn front x rest all is read so_far = regroup (items_from from m rest) ∙ ap (with_front front) (sym (one_read x rest is read)) ∙ so_far
    where
      regroup : (reading : Reading (List A)) → with_front (front ++ x ∷ []) reading ≡ with_front front (with_front (x ∷ []) reading)
      regroup (Some read) = ap (λ xs. Some (xs, read.1)) (append_assoc front (x ∷ []) read.0)
      regroup None = refl

  pub turn_none : (front : List A) (all : Reading (List A)) → n ≡ suc m → from bytes ≡ None → with_front front (items_from from n bytes) ≡ all → all ≡ None
  turn_none front all is read so_far = sym so_far ∙ ap (with_front front) (none_read is read)

  pub turns_done : (front : List A) (all : Reading (List A)) → n ≡ 0 → with_front front (items_from from n bytes) ≡ all → all ≡ Some (front, bytes)
  turns_done front all is so_far = sym so_far ∙ ap (with_front front) (none_are_left is) ∙ ap (λ xs. Some (xs, bytes)) (append-nil front)

  -- whether all can be read
  pub test_turn : (x : A) (rest : List ℕ) (all : Bool) → n ≡ suc m → from bytes ≡ Some (x, rest) → all ≡ is_some (items_from from n bytes) → all ≡ is_some (items_from from m rest)
  test_turn x rest all is read so_far = so_far ∙ ap is_some (one_read x rest is read) ∙ alike (items_from from m rest)
    where
      alike : (reading : Reading (List A)) → is_some (with_front (x ∷ []) reading) ≡ is_some reading
      alike (Some read) = refl
      alike None = refl

  pub test_fails : (all : Bool) → n ≡ suc m → from bytes ≡ None → all ≡ is_some (items_from from n bytes) → all ≡ false
  test_fails all is read so_far = so_far ∙ ap is_some (none_read is read)

  pub test_done : (all : Bool) → n ≡ 0 → all ≡ is_some (items_from from n bytes) → all ≡ true
  test_done all is so_far = so_far ∙ ap is_some (none_are_left is)
