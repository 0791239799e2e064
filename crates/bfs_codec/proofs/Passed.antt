-- Things that are passed over one after another.
use Rattle.std.proofs.Common.{◌≡◌, ℕ, suc, List, ◌∷◌, Some, None, Result, Ok, Err, refl, ap, ◌∙◌}
use Rattle.std.specs.Prelude.{⊤}
use Rattle.bfs_model.specs.Bytes.Call.{◌>>=◌}
use Rattle.bfs_model.specs.Bytes.Formats.{Reading, as_from, items_from, then_from}
use Rattle.bfs_model.proofs.Public.{some_is}
use Rattle.bfs_codec.specs.Codes.{Passes, behind}

module _ {A : Type 0} (from : List ℕ → Reading A) (n m : ℕ) (bytes : List ℕ) where
  abbrev with_more : Reading A → Reading (List A)
  with_more one = one >>= λ x. items_from from m x.1 >>= λ xs. Some (x.0 ∷ xs.0, xs.1)

  one_and_more : n ≡ suc m → items_from from n bytes ≡ with_more (from bytes)
  unfolding items_from
  one_and_more is = ap (λ k. items_from from k bytes) is

  -- one is passed over, and the others are left
  pub one_passed : (rest : List ℕ) → n ≡ suc m → behind (from bytes) ≡ Some rest → behind (items_from from n bytes) ≡ behind (items_from from m rest)
  one_passed rest is one = ap behind (one_and_more is) ∙ go (from bytes) one
    where
      same : (x : A) (more : Reading (List A)) → behind (more >>= λ xs. Some (x ∷ xs.0, xs.1)) ≡ behind more
      same x None = refl
      same x (Some xs) = refl

      go : (o : Reading A) → behind o ≡ Some rest → behind (with_more o) ≡ behind (items_from from m rest)
      go (Some x) e = same x.0 (items_from from m x.1) ∙ ap (λ left. behind (items_from from m left)) (some_is x.1 rest e)
      go None e = absurd cc

  pub one_missing : n ≡ suc m → behind (from bytes) ≡ None → behind (items_from from n bytes) ≡ None
  one_missing is none = ap behind (one_and_more is) ∙ go (from bytes) none
    where
      go : (o : Reading A) → behind o ≡ None → behind (with_more o) ≡ None
      go None e = refl
      go (Some x) e = absurd cc

pub all_passed : {A : Type 0} (from : List ℕ → Reading A) (n : ℕ) (bytes : List ℕ) → n ≡ 0 → behind (items_from from n bytes) ≡ Some bytes
unfolding items_from
all_passed from n bytes is = ap (λ k. behind (items_from from k bytes)) is

module _ {A B C E : Type 0} (to : A × B → C) (first : List ℕ → Reading A) (second : List ℕ → Reading B) where
  -- one thing is passed over, and then another
  pub then_passed : (bytes mid rest : List ℕ) (r : Result ⊤ E) → behind (first bytes) ≡ Some mid → Passes r (second mid) rest → Passes r (as_from to (then_from first second) bytes) rest
  then_passed bytes mid rest r one two = alike r _ _ (go (first bytes) one) two
    where
      paired : A → B × List ℕ → Reading (A × B)
      paired x y = Some ((x, y.0), y.1)

      go : (o : Reading A) → behind o ≡ Some mid → behind (as_from to (λ left. o >>= λ x. second x.1 >>= paired x.0) bytes) ≡ behind (second mid)
      go (Some x) e = flat (second x.1) ∙ ap (λ left. behind (second left)) (some_is x.1 mid e)
        where
          flat : (o : Reading B) → behind (as_from to (λ left. o >>= paired x.0) bytes) ≡ behind o
          flat None = refl
          flat (Some y) = refl
      go None e = absurd cc

      alike : (r : Result ⊤ E) (x : Reading C) (y : Reading B) → behind x ≡ behind y → Passes r y rest → Passes r x rest
      alike (Ok done) x y e passes = e ∙ passes
      alike (Err fault) x y e passes = e ∙ passes
