-- The loops that pass over items: so many are left.
use Rattle.std.proofs.Common.{◌≡◌, ℕ, suc, ◌+◌, ◌<◌, ◌≤◌, true, List, [], Option, Some, None, refl, ap, ◌∙◌}
use Rattle.std.specs.Option.{option_map}
use Rattle.bfs_model.specs.Bytes.Formats.{Reading}
use Rattle.bfs_digest.specs.Inside.TextReading.{is_nothing}
use Rattle.bfs_model.proofs.Public.{some_is}
use Rattle.bfs_digest.proofs.Texts.{nothing}
use Rattle.bfs_digest.proofs.Rising.{ReadsRising, left, skip_more, skip_low, skip_none}

-- a turn of the loop, with the numbers of what is left before and after
pub turn : {A : Type 0} {from : List ℕ → Reading A} {number : A → ℕ} {list : (count least : ℕ) → List ℕ → Reading (List A)} (R : ReadsRising from number list) (all : Option (List ℕ)) (n m least key : ℕ) (bytes rest : List ℕ)
    → n ≡ suc m → option_map {U = ℕ × List ℕ} (λ read. (number read.0, read.1)) (from bytes) ≡ Some (key, rest) → least ≤ key → all ≡ left (list n least bytes) → all ≡ left (list m (key + 1) rest)
turn {list = list} R all n m least key bytes rest is read le so_far = so_far ∙ ap (λ k. left (list k least bytes)) is ∙ skip_more R m least key bytes rest read le

pub unmapped : {A B : Type 0} (f : A → B) (o : Option A) → option_map f o ≡ None → o ≡ None
unmapped f None e = refl
unmapped f (Some x) e = absurd cc

none_left : {A : Type 0} (reading other : Reading A) → left reading ≡ left other → other ≡ None → reading ≡ None
none_left None other e none = refl
none_left (Some read) other e none = let gone : left other ≡ None = ap left none in absurd cc

pub turn_low : {A : Type 0} {from : List ℕ → Reading A} {number : A → ℕ} {list : (count least : ℕ) → List ℕ → Reading (List A)} (R : ReadsRising from number list) (all : Reading (List A)) (n m least key : ℕ) (bytes rest : List ℕ)
    → n ≡ suc m → option_map {U = ℕ × List ℕ} (λ read. (number read.0, read.1)) (from bytes) ≡ Some (key, rest) → key < least → left all ≡ left (list n least bytes) → all ≡ None
turn_low {list = list} R all n m least key bytes rest is read lt so_far = none_left all (list n least bytes) so_far (ap (λ k. list k least bytes) is ∙ skip_low R m least key bytes rest read lt)

pub turn_none : {A : Type 0} {from : List ℕ → Reading A} {number : A → ℕ} {list : (count least : ℕ) → List ℕ → Reading (List A)} (R : ReadsRising from number list) (all : Reading (List A)) (n m least : ℕ) (bytes : List ℕ)
    → n ≡ suc m → from bytes ≡ None → left all ≡ left (list n least bytes) → all ≡ None
turn_none {list = list} R all n m least bytes is read so_far = none_left all (list n least bytes) so_far (ap (λ k. list k least bytes) is ∙ skip_none R m least bytes read)

pub turns_done : {A : Type 0} {from : List ℕ → Reading A} {number : A → ℕ} {list : (count least : ℕ) → List ℕ → Reading (List A)} (R : ReadsRising from number list) (all : Option (List ℕ)) (n least : ℕ) (bytes : List ℕ)
    → n ≡ 0 → all ≡ left (list n least bytes) → all ≡ Some bytes
turns_done {list = list} R all n least bytes is so_far = so_far ∙ ap (λ k. left (list k least bytes)) is ∙ ap left (R.none least bytes)

-- nothing is left behind what is read
pub record ReadsAll {A : Type 0} (reading : Reading A) : Type 0 where
  pub item : A
  pub is : reading ≡ Some (item, [])

pub reads_all : {A : Type 0} (reading : Reading A) (rest : List ℕ) → left reading ≡ Some rest → is_nothing rest ≡ true → ReadsAll reading
reads_all None rest e none = absurd cc
reads_all (Some read) rest e none = record { item = read.0; is = ap (λ r. Some (read.0, r)) (some_is read.1 rest e ∙ nothing rest none) }
