-- A root tells the texts below it.
use Rattle.std.proofs.Common.{◌≡◌, ◌≤◌, ◌<◌, ◌+◌, ◌*◌, ◌/◌, ◌%◌, ◌^◌, inl, inr, ℕ, zero, suc, Bool, List, [], ◌∷◌, ◌++◌, length, take, drop, Some, None, true, false, refl, sym, ap, ◌∙◌, arith}
use Rattle.std.specs.Prelude.{◌==◌, ◌&&◌, map, nat_le, nat_lt, replicate, slice_get, slice_index_or, if◌then◌else◌}
use Rattle.std.proofs.lemmas.Bool.{and_parts, cases_Bool, cases_lt, cond-false, cond-true, eqb-false, eqb-true, leb-true, ltb-true}
use Rattle.std.proofs.lemmas.List.{drop_at, get_or-map, get_or_past, length-drop, length-map, length-take, take_at}
use Rattle.std.proofs.lemmas.Nat.{shr-shr}
use Rattle.std.proofs.lemmas.Option.{slice_get-get_or}
use Rattle.std.proofs.Math.Nat.{div-eq_of_lt}
use Rattle.sha2.specs.Sha256.{sha256}
use Rattle.sha2.proofs.Facts256.{length-sha256}
use Rattle.lms.specs.Bytes.{hash_at}
use Rattle.bfs_signatures.specs.Hashes.{climbed, leaf_hash, node_above, node_hash}
use Rattle.bfs_signatures.specs.Signature.{height_in, is_formed, most_height, number_in, path_in, root_in}
use Rattle.bfs_signatures.specs.Signing.{height_of, node, root}
use Rattle.bfs_signatures.specs.Hashed.{DontCollide, IsHashedFrom, hashed_above}
use Rattle.bfs_signatures.specs.Laws.{RootTellsTexts}
use Rattle.bfs_signatures.proofs.Climbing.{climbed_more, climbed_none}
use Rattle.bfs_signatures.proofs.Kept.{node_inner, node_zero}
use Rattle.bfs_signatures.proofs.Signed.{node_long}

above_is : (number : ℕ) (node sibling : List ℕ) → node_above number node sibling ≡ sha256 (hashed_above number node sibling)
above_is number node sibling = elim (cases_Bool (number % 2 == 1)) [
  | inl odd ↦
      cond-true (number % 2 == 1) (node_hash sibling node) (node_hash node sibling) odd
      ∙ ap (λ (l : List ℕ). sha256 (1 ∷ l)) (sym (cond-true (number % 2 == 1) (sibling ++ node) (node ++ sibling) odd))
  | inr even ↦
      cond-false (number % 2 == 1) (node_hash sibling node) (node_hash node sibling) even
      ∙ ap (λ (l : List ℕ). sha256 (1 ∷ l)) (sym (cond-false (number % 2 == 1) (sibling ++ node) (node ++ sibling) even))
]

climbed_over : (number : ℕ) (node path : List ℕ) (n : ℕ)
    → climbed number node path (suc n) ≡ sha256 (hashed_above (number / 2 ^ n) (climbed number node path n) (hash_at n path))
climbed_over number node path n =
    let next : suc n ≡ n + 1 = omega arith in
    ap (climbed number node path) next ∙ climbed_more number node path n ∙ above_is (number / 2 ^ n) (climbed number node path n) (hash_at n path)

climbed_long : (number : ℕ) (node path : List ℕ) (n : ℕ) → length node ≡ 32 → length (climbed number node path n) ≡ 32
climbed_long number node path zero long = ap length (climbed_none number node path) ∙ long
climbed_long number node path (suc n) long = ap length (climbed_over number node path n) ∙ length-sha256 _

path_long : (path : List ℕ) (height n : ℕ) → length path ≡ 32 * height → n < height → length (hash_at n path) ≡ 32
path_long path height n long below = omega (arith, length-take 32 (drop (32 * n) path), length-drop (32 * n) path, long, below)

-- two hashes beside each other tell both
first_told : (a b c d : List ℕ) → length a ≡ 32 → length c ≡ 32 → a ++ b ≡ c ++ d → a ≡ c
first_told a b c d long_a long_c e = sym (take_at a b 32 long_a) ∙ ap (take 32) e ∙ take_at c d 32 long_c

second_told : (a b c d : List ℕ) → length a ≡ 32 → length c ≡ 32 → a ++ b ≡ c ++ d → b ≡ d
second_told a b c d long_a long_c e = sym (drop_at a b 32 long_a) ∙ ap (drop 32) e ∙ drop_at c d 32 long_c

-- the node on the way, told by what is hashed over it
node_told : (f : ℕ → List ℕ) (number : ℕ) (node sibling : List ℕ) → ((i : ℕ) → length (f i) ≡ 32) → length node ≡ 32 → length sibling ≡ 32
    → 1 ∷ f (2 * (number / 2)) ++ f (2 * (number / 2) + 1) ≡ hashed_above number node sibling → node ≡ f number
node_told f number node sibling each long long_sibling e =
    let left = f (2 * (number / 2)) in
    let right = f (2 * (number / 2) + 1) in
    let behind : left ++ right ≡ (if number % 2 == 1 then sibling ++ node else node ++ sibling) = ap (drop 1) e in
    elim (cases_Bool (number % 2 == 1)) [
      | inl odd ↦
          let rest : number % 2 ≡ 1 = eqb-true (number % 2) 1 odd in
          let at : 2 * (number / 2) + 1 ≡ number = omega (arith, rest) in
          sym (second_told left right sibling node (each (2 * (number / 2))) long_sibling (behind ∙ cond-true (number % 2 == 1) (sibling ++ node) (node ++ sibling) odd)) ∙ ap f at
      | inr even ↦
          let rest = eqb-false (number % 2) 1 even in
          let at : 2 * (number / 2) ≡ number = omega (arith, rest) in
          sym (first_told left right node sibling (each (2 * (number / 2))) long (behind ∙ cond-false (number % 2 == 1) (sibling ++ node) (node ++ sibling) even)) ∙ ap f at
    ]

-- ---- one level after another, down from the root

record Way (texts : List (List ℕ)) (text bytes : List ℕ) : Type 0 where
  apart : DontCollide texts text bytes
  long : length (path_in bytes) ≡ 32 * height_in bytes

-- what is hashed is hashed for a text of the tree
at_leaf : (texts : List (List ℕ)) (text bytes hashed : List ℕ) (number : ℕ) → DontCollide texts text bytes → IsHashedFrom text bytes hashed
    → sha256 hashed ≡ node (map leaf_hash texts) 0 number → (found : List ℕ) × (slice_get texts number ≡ Some found) × (0 ∷ found ≡ hashed)
at_leaf texts text bytes hashed number free from e = elim (cases_lt number (length texts)) [
  | inl within ↦
      let found = slice_index_or texts number [] in
      let got = slice_get-get_or texts number [] within in
      let is : node (map leaf_hash texts) 0 number ≡ leaf_hash found =
      node_zero (map leaf_hash texts) number ∙ get_or-map leaf_hash texts number [] (replicate 32 0) within in
      (found, got, free.apart (0 ∷ found) hashed (inl (number, found, got, refl)) from (sym (e ∙ is)))
  | inr past ↦
      let none : node (map leaf_hash texts) 0 number ≡ replicate 32 0 =
      node_zero (map leaf_hash texts) number ∙ get_or_past (map leaf_hash texts) number (replicate 32 0) (omega (arith, length-map texts leaf_hash, past)) in
      absurd (free.there hashed from (e ∙ none))
]

down : (texts : List (List ℕ)) (text bytes : List ℕ) → Way texts text bytes → (above below : ℕ) → above ≤ height_of (map leaf_hash texts) → below ≤ height_in bytes
    → climbed (number_in bytes) (leaf_hash text) (path_in bytes) below ≡ node (map leaf_hash texts) above (number_in bytes / 2 ^ below)
    → slice_get texts (number_in bytes) ≡ Some text
down texts text bytes way zero zero high low e =
    let number = number_in bytes in
    let at = at_leaf texts text bytes (0 ∷ text) (number / 2 ^ 0) way.apart (inl refl) (sym (climbed_none number (leaf_hash text) (path_in bytes)) ∙ e) in
    let same : number / 2 ^ 0 ≡ number = omega arith in
    let is : at.0 ≡ text = ap (drop 1) at.2 in
    ap (slice_get texts) (sym same) ∙ at.1 ∙ ap Some is
down texts text bytes way (suc n) zero high low e =
    let number = number_in bytes in
    let leaves = map leaf_hash texts in
    let m = number / 2 ^ 0 in
    let same = way.apart.apart (1 ∷ node leaves n (2 * m) ++ node leaves n (2 * m + 1)) (0 ∷ text) (inr (n, m, high, refl)) (inl refl)
    (sym (node_inner leaves n m) ∙ sym e ∙ climbed_none number (leaf_hash text) (path_in bytes)) in
    cc
down texts text bytes way zero (suc n) high low e =
    let number = number_in bytes in
    let path = path_in bytes in
    let hashed = hashed_above (number / 2 ^ n) (climbed number (leaf_hash text) path n) (hash_at n path) in
    let at = at_leaf texts text bytes hashed (number / 2 ^ suc n) way.apart (inr (n, low, refl)) (sym (climbed_over number (leaf_hash text) path n) ∙ e) in
    let same = at.2 in
    cc
down texts text bytes way (suc m) (suc n) high low e =
    let number = number_in bytes in
    let leaves = map leaf_hash texts in
    let path = path_in bytes in
    let node_below = climbed number (leaf_hash text) path n in
    let hashed = hashed_above (number / 2 ^ n) node_below (hash_at n path) in
    let next : n + 1 ≡ suc n = omega arith in
    let half : number / 2 ^ n / 2 ≡ number / 2 ^ suc n = shr-shr number n 1 ∙ ap (λ k. number / 2 ^ k) next in
    let k = number / 2 ^ n / 2 in
    let same = way.apart.apart (1 ∷ node leaves m (2 * k) ++ node leaves m (2 * k + 1)) hashed (inr (m, k, high, refl)) (inr (n, low, refl))
    (sym (node_inner leaves m k) ∙ ap (node leaves (suc m)) half ∙ sym e ∙ climbed_over number (leaf_hash text) path n) in
    down texts text bytes way m n (omega (arith, high)) (omega (arith, low))
    (node_told (node leaves m) (number / 2 ^ n) node_below (hash_at n path) (node_long texts m) (climbed_long number (leaf_hash text) path n (length-sha256 _))
    (path_long path (height_in bytes) n way.long low) same)

-- ---- from the root

record Formed (bytes : List ℕ) : Type 0 where
  number : number_in bytes < 2 ^ height_in bytes
  path : length (path_in bytes) ≡ 32 * height_in bytes

formed_told : (bytes : List ℕ) → is_formed bytes ≡ true → Formed bytes
formed_told bytes formed =
    let two = and_parts (nat_le 8 (length bytes) && nat_le (height_in bytes) most_height && nat_lt (number_in bytes) (2 ^ height_in bytes))
    (nat_le (8 + 32 * height_in bytes) (length bytes)) formed in
    let one = and_parts (nat_le 8 (length bytes) && nat_le (height_in bytes) most_height) (nat_lt (number_in bytes) (2 ^ height_in bytes)) two.0 in
    let long = leb-true (8 + 32 * height_in bytes) (length bytes) two.1 in
    record {
      number = ltb-true (number_in bytes) (2 ^ height_in bytes) one.1;
      path = omega (arith, long, length-take (32 * height_in bytes) (drop 8 bytes), length-drop 8 bytes);
    }

some_told : (formed : Bool) (one other : List ℕ) → (if formed then Some one else None) ≡ Some other → (formed ≡ true) × (one ≡ other)
some_told true one other e = (refl, cc)
some_told false one other e = cc

pub root_tells_texts : RootTellsTexts
root_tells_texts texts text bytes free e =
    let leaves = map leaf_hash texts in
    let number = number_in bytes in
    let path = path_in bytes in
    let told = some_told (is_formed bytes) (root_in (leaf_hash text) bytes) (root leaves) e in
    let formed = formed_told bytes told.0 in
    let levels : length path / 32 ≡ height_in bytes = omega (arith, formed.path) in
    let way : Way texts text bytes = record { apart = free; long = formed.path } in
    down texts text bytes way (height_of leaves) (height_in bytes) (omega arith) (omega arith)
    (ap (climbed number (leaf_hash text) path) (sym levels) ∙ told.1 ∙ ap (node leaves (height_of leaves)) (sym (div-eq_of_lt formed.number)))
