-- So many words, and the bytes after them: one word at a time.
use Rattle.std.proofs.Common.{◌≡◌, ℕ, suc, ◌+◌, ◌-◌, ◌<◌, ◌≤◌, List, [], ◌∷◌, ◌++◌, length, Option, Some, None, Ok, option_and_then, option_map, refl, sym, ap, ◌∙◌, arith}
use Rattle.std.proofs.lemmas.List.{append_assoc, append-nil, length-append}
use Rattle.std.proofs.Math.Nat.{sub-zero}
use Rattle.std.specs.Result.{result_ok}
use Rattle.bfs_model.specs.Bytes.Items.{word_at}
use Rattle.bfs_model.specs.Bytes.Call.{words_at}

-- words in front of others
abbrev pub behind : (front : List ℕ) → Option (List ℕ × List ℕ) → Option (List ℕ × List ℕ)
behind front words = option_map (λ more. (front ++ more.0, more.1)) words

-- so many of all words are read, and the others are left
pub record IsSoFar (count : ℕ) (bytes : List ℕ) (read : ℕ) (front left : List ℕ) : Type 0 where
  pub counted : length front ≡ read
  pub told : behind front (words_at (count - read) left) ≡ words_at count bytes

behind_none : (words : Option (List ℕ × List ℕ)) → behind [] words ≡ words
behind_none None = refl
behind_none (Some more) = refl

pub begun : (count : ℕ) (bytes : List ℕ) → IsSoFar count bytes 0 [] bytes
begun count bytes = record { counted = refl; told = ap (λ n. behind [] (words_at n bytes)) (sub-zero count) ∙ behind_none (words_at count bytes) }

pub ended : (count : ℕ) (bytes : List ℕ) (read : ℕ) (front left : List ℕ) → IsSoFar count bytes read front left → count ≤ read → Some (front, left) ≡ words_at count bytes
unfolding words_at
ended count bytes read front left so_far all =
    let e : count - read ≡ 0 = omega arith in
    let done : behind front (words_at (count - read) left) ≡ Some (front, left) = rw e (ap (λ (words : List ℕ). Some (words, left)) (append-nil front)) in
    sym done ∙ so_far.told

next : (front : List ℕ) (w : ℕ) (words : Option (List ℕ × List ℕ)) → behind (front ++ w ∷ []) words ≡ behind front (option_and_then (λ more. Some (w ∷ more.0, more.1)) words)
next front w None = refl
next front w (Some more) = ap (λ (words : List ℕ). Some (words, more.1)) (append_assoc front (w ∷ []) more.0)

pub went_on : (count : ℕ) (bytes : List ℕ) (read : ℕ) (front left : List ℕ) (w : ℕ) (rest : List ℕ) → IsSoFar count bytes read front left → read < count → word_at left ≡ Ok (w, rest)
    → IsSoFar count bytes (read + 1) (front ++ w ∷ []) rest
unfolding words_at
went_on count bytes read front left w rest so_far more found =
    let e : count - read ≡ suc (count - (read + 1)) = omega arith in
    let on : behind front (words_at (count - read) left) ≡ behind front (option_and_then (λ others. Some (w ∷ others.0, others.1)) (words_at (count - (read + 1)) rest)) = rw (e, found) refl in
    record {
      counted = omega (arith, length-append front (w ∷ []), so_far.counted);
      told = next front w (words_at (count - (read + 1)) rest) ∙ sym on ∙ so_far.told;
    }

pub stopped : (count : ℕ) (bytes : List ℕ) (read : ℕ) (front left : List ℕ) → IsSoFar count bytes read front left → read < count → result_ok (word_at left) ≡ None → None ≡ words_at count bytes
unfolding words_at
stopped count bytes read front left so_far more found =
    let e : count - read ≡ suc (count - (read + 1)) = omega arith in
    let none : behind front (words_at (count - read) left) ≡ None = rw (e, found) refl in
    sym none ∙ so_far.told
