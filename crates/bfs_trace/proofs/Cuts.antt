-- Cutting a text at a byte, and the words that are cut.
use Rattle.std.proofs.Common.{◌≡◌, ℕ, ◌+◌, ◌-◌, ◌<◌, List, [], ◌∷◌, ◌≢◌, None, Some, length, take, drop, refl, ap, arith, true, false}
use Rattle.std.specs.Prelude.{eqb}
use Rattle.std.specs.List.{position_or_len, slice_index}
use Rattle.std.proofs.lemmas.Bool.{false_from_ne_true}
use Rattle.std.proofs.lemmas.List.{take_all}
use Rattle.std.proofs.Common.{length-drop}
use Rattle.std.proofs.lemmas.List.Elements.{All-from_get_or}
use Rattle.std.proofs.lemmas.List.Splits.{length-slice_split, slice_split_first, slice_split_none}
use Rattle.std.proofs.lemmas.List.Sums.{position_or_len_is}
use Rattle.std.proofs.lemmas.Option.{some_pair_parts}
use Rattle.memchr.specs.Find.{IsFirstByte, is_byte}
use Rattle.bfs_trace.specs.Words.{only_word, parts, word_in}

-- where a byte isn't the one that is looked for
apart : (at byte : ℕ) → ¬ (is_byte at byte ≡ true) → eqb byte at ≡ false
apart at byte not = false_from_ne_true (eqb byte at) not

-- the first part ends before the first byte `at`
pub cut_at : (at : ℕ) (text : List ℕ) (i : ℕ) → IsFirstByte (is_byte at) text (Some i)
    → parts at text ≡ take i text ∷ parts at (take (length text - (i + 1)) (drop (i + 1) text))
unfolding parts
cut_at at text i found =
    let lt : i < length text = found.0.high in
    let is : position_or_len (λ b. eqb b at) text ≡ i = position_or_len_is (λ b. eqb b at) text i 0 (omega arith) (λ k before. apart at (slice_index text k) (found.0.before k (omega arith) before)) (λ _. found.1) in
    let first = slice_split_first (λ b. eqb b at) text 0 (rw is lt) in
    rw (take_all (length text - (i + 1)) (drop (i + 1) text) (omega (arith, length-drop {A = ℕ})), first, is) refl

-- a text with no byte `at` is its one part
pub cut_none : (at : ℕ) (text : List ℕ) → IsFirstByte (is_byte at) text None → parts at text ≡ text ∷ []
unfolding parts
cut_none at text none =
    slice_split_none (λ b. eqb b at) text (All-from_get_or (λ b. eqb b at ≡ false) text 0 (λ k within. apart at (slice_index text k) (none k (omega arith) within)))

-- the words that a word is read of
pub word_is : (left : List (List ℕ)) {word : List ℕ} {words : List (List ℕ)} → Some (word, words) ≡ word_in left → left ≡ word ∷ words
word_is [] is = absurd cc
word_is (first ∷ rest) {word} {words} is = let same = some_pair_parts word first words rest is in cc

-- any text has a part
pub parts_of_some_text : (at : ℕ) (text : List ℕ) → parts at text ≢ []
unfolding parts
parts_of_some_text at text none = omega (arith, ap length none, length-slice_split (λ b. eqb b at) text)

pub not_only_word : (word : List ℕ) (words : List (List ℕ)) → words ≢ [] → only_word (word ∷ words) ≡ None
not_only_word word [] more = absurd (more refl)
not_only_word word (next ∷ words) more = refl
