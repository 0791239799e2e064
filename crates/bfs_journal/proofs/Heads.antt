-- What stands before a body, and the lengths that are told there.
use Rattle.std.proofs.Common.{◌≡◌, inl, inr, ℕ, ◌+◌, ◌≤◌, List, ◌++◌, length, take, drop, Option, None, Some, refl, sym, ap, ◌∙◌, append_assoc, length-append, arith, true}
use Rattle.std.proofs.lemmas.Bool.{and_from, and_parts, cases_Bool, cond-false, cond-true, eq-eqb, eqb-true, le-leb, leb-true}
use Rattle.std.proofs.lemmas.List.{drop_at, take_at}
use Rattle.std.proofs.lemmas.Nat.{from_be_bytes-to_be_bytes_4}
use Rattle.std.specs.Prelude.{◌==◌, ◌&&◌, nat_le, if◌then◌else◌}
use Rattle.std.specs.Int.{from_be_bytes, to_be_bytes, w32}
use Rattle.sha2.specs.Sha256.{sha256}
use Rattle.sha2.proofs.Facts256.{length-sha256}
use Rattle.bfs_journal.specs.Records.{IsBody, most_body_bytes, record_of}
use Rattle.bfs_journal.specs.Rests.{digest_at, told_length, word_at}

-- Two lengths ------------------------------------------------------------------------------------------------------------

abbrev told_of : (m n : ℕ) → Option ℕ
told_of m n = if (m == n) && nat_le m most_body_bytes then Some m else None

abbrev are_told : (m n : ℕ) → Type 0
are_told m n = ((m == n) && nat_le m most_body_bytes) ≡ true

told_from : (m n len : ℕ) → m ≡ len → n ≡ len → len ≤ most_body_bytes → told_of m n ≡ Some len
told_from m n len first second fits =
    let both : are_told m n = and_from (m == n) (nat_le m most_body_bytes) (eq-eqb m n (first ∙ sym second)) (le-leb m most_body_bytes (omega (arith, first, fits))) in
    cond-true ((m == n) && nat_le m most_body_bytes) (Some m) None both ∙ ap Some first

told_parts : (m n len : ℕ) → told_of m n ≡ Some len → (m ≡ len) × ((n ≡ len) × (len ≤ most_body_bytes))
told_parts m n len e = elim (cases_Bool ((m == n) && nat_le m most_body_bytes)) [
  | inl passes ↦
      let parts = and_parts (m == n) (nat_le m most_body_bytes) passes in
      let some : ◌≡◌ {A = Option ℕ} (Some m) (Some len) = sym (cond-true ((m == n) && nat_le m most_body_bytes) (Some m) None passes) ∙ e in
      let same : m ≡ len = cc in
      (same, (sym (eqb-true m n parts.0) ∙ same, omega (arith, same, leb-true m most_body_bytes parts.1)))
  | inr fails ↦
      let none : ◌≡◌ {A = Option ℕ} None (Some len) = sym (cond-false ((m == n) && nat_le m most_body_bytes) (Some m) None fails) ∙ e in
      absurd cc
]

-- the lengths that are told are one
pub told_both : (bytes : List ℕ) (len : ℕ) → told_length bytes ≡ Some len → (word_at 0 bytes ≡ len) × ((word_at 4 bytes ≡ len) × (len ≤ most_body_bytes))
told_both bytes len e = told_parts (word_at 0 bytes) (word_at 4 bytes) len e

-- The parts of a record --------------------------------------------------------------------------------------------------

pub length-word : (n : ℕ) → length (to_be_bytes w32 n) ≡ 4
length-word n = refl

pub regrouped : (body more : List ℕ) → record_of body ++ more ≡ to_be_bytes w32 (length body) ++ (to_be_bytes w32 (length body) ++ (sha256 body ++ (body ++ more)))
unfolding record_of
regrouped body more = simp append_assoc

pub length-record : (body : List ℕ) → length (record_of body) ≡ 40 + length body
unfolding record_of
length-record body =
    let word = to_be_bytes w32 (length body) in
    omega (arith, length-append word (word ++ (sha256 body ++ body)), length-append word (sha256 body ++ body), length-append (sha256 body) body, length-sha256 body, length-word (length body))

-- behind the first length
behind_one : (body more : List ℕ) → drop 4 (record_of body ++ more) ≡ to_be_bytes w32 (length body) ++ (sha256 body ++ (body ++ more))
behind_one body more =
    let word = to_be_bytes w32 (length body) in
    ap (drop 4) (regrouped body more) ∙ drop_at word (word ++ (sha256 body ++ (body ++ more))) 4 (length-word (length body))

-- behind both
behind_two : (body more : List ℕ) → drop 8 (record_of body ++ more) ≡ sha256 body ++ (body ++ more)
behind_two body more =
    let word = to_be_bytes w32 (length body) in
    ap (drop 8) (regrouped body more ∙ sym (append_assoc word word (sha256 body ++ (body ++ more))))
    ∙ drop_at (word ++ word) (sha256 body ++ (body ++ more)) 8 (omega (arith, length-append word word, length-word (length body)))

pub behind_head : (body more : List ℕ) → drop 40 (record_of body ++ more) ≡ body ++ more
unfolding record_of
behind_head body more =
    let word = to_be_bytes w32 (length body) in
    let head = word ++ (word ++ sha256 body) in
    let long : length head ≡ 40 = omega (arith, length-append word (word ++ sha256 body), length-append word (sha256 body), length-sha256 body, length-word (length body)) in
    let split : record_of body ++ more ≡ head ++ (body ++ more) = simp append_assoc in
    ap (drop 40) split ∙ drop_at head (body ++ more) 40 long

-- Bytes with a record at the front -----------------------------------------------------------------------------------------

word_is : (n : ℕ) (more : List ℕ) → n ≤ most_body_bytes → from_be_bytes w32 (take 4 (to_be_bytes w32 n ++ more)) ≡ n
word_is n more fits = ap (from_be_bytes w32) (take_at (to_be_bytes w32 n) more 4 (length-word n)) ∙ from_be_bytes-to_be_bytes_4 n (omega (arith, fits))

pub told_in : (bytes body more : List ℕ) → IsBody body → bytes ≡ record_of body ++ more → told_length bytes ≡ Some (length body)
told_in bytes body more fits e =
    let word = to_be_bytes w32 (length body) in
    told_from (word_at 0 bytes) (word_at 4 bytes) (length body)
    (ap (λ (l : List ℕ). from_be_bytes w32 (take 4 l)) (e ∙ regrouped body more) ∙ word_is (length body) (word ++ (sha256 body ++ (body ++ more))) fits)
    (ap (λ (l : List ℕ). from_be_bytes w32 (take 4 (drop 4 l))) e ∙ ap (λ (l : List ℕ). from_be_bytes w32 (take 4 l)) (behind_one body more) ∙ word_is (length body) (sha256 body ++ (body ++ more)) fits)
    fits

pub long_in : (bytes body more : List ℕ) → bytes ≡ record_of body ++ more → length bytes ≡ 40 + (length body + length more)
long_in bytes body more e = omega (arith, ap length e, length-append (record_of body) more, length-record body)

pub body_in : (bytes body more : List ℕ) → bytes ≡ record_of body ++ more → drop 40 bytes ≡ body ++ more
body_in bytes body more e = ap (drop 40) e ∙ behind_head body more

pub digest_in : (bytes body more : List ℕ) → bytes ≡ record_of body ++ more → digest_at bytes ≡ sha256 body
digest_in bytes body more e =
    ap (λ (l : List ℕ). take 32 (drop 8 l)) e ∙ ap (take 32) (behind_two body more) ∙ take_at (sha256 body) (body ++ more) 32 (length-sha256 body)
