-- What a log tells after each move.
use Rattle.std.proofs.Common.{◌≡◌, ℕ, ◌+◌, ◌*◌, ◌<◌, ◌≤◌, ◌==◌, true, false, ◌&&◌, ◌||◌, not, ltb, leb, nat_le, List, [], ◌∷◌, ◌++◌, bytes_eq, ◌⊎◌, inl, inr, sym, ◌∙◌, arith}
use Rattle.std.proofs.lemmas.Bool.{and_parts, and_from, and_cases, or_cases, or_right, or_left, cond_both, ltb-false, leb-false, leb-true, le-leb}
use Rattle.std.proofs.lemmas.List.Folds.{list_any-append}
use Rattle.bfs_votes.specs.Votes.{Header, is_slot, has_slot, says, told, Told, count_below, primary, is_backed, prepared, replicas}
use Rattle.bfs_agreement.specs.Moves.{kept_above, taken_in}
use Rattle.bfs_votes.proofs.Public.{more}
use Rattle.bfs_agreement.proofs.Told.{told_cases}

pub told_slot : (log : List Header) (t k v n : ℕ) (d : List ℕ) → Told log t k v n d → has_slot log t k v n ≡ true
told_slot [] t k v n d e = absurd cc
told_slot (h ∷ log) t k v n d e = elim (or_cases (says t k v n d h) (told log t k v n d) e) [
  | inl a ↦ or_left (is_slot t k v n h) (has_slot log t k v n) (and_parts (is_slot t k v n h) (bytes_eq h.digest d) a).0
  | inr b ↦ or_right (is_slot t k v n h) (has_slot log t k v n) (told_slot log t k v n d b)
]

-- a free place tells nothing
pub untold : (log : List Header) (t k v n : ℕ) (d : List ℕ) → has_slot log t k v n ≡ false → Told log t k v n d → ⊥
untold log t k v n d free e = let full = told_slot log t k v n d e in absurd cc

pub told_kept : (m : ℕ) (log : List Header) (t k v n : ℕ) (d : List ℕ) → m < n → Told log t k v n d → Told (kept_above m log) t k v n d
told_kept m [] t k v n d lt e = e
told_kept m (h ∷ log) t k v n d lt e = cond_both (ltb m h.number) (h ∷ kept_above m log) (kept_above m log) (λ (l : List Header). Told l t k v n d)
    (λ above. elim (or_cases (says t k v n d h) (told log t k v n d) e) [
      | inl a ↦ or_left (says t k v n d h) (told (kept_above m log) t k v n d) a
      | inr b ↦ or_right (says t k v n d h) (told (kept_above m log) t k v n d) (told_kept m log t k v n d lt b)
    ])
    (λ below. elim (told_cases h log t k v n d e) [
      | inl a ↦ let le : h.number ≤ m = ltb-false m h.number below in let same : h.number ≡ n = a.number in absurd (omega (arith, le, same, lt))
      | inr b ↦ told_kept m log t k v n d lt b
    ])

pub kept_told : (m : ℕ) (log : List Header) (t k v n : ℕ) (d : List ℕ) → Told (kept_above m log) t k v n d → Told log t k v n d
kept_told m [] t k v n d = λ e. e
kept_told m (h ∷ log) t k v n d = cond_both (ltb m h.number) (h ∷ kept_above m log) (kept_above m log) (λ (l : List Header). Told l t k v n d → Told (h ∷ log) t k v n d)
    (λ above e. elim (or_cases (says t k v n d h) (told (kept_above m log) t k v n d) e) [
      | inl a ↦ or_left (says t k v n d h) (told log t k v n d) a
      | inr b ↦ or_right (says t k v n d h) (told log t k v n d) (kept_told m log t k v n d b)
    ])
    (λ below e. or_right (says t k v n d h) (told log t k v n d) (kept_told m log t k v n d e))

-- enters
pub log_stays : (low : ℕ) (hs log : List Header) (t k v n : ℕ) (d : List ℕ) → Told log t k v n d → Told (taken_in low hs log) t k v n d
log_stays low [] log t k v n d e = e
log_stays low (h ∷ hs) log t k v n d e = cond_both (ltb low h.number && leb h.number (low + 32)) (h ∷ taken_in low hs log) (taken_in low hs log) (λ (l : List Header). Told l t k v n d)
    (λ yes. or_right (says t k v n d h) (told (taken_in low hs log) t k v n d) (log_stays low hs log t k v n d e))
    (λ no1. log_stays low hs log t k v n d e)

pub handed_taken : (low : ℕ) (hs log : List Header) (t k v n : ℕ) (d : List ℕ) → low < n → n ≤ low + 32 → Told hs t k v n d → Told (taken_in low hs log) t k v n d
handed_taken low [] log t k v n d lt le e = absurd cc
handed_taken low (h ∷ hs) log t k v n d lt le e = cond_both (ltb low h.number && leb h.number (low + 32)) (h ∷ taken_in low hs log) (taken_in low hs log) (λ (l : List Header). Told l t k v n d)
    (λ yes1. elim (or_cases (says t k v n d h) (told hs t k v n d) e) [
      | inl a ↦ or_left (says t k v n d h) (told (taken_in low hs log) t k v n d) a
      | inr b ↦ or_right (says t k v n d h) (told (taken_in low hs log) t k v n d) (handed_taken low hs log t k v n d lt le b)
    ])
    (λ no1. elim (told_cases h hs t k v n d e) [
      | inl a ↦ let same : h.number ≡ n = a.number in
          elim (and_cases (ltb low h.number) (leb h.number (low + 32)) no1) [
            | inl x ↦ let faulty : h.number ≤ low = ltb-false low h.number x in absurd (omega (arith, faulty, same, lt))
            | inr y ↦ let faulty : low + 32 < h.number = leb-false h.number (low + 32) y in absurd (omega (arith, faulty, same, le))
          ]
      | inr b ↦ handed_taken low hs log t k v n d lt le b
    ])

pub taken_told : (low : ℕ) (hs log : List Header) (t k v n : ℕ) (d : List ℕ) → Told (taken_in low hs log) t k v n d → Told hs t k v n d ⊎ Told log t k v n d
taken_told low [] log t k v n d = λ e. inr e
taken_told low (h ∷ hs) log t k v n d = cond_both (ltb low h.number && leb h.number (low + 32)) (h ∷ taken_in low hs log) (taken_in low hs log) (λ (l : List Header). Told l t k v n d → Told (h ∷ hs) t k v n d ⊎ Told log t k v n d)
    (λ yes1 e. elim (or_cases (says t k v n d h) (told (taken_in low hs log) t k v n d) e) [
      | inl a ↦ inl (or_left (says t k v n d h) (told hs t k v n d) a)
      | inr b ↦ elim (taken_told low hs log t k v n d b) [ inl x ↦ inl (or_right (says t k v n d h) (told hs t k v n d) x) | inr y ↦ inr y ]
    ])
    (λ no1 e. elim (taken_told low hs log t k v n d e) [ inl x ↦ inl (or_right (says t k v n d h) (told hs t k v n d) x) | inr y ↦ inr y ])

pub told_join : (xs ys : List Header) (t k v n : ℕ) (d : List ℕ) → Told (xs ++ ys) t k v n d → Told xs t k v n d ⊎ Told ys t k v n d
told_join xs ys t k v n d e = or_cases (told xs t k v n d) (told ys t k v n d) (sym (list_any-append (says t k v n d) xs ys) ∙ e)

pub join_right : (xs ys : List Header) (t k v n : ℕ) (d : List ℕ) → Told ys t k v n d → Told (xs ++ ys) t k v n d
join_right xs ys t k v n d e = list_any-append (says t k v n d) xs ys ∙ or_right (told xs t k v n d) (told ys t k v n d) e

-- certificates
pub prepared_told : (f me : ℕ) (log : List Header) (v n : ℕ) (d : List ℕ) → prepared f me log v n d ≡ true → Told log 2 (primary f v) v n d
prepared_told f me log v n d e =
    let a = and_parts (is_backed f log v n d) ((me == primary f v) || told log 3 me v n d) e in
    (and_parts (told log 2 (primary f v) v n d) (nat_le (2 * f) (count_below (λ k. not (k == primary f v) && told log 3 k v n d) (replicas f))) a.0).0

pub prepared_more : (f me : ℕ) (log new : List Header) (v n : ℕ) (d : List ℕ) → ((t k : ℕ) → t < 5 → Told log t k v n d → Told new t k v n d) → prepared f me log v n d ≡ true → prepared f me new v n d ≡ true
prepared_more f me log new v n d grows e =
    let p = primary f v in
    let a = and_parts (is_backed f log v n d) ((me == p) || told log 3 me v n d) e in
    let b = and_parts (told log 2 p v n d) (nat_le (2 * f) (count_below (λ k. not (k == p) && told log 3 k v n d) (replicas f))) a.0 in
    let enough : 2 * f ≤ count_below (λ k. not (k == p) && told log 3 k v n d) (replicas f) = leb-true (2 * f) (count_below (λ k. not (k == p) && told log 3 k v n d) (replicas f)) b.1 in
    let grown : count_below (λ k. not (k == p) && told log 3 k v n d) (replicas f) ≤ count_below (λ k. not (k == p) && told new 3 k v n d) (replicas f)
    = more (λ k. not (k == p) && told log 3 k v n d) (λ k. not (k == p) && told new 3 k v n d) (replicas f)
    (λ k h. let c = and_parts (not (k == p)) (told log 3 k v n d) h in and_from (not (k == p)) (told new 3 k v n d) c.0 (grows 3 k (omega arith) c.1)) in
    let still : nat_le (2 * f) (count_below (λ k. not (k == p) && told new 3 k v n d) (replicas f)) ≡ true = le-leb (2 * f) (count_below (λ k. not (k == p) && told new 3 k v n d) (replicas f)) (omega (arith, enough, grown)) in
    let backed : is_backed f new v n d ≡ true = and_from (told new 2 p v n d) (nat_le (2 * f) (count_below (λ k. not (k == p) && told new 3 k v n d) (replicas f))) (grows 2 p (omega arith) b.0) still in
    let own : ((me == p) || told new 3 me v n d) ≡ true = elim (or_cases (me == p) (told log 3 me v n d) a.1) [ inl x ↦ or_left (me == p) (told new 3 me v n d) x | inr y ↦ or_right (me == p) (told new 3 me v n d) (grows 3 me (omega arith) y) ] in
    and_from (is_backed f new v n d) ((me == p) || told new 3 me v n d) backed own
