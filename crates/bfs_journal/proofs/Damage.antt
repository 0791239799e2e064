-- Records that were changed.
use Rattle.std.proofs.Common.{◌≡◌, inl, inr, ℕ, ◌≤◌, List, [], ◌∷◌, ◌++◌, length, Some, refl, sym, ◌∙◌, ap, arith, length-append, false}
use Rattle.std.proofs.lemmas.Bool.{cond-false, le-ltb, or_from}
use Rattle.std.specs.Prelude.{nat_lt}
use Rattle.bfs_journal.specs.Records.{journal_of}
use Rattle.bfs_journal.specs.Rests.{IsChanged, is_below, is_front_of_record, rest_of, told_length}
use Rattle.bfs_journal.specs.Laws.{DamageIsTold}
use Rattle.bfs_journal.specs.declared.rest.Rest.TheVariants.{Cut, Damaged}
use Rattle.bfs_journal.proofs.Heads.{length-record, told_both}
use Rattle.bfs_journal.proofs.Fronts.{below_none, word_front}
use Rattle.bfs_journal.proofs.Records.{one_reading}

-- bytes that are not a front, and not few
damaged : (bytes : List ℕ) → 8 ≤ length bytes → is_below (length bytes) (told_length bytes) ≡ false → rest_of bytes ≡ Damaged
damaged [] long not_below = absurd (omega arith)
damaged (byte ∷ bytes) long not_below =
    let all = byte ∷ bytes in
    cond-false (is_front_of_record all) Cut Damaged
    (or_from (nat_lt (length all) 8) (is_below (length all) (told_length all)) (le-ltb (length all) 8 long) not_below)

-- where a length is told, it is that of the body
still_told : (body changed behind : List ℕ) (len : ℕ) → IsChanged body changed → told_length (changed ++ behind) ≡ Some len → len ≡ length body
still_told body changed behind len is told =
    let both = told_both (changed ++ behind) len told in
    elim is.told [
      | inl first ↦ sym both.0 ∙ word_front 0 changed behind (omega (arith, is.as_long, length-record body)) ∙ first
      | inr second ↦ sym both.1.0 ∙ word_front 4 changed behind (omega (arith, is.as_long, length-record body)) ∙ second
    ]

changed_is_damage : (body changed behind : List ℕ) → IsChanged body changed → rest_of (changed ++ behind) ≡ Damaged
changed_is_damage body changed behind is =
    let long = length-append changed behind in
    let record_is = length-record body in
    damaged (changed ++ behind) (omega (arith, is.as_long, long, record_is))
    (below_none (length (changed ++ behind)) (told_length (changed ++ behind))
    (λ len told. omega (arith, is.as_long, long, record_is, still_told body changed behind len is told)))

pub damage_is_told : DamageIsTold
damage_is_told before body changed behind bodies rest each is lacks split =
    let same = one_reading (journal_of before ++ (changed ++ behind)) bodies before rest (changed ++ behind) split
    (record { whole = refl; each = each; no_more = lacks }) in
    (same.0, ap rest_of same.1 ∙ changed_is_damage body changed behind is)
