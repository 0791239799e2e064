-- Fronts of journals: what a cut leaves.
use Rattle.std.proofs.Common.{◌≡◌, ◌≢◌, inl, inr, ℕ, zero, suc, ◌+◌, ◌-◌, ◌<◌, ◌≤◌, List, [], ◌∷◌, ◌++◌, length, take, drop, Option, None, Some, refl, sym, ◌∙◌, ap, subst, arith, length-append, true, false}
use Rattle.std.proofs.Math.Seq.{take-append-add}
use Rattle.std.proofs.lemmas.Bool.{cases_lt, cond-true, le-ltb, lt-ltb, or_from, or_left, or_right}
use Rattle.std.proofs.lemmas.List.{drop-append-le, length-drop, length-take, take-append-drop, take-append-le, take_at}
use Rattle.std.proofs.lemmas.List.Elements.{All-cons, All-head, All-nil, All-tail}
use Rattle.std.specs.Prelude.{All, nat_lt}
use Rattle.std.specs.Int.{from_be_bytes, w32}
use Rattle.bfs_journal.specs.Records.{IsBody, LacksRecord, Splits, journal_of, record_of}
use Rattle.bfs_journal.specs.Rests.{is_below, is_front_of_record, rest_of, told_length, word_at}
use Rattle.bfs_journal.specs.Laws.{CutsAreNoDamage, FrontsAreRead, RecoversAFront}
use Rattle.bfs_journal.specs.declared.rest.Rest.{Rest}
use Rattle.bfs_journal.specs.declared.rest.Rest.TheVariants.{Cut, Damaged}
use Rattle.bfs_journal.proofs.Heads.{length-record, long_in, told_in}
use Rattle.bfs_journal.proofs.Records.{journal_cons, one_reading}

-- A front of a record ------------------------------------------------------------------------------------------------------

-- a word is told by the bytes in front
pub word_front : (place : ℕ) (front behind : List ℕ) → place + 4 ≤ length front → word_at place (front ++ behind) ≡ word_at place front
word_front place front behind within =
    ap (λ (l : List ℕ). from_be_bytes w32 (take 4 l)) (drop-append-le place front behind (omega (arith, within)))
    ∙ ap (from_be_bytes w32) (take-append-le 4 (drop place front) behind (omega (arith, within, length-drop place front)))

told_front : (front behind : List ℕ) → 8 ≤ length front → told_length (front ++ behind) ≡ told_length front
told_front front behind within =
    let first = word_front 0 front behind (omega (arith, within)) in
    let second = word_front 4 front behind (omega (arith, within)) in
    cc

below : (count len : ℕ) (told : Option ℕ) → told ≡ Some len → count < 40 + len → is_below count told ≡ true
below count len None is few = absurd cc
below count len (Some told) is few =
    let same : told ≡ len = cc in
    lt-ltb count (40 + told) (omega (arith, same, few))

pub below_none : (count : ℕ) (told : Option ℕ) → ((len : ℕ) → told ≡ Some len → 40 + len ≤ count) → is_below count told ≡ false
below_none count None many = refl
below_none count (Some len) many = le-ltb count (40 + len) (many len refl)

pub cut_is_front : (b more : List ℕ) (count : ℕ) → IsBody b → count < length (record_of b) → is_front_of_record (take count (record_of b ++ more)) ≡ true
cut_is_front b more count fits short =
    let front = take count (record_of b ++ more) in
    let behind = drop count (record_of b ++ more) in
    elim (cases_lt (length front) 8) [
      | inl few ↦ or_left (nat_lt (length front) 8) (is_below (length front) (told_length front)) (lt-ltb (length front) 8 few)
      | inr many ↦
          let told : told_length front ≡ Some (length b) = sym (told_front front behind many) ∙ told_in (front ++ behind) b more fits (take-append-drop count (record_of b ++ more)) in
          or_right (nat_lt (length front) 8) (is_below (length front) (told_length front))
          (below (length front) (length b) (told_length front) told (omega (arith, short, length-record b, length-take count (record_of b ++ more))))
    ]

-- no record stands at the front of a front of one
pub front_lacks : (bytes : List ℕ) → is_front_of_record bytes ≡ true → LacksRecord bytes
front_lacks bytes front body more fits e =
    let long = long_in bytes body more e in
    let told = told_in bytes body more fits e in
    let no_few : nat_lt (length bytes) 8 ≡ false = le-ltb (length bytes) 8 (omega (arith, long)) in
    let not_below : is_below (length bytes) (told_length bytes) ≡ false = below_none (length bytes) (told_length bytes) (λ len is. let same : len ≡ length body = cc in omega (arith, same, long)) in
    let none = or_from (nat_lt (length bytes) 8) (is_below (length bytes) (told_length bytes)) no_few not_below in
    cc (front, none)

pub front_is_no_damage : (rest : List ℕ) → is_front_of_record rest ≡ true → rest_of rest ≢ Damaged
front_is_no_damage [] front e = cc
front_is_no_damage (byte ∷ bytes) front e =
    let cut = cond-true (is_front_of_record (byte ∷ bytes)) Cut Damaged front in
    let both : ◌≡◌ {A = Rest} Cut Damaged = sym cut ∙ e in
    cc

-- A front of a journal -------------------------------------------------------------------------------------------------------

pub record Front (bodies : List (List ℕ)) (count : ℕ) : Type 0 where
  pub n : ℕ
  pub within : n ≤ length bodies
  pub rest : List ℕ
  pub split : Splits (take count (journal_of bodies)) (take n bodies) rest
  pub cut : is_front_of_record rest ≡ true
  pub most : (m : ℕ) → m ≤ length bodies → length (journal_of (take m bodies)) ≤ count → m ≤ n

-- a whole record within it
longer : (b : List ℕ) (bs : List (List ℕ)) (count : ℕ) → length (record_of b) ≤ count
    → take count (journal_of (b ∷ bs)) ≡ record_of b ++ take (count - length (record_of b)) (journal_of bs)
longer b bs count long =
    ap (λ (k : ℕ). take k (record_of b ++ journal_of bs)) (omega (arith, long) ∙ refl)
    ∙ take-append-add (record_of b) (journal_of bs) (count - length (record_of b))

most_cons : (b : List ℕ) (bs : List (List ℕ)) (count n : ℕ) → length (record_of b) ≤ count
    → ((m : ℕ) → m ≤ length bs → length (journal_of (take m bs)) ≤ count - length (record_of b) → m ≤ n)
    → (m : ℕ) → m ≤ length (b ∷ bs) → length (journal_of (take m (b ∷ bs))) ≤ count → m ≤ suc n
most_cons b bs count n long most zero within fits = omega arith
most_cons b bs count n long most (suc m) within fits =
    let behind = most m (omega (arith, within)) (omega (arith, fits, long, length-append (record_of b) (journal_of (take m bs)))) in
    omega (arith, behind)

front_cons : (b : List ℕ) (bs : List (List ℕ)) (count : ℕ) → All IsBody (b ∷ bs) → length (record_of b) ≤ count
    → Front bs (count - length (record_of b)) → Front (b ∷ bs) count
front_cons b bs count each long behind = record {
  n = suc behind.n;
  within = omega (arith, behind.within);
  rest = behind.rest;
  split = record {
    whole = longer b bs count long ∙ ap (λ (l : List ℕ). record_of b ++ l) behind.split.whole ∙ sym (journal_cons b (take behind.n bs) behind.rest);
    each = All-cons IsBody b (take behind.n bs) (All-head IsBody b bs each) behind.split.each;
    no_more = behind.split.no_more;
  };
  cut = behind.cut;
  most = most_cons b bs count behind.n long behind.most;
}

most_none : (b : List ℕ) (bs : List (List ℕ)) (count : ℕ) → count < length (record_of b)
    → (m : ℕ) → m ≤ length (b ∷ bs) → length (journal_of (take m (b ∷ bs))) ≤ count → m ≤ 0
most_none b bs count short zero within fits = omega arith
most_none b bs count short (suc m) within fits = absurd (omega (arith, fits, short, length-append (record_of b) (journal_of (take m bs))))

front_none : (b : List ℕ) (bs : List (List ℕ)) (count : ℕ) → All IsBody (b ∷ bs) → count < length (record_of b) → Front (b ∷ bs) count
front_none b bs count each short =
    let cut = cut_is_front b (journal_of bs) count (All-head IsBody b bs each) short in
    record {
      n = 0;
      within = omega arith;
      rest = take count (journal_of (b ∷ bs));
      split = record { whole = refl; each = All-nil IsBody; no_more = front_lacks (take count (journal_of (b ∷ bs))) cut };
      cut = cut;
      most = most_none b bs count short;
    }

abbrev empty : List ℕ
empty = []

few_is_front : (bytes : List ℕ) → length bytes < 8 → is_front_of_record bytes ≡ true
few_is_front bytes few = or_left (nat_lt (length bytes) 8) (is_below (length bytes) (told_length bytes)) (lt-ltb (length bytes) 8 few)

front_end : (count : ℕ) → Front [] count
front_end count =
    let cut = few_is_front (take count empty) (omega (arith, length-take count empty)) in
    record {
      n = 0;
      within = omega arith;
      rest = take count empty;
      split = record { whole = refl; each = All-nil IsBody; no_more = front_lacks (take count empty) cut };
      cut = cut;
      most = λ m within fits. omega (arith, within);
    }

-- what is read of a front
pub front : (bodies : List (List ℕ)) (count : ℕ) → All IsBody bodies → Front bodies count
front [] count each = front_end count
front (b ∷ bs) count each = elim (cases_lt count (length (record_of b))) [
  | inl short ↦ front_none b bs count each short
  | inr long ↦ front_cons b bs count each long (front bs (count - length (record_of b)) (All-tail IsBody b bs each))
]

pub fronts_are_read : FrontsAreRead
fronts_are_read synced more count bodies rest each long split =
    let found = front (synced ++ more) count each in
    let same = one_reading (take count (journal_of (synced ++ more))) bodies (take found.n (synced ++ more)) rest found.rest split found.split in
    record {
      n = found.n;
      no_fewer = found.most (length synced) (omega (arith, length-append synced more))
          (subst (λ (l : List (List ℕ)). length (journal_of l) ≤ count) (sym (take_at synced more (length synced) refl)) long);
      no_more = found.within;
      read = same.0;
    }

pub cuts_are_no_damage : CutsAreNoDamage
cuts_are_no_damage all count bodies rest each split =
    let found = front all count each in
    let same = one_reading (take count (journal_of all)) bodies (take found.n all) rest found.rest split found.split in
    front_is_no_damage rest (ap is_front_of_record same.1 ∙ found.cut)

pub recovers_a_front : (S : Type 0) → RecoversAFront S
recovers_a_front S step start synced more count bodies rest each long split =
    let found = fronts_are_read synced more count bodies rest each long split in
    (bodies, found, refl)
