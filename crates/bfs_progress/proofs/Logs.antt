-- What a log tells, and what it tells when more is said.
use Rattle.std.proofs.Common.{◌≡◌, ℕ, ◌+◌, ◌*◌, ◌<◌, ◌≤◌, ◌==◌, max, Bool, true, false, ◌&&◌, ◌||◌, not, ltb, leb, nat_le, List, [], ◌∷◌, ◌++◌, bytes_eq, ◌⊎◌, inl, inr, refl, sym, subst, arith}
use Rattle.std.proofs.lemmas.Bool.{and_parts, and_from, or_left, or_right, or_cases, cond_both, eqb-true, eq-eqb, ltb-true, ltb-false, leb-true, le-leb}
use Rattle.bfs_votes.specs.Votes.{Header, is_slot, has_slot, is_taken, says, told, Told, replicas, primary, backups, is_backed, prepared}
use Rattle.bfs_votes.proofs.Public.{more}
use Rattle.bfs_agreement.specs.Histories.{IsIn}
use Rattle.bfs_agreement.specs.Moves.{kept_above, taken_in}
use Rattle.bfs_agreement.specs.Calls.{vote, said_once, with_said, prepares_in, commits_in, votes_in, greatest_proposed}
use Rattle.bfs_agreement.proofs.Public.{Is, told_cases, told_more, moved, says_itself}

-- Places --------------------------------------------------------------------------------------------------------------

pub slot_itself : (h : Header) → is_slot h.tag h.sender h.view h.number h ≡ true
slot_itself h = (and_parts (is_slot h.tag h.sender h.view h.number h) (bytes_eq h.digest h.digest) (says_itself h)).0

pub slot_more : (h : Header) (log : List Header) (t k v n : ℕ) → has_slot log t k v n ≡ true → has_slot (h ∷ log) t k v n ≡ true
slot_more h log t k v n x = or_right (is_slot t k v n h) (has_slot log t k v n) x

-- a place that is taken tells something
pub slot_told : (log : List Header) (t k v n : ℕ) → has_slot log t k v n ≡ true → (d : List ℕ) × Told log t k v n d
slot_told [] t k v n x = absurd cc
slot_told (h ∷ log) t k v n x = elim (or_cases (is_slot t k v n h) (has_slot log t k v n) x) [
  | inl a ↦ (
    h.digest,
    or_left (says t k v n h.digest h) (told log t k v n h.digest)
        (and_from (is_slot t k v n h) (bytes_eq h.digest h.digest) a (and_parts (is_slot h.tag h.sender h.view h.number h) (bytes_eq h.digest h.digest) (says_itself h)).1),
  )
  | inr b ↦ let got = slot_told log t k v n b in (got.0, told_more h log t k v n got.0 got.1)
]

pub told_slot : (log : List Header) (t k v n : ℕ) (d : List ℕ) → Told log t k v n d → has_slot log t k v n ≡ true
told_slot [] t k v n d x = absurd cc
told_slot (h ∷ log) t k v n d x = elim (or_cases (says t k v n d h) (told log t k v n d) x) [
  | inl a ↦ or_left (is_slot t k v n h) (has_slot log t k v n) (and_parts (is_slot t k v n h) (bytes_eq h.digest d) a).0
  | inr b ↦ slot_more h log t k v n (told_slot log t k v n d b)
]

-- Saying --------------------------------------------------------------------------------------------------------------

pub said_slots : (hs log : List Header) (t k v n : ℕ) → has_slot log t k v n ≡ true → has_slot (with_said hs log) t k v n ≡ true
said_slots [] log t k v n x = x
said_slots (h ∷ hs) log t k v n x = said_slots hs (h ∷ log) t k v n (slot_more h log t k v n x)

pub said_join : (xs ys log : List Header) → with_said (xs ++ ys) log ≡ with_said ys (with_said xs log)
said_join [] ys log = refl
said_join (x ∷ xs) ys log = said_join xs ys (x ∷ log)

pub told_said : (hs log : List Header) (t k v n : ℕ) (d : List ℕ) → Told (with_said hs log) t k v n d → Told hs t k v n d ⊎ Told log t k v n d
told_said [] log t k v n d x = inr x
told_said (h ∷ hs) log t k v n d x = elim (told_said hs (h ∷ log) t k v n d x) [
  | inl a ↦ inl (told_more h hs t k v n d a)
  | inr b ↦ elim (told_cases h log t k v n d b) [
    | inl is ↦ inl (or_left (says t k v n d h) (told hs t k v n d) (moved h t k v n d is (λ t k v n d. says t k v n d h ≡ true) (says_itself h)))
    | inr c ↦ inr c
  ]
]

once_slot : (log : List Header) (h : Header) → has_slot (with_said (said_once log h) log) h.tag h.sender h.view h.number ≡ true
once_slot log h = cond_both (is_taken log h) [] (h ∷ []) (λ (l : List Header). has_slot (with_said l log) h.tag h.sender h.view h.number ≡ true)
    (λ taken. taken)
    (λ free. or_left (is_slot h.tag h.sender h.view h.number h) (has_slot log h.tag h.sender h.view h.number) (slot_itself h))

once_told : (log : List Header) (h : Header) (t k v n : ℕ) (d : List ℕ) → Told (said_once log h) t k v n d → Is h t k v n d
once_told log h t k v n d = cond_both (is_taken log h) [] (h ∷ []) (λ (l : List Header). Told l t k v n d → Is h t k v n d)
    (λ _ x. absurd cc)
    (λ _ x. elim (told_cases h [] t k v n d x) [ inl a ↦ a | inr b ↦ absurd cc ])

pub prepare_slot : (f me : ℕ) (log : List Header) (v n : ℕ) (d : List ℕ) → (me == primary f v) ≡ false → has_slot (with_said (prepares_in f me log v n d) log) 3 me v n ≡ true
prepare_slot f me log v n d backup = cond_both (me == primary f v) [] (said_once log (vote 3 me v n d)) (λ (l : List Header). has_slot (with_said l log) 3 me v n ≡ true)
    (λ leads. absurd cc)
    (λ _. once_slot log (vote 3 me v n d))

pub commit_slot : (f me : ℕ) (log : List Header) (v n : ℕ) (d : List ℕ) → prepared f me log v n d ≡ true → has_slot (with_said (commits_in f me log v n d) log) 4 me v n ≡ true
commit_slot f me log v n d ready = cond_both (prepared f me log v n d) (said_once log (vote 4 me v n d)) [] (λ (l : List Header). has_slot (with_said l log) 4 me v n ≡ true)
    (λ _. once_slot log (vote 4 me v n d))
    (λ unready. absurd cc)

pub prepare_told : (f me : ℕ) (log : List Header) (v n : ℕ) (d : List ℕ) (t k u m : ℕ) (e : List ℕ) → Told (prepares_in f me log v n d) t k u m e → Is (vote 3 me v n d) t k u m e
prepare_told f me log v n d t k u m e = cond_both (me == primary f v) [] (said_once log (vote 3 me v n d)) (λ (l : List Header). Told l t k u m e → Is (vote 3 me v n d) t k u m e)
    (λ _ x. absurd cc)
    (λ _ x. once_told log (vote 3 me v n d) t k u m e x)

pub commit_told : (f me : ℕ) (log : List Header) (v n : ℕ) (d : List ℕ) (t k u m : ℕ) (e : List ℕ) → Told (commits_in f me log v n d) t k u m e → Is (vote 4 me v n d) t k u m e
commit_told f me log v n d t k u m e = cond_both (prepared f me log v n d) (said_once log (vote 4 me v n d)) [] (λ (l : List Header). Told l t k u m e → Is (vote 4 me v n d) t k u m e)
    (λ _ x. once_told log (vote 4 me v n d) t k u m e x)
    (λ _ x. absurd cc)

-- both votes that answer a PRE-PREPARE
pub votes_told : (f me : ℕ) (log : List Header) (v n : ℕ) (d : List ℕ) (t k u m : ℕ) (e : List ℕ) → Told (with_said (votes_in f me log v n d) log) t k u m e
    → Is (vote 3 me v n d) t k u m e ⊎ (Is (vote 4 me v n d) t k u m e ⊎ Told log t k u m e)
votes_told f me log v n d t k u m e x =
    let p = prepares_in f me log v n d in
    let c = commits_in f me (with_said p log) v n d in
    elim (told_said c (with_said p log) t k u m e (subst (λ (l : List Header). Told l t k u m e) (said_join p c log) x)) [
      | inl a ↦ inr (inl (commit_told f me (with_said p log) v n d t k u m e a))
      | inr b ↦ elim (told_said p log t k u m e b) [
        | inl a ↦ inl (prepare_told f me log v n d t k u m e a)
        | inr c ↦ inr (inr c)
      ]
    ]

pub votes_slot : (f me : ℕ) (log : List Header) (v n : ℕ) (d : List ℕ) → (me == primary f v) ≡ false → has_slot (with_said (votes_in f me log v n d) log) 3 me v n ≡ true
votes_slot f me log v n d backup =
    let p = prepares_in f me log v n d in
    let c = commits_in f me (with_said p log) v n d in
    subst (λ (l : List Header). has_slot l 3 me v n ≡ true) (sym (said_join p c log)) (said_slots c (with_said p log) 3 me v n (prepare_slot f me log v n d backup))

-- Certificates --------------------------------------------------------------------------------------------------------

pub backed_from : (f : ℕ) (log : List Header) (v n : ℕ) (d : List ℕ) → Told log 2 (primary f v) v n d → 2 * f ≤ backups f log v n d → is_backed f log v n d ≡ true
backed_from f log v n d proposal enough = and_from (told log 2 (primary f v) v n d) (nat_le (2 * f) (backups f log v n d)) proposal (le-leb (2 * f) (backups f log v n d) enough)

pub record IsPrepared (f me : ℕ) (log : List Header) (v n : ℕ) (d : List ℕ) : Type 0 where
  pub proposal : Told log 2 (primary f v) v n d
  pub enough : 2 * f ≤ backups f log v n d
  pub own : ((me == primary f v) || told log 3 me v n d) ≡ true

pub prepared_is : (f me : ℕ) (log : List Header) (v n : ℕ) (d : List ℕ) → prepared f me log v n d ≡ true → IsPrepared f me log v n d
prepared_is f me log v n d ready =
    let a = and_parts (is_backed f log v n d) ((me == primary f v) || told log 3 me v n d) ready in
    let b = and_parts (told log 2 (primary f v) v n d) (nat_le (2 * f) (backups f log v n d)) a.0 in
    record { proposal = b.0; enough = leb-true (2 * f) (backups f log v n d) b.1; own = a.1 }

pub is_prepared : (f me : ℕ) (log : List Header) (v n : ℕ) (d : List ℕ) → IsPrepared f me log v n d → prepared f me log v n d ≡ true
is_prepared f me log v n d is = and_from (is_backed f log v n d) ((me == primary f v) || told log 3 me v n d) (backed_from f log v n d is.proposal is.enough) is.own

pub backups_more : (f : ℕ) (log new : List Header) (v n : ℕ) (d : List ℕ) → ((k : ℕ) → Told log 3 k v n d → Told new 3 k v n d) → backups f log v n d ≤ backups f new v n d
backups_more f log new v n d grows =
    let p = primary f v in
    more (λ k. not (k == p) && told log 3 k v n d) (λ k. not (k == p) && told new 3 k v n d) (replicas f)
    (λ k x. let c = and_parts (not (k == p)) (told log 3 k v n d) x in and_from (not (k == p)) (told new 3 k v n d) c.0 (grows k c.1))

-- in another log that tells the PRE-PREPARE and the PREPAREs too
pub prepared_by : (f me : ℕ) (log new : List Header) (v n : ℕ) (d : List ℕ) → ((t k : ℕ) → 1 < t → t < 4 → Told log t k v n d → Told new t k v n d)
    → prepared f me log v n d ≡ true → prepared f me new v n d ≡ true
prepared_by f me log new v n d grows ready =
    let p = primary f v in
    let old = prepared_is f me log v n d ready in
    let enough = old.enough in
    let grown = backups_more f log new v n d (λ k x. grows 3 k (omega arith) (omega arith) x) in
    is_prepared f me new v n d (record {
      proposal = grows 2 p (omega arith) (omega arith) old.proposal;
      enough = omega (arith, enough, grown);
      own = elim (or_cases (me == p) (told log 3 me v n d) old.own) [
        | inl x ↦ or_left (me == p) (told new 3 me v n d) x
        | inr y ↦ or_right (me == p) (told new 3 me v n d) (grows 3 me (omega arith) (omega arith) y)
      ];
    })

-- Marks ---------------------------------------------------------------------------------------------------------------

pub kept_slot : (m : ℕ) (log : List Header) (t k v n : ℕ) → m < n → has_slot log t k v n ≡ true → has_slot (kept_above m log) t k v n ≡ true
kept_slot m [] t k v n lt e = e
kept_slot m (h ∷ log) t k v n lt e = cond_both (ltb m h.number) (h ∷ kept_above m log) (kept_above m log) (λ (l : List Header). has_slot l t k v n ≡ true)
    (λ above. elim (or_cases (is_slot t k v n h) (has_slot log t k v n) e) [
      | inl a ↦ or_left (is_slot t k v n h) (has_slot (kept_above m log) t k v n) a
      | inr b ↦ slot_more h (kept_above m log) t k v n (kept_slot m log t k v n lt b)
    ])
    (λ below. elim (or_cases (is_slot t k v n h) (has_slot log t k v n) e) [
      | inl a ↦ let le : h.number ≤ m = ltb-false m h.number below in let same = slot_number t k v n h a in absurd (omega (arith, le, same, lt))
      | inr b ↦ kept_slot m log t k v n lt b
    ])
  where
    slot_number : (t k v n : ℕ) (h : Header) → is_slot t k v n h ≡ true → h.number ≡ n
    slot_number t k v n h e =
        let a = and_parts (h.tag == t) ((h.sender == k) && ((h.view == v) && (h.number == n))) e in
        let b = and_parts (h.sender == k) ((h.view == v) && (h.number == n)) a.1 in
        eqb-true h.number n (and_parts (h.view == v) (h.number == n) b.1).1

pub kept_high : (m : ℕ) (log : List Header) (t k v n : ℕ) (d : List ℕ) → Told (kept_above m log) t k v n d → m < n
kept_high m [] t k v n d = λ e. absurd cc
kept_high m (h ∷ log) t k v n d = cond_both (ltb m h.number) (h ∷ kept_above m log) (kept_above m log) (λ (l : List Header). Told l t k v n d → m < n)
    (λ above e. elim (told_cases h (kept_above m log) t k v n d e) [
      | inl a ↦ let lt : m < h.number = ltb-true m h.number above in let same : h.number ≡ n = a.number in omega (arith, lt, same)
      | inr b ↦ kept_high m log t k v n d b
    ])
    (λ below e. kept_high m log t k v n d e)

abbrev pub in_marks : (low : ℕ) → Header → Bool
in_marks low h = ltb low h.number && leb h.number (low + 32)

-- what is told of what is handed over stands within the marks
pub taken_from : (low : ℕ) (hs log : List Header) (t k v n : ℕ) (d : List ℕ) → Told (taken_in low hs log) t k v n d
    → ((h : Header) × IsIn h hs × (in_marks low h ≡ true) × Is h t k v n d) ⊎ Told log t k v n d
taken_from low [] log t k v n d = λ x. inr x
taken_from low (h ∷ hs) log t k v n d =
    cond_both (in_marks low h) (h ∷ taken_in low hs log) (taken_in low hs log)
    (λ (l : List Header). Told l t k v n d → ((h' : Header) × IsIn h' (h ∷ hs) × (in_marks low h' ≡ true) × Is h' t k v n d) ⊎ Told log t k v n d)
    (λ within x. elim (told_cases h (taken_in low hs log) t k v n d x) [
      | inl is ↦ inl (h, inl refl, within, is)
      | inr b ↦ elim (taken_from low hs log t k v n d b) [ inl y ↦ inl (y.0, inr y.1, y.2, y.3) | inr y ↦ inr y ]
    ])
    (λ _ x. elim (taken_from low hs log t k v n d x) [ inl y ↦ inl (y.0, inr y.1, y.2, y.3) | inr y ↦ inr y ])

-- Proposals -----------------------------------------------------------------------------------------------------------

pub proposed_le : (log : List Header) (k v n : ℕ) (d : List ℕ) → Told log 2 k v n d → n ≤ greatest_proposed log v
proposed_le [] k v n d x = absurd cc
proposed_le (h ∷ log) k v n d x = cond_both ((h.tag == 2) && (h.view == v)) (max h.number (greatest_proposed log v)) (greatest_proposed log v) (λ (m : ℕ). n ≤ m)
    (λ fits. elim (told_cases h log 2 k v n d x) [
      | inl is ↦ let same : h.number ≡ n = is.number in omega (arith, same)
      | inr old ↦ let le = proposed_le log k v n d old in omega (arith, le)
    ])
    (λ other. elim (told_cases h log 2 k v n d x) [
      | inl is ↦ let fits = and_from (h.tag == 2) (h.view == v) (eq-eqb h.tag 2 is.tag) (eq-eqb h.view v is.view) in absurd cc
      | inr old ↦ proposed_le log k v n d old
    ])

pub greatest_le : (log : List Header) (v b : ℕ) → ((k n : ℕ) (d : List ℕ) → Told log 2 k v n d → n ≤ b) → greatest_proposed log v ≤ b
greatest_le [] v b each = omega arith
greatest_le (h ∷ log) v b each =
    let rest = greatest_le log v b (λ k n d x. each k n d (told_more h log 2 k v n d x)) in
    cond_both ((h.tag == 2) && (h.view == v)) (max h.number (greatest_proposed log v)) (greatest_proposed log v) (λ (m : ℕ). m ≤ b)
    (λ fits.
    let c = and_parts (h.tag == 2) (h.view == v) fits in
    let is : Is h 2 h.sender v h.number h.digest = record { tag = eqb-true h.tag 2 c.0; sender = refl; view = eqb-true h.view v c.1; number = refl; digest = refl } in
    let itself = moved h 2 h.sender v h.number h.digest is (λ t k v n d. says t k v n d h ≡ true) (says_itself h) in
    let one = each h.sender h.number h.digest (or_left (says 2 h.sender v h.number h.digest h) (told log 2 h.sender v h.number h.digest) itself) in
    omega (arith, one, rest))
    (λ _. rest)
