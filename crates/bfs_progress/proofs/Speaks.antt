-- What a replica has answered to what stands in its log.
use Rattle.std.proofs.Common.{◌≡◌, ℕ, ◌<◌, ◌==◌, Bool, true, false, ◌||◌, not, cond, List, [], ◌∷◌, inl, inr, refl, sym, subst, arith}
use Rattle.std.proofs.lemmas.Bool.{cond_both, eqb-true, eqb-false, cases_Bool}
use Rattle.bfs_votes.specs.Votes.{Header, has_slot, says, Told, primary, prepared}
use Rattle.bfs_agreement.specs.Moves.{kept_above}
use Rattle.bfs_agreement.specs.Calls.{with_said, prepares_in, commits_in, votes_in, answers_in}
use Rattle.bfs_agreement.proofs.Public.{says_is, told_cases, kept_told, moved, says_itself}
use Rattle.bfs_progress.proofs.Logs.{slot_more, said_slots, said_join, told_said, commit_slot, commit_told, votes_told, votes_slot, prepared_is, prepared_by, kept_slot, kept_high}

-- of the numbers of a view: who has a PRE-PREPARE has sent a PREPARE, unless it is the primary, and who is prepared has sent a COMMIT
pub record Speaks (f me v : ℕ) (log : List Header) : Type 0 where
  pub prepares : (n : ℕ) (d : List ℕ) → (me == primary f v) ≡ false → Told log 2 (primary f v) v n d → has_slot log 3 me v n ≡ true
  pub commits : (n : ℕ) (d : List ℕ) → prepared f me log v n d ≡ true → has_slot log 4 me v n ≡ true

-- A message is taken --------------------------------------------------------------------------------------------------

-- a PRE-PREPARE of the primary, and what it is answered by
module _ (f me : ℕ) (log : List Header) (h : Header) (two : h.tag ≡ 2) (from : h.sender ≡ primary f h.view) (speaks : Speaks f me h.view log) where
  abbrev v : ℕ
  v = h.view

  abbrev n : ℕ
  n = h.number

  abbrev d : List ℕ
  d = h.digest

  abbrev said : List Header
  said = with_said (prepares_in f me (h ∷ log) v n d) (h ∷ log)

  abbrev new : List Header
  new = with_said (votes_in f me (h ∷ log) v n d) (h ∷ log)

  new_is : new ≡ with_said (commits_in f me said v n d) said
  new_is = said_join (prepares_in f me (h ∷ log) v n d) (commits_in f me said v n d) (h ∷ log)

  voted_prepares : (m : ℕ) (e : List ℕ) → (me == primary f v) ≡ false → Told new 2 (primary f v) v m e → has_slot new 3 me v m ≡ true
  voted_prepares m e backup x = elim (votes_told f me (h ∷ log) v n d 2 (primary f v) v m e x) [
    | inl a ↦ let t : 3 ≡ 2 = a.tag in absurd (omega (arith, t))
    | inr (inl a) ↦ let t : 4 ≡ 2 = a.tag in absurd (omega (arith, t))
    | inr (inr b) ↦ elim (told_cases h log 2 (primary f v) v m e b) [
      | inl is ↦ subst (λ (x : ℕ). has_slot new 3 me v x ≡ true) is.number (votes_slot f me (h ∷ log) v n d backup)
      | inr old ↦ said_slots (votes_in f me (h ∷ log) v n d) (h ∷ log) 3 me v m (slot_more h log 3 me v m (speaks.prepares m e backup old))
    ]
  ]

  voted_commits : (m : ℕ) (e : List ℕ) → prepared f me new v m e ≡ true → has_slot new 4 me v m ≡ true
  voted_commits m e ready = elim (cases_Bool (says 2 (primary f v) v m e h)) [
    | inl agreed ↦
        let is = says_is 2 (primary f v) v m e h agreed in
        let at_n : prepared f me new v n e ≡ true = subst (λ (x : ℕ). prepared f me new v x e ≡ true) (sym is.number) ready in
        let at_d : prepared f me new v n d ≡ true = subst (λ (x : List ℕ). prepared f me new v n x ≡ true) (sym is.digest) at_n in
        let before : prepared f me said v n d ≡ true = prepared_by f me new said v n d
        (λ t k low small x. elim (told_said (commits_in f me said v n d) said t k v n d (subst (λ (l : List Header). Told l t k v n d) new_is x)) [
          | inl a ↦ let tag : 4 ≡ t = (commit_told f me said v n d t k v n d a).tag in absurd (omega (arith, tag, small))
          | inr b ↦ b
        ]) at_d in
        let here : has_slot new 4 me v n ≡ true = subst (λ (l : List Header). has_slot l 4 me v n ≡ true) (sym new_is) (commit_slot f me said v n d before) in
        subst (λ (x : ℕ). has_slot new 4 me v x ≡ true) is.number here
    | inr other ↦
        let before : prepared f me log v m e ≡ true = prepared_by f me new log v m e (λ t k low small x. older t k small x other) ready in
        said_slots (votes_in f me (h ∷ log) v n d) (h ∷ log) 4 me v m (slot_more h log 4 me v m (speaks.commits m e before))
  ]
    where
      is_head : n ≡ m → d ≡ e → says 2 (primary f v) v m e h ≡ true
      is_head number digest = moved h 2 (primary f v) v m e (record { tag = two; sender = from; view = refl; number = number; digest = digest }) (λ t k v n d. says t k v n d h ≡ true) (says_itself h)

      older : (t k : ℕ) → t < 4 → Told new t k v m e → says 2 (primary f v) v m e h ≡ false → Told log t k v m e
      older t k small x other = elim (votes_told f me (h ∷ log) v n d t k v m e x) [
        | inl a ↦ let agreed = is_head a.number a.digest in absurd cc
        | inr (inl a) ↦ let tag : 4 ≡ t = a.tag in absurd (omega (arith, tag, small))
        | inr (inr b) ↦ elim (told_cases h log t k v m e b) [
          | inl is ↦ let agreed = is_head is.number is.digest in absurd cc
          | inr old ↦ old
        ]
      ]

  pub voted_speaks : Speaks f me v new
  voted_speaks = record { prepares = voted_prepares; commits = voted_commits }

-- a PREPARE
pub prepared_speaks : (f me : ℕ) (log : List Header) (h : Header) → h.tag ≡ 3 → Speaks f me h.view log
    → Speaks f me h.view (with_said (commits_in f me (h ∷ log) h.view h.number h.digest) (h ∷ log))
prepared_speaks f me log h three speaks =
    let v = h.view in
    let n = h.number in
    let d = h.digest in
    let c = commits_in f me (h ∷ log) v n d in
    let new = with_said c (h ∷ log) in
    record {
      prepares = λ m e backup x. elim (told_said c (h ∷ log) 2 (primary f v) v m e x) [
        | inl a ↦ let tag : 4 ≡ 2 = (commit_told f me (h ∷ log) v n d 2 (primary f v) v m e a).tag in absurd (omega (arith, tag))
        | inr b ↦ elim (told_cases h log 2 (primary f v) v m e b) [
          | inl is ↦ let tag : h.tag ≡ 2 = is.tag in absurd (omega (arith, tag, three))
          | inr old ↦ said_slots c (h ∷ log) 3 me v m (slot_more h log 3 me v m (speaks.prepares m e backup old))
        ]
      ];
      commits = λ m e ready. elim (cases_Bool (says 3 h.sender v m e h)) [
        | inl agreed ↦
            let is = says_is 3 h.sender v m e h agreed in
            let at_n : prepared f me new v n e ≡ true = subst (λ (x : ℕ). prepared f me new v x e ≡ true) (sym is.number) ready in
            let at_d : prepared f me new v n d ≡ true = subst (λ (x : List ℕ). prepared f me new v n x ≡ true) (sym is.digest) at_n in
            let before : prepared f me (h ∷ log) v n d ≡ true = prepared_by f me new (h ∷ log) v n d (λ t k low small x. unsaid t k n d small x) at_d in
            subst (λ (x : ℕ). has_slot new 4 me v x ≡ true) is.number (commit_slot f me (h ∷ log) v n d before)
        | inr other ↦
            let before : prepared f me log v m e ≡ true = prepared_by f me new log v m e
            (λ t k low small x. elim (told_cases h log t k v m e (unsaid t k m e small x)) [
              | inl is ↦ let agreed = is_head m e is.number is.digest in absurd cc
              | inr old ↦ old
            ]) ready in
            said_slots c (h ∷ log) 4 me v m (slot_more h log 4 me v m (speaks.commits m e before))
      ];
    }
  where
    -- what is said now is a COMMIT
    unsaid : (t k m : ℕ) (e : List ℕ) → t < 4 → Told (with_said (commits_in f me (h ∷ log) h.view h.number h.digest) (h ∷ log)) t k h.view m e → Told (h ∷ log) t k h.view m e
    unsaid t k m e small x = elim (told_said (commits_in f me (h ∷ log) h.view h.number h.digest) (h ∷ log) t k h.view m e x) [
      | inl a ↦ let tag : 4 ≡ t = (commit_told f me (h ∷ log) h.view h.number h.digest t k h.view m e a).tag in absurd (omega (arith, tag, small))
      | inr b ↦ b
    ]

    is_head : (m : ℕ) (e : List ℕ) → h.number ≡ m → h.digest ≡ e → says 3 h.sender h.view m e h ≡ true
    is_head m e number digest = moved h 3 h.sender h.view m e (record { tag = three; sender = refl; view = refl; number = number; digest = digest }) (λ t k v n d. says t k v n d h ≡ true) (says_itself h)

-- another message
pub other_speaks : (f me : ℕ) (log : List Header) (h : Header) → (h.tag == 2) ≡ false → (h.tag == 3) ≡ false → Speaks f me h.view log → Speaks f me h.view (h ∷ log)
other_speaks f me log h no_two no_three speaks =
    let v = h.view in
    record {
      prepares = λ m e backup x. slot_more h log 3 me v m (speaks.prepares m e backup (old 2 (primary f v) m e (omega arith) (omega arith) x));
      commits = λ m e ready. slot_more h log 4 me v m (speaks.commits m e (prepared_by f me (h ∷ log) log v m e (λ t k low small x. old t k m e low small x) ready));
    }
  where
    old : (t k m : ℕ) (e : List ℕ) → 1 < t → t < 4 → Told (h ∷ log) t k h.view m e → Told log t k h.view m e
    old t k m e low small x = elim (told_cases h log t k h.view m e x) [
      | inl is ↦
          let tag : h.tag ≡ t = is.tag in
          let two = eqb-false h.tag 2 no_two in
          let three = eqb-false h.tag 3 no_three in
          elim (cases_Bool (t == 2)) [
            | inl a ↦ let e : t ≡ 2 = eqb-true t 2 a in absurd (two (omega (arith, tag, e)))
            | inr b ↦ let e = eqb-false t 2 b in absurd (three (omega (arith, tag, e, low, small)))
          ]
      | inr y ↦ y
    ]

pub answered_speaks : (f me : ℕ) (log : List Header) (h : Header) → (not (h.tag == 2) || (h.sender == primary f h.view)) ≡ true → Speaks f me h.view log
    → Speaks f me h.view (with_said (answers_in f me (h ∷ log) h) (h ∷ log))
answered_speaks f me log h from speaks =
    cond_both (h.tag == 2) (votes_in f me (h ∷ log) h.view h.number h.digest) (cond (h.tag == 3) (commits_in f me (h ∷ log) h.view h.number h.digest) []) (λ (l : List Header). Speaks f me h.view (with_said l (h ∷ log)))
    (λ two. voted_speaks f me log h (eqb-true h.tag 2 two) (eqb-true h.sender (primary f h.view) (second (h.tag == 2) (h.sender == primary f h.view) two from)) speaks)
    (λ no_two. cond_both (h.tag == 3) (commits_in f me (h ∷ log) h.view h.number h.digest) [] (λ (l : List Header). Speaks f me h.view (with_said l (h ∷ log)))
    (λ three. prepared_speaks f me log h (eqb-true h.tag 3 three) speaks)
    (λ no_three. other_speaks f me log h no_two no_three speaks))
  where
    second : (a b : Bool) → a ≡ true → (not a || b) ≡ true → b ≡ true
    second true b e h = h
    second false b e h = absurd cc

-- Messages are dropped ------------------------------------------------------------------------------------------------

pub dropped_speaks : (f me v m : ℕ) (log : List Header) → Speaks f me v log → Speaks f me v (kept_above m log)
dropped_speaks f me v m log speaks =
    record {
      prepares = λ n d backup x. kept_slot m log 3 me v n (kept_high m log 2 (primary f v) v n d x) (speaks.prepares n d backup (kept_told m log 2 (primary f v) v n d x));
      commits = λ n d ready. kept_slot m log 4 me v n (kept_high m log 2 (primary f v) v n d (prepared_is f me (kept_above m log) v n d ready).proposal)
          (speaks.commits n d (prepared_by f me (kept_above m log) log v n d (λ t k low small x. kept_told m log t k v n d x) ready));
    }
