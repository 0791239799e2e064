-- What a message of its own keeps.
use Rattle.std.proofs.Common.{◌≡◌, ℕ, ◌+◌, ◌<◌, ◌≤◌, ◌==◌, true, ◌&&◌, List, ◌∷◌, bytes_eq, ◌⊎◌, inl, inr, refl, sym, subst, ◌∙◌, arith}
use Rattle.std.proofs.lemmas.Bool.{and_from, or_left, eq-eqb}
use Rattle.std.proofs.lemmas.Slice.Eq.{bytes_eq-Decides}
use Rattle.bfs_votes.specs.Votes.{Header, is_slot, says, told, Told, primary, prepared}
use Rattle.bfs_agreement.specs.Histories.{State, History}
use Rattle.bfs_agreement.specs.Moves.{Reason, Proposes, Prepares, Commits, MaySay, after_move, Says}
use Rattle.bfs_agreement.proofs.Told.{Is, told_cases, told_more}
use Rattle.bfs_agreement.proofs.Logs.{untold, prepared_told, prepared_more}
use Rattle.bfs_agreement.proofs.Kept.{Kept, HasCurrent, Chosen, single_more, views_more}

-- from a message's own fields to others that are equal
pub moved : (h : Header) (t k v n : ℕ) (d : List ℕ) → Is h t k v n d → (P : ℕ → ℕ → ℕ → ℕ → List ℕ → Type 0) → P h.tag h.sender h.view h.number h.digest → P t k v n d
moved h t k v n d is P x =
    subst (λ (s : List ℕ). P t k v n s) is.digest (subst (λ (s : ℕ). P t k v s h.digest) is.number (subst (λ (s : ℕ). P t k s h.number h.digest) is.view
    (subst (λ (s : ℕ). P t s h.view h.number h.digest) is.sender (subst (λ (s : ℕ). P s h.sender h.view h.number h.digest) is.tag x))))

pub says_itself : (h : Header) → says h.tag h.sender h.view h.number h.digest h ≡ true
says_itself h =
    and_from (is_slot h.tag h.sender h.view h.number h) (bytes_eq h.digest h.digest)
    (and_from (h.tag == h.tag) ((h.sender == h.sender) && ((h.view == h.view) && (h.number == h.number))) (eq-eqb h.tag h.tag refl)
    (and_from (h.sender == h.sender) ((h.view == h.view) && (h.number == h.number)) (eq-eqb h.sender h.sender refl)
    (and_from (h.view == h.view) (h.number == h.number) (eq-eqb h.view h.view refl) (eq-eqb h.number h.number refl))))
    ((bytes_eq-Decides h.digest h.digest).1 refl)

-- the PRE-PREPARE is in the log then
link : (f me : ℕ) (s : State) (h : Header) → h.sender ≡ me → Reason f me s h → Told (h ∷ s.log) 2 (primary f h.view) h.view h.number h.digest
link f me s h own (Proposes tag is_primary above) =
    subst (λ (k : ℕ). Told (h ∷ s.log) 2 k h.view h.number h.digest) (own ∙ is_primary)
    (subst (λ (t : ℕ). Told (h ∷ s.log) t h.sender h.view h.number h.digest) tag (or_left (says h.tag h.sender h.view h.number h.digest h) (told s.log h.tag h.sender h.view h.number h.digest) (says_itself h)))
link f me s h own (Prepares tag told) = told_more h s.log 2 (primary f h.view) h.view h.number h.digest told
link f me s h own (Commits tag ready) = told_more h s.log 2 (primary f h.view) h.view h.number h.digest (prepared_told f me s.log h.view h.number h.digest ready)

-- and it agrees with the PRE-PREPARE that was there
agrees : (f me : ℕ) (p : History) (h : Header) → Kept f me p → MaySay f me p.now h → (reason : Reason f me p.now h) → (g : List ℕ) → Told p.now.log 2 (primary f h.view) h.view h.number g → g ≡ h.digest
agrees f me p h kept may (Proposes tag is_primary above) g told =
    absurd (untold p.now.log h.tag h.sender h.view h.number g may.opened.free
    (subst (λ (t : ℕ). Told p.now.log t h.sender h.view h.number g) (sym tag) (subst (λ (k : ℕ). Told p.now.log 2 k h.view h.number g) (sym (may.own ∙ is_primary)) told)))
agrees f me p h kept may (Prepares tag there) g told = kept.single 2 (primary f h.view) h.view h.number g h.digest told there
agrees f me p h kept may (Commits tag ready) g told = kept.single 2 (primary f h.view) h.view h.number g h.digest told (prepared_told f me p.now.log h.view h.number h.digest ready)

-- what was said of the number in this view
said_before : (f me : ℕ) (p : History) (h : Header) → Kept f me p → MaySay f me p.now h → (t k : ℕ) (e : List ℕ) → Told p.sent t k h.view h.number e → e ≡ h.digest
said_before f me p h kept may t k e x = elim (kept.linked t k h.view h.number e x) [
  | inl a ↦ let lt = may.opened.low in absurd (omega (arith, a, lt))
  | inr b ↦ agrees f me p h kept may may.reason e b
]

-- what was offered for the number in this view
offered_before : (f me : ℕ) (p : History) (h : Header) → Kept f me p → MaySay f me p.now h → Reason f me p.now h → (k : ℕ) (e : List ℕ) → Told p.offers 2 k h.view h.number e → e ≡ h.digest
offered_before f me p h kept may (Proposes tag is_primary above) k e x =
    let le = kept.offers_top k h.view h.number e x may.opened.view in absurd (omega (arith, le, above))
offered_before f me p h kept may (Prepares tag there) k e x =
    let is_primary = (kept.offers_names k h.view h.number e x).0 in
    kept.offers_log (primary f h.view) h.view h.number e h.digest (subst (λ (s : ℕ). Told p.offers 2 s h.view h.number e) is_primary x) there
offered_before f me p h kept may (Commits tag ready) k e x =
    let is_primary = (kept.offers_names k h.view h.number e x).0 in
    kept.offers_log (primary f h.view) h.view h.number e h.digest (subst (λ (s : ℕ). Told p.offers 2 s h.view h.number e) is_primary x) (prepared_told f me p.now.log h.view h.number h.digest ready)

was_prepared : (f me : ℕ) (s : State) (h : Header) → h.tag ≡ 4 → Reason f me s h → prepared f me (h ∷ s.log) h.view h.number h.digest ≡ true
was_prepared f me s h commits (Proposes tag is_primary above) = absurd (omega (arith, commits, tag))
was_prepared f me s h commits (Prepares tag there) = absurd (omega (arith, commits, tag))
was_prepared f me s h commits (Commits tag ready) = prepared_more f me s.log (h ∷ s.log) h.view h.number h.digest (λ t k small x. told_more h s.log t k h.view h.number h.digest x) ready

-- what was committed in an earlier view, and is chosen for this one, is what it says now
chosen_now : (f me : ℕ) (p : History) (h : Header) → Kept f me p → MaySay f me p.now h → (v k : ℕ) (d : List ℕ) → Told p.sent 4 k v h.number d → v < h.view
    → HasCurrent f p.entered p.sent p.now.view p.now.min_s p.now.low p.now.log → Chosen f p.entered h.view h.number h.digest
chosen_now f me p h kept may v k d committed lt (inl null) = let same = may.opened.view in absurd (omega (arith, null, same, lt))
chosen_now f me p h kept may v k d committed lt (inr c) =
    let r = c.0 in
    let same = may.opened.view in
    let view : r.view ≡ h.view = c.1.same_view ∙ sym same in
    let min_s : r.min_s < h.number = subst (λ (x : ℕ). x < h.number) (sym c.1.same_min_s) may.opened.min_s in
    let carried = subst (λ (x : ℕ). v < x → (g : List ℕ) → Told r.proposals 2 (primary f x) x h.number g → (h.number ≤ p.now.low) ⊎ Told p.now.log 2 (primary f x) x h.number g) (sym same)
    (λ under g x. c.1.carried 4 k v h.number d g committed under x) lt in (
      r,
      c.1.entry,
      view,
      min_s,
      λ g x. elim (carried g x) [
        | inl a ↦ let over = may.opened.low in absurd (omega (arith, a, over))
        | inr b ↦ agrees f me p h kept may may.reason g b
      ],
    )

said_ready : (f me : ℕ) (p : History) (h : Header) → Kept f me p → MaySay f me p.now h → (k v n : ℕ) (d : List ℕ) → Told (h ∷ p.sent) 4 k v n d → (n ≤ p.now.low) ⊎ (prepared f me (h ∷ p.now.log) v n d ≡ true)
said_ready f me p h kept may k v n d x = elim (told_cases h p.sent 4 k v n d x) [
  | inl a ↦ inr (moved h 4 k v n d a (λ t k v n d. prepared f me (h ∷ p.now.log) v n d ≡ true) (was_prepared f me p.now h a.tag may.reason))
  | inr b ↦ elim (kept.ready k v n d b) [
    | inl y ↦ inl y
    | inr z ↦ inr (prepared_more f me p.now.log (h ∷ p.now.log) v n d (λ t j small y. told_more h p.now.log t j v n d y) z)
  ]
]

said_one : (f me : ℕ) (p : History) (h : Header) → Kept f me p → MaySay f me p.now h → (t u k j v n : ℕ) (d e : List ℕ) → Told (h ∷ p.sent) t k v n d → Told (h ∷ p.sent) u j v n e → d ≡ e
said_one f me p h kept may t u k j v n d e x y = elim (told_cases h p.sent t k v n d x) [
  | inl a ↦ elim (told_cases h p.sent u j v n e y) [
    | inl b ↦ sym a.digest ∙ b.digest
    | inr b ↦ moved h t k v n d a (λ t k v n d. Told p.sent u j v n e → d ≡ e) (λ old. sym (said_before f me p h kept may u j e old)) b
  ]
  | inr a ↦ elim (told_cases h p.sent u j v n e y) [
    | inl b ↦ moved h u j v n e b (λ u j v n e. Told p.sent t k v n d → d ≡ e) (λ old. said_before f me p h kept may t k d old) a
    | inr b ↦ kept.one t u k j v n d e a b
  ]
]

said_follows : (f me : ℕ) (p : History) (h : Header) → Kept f me p → MaySay f me p.now h → (t k j v u n : ℕ) (d e : List ℕ) → Told (h ∷ p.sent) 4 k v n d → Told (h ∷ p.sent) t j u n e → v < u → Chosen f p.entered u n e
said_follows f me p h kept may t k j v u n d e x y lt = elim (told_cases h p.sent 4 k v n d x) [
  | inl a ↦ elim (told_cases h p.sent t j u n e y) [
    | inl b ↦ let one = a.view in let two = b.view in absurd (omega (arith, one, two, lt))
    | inr b ↦ let one = a.view in let same = may.opened.view in let le = kept.sent_views t j u n e b in absurd (omega (arith, one, same, le, lt))
  ]
  | inr a ↦ elim (told_cases h p.sent t j u n e y) [
    | inl b ↦ moved h t j u n e b (λ t j u n e. Told p.sent 4 k v n d → v < u → Chosen f p.entered u n e) (λ old under. chosen_now f me p h kept may v k d old under kept.current) a lt
    | inr b ↦ kept.follows t k j v u n d e a b lt
  ]
]

said_current : (f me : ℕ) (p : History) (h : Header) → MaySay f me p.now h → HasCurrent f p.entered p.sent p.now.view p.now.min_s p.now.low p.now.log
    → HasCurrent f p.entered (h ∷ p.sent) p.now.view p.now.min_s p.now.low (h ∷ p.now.log)
said_current f me p h may (inl null) = inl null
said_current f me p h may (inr c) = inr (
  c.0,
  record {
    entry = c.1.entry;
    same_view = c.1.same_view;
    same_min_s = c.1.same_min_s;
    carried = λ t k v n d g x lt y. elim (told_cases h p.sent t k v n d x) [
      | inl a ↦ let one = a.view in let same = may.opened.view in absurd (omega (arith, one, same, lt))
      | inr b ↦ elim (c.1.carried t k v n d g b lt y) [ inl z ↦ inl z | inr z ↦ inr (told_more h p.now.log 2 (primary f p.now.view) p.now.view n g z) ]
    ];
  },
)

pub say_kept : (f me : ℕ) (p : History) (h : Header) → Kept f me p → MaySay f me p.now h → Kept f me (after_move f me p (Says h))
say_kept f me p h kept may =
    record {
      asked = kept.asked;
      names = λ t k v n d x. elim (told_cases h p.sent t k v n d x) [ inl a ↦ sym a.sender ∙ may.own | inr b ↦ kept.names t k v n d b ];
      single = single_more p.now.log h may.opened.free kept.single;
      log_views = views_more p.now.log h p.now.view may.opened.view kept.log_views;
      sent_views = views_more p.sent h p.now.view may.opened.view kept.sent_views;
      linked = λ t k v n d x. elim (told_cases h p.sent t k v n d x) [
        | inl a ↦ inr (moved h t k v n d a (λ t k v n d. Told (h ∷ p.now.log) 2 (primary f v) v n d) (link f me p.now h may.own may.reason))
        | inr b ↦ elim (kept.linked t k v n d b) [ inl y ↦ inl y | inr z ↦ inr (told_more h p.now.log 2 (primary f v) v n d z) ]
      ];
      high = λ t k v n d x. elim (told_cases h p.sent t k v n d x) [
        | inl a ↦ subst (λ (s : ℕ). s ≤ p.now.low + 32) a.number may.opened.high
        | inr b ↦ kept.high t k v n d b
      ];
      ready = said_ready f me p h kept may;
      one = said_one f me p h kept may;
      changes_asked = kept.changes_asked;
      covers = λ m k v n d x y lt. elim (told_cases h p.sent 4 k v n d y) [
        | inl a ↦ let one = a.view in let same = may.opened.view in let asked = may.opened.asked in let le = kept.changes_asked m x in absurd (omega (arith, one, same, asked, le, lt))
        | inr b ↦ kept.covers m k v n d x b lt
      ];
      current = said_current f me p h may kept.current;
      follows = said_follows f me p h kept may;
      offers_names = kept.offers_names;
      offers_views = kept.offers_views;
      offers_top = kept.offers_top;
      offers_once = kept.offers_once;
      offers_log = λ k v n d e x y. elim (told_cases h p.now.log 2 k v n e y) [
        | inl a ↦ moved h 2 k v n e a (λ t k v n e. Told p.offers 2 k v n d → d ≡ e) (λ old. offered_before f me p h kept may may.reason h.sender d old) x
        | inr b ↦ kept.offers_log k v n d e x b
      ];
      offered = kept.offered;
      offered_one = λ t k j v n d e x y. elim (told_cases h p.sent t j v n e y) [
        | inl a ↦ moved h t j v n e a (λ t j v n e. Told p.offers 2 k v n d → d ≡ e) (λ old. offered_before f me p h kept may may.reason k d old) x
        | inr b ↦ kept.offered_one t k j v n d e x b
      ];
    }
