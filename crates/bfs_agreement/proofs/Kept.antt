-- What each move of a replica keeps.
use Rattle.std.proofs.Common.{◌≡◌, ℕ, ◌+◌, ◌<◌, ◌≤◌, ◌==◌, Bool, true, false, List, [], ◌∷◌, ◌++◌, ◌⊎◌, inl, inr, refl, sym, ap, subst, ◌∙◌, arith}
use Rattle.std.proofs.lemmas.Bool.{cond_both, cases_lt, eqb-true}
use Rattle.bfs_votes.specs.Votes.{Header, has_slot, told, Told, primary, prepared}
use Rattle.bfs_agreement.specs.Histories.{IsIn, Certificate, ViewChange, NewView, State, History, World}
use Rattle.bfs_agreement.specs.Moves.{MayAccept, MayLeave, MayEnter, kept_above, taken_in, after_move, Accepts, Drops, Leaves, Enters, new_history}
use Rattle.bfs_agreement.proofs.Told.{Is, told_cases, told_more}
use Rattle.bfs_agreement.proofs.Logs.{untold, told_kept, kept_told, log_stays, handed_taken, taken_told, told_join, prepared_more}

-- a VIEW-CHANGE tells of a number at that view or a later one, or has it stable
abbrev pub Tells : ViewChange → (v n : ℕ) → Type 0
Tells m v n = (n ≤ m.stable) ⊎ ((c : Certificate) × IsIn c m.certificates × (c.proposal.number ≡ n) × (v ≤ c.proposal.view))

-- by an entry into the view, what it has chosen for the number, if anything, is the digest
abbrev pub Chosen : (f : ℕ) → List NewView → (u n : ℕ) → List ℕ → Type 0
Chosen f entered u n e = (r : NewView) × IsIn r entered × (r.view ≡ u) × (r.min_s < n) × ((g : List ℕ) → Told r.proposals 2 (primary f u) u n g → g ≡ e)

-- the entry into the view: what was sent of a number in earlier views, and is chosen, is in the log
pub record IsCurrent (f : ℕ) (entered : List NewView) (sent : List Header) (view min_s low : ℕ) (log : List Header) (r : NewView) : Type 0 where
  pub entry : IsIn r entered
  pub same_view : r.view ≡ view
  pub same_min_s : r.min_s ≡ min_s
  pub carried : (t k v n : ℕ) (d g : List ℕ) → Told sent t k v n d → v < view → Told r.proposals 2 (primary f view) view n g → (n ≤ low) ⊎ Told log 2 (primary f view) view n g

abbrev pub HasCurrent : (f : ℕ) (entered : List NewView) (sent : List Header) (view min_s low : ℕ) (log : List Header) → Type 0
HasCurrent f entered sent view min_s low log = (view ≡ 0) ⊎ ((r : NewView) × IsCurrent f entered sent view min_s low log r)

pub record Keeps (f me : ℕ) (now : State) (sent offers : List Header) (changes : List ViewChange) (entered : List NewView) : Type 0 where
  pub asked : now.view ≤ now.asked
  pub names : (t k v n : ℕ) (d : List ℕ) → Told sent t k v n d → k ≡ me
  pub single : (t k v n : ℕ) (d e : List ℕ) → Told now.log t k v n d → Told now.log t k v n e → d ≡ e
  pub log_views : (t k v n : ℕ) (d : List ℕ) → Told now.log t k v n d → v ≤ now.view
  pub sent_views : (t k v n : ℕ) (d : List ℕ) → Told sent t k v n d → v ≤ now.view
  pub linked : (t k v n : ℕ) (d : List ℕ) → Told sent t k v n d → (n ≤ now.low) ⊎ Told now.log 2 (primary f v) v n d
  pub high : (t k v n : ℕ) (d : List ℕ) → Told sent t k v n d → n ≤ now.low + 32
  pub ready : (k v n : ℕ) (d : List ℕ) → Told sent 4 k v n d → (n ≤ now.low) ⊎ (prepared f me now.log v n d ≡ true)
  pub one : (t u k j v n : ℕ) (d e : List ℕ) → Told sent t k v n d → Told sent u j v n e → d ≡ e
  pub changes_asked : (m : ViewChange) → IsIn m changes → m.view ≤ now.asked
  pub covers : (m : ViewChange) (k v n : ℕ) (d : List ℕ) → IsIn m changes → Told sent 4 k v n d → v < m.view → Tells m v n
  pub current : HasCurrent f entered sent now.view now.min_s now.low now.log
  pub follows : (t k j v u n : ℕ) (d e : List ℕ) → Told sent 4 k v n d → Told sent t j u n e → v < u → Chosen f entered u n e
  pub offers_names : (k v n : ℕ) (d : List ℕ) → Told offers 2 k v n d → (k ≡ primary f v) × (k ≡ me)
  pub offers_views : (k v n : ℕ) (d : List ℕ) → Told offers 2 k v n d → v ≤ now.view
  pub offers_top : (k v n : ℕ) (d : List ℕ) → Told offers 2 k v n d → v ≡ now.view → n ≤ now.handed
  pub offers_once : (k v n : ℕ) (d e : List ℕ) → Told offers 2 k v n d → Told offers 2 k v n e → d ≡ e
  pub offers_log : (k v n : ℕ) (d e : List ℕ) → Told offers 2 k v n d → Told now.log 2 k v n e → d ≡ e
  pub offered : (k v n : ℕ) (d : List ℕ) → Told offers 2 k v n d → (r : NewView) × IsIn r entered × (r.view ≡ v) × Told r.proposals 2 (primary f v) v n d
  pub offered_one : (t k j v n : ℕ) (d e : List ℕ) → Told offers 2 k v n d → Told sent t j v n e → d ≡ e

-- what a replica has executed does not matter
abbrev pub Kept : (f me : ℕ) → History → Type 0
Kept f me p = Keeps f me p.now p.sent p.offers p.changes p.entered

no_told : {A : Type 0} (t k v n : ℕ) (d : List ℕ) → Told [] t k v n d → A
no_told t k v n d e = absurd cc

pub fresh_kept : (f me : ℕ) → Kept f me new_history
fresh_kept f me =
    record {
      asked = omega arith;
      names = λ t k v n d h. no_told t k v n d h;
      single = λ t k v n d e h g. no_told t k v n d h;
      log_views = λ t k v n d h. no_told t k v n d h;
      sent_views = λ t k v n d h. no_told t k v n d h;
      linked = λ t k v n d h. no_told t k v n d h;
      high = λ t k v n d h. no_told t k v n d h;
      ready = λ k v n d h. no_told 4 k v n d h;
      one = λ t u k j v n d e h g. no_told t k v n d h;
      changes_asked = λ m h. absurd h;
      covers = λ m k v n d h g lt. absurd h;
      current = inl refl;
      follows = λ t k j v u n d e h g lt. no_told 4 k v n d h;
      offers_names = λ k v n d h. no_told 2 k v n d h;
      offers_views = λ k v n d h. no_told 2 k v n d h;
      offers_top = λ k v n d h e. no_told 2 k v n d h;
      offers_once = λ k v n d e h g. no_told 2 k v n d h;
      offers_log = λ k v n d e h g. no_told 2 k v n d h;
      offered = λ k v n d h. no_told 2 k v n d h;
      offered_one = λ t k j v n d e h g. no_told 2 k v n d h;
    }

-- a message's own place is free in the log
free_place : (log : List Header) (h : Header) (t k v n : ℕ) (d e : List ℕ) → has_slot log h.tag h.sender h.view h.number ≡ false → Is h t k v n d → Told log t k v n e → ⊥
free_place log h t k v n d e free is told =
    untold log t k v n e
    (subst (λ (x : ℕ). has_slot log x k v n ≡ false) is.tag (subst (λ (x : ℕ). has_slot log h.tag x v n ≡ false) is.sender
    (subst (λ (x : ℕ). has_slot log h.tag h.sender x n ≡ false) is.view (subst (λ (x : ℕ). has_slot log h.tag h.sender h.view x ≡ false) is.number free))))
    told

-- one more message in a free place
pub single_more : (log : List Header) (h : Header) → has_slot log h.tag h.sender h.view h.number ≡ false
    → ((t k v n : ℕ) (d e : List ℕ) → Told log t k v n d → Told log t k v n e → d ≡ e)
    → (t k v n : ℕ) (d e : List ℕ) → Told (h ∷ log) t k v n d → Told (h ∷ log) t k v n e → d ≡ e
single_more log h free single t k v n d e x y = elim (told_cases h log t k v n d x) [
  | inl a ↦ elim (told_cases h log t k v n e y) [
    | inl b ↦ sym a.digest ∙ b.digest
    | inr c ↦ absurd (free_place log h t k v n d e free a c)
  ]
  | inr b ↦ elim (told_cases h log t k v n e y) [
    | inl c ↦ absurd (free_place log h t k v n e d free c b)
    | inr c ↦ single t k v n d e b c
  ]
]

pub views_more : (log : List Header) (h : Header) (view : ℕ) → h.view ≡ view → ((t k v n : ℕ) (d : List ℕ) → Told log t k v n d → v ≤ view) → (t k v n : ℕ) (d : List ℕ) → Told (h ∷ log) t k v n d → v ≤ view
views_more log h view same views t k v n d x = elim (told_cases h log t k v n d x) [
  | inl a ↦ let e : h.view ≡ v = a.view in omega (arith, e, same)
  | inr b ↦ views t k v n d b
]

-- Accepting -----------------------------------------------------------------------------------------------------------

accepted_offers : (f me : ℕ) (faulty : ℕ → Bool) (w : World) (p : History) (h : Header) → Kept f me p → faulty me ≡ false → w me ≡ p → MayAccept faulty w p.now h
    → (k v n : ℕ) (d e : List ℕ) → Told p.offers 2 k v n d → Told (h ∷ p.now.log) 2 k v n e → d ≡ e
accepted_offers f me faulty w p h kept correct here may k v n d e offer x = elim (told_cases h p.now.log 2 k v n e x) [
  | inl a ↦
      let is_me : h.sender ≡ me = a.sender ∙ (kept.offers_names k v n d offer).1 in
      let all_said = may.authentic (subst (λ (s : ℕ). faulty s ≡ false) (sym is_me) correct) in
      let at_me = subst (λ (s : ℕ). Told (w s).sent h.tag h.sender h.view h.number h.digest ⊎ ((h.tag ≡ 2) × Told (w s).offers 2 h.sender h.view h.number h.digest)) is_me all_said in
      let at_p = subst (λ (q : History). Told q.sent h.tag h.sender h.view h.number h.digest ⊎ ((h.tag ≡ 2) × Told q.offers 2 h.sender h.view h.number h.digest)) here at_me in
      let at_k = subst (λ (s : ℕ). Told p.sent h.tag s h.view h.number h.digest ⊎ ((h.tag ≡ 2) × Told p.offers 2 s h.view h.number h.digest)) a.sender at_p in
      let at_v = subst (λ (s : ℕ). Told p.sent h.tag k s h.number h.digest ⊎ ((h.tag ≡ 2) × Told p.offers 2 k s h.number h.digest)) a.view at_k in
      let at_n = subst (λ (s : ℕ). Told p.sent h.tag k v s h.digest ⊎ ((h.tag ≡ 2) × Told p.offers 2 k v s h.digest)) a.number at_v in
      let at_e = subst (λ (s : List ℕ). Told p.sent h.tag k v n s ⊎ ((h.tag ≡ 2) × Told p.offers 2 k v n s)) a.digest at_n in
      elim at_e [
        | inl y ↦ kept.offered_one h.tag k k v n d e offer y
        | inr z ↦ kept.offers_once k v n d e offer z.1
      ]
  | inr b ↦ kept.offers_log k v n d e offer b
]

current_more : (f : ℕ) (entered : List NewView) (sent : List Header) (view min_s low : ℕ) (log : List Header) (h : Header) → HasCurrent f entered sent view min_s low log → HasCurrent f entered sent view min_s low (h ∷ log)
current_more f entered sent view min_s low log h (inl e) = inl e
current_more f entered sent view min_s low log h (inr c) = inr (
  c.0,
  record {
    entry = c.1.entry;
    same_view = c.1.same_view;
    same_min_s = c.1.same_min_s;
    carried = λ t k v n d g x lt y. elim (c.1.carried t k v n d g x lt y) [ inl a ↦ inl a | inr b ↦ inr (told_more h log 2 (primary f view) view n g b) ];
  },
)

pub accept_kept : (f me : ℕ) (faulty : ℕ → Bool) (w : World) (p : History) (h : Header) → Kept f me p → faulty me ≡ false → w me ≡ p → MayAccept faulty w p.now h → Kept f me (after_move f me p (Accepts h))
accept_kept f me faulty w p h kept correct here may =
    record {
      asked = kept.asked;
      names = kept.names;
      single = single_more p.now.log h may.opened.free kept.single;
      log_views = views_more p.now.log h p.now.view may.opened.view kept.log_views;
      sent_views = kept.sent_views;
      linked = λ t k v n d x. elim (kept.linked t k v n d x) [ inl a ↦ inl a | inr b ↦ inr (told_more h p.now.log 2 (primary f v) v n d b) ];
      high = kept.high;
      ready = λ k v n d x. elim (kept.ready k v n d x) [
        | inl a ↦ inl a
        | inr b ↦ inr (prepared_more f me p.now.log (h ∷ p.now.log) v n d (λ t j small y. told_more h p.now.log t j v n d y) b)
      ];
      one = kept.one;
      changes_asked = kept.changes_asked;
      covers = kept.covers;
      current = current_more f p.entered p.sent p.now.view p.now.min_s p.now.low p.now.log h kept.current;
      follows = kept.follows;
      offers_names = kept.offers_names;
      offers_views = kept.offers_views;
      offers_top = kept.offers_top;
      offers_once = kept.offers_once;
      offers_log = accepted_offers f me faulty w p h kept correct here may;
      offered = kept.offered;
      offered_one = kept.offered_one;
    }

-- Dropping ------------------------------------------------------------------------------------------------------------

current_dropped : (f : ℕ) (entered : List NewView) (sent : List Header) (view min_s low : ℕ) (log : List Header) (m : ℕ) → low < m → HasCurrent f entered sent view min_s low log → HasCurrent f entered sent view min_s m (kept_above m log)
current_dropped f entered sent view min_s low log m lt (inl e) = inl e
current_dropped f entered sent view min_s low log m lt (inr c) = inr (
  c.0,
  record {
    entry = c.1.entry;
    same_view = c.1.same_view;
    same_min_s = c.1.same_min_s;
    carried = λ t k v n d g x under y. elim (cases_lt m n) [
      | inl above ↦ elim (c.1.carried t k v n d g x under y) [
        | inl a ↦ absurd (omega (arith, a, above, lt))
        | inr b ↦ inr (told_kept m log 2 (primary f view) view n g above b)
      ]
      | inr le ↦ inl le
    ];
  },
)

pub drop_kept : (f me : ℕ) (p : History) (m : ℕ) → Kept f me p → p.now.low < m → Kept f me (after_move f me p (Drops m))
drop_kept f me p m kept lt =
    record {
      asked = kept.asked;
      names = kept.names;
      single = λ t k v n d e x y. kept.single t k v n d e (kept_told m p.now.log t k v n d x) (kept_told m p.now.log t k v n e y);
      log_views = λ t k v n d x. kept.log_views t k v n d (kept_told m p.now.log t k v n d x);
      sent_views = kept.sent_views;
      linked = λ t k v n d x. elim (cases_lt m n) [
        | inl above ↦ elim (kept.linked t k v n d x) [
          | inl a ↦ absurd (omega (arith, a, above, lt))
          | inr b ↦ inr (told_kept m p.now.log 2 (primary f v) v n d above b)
        ]
        | inr le ↦ inl le
      ];
      high = λ t k v n d x. let le = kept.high t k v n d x in omega (arith, le, lt);
      ready = λ k v n d x. elim (cases_lt m n) [
        | inl above ↦ elim (kept.ready k v n d x) [
          | inl a ↦ absurd (omega (arith, a, above, lt))
          | inr b ↦ inr (prepared_more f me p.now.log (kept_above m p.now.log) v n d (λ t j small y. told_kept m p.now.log t j v n d above y) b)
        ]
        | inr le ↦ inl le
      ];
      one = kept.one;
      changes_asked = kept.changes_asked;
      covers = kept.covers;
      current = current_dropped f p.entered p.sent p.now.view p.now.min_s p.now.low p.now.log m lt kept.current;
      follows = kept.follows;
      offers_names = kept.offers_names;
      offers_views = kept.offers_views;
      offers_top = kept.offers_top;
      offers_once = kept.offers_once;
      offers_log = λ k v n d e x y. kept.offers_log k v n d e x (kept_told m p.now.log 2 k v n e y);
      offered = kept.offered;
      offered_one = kept.offered_one;
    }

-- Leaving -------------------------------------------------------------------------------------------------------------

pub leave_kept : (f me : ℕ) (p : History) (m : ViewChange) → Kept f me p → MayLeave f me p.now m → Kept f me (after_move f me p (Leaves m))
leave_kept f me p m kept may =
    record {
      asked = let le = kept.asked in let lt = may.asked in omega (arith, le, lt);
      names = kept.names;
      single = kept.single;
      log_views = kept.log_views;
      sent_views = kept.sent_views;
      linked = kept.linked;
      high = kept.high;
      ready = kept.ready;
      one = kept.one;
      changes_asked = λ l x. elim x [
        | inl e ↦ let same : l.view ≡ m.view = ap (λ (c : ViewChange). c.view) e in omega (arith, same)
        | inr y ↦ let le = kept.changes_asked l y in let lt = may.asked in omega (arith, le, lt)
      ];
      covers = λ l k v n d x committed lt. elim x [
        | inl e ↦ subst (λ (c : ViewChange). Tells c v n) (sym e) (elim (kept.ready k v n d committed) [
          | inl a ↦ inl (let same = may.stable in omega (arith, a, same))
          | inr b ↦ elim (cases_lt p.now.low n) [
            | inl above ↦ inr (may.all v n d b above)
            | inr le ↦ inl (let same = may.stable in omega (arith, le, same))
          ]
        ])
        | inr y ↦ kept.covers l k v n d y committed lt
      ];
      current = kept.current;
      follows = kept.follows;
      offers_names = kept.offers_names;
      offers_views = kept.offers_views;
      offers_top = kept.offers_top;
      offers_once = kept.offers_once;
      offers_log = kept.offers_log;
      offered = kept.offered;
      offered_one = kept.offered_one;
    }

-- Entering ------------------------------------------------------------------------------------------------------------

-- an offer is one of this entry, or an old one
offer_cases : (f me : ℕ) (p : History) (r : NewView) (k v n : ℕ) (d : List ℕ) → Told (after_move f me p (Enters r)).offers 2 k v n d → ((me ≡ primary f r.view) × Told r.proposals 2 k v n d) ⊎ Told p.offers 2 k v n d
offer_cases f me p r k v n d = cond_both (me == primary f r.view) (r.proposals ++ p.offers) p.offers (λ (l : List Header). Told l 2 k v n d → ((me ≡ primary f r.view) × Told r.proposals 2 k v n d) ⊎ Told p.offers 2 k v n d)
    (λ e x. elim (told_join r.proposals p.offers 2 k v n d x) [ inl a ↦ inl (eqb-true me (primary f r.view) e, a) | inr b ↦ inr b ])
    (λ e x. inr x)

pub enter_kept : (f me : ℕ) (faulty : ℕ → Bool) (w : World) (p : History) (r : NewView) → Kept f me p → MayEnter f faulty w p.now r → Kept f me (after_move f me p (Enters r))
enter_kept f me faulty w p r kept may =
    let choice = may.valid.choice in
    let above : p.now.view < r.view = may.above in
    let hs = r.proposals in
    let low = p.now.low in
    let log = p.now.log in
    record {
      asked = omega arith;
      names = kept.names;
      single = λ t k v n d e x y. elim (taken_told low hs log t k v n d x) [
        | inl a ↦ elim (taken_told low hs log t k v n e y) [
          | inl b ↦ let two = (choice.kinds t k v n d a).0 in
              choice.once k v n d e (subst (λ (s : ℕ). Told hs s k v n d) two a) (subst (λ (s : ℕ). Told hs s k v n e) two b)
          | inr b ↦ let same = (choice.kinds t k v n d a).2 in let le = kept.log_views t k v n e b in absurd (omega (arith, same, le, above))
        ]
        | inr a ↦ elim (taken_told low hs log t k v n e y) [
          | inl b ↦ let same = (choice.kinds t k v n e b).2 in let le = kept.log_views t k v n d a in absurd (omega (arith, same, le, above))
          | inr b ↦ kept.single t k v n d e a b
        ]
      ];
      log_views = λ t k v n d x. elim (taken_told low hs log t k v n d x) [
        | inl a ↦ let same = (choice.kinds t k v n d a).2 in omega (arith, same)
        | inr b ↦ let le = kept.log_views t k v n d b in omega (arith, le, above)
      ];
      sent_views = λ t k v n d x. let le = kept.sent_views t k v n d x in omega (arith, le, above);
      linked = λ t k v n d x. elim (kept.linked t k v n d x) [ inl a ↦ inl a | inr b ↦ inr (log_stays low hs log 2 (primary f v) v n d b) ];
      high = kept.high;
      ready = λ k v n d x. elim (kept.ready k v n d x) [
        | inl a ↦ inl a
        | inr b ↦ inr (prepared_more f me log (taken_in low hs log) v n d (λ t j small y. log_stays low hs log t j v n d y) b)
      ];
      one = kept.one;
      changes_asked = λ l x. let le = kept.changes_asked l x in let lt = may.asked in omega (arith, le, lt);
      covers = kept.covers;
      current = inr (
        r,
        record {
          entry = inl refl;
          same_view = refl;
          same_min_s = refl;
          carried = λ t k v n d g x lt y. elim (cases_lt low n) [
            | inl over ↦ inr (handed_taken low hs log 2 (primary f r.view) r.view n g over (kept.high t k v n d x) y)
            | inr le ↦ inl le
          ];
        },
      );
      follows = λ t k j v u n d e x y lt. let got = kept.follows t k j v u n d e x y lt in (got.0, inr got.1, got.2, got.3, got.4);
      offers_names = λ k v n d x. elim (offer_cases f me p r k v n d x) [
        | inl a ↦ let kinds = choice.kinds 2 k v n d a.1 in (kinds.1 ∙ ap (primary f) (sym kinds.2), kinds.1 ∙ sym a.0)
        | inr b ↦ kept.offers_names k v n d b
      ];
      offers_views = λ k v n d x. elim (offer_cases f me p r k v n d x) [
        | inl a ↦ let same = (choice.kinds 2 k v n d a.1).2 in omega (arith, same)
        | inr b ↦ let le = kept.offers_views k v n d b in omega (arith, le, above)
      ];
      offers_top = λ k v n d x same. elim (offer_cases f me p r k v n d x) [
        | inl a ↦ (choice.within k v n d a.1).1
        | inr b ↦ let le = kept.offers_views k v n d b in absurd (omega (arith, le, above, same))
      ];
      offers_once = λ k v n d e x y. elim (offer_cases f me p r k v n d x) [
        | inl a ↦ elim (offer_cases f me p r k v n e y) [
          | inl b ↦ choice.once k v n d e a.1 b.1
          | inr b ↦ let same = (choice.kinds 2 k v n d a.1).2 in let le = kept.offers_views k v n e b in absurd (omega (arith, same, le, above))
        ]
        | inr a ↦ elim (offer_cases f me p r k v n e y) [
          | inl b ↦ let same = (choice.kinds 2 k v n e b.1).2 in let le = kept.offers_views k v n d a in absurd (omega (arith, same, le, above))
          | inr b ↦ kept.offers_once k v n d e a b
        ]
      ];
      offers_log = λ k v n d e x y. elim (offer_cases f me p r k v n d x) [
        | inl a ↦ elim (taken_told low hs log 2 k v n e y) [
          | inl b ↦ choice.once k v n d e a.1 b
          | inr b ↦ let same = (choice.kinds 2 k v n d a.1).2 in let le = kept.log_views 2 k v n e b in absurd (omega (arith, same, le, above))
        ]
        | inr a ↦ elim (taken_told low hs log 2 k v n e y) [
          | inl b ↦ let same = (choice.kinds 2 k v n e b).2 in let le = kept.offers_views k v n d a in absurd (omega (arith, same, le, above))
          | inr b ↦ kept.offers_log k v n d e a b
        ]
      ];
      offered = λ k v n d x. elim (offer_cases f me p r k v n d x) [
        | inl a ↦ let kinds = choice.kinds 2 k v n d a.1 in
            (r, inl refl, sym kinds.2, subst (λ (s : ℕ). Told hs 2 s v n d) (kinds.1 ∙ ap (primary f) (sym kinds.2)) a.1)
        | inr b ↦ let got = kept.offered k v n d b in (got.0, inr got.1, got.2, got.3)
      ];
      offered_one = λ t k j v n d e x y. elim (offer_cases f me p r k v n d x) [
        | inl a ↦ let same = (choice.kinds 2 k v n d a.1).2 in let le = kept.sent_views t j v n e y in absurd (omega (arith, same, le, above))
        | inr b ↦ kept.offered_one t k j v n d e b y
      ];
    }
