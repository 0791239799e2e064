-- What a replica has answered after each call.
use Rattle.std.proofs.Common.{◌≡◌, ℕ, ◌<◌, ◌≤◌, ◌==◌, Bool, true, false, ◌&&◌, ◌||◌, not, cond, nat_lt, nat_le, List, [], ◌∷◌, ◌++◌, ◌⊎◌, inl, inr, refl, sym, subst, arith}
use Rattle.std.proofs.lemmas.Bool.{and_parts, cond_both, eqb-true, eqb-false, eq-eqb, ltb-true, cases_Bool}
use Rattle.bfs_votes.specs.Votes.{Header, has_slot, told, Told, count_below, replicas, primary, backups, prepared, committed}
use Rattle.bfs_votes.proofs.Public.{more}
use Rattle.bfs_agreement.specs.Histories.{IsIn, State, NewView, History, World, HasSaid, FewAreFaulty, IsChoice}
use Rattle.bfs_agreement.specs.Moves.{Move, Accepts, Says, Drops, Enters, Executes, after_move, taken_in}
use Rattle.bfs_agreement.specs.Nodes.{after_moves}
use Rattle.bfs_agreement.specs.Choice.{chosen}
use Rattle.bfs_agreement.specs.Calls.{vote, is_within, with_said, prepares_in, commits_in, votes_in, answers_in, all_said, is_acceptable, next_number, is_new_view, entry_answers, HeaderCall, Receives, Orders, Settles, TimesOut, ChangesView, Runs, moves_of}
use Rattle.bfs_agreement.proofs.Public.{within_is, choice_is_by_its_rule, told_cases, taken_told, told_join, Kept}
use Rattle.bfs_progress.proofs.Numbers.{one_below, one_more}
use Rattle.bfs_progress.proofs.Logs.{slot_more, said_slots, said_join, told_said, prepare_told, commit_told, votes_slot, prepared_is, prepared_by, in_marks, taken_from, proposed_le}
use Rattle.bfs_progress.proofs.Speaks.{Speaks, answered_speaks, dropped_speaks}
use Rattle.bfs_progress.proofs.Heard.{Heard, HeardVotes, votes_of, by_itself}

-- A proposal ----------------------------------------------------------------------------------------------------------

-- before it proposes the number no correct backup has sent a PREPARE for it, and faulty ones are too few to prepare it
module _ (f : ℕ) (faulty : ℕ → Bool) (w : World) (i : ℕ) (d : List ℕ) (positive : 0 < f) (few : FewAreFaulty f faulty) (correct : faulty i ≡ false)
    (heard : HeardVotes f faulty w) (kept : Kept f i (w i)) (speaks : Speaks f i (w i).now.view (w i).now.log) (leads : i ≡ primary f (w i).now.view) where
  abbrev s : State
  s = (w i).now

  abbrev n : ℕ
  n = next_number s

  abbrev h : Header
  h = vote 2 i s.view n d

  unsaid : (e : List ℕ) → HasSaid (w i) 2 i s.view n e → ⊥
  unsaid e (inl x) = elim (kept.linked 2 i s.view n e x) [
    | inl low ↦ omega (arith, low)
    | inr there ↦ let le = proposed_le s.log (primary f s.view) s.view n e there in omega (arith, le)
  ]
  unsaid e (inr x) = let le : n ≤ s.handed = kept.offers_top i s.view n e x.1 refl in omega (arith, le)

  not_ready : (e : List ℕ) → prepared f i (h ∷ s.log) s.view n e ≡ true → ⊥
  not_ready e ready =
      let p = primary f s.view in
      let enough = (prepared_is f i (h ∷ s.log) s.view n e ready).enough in
      let got = one_more (λ k. not (k == p) && told (h ∷ s.log) 3 k s.view n e) faulty (replicas f) (omega (arith, enough, few, positive)) in
      let k = got.0 in
      elim (told_cases h s.log 3 k s.view n e (and_parts (not (k == p)) (told (h ∷ s.log) 3 k s.view n e) got.2).1) [
        | inl is ↦ let tag : 2 ≡ 3 = is.tag in omega (arith, tag)
        | inr old ↦
            let sent = by_itself (w k) 3 k s.view n e (omega arith) (heard.said i 3 k s.view n e (omega arith) got.3 old) in
            let said = heard.grounds k s.view n e got.3 (subst (λ (x : ℕ). faulty x ≡ false) leads correct) sent in
            unsaid e (subst (λ (x : ℕ). HasSaid (w x) 2 x s.view n e) (sym leads) said)
      ]

  pub proposed_speaks : Speaks f i s.view (h ∷ s.log)
  proposed_speaks =
      record {
        prepares = λ m e backup x. absurd (eqb-false i (primary f s.view) backup leads);
        commits = λ m e ready. elim (cases_Bool (n == m)) [
          | inl same ↦ absurd (not_ready e (subst (λ (x : ℕ). prepared f i (h ∷ s.log) s.view x e ≡ true) (sym (eqb-true n m same)) ready))
          | inr differs ↦ slot_more h s.log 4 i s.view m (speaks.commits m e (prepared_by f i (h ∷ s.log) s.log s.view m e
              (λ t k low small x. elim (told_cases h s.log t k s.view m e x) [
                | inl is ↦ absurd (eqb-false n m differs is.number)
                | inr old ↦ old
              ]) ready))
        ];
      }

-- A view is entered ---------------------------------------------------------------------------------------------------

entry_slots : (f me low : ℕ) (log hs : List Header) (h : Header) → IsIn h hs → in_marks low h ≡ true → (me == primary f h.view) ≡ false
    → has_slot (with_said (entry_answers f me low log hs) log) 3 me h.view h.number ≡ true
entry_slots f me low log [] h i marks backup = absurd i
entry_slots f me low log (x ∷ hs) h i marks backup =
    let votes = votes_in f me log x.view x.number x.digest in
    cond_both (in_marks low x) (votes ++ entry_answers f me low (with_said votes log) hs) (entry_answers f me low log hs)
    (λ (l : List Header). has_slot (with_said l log) 3 me h.view h.number ≡ true)
    (λ within. subst (λ (l : List Header). has_slot l 3 me h.view h.number ≡ true) (sym (said_join votes (entry_answers f me low (with_said votes log) hs) log))
    (elim i [
      | inl same ↦ said_slots (entry_answers f me low (with_said votes log) hs) (with_said votes log) 3 me h.view h.number
          (subst (λ (y : Header). has_slot (with_said votes log) 3 me y.view y.number ≡ true) (sym same)
          (votes_slot f me log x.view x.number x.digest (subst (λ (y : Header). (me == primary f y.view) ≡ false) same backup)))
      | inr later ↦ entry_slots f me low (with_said votes log) hs h later marks backup
    ]))
    (λ beyond. elim i [
      | inl same ↦ let within = subst (λ (y : Header). in_marks low y ≡ true) same marks in absurd cc
      | inr later ↦ entry_slots f me low log hs h later marks backup
    ])

pub record IsOwnVote (me t k : ℕ) : Type 0 where
  pub tag : (t ≡ 3) ⊎ (t ≡ 4)
  pub sender : k ≡ me

entry_told : (f me low : ℕ) (log hs : List Header) (t k v n : ℕ) (d : List ℕ) → Told (entry_answers f me low log hs) t k v n d → IsOwnVote me t k
entry_told f me low log [] t k v n d = λ x. absurd cc
entry_told f me low log (h ∷ hs) t k v n d =
    let p = prepares_in f me log h.view h.number h.digest in
    let c = commits_in f me (with_said p log) h.view h.number h.digest in
    cond_both (in_marks low h) ((p ++ c) ++ entry_answers f me low (with_said (p ++ c) log) hs) (entry_answers f me low log hs)
    (λ (l : List Header). Told l t k v n d → IsOwnVote me t k)
    (λ _ x. elim (told_join (p ++ c) (entry_answers f me low (with_said (p ++ c) log) hs) t k v n d x) [
      | inl a ↦ elim (told_join p c t k v n d a) [
        | inl y ↦ let is = prepare_told f me log h.view h.number h.digest t k v n d y in record { tag = inl (sym is.tag); sender = sym is.sender }
        | inr y ↦ let is = commit_told f me (with_said p log) h.view h.number h.digest t k v n d y in record { tag = inr (sym is.tag); sender = sym is.sender }
      ]
      | inr b ↦ entry_told f me low (with_said (p ++ c) log) hs t k v n d b
    ])
    (λ _ x. entry_told f me low log hs t k v n d x)

-- a PRE-PREPARE in the log behind an entry is no answer
pub entry_proposal : (f me low : ℕ) (log hs : List Header) (k v n : ℕ) (d : List ℕ) → Told (with_said (entry_answers f me low log hs) log) 2 k v n d → Told log 2 k v n d
entry_proposal f me low log hs k v n d x = elim (told_said (entry_answers f me low log hs) log 2 k v n d x) [
  | inl a ↦ elim (entry_told f me low log hs 2 k v n d a).tag [
    | inl t ↦ absurd (omega (arith, t))
    | inr t ↦ absurd (omega (arith, t))
  ]
  | inr b ↦ b
]

module _ (f me : ℕ) (p : History) (r : NewView) (positive : 0 < f) (kept : Kept f me p) (above : p.now.view < r.view) (choice : IsChoice f r) where
  abbrev held : List Header
  held = taken_in p.now.low r.proposals p.now.log

  abbrev answers : List Header
  answers = entry_answers f me p.now.low held r.proposals

  -- of the new view nothing was told before
  not_before : (t k n : ℕ) (d : List ℕ) → Told p.now.log t k r.view n d → ⊥
  not_before t k n d x = let le = kept.log_views t k r.view n d x in omega (arith, le, above)

  entered_prepares : (n : ℕ) (d : List ℕ) → (me == primary f r.view) ≡ false → Told (with_said answers held) 2 (primary f r.view) r.view n d → has_slot (with_said answers held) 3 me r.view n ≡ true
  entered_prepares n d backup x =
      elim (taken_from p.now.low r.proposals p.now.log 2 (primary f r.view) r.view n d (entry_proposal f me p.now.low held r.proposals (primary f r.view) r.view n d x)) [
        | inl y ↦
            let h = y.0 in
            let is = y.3 in
            let backup_there : (me == primary f h.view) ≡ false = subst (λ (x : ℕ). (me == primary f x) ≡ false) (sym is.view) backup in
            let slot = entry_slots f me p.now.low held r.proposals h y.1 y.2 backup_there in
            subst (λ (x : ℕ). has_slot (with_said answers held) 3 me r.view x ≡ true) is.number
            (subst (λ (x : ℕ). has_slot (with_said answers held) 3 me x h.number ≡ true) is.view slot)
        | inr old ↦ absurd (not_before 2 (primary f r.view) n d old)
      ]

  -- who has just entered has no PREPARE of another
  own_alone : (k n : ℕ) (d : List ℕ) → Told (with_said answers held) 3 k r.view n d → k ≡ me
  own_alone k n d x = elim (told_said answers held 3 k r.view n d x) [
    | inl a ↦ (entry_told f me p.now.low held r.proposals 3 k r.view n d a).sender
    | inr b ↦ elim (taken_told p.now.low r.proposals p.now.log 3 k r.view n d b) [
      | inl y ↦ let tag : 3 ≡ 2 = (choice.kinds 3 k r.view n d y).0 in absurd (omega (arith, tag))
      | inr old ↦ absurd (not_before 3 k n d old)
    ]
  ]

  entered_commits : (n : ℕ) (d : List ℕ) → prepared f me (with_said answers held) r.view n d ≡ true → has_slot (with_said answers held) 4 me r.view n ≡ true
  entered_commits n d ready =
      let l = with_said answers held in
      let q = primary f r.view in
      let enough = (prepared_is f me l r.view n d ready).enough in
      let few : backups f l r.view n d ≤ count_below (λ k. k == me) (replicas f) = more (λ k. not (k == q) && told l 3 k r.view n d) (λ k. k == me) (replicas f)
      (λ k x. eq-eqb k me (own_alone k n d (and_parts (not (k == q)) (told l 3 k r.view n d) x).1)) in
      let one = one_below me (replicas f) in
      absurd (omega (arith, enough, few, one, positive))

  pub entered_speaks : Speaks f me r.view (with_said answers held)
  entered_speaks = record { prepares = entered_prepares; commits = entered_commits }

-- Each call -----------------------------------------------------------------------------------------------------------

abbrev pub SpeaksNow : (f me : ℕ) → History → Type 0
SpeaksNow f me p = Speaks f me p.now.view p.now.log

pub said_now : (f me : ℕ) (p : History) (hs : List Header) → (after_moves f me p (all_said hs)).now ≡ record p.now { log = with_said hs p.now.log }
said_now f me p [] = refl
said_now f me p (h ∷ hs) = said_now f me (after_move f me p (Says h)) hs

then_speaks : (f me : ℕ) (p : History) (hs : List Header) → Speaks f me p.now.view (with_said hs p.now.log) → SpeaksNow f me (after_moves f me p (all_said hs))
then_speaks f me p hs x = subst (λ (s : State). Speaks f me s.view s.log) (sym (said_now f me p hs)) x

if_speaks : (f me : ℕ) (p : History) (b : Bool) (moves : List Move) → SpeaksNow f me p → (b ≡ true → SpeaksNow f me (after_moves f me p moves)) → SpeaksNow f me (after_moves f me p (cond b moves []))
if_speaks f me p b moves speaks then = cond_both b moves [] (λ (l : List Move). SpeaksNow f me (after_moves f me p l)) then (λ _. speaks)

pub call_speaks : (f : ℕ) (null : List ℕ) (faulty : ℕ → Bool) (w : World) (i : ℕ) (c : HeaderCall) → 0 < f → FewAreFaulty f faulty → faulty i ≡ false → Heard f faulty w → Kept f i (w i)
    → SpeaksNow f i (w i) → SpeaksNow f i (after_moves f i (w i) (moves_of f null i (w i).now c))
call_speaks f null faulty w i (Receives h) positive few correct heard kept speaks =
    let s = (w i).now in
    let answers = answers_in f i (h ∷ s.log) h in
    if_speaks f i (w i) (is_acceptable f s h) (Accepts h ∷ all_said answers) speaks (λ e.
    let a = and_parts (is_within s h.view h.number) (not (has_slot s.log h.tag h.sender h.view h.number) && (not (h.tag == 2) || (h.sender == primary f h.view))) e in
    let b = and_parts (not (has_slot s.log h.tag h.sender h.view h.number)) (not (h.tag == 2) || (h.sender == primary f h.view)) a.1 in
    let same : h.view ≡ s.view = (within_is s h.view h.number a.0).view in
    then_speaks f i (after_move f i (w i) (Accepts h)) answers
    (subst (λ (v : ℕ). Speaks f i v (with_said answers (h ∷ s.log))) same
    (answered_speaks f i s.log h b.1 (subst (λ (v : ℕ). Speaks f i v s.log) (sym same) speaks))))
call_speaks f null faulty w i (Orders d) positive few correct heard kept speaks =
    let s = (w i).now in
    let n = next_number s in
    let h = vote 2 i s.view n d in
    let hs = cond (f == 0) (commits_in f i (h ∷ s.log) s.view n d) [] in
    if_speaks f i (w i) ((i == primary f s.view) && (is_within s s.view n && not (has_slot s.log 2 i s.view n))) (Says h ∷ all_said hs) speaks (λ e.
    let leads : i ≡ primary f s.view = eqb-true i (primary f s.view) (and_parts (i == primary f s.view) (is_within s s.view n && not (has_slot s.log 2 i s.view n)) e).0 in
    then_speaks f i (after_move f i (w i) (Says h)) hs
    (cond_both (f == 0) (commits_in f i (h ∷ s.log) s.view n d) [] (λ (l : List Header). Speaks f i s.view (with_said l (h ∷ s.log)))
    (λ none. let zero_is : f ≡ 0 = eqb-true f 0 none in absurd (omega (arith, zero_is, positive)))
    (λ _. proposed_speaks f faulty w i d positive few correct (votes_of f faulty w heard) kept speaks leads)))
call_speaks f null faulty w i (Settles n) positive few correct heard kept speaks =
    if_speaks f i (w i) (nat_lt (w i).now.low n) (Drops n ∷ []) speaks (λ _. dropped_speaks f i (w i).now.view n (w i).now.log speaks)
call_speaks f null faulty w i TimesOut positive few correct heard kept speaks = speaks
call_speaks f null faulty w i (ChangesView v ms) positive few correct heard kept speaks =
    let s = (w i).now in
    let r = chosen f v null ms in
    let hs = entry_answers f i s.low (taken_in s.low r.proposals s.log) r.proposals in
    if_speaks f i (w i) (nat_lt s.view v && (nat_le s.asked v && is_new_view f v ms)) (Enters r ∷ all_said hs) speaks (λ e.
    let above = ltb-true s.view v (and_parts (nat_lt s.view v) (nat_le s.asked v && is_new_view f v ms) e).0 in
    then_speaks f i (after_move f i (w i) (Enters r)) hs (entered_speaks f i (w i) r positive kept above (choice_is_by_its_rule f v null ms)))
call_speaks f null faulty w i (Runs h) positive few correct heard kept speaks =
    if_speaks f i (w i) (committed f i (w i).now.log h.view h.number h.digest) (Executes h ∷ []) speaks (λ _. speaks)
