-- What stands in a log under a correct replica's name was said by it.
use Rattle.std.proofs.Common.{◌≡◌, ℕ, ◌<◌, ◌==◌, Bool, false, ◌&&◌, not, cond, nat_lt, nat_le, List, [], ◌∷◌, ◌++◌, ◌⊎◌, inl, inr, refl, sym, subst, ◌∙◌, arith}
use Rattle.std.proofs.lemmas.Bool.{or_left, cond_both, eqb-true, cases_Bool}
use Rattle.std.proofs.lemmas.List.Folds.{list_any-append}
use Rattle.bfs_votes.specs.Votes.{Header, has_slot, says, told, Told, primary, committed}
use Rattle.bfs_agreement.specs.Histories.{History, World, HasSaid, WasSent}
use Rattle.bfs_agreement.specs.Moves.{Move, Accepts, Says, Drops, Leaves, Enters, Executes, Proposes, Prepares, Commits, after_move, IsAllowed, Step, with_history, after_step, after_steps, AreAllowed, new_world, taken_in}
use Rattle.bfs_agreement.specs.Choice.{chosen}
use Rattle.bfs_agreement.specs.Calls.{vote, is_within, commits_in, answers_in, all_said, is_acceptable, next_number, is_new_view, entry_answers, HeaderCall, Receives, Orders, Settles, TimesOut, ChangesView, Runs, moves_of, steps_of}
use Rattle.bfs_agreement.proofs.Public.{told_cases, kept_told, taken_told, moved, says_itself, at_each, world_grows, said_on, here_itself}
use Rattle.bfs_progress.specs.Premises.{IsOffered}

pub record Heard (f : ℕ) (faulty : ℕ → Bool) (w : World) : Type 0 where
  pub said : (i t k v n : ℕ) (d : List ℕ) → faulty k ≡ false → Told (w i).now.log t k v n d → HasSaid (w k) t k v n d
  -- who sent a PREPARE had the primary's PRE-PREPARE
  pub grounds : (k v n : ℕ) (d : List ℕ) → faulty k ≡ false → faulty (primary f v) ≡ false → Told (w k).sent 3 k v n d → HasSaid (w (primary f v)) 2 (primary f v) v n d

-- of votes alone
pub record HeardVotes (f : ℕ) (faulty : ℕ → Bool) (w : World) : Type 0 where
  pub said : (i t k v n : ℕ) (d : List ℕ) → t < 5 → faulty k ≡ false → Told (w i).now.log t k v n d → HasSaid (w k) t k v n d
  pub grounds : (k v n : ℕ) (d : List ℕ) → faulty k ≡ false → faulty (primary f v) ≡ false → Told (w k).sent 3 k v n d → HasSaid (w (primary f v)) 2 (primary f v) v n d

pub votes_of : (f : ℕ) (faulty : ℕ → Bool) (w : World) → Heard f faulty w → HeardVotes f faulty w
votes_of f faulty w heard = record { said = λ i t k v n d small correct x. heard.said i t k v n d correct x; grounds = heard.grounds }

-- what is no PRE-PREPARE was sent by itself
pub by_itself : (p : History) (t k v n : ℕ) (d : List ℕ) → 2 < t → HasSaid p t k v n d → Told p.sent t k v n d
by_itself p t k v n d vote (inl x) = x
by_itself p t k v n d vote (inr x) = let e : t ≡ 2 = x.0 in absurd (omega (arith, e, vote))

-- a NEW-VIEW of another that is correct was sent by it
abbrev pub IsOfferedMove : (f : ℕ) (faulty : ℕ → Bool) → World → (who : ℕ) → Move → Type 0
IsOfferedMove f faulty w who (Accepts h) = Unit {0}
IsOfferedMove f faulty w who (Says h) = Unit {0}
IsOfferedMove f faulty w who (Drops n) = Unit {0}
IsOfferedMove f faulty w who (Leaves m) = Unit {0}
IsOfferedMove f faulty w who (Enters r) = (who == primary f r.view) ≡ false → (k v n : ℕ) (d : List ℕ) → Told r.proposals 2 k v n d → WasSent faulty w 2 k v n d
IsOfferedMove f faulty w who (Executes h) = Unit {0}

abbrev pub AreOfferedSteps : (f : ℕ) (faulty : ℕ → Bool) → World → List Step → Type 0
AreOfferedSteps f faulty w [] = Unit {0}
AreOfferedSteps f faulty w (step ∷ steps) = IsOfferedMove f faulty w step.who step.move × AreOfferedSteps f faulty (after_step f w step) steps

-- Moves ---------------------------------------------------------------------------------------------------------------

said_after : (f me : ℕ) (faulty : ℕ → Bool) (w : World) (p : History) (move : Move) → IsAllowed f faulty w me p move → IsOfferedMove f faulty w me move
    → ((t k v n : ℕ) (d : List ℕ) → faulty k ≡ false → Told p.now.log t k v n d → HasSaid (w k) t k v n d)
    → (t k v n : ℕ) (d : List ℕ) → faulty k ≡ false → Told (after_move f me p move).now.log t k v n d → HasSaid (w k) t k v n d ⊎ ((k ≡ me) × HasSaid (after_move f me p move) t k v n d)
said_after f me faulty w p (Accepts h) may offered all t k v n d correct x = elim (told_cases h p.now.log t k v n d x) [
  | inl a ↦ inl (moved h t k v n d a (λ t k v n d. WasSent faulty w t k v n d) may.authentic correct)
  | inr b ↦ inl (all t k v n d correct b)
]
said_after f me faulty w p (Says h) may offered all t k v n d correct x = elim (told_cases h p.now.log t k v n d x) [
  | inl a ↦ inr (
    sym a.sender ∙ may.own,
    inl (moved h t k v n d a (λ t k v n d. Told (h ∷ p.sent) t k v n d)
        (or_left (says h.tag h.sender h.view h.number h.digest h) (told p.sent h.tag h.sender h.view h.number h.digest) (says_itself h))),
  )
  | inr b ↦ inl (all t k v n d correct b)
]
said_after f me faulty w p (Drops m) may offered all t k v n d correct x = inl (all t k v n d correct (kept_told m p.now.log t k v n d x))
said_after f me faulty w p (Leaves m) may offered all t k v n d correct x = inl (all t k v n d correct x)
said_after f me faulty w p (Enters r) may offered all t k v n d correct x = elim (taken_told p.now.low r.proposals p.now.log t k v n d x) [
  | inl a ↦
      let kinds = may.valid.choice.kinds t k v n d a in
      let two : Told r.proposals 2 k v n d = subst (λ (s : ℕ). Told r.proposals s k v n d) kinds.0 a in
      elim (cases_Bool (me == primary f r.view)) [
        | inl leads ↦
            let mine : Told (after_move f me p (Enters r)).offers 2 k v n d = cond_both (me == primary f r.view) (r.proposals ++ p.offers) p.offers (λ (l : List Header). Told l 2 k v n d)
            (λ _. list_any-append (says 2 k v n d) r.proposals p.offers ∙ or_left (told r.proposals 2 k v n d) (told p.offers 2 k v n d) two)
            (λ backs. absurd cc) in
            inr (kinds.1 ∙ sym (eqb-true me (primary f r.view) leads), inr (kinds.0, mine))
        | inr backs ↦ inl (subst (λ (s : ℕ). HasSaid (w k) s k v n d) (sym kinds.0) (offered backs k v n d two correct))
      ]
  | inr b ↦ inl (all t k v n d correct b)
]
said_after f me faulty w p (Executes h) may offered all t k v n d correct x = inl (all t k v n d correct x)

-- a PREPARE that is said now answers a PRE-PREPARE of the log
grounds_after : (f me : ℕ) (faulty : ℕ → Bool) (w : World) (move : Move) → IsAllowed f faulty w me (w me) move → Heard f faulty w
    → (k v n : ℕ) (d : List ℕ) → faulty (primary f v) ≡ false → Told (after_move f me (w me) move).sent 3 k v n d → Told (w me).sent 3 k v n d ⊎ HasSaid (w (primary f v)) 2 (primary f v) v n d
grounds_after f me faulty w (Accepts h) may heard k v n d leads x = inl x
grounds_after f me faulty w (Says h) may heard k v n d leads x = elim (told_cases h (w me).sent 3 k v n d x) [
  | inl a ↦ inr (elim may.reason [
    | Proposes two is_primary above ↦ let e : h.tag ≡ 3 = a.tag in absurd (omega (arith, e, two))
    | Prepares three there ↦ heard.said me 2 (primary f v) v n d leads (moved h 3 k v n d a (λ t k v n d. Told (w me).now.log 2 (primary f v) v n d) there)
    | Commits four ready ↦ let e : h.tag ≡ 3 = a.tag in absurd (omega (arith, e, four))
  ])
  | inr b ↦ inl b
]
grounds_after f me faulty w (Drops m) may heard k v n d leads x = inl x
grounds_after f me faulty w (Leaves m) may heard k v n d leads x = inl x
grounds_after f me faulty w (Enters r) may heard k v n d leads x = inl x
grounds_after f me faulty w (Executes h) may heard k v n d leads x = inl x

heard_after : (f : ℕ) (faulty : ℕ → Bool) (w : World) (step : Step) → Heard f faulty w → IsAllowed f faulty w step.who (w step.who) step.move
    → IsOfferedMove f faulty w step.who step.move → Heard f faulty (after_step f w step)
heard_after f faulty w step heard may offered =
    let i = step.who in
    let q = after_move f i (w i) step.move in
    let new = after_step f w step in
    record {
      said = at_each (λ j p. (t k v n : ℕ) (d : List ℕ) → faulty k ≡ false → Told p.now.log t k v n d → HasSaid (new k) t k v n d) w i q
          (λ t k v n d correct x. elim (said_after f i faulty w (w i) step.move may offered (heard.said i) t k v n d correct x) [
            | inl y ↦ still k t v n d y
            | inr y ↦ subst (λ (j : ℕ). HasSaid (new j) t k v n d) (sym y.0) (subst (λ (p : History). HasSaid p t k v n d) (sym (here_itself w i q)) y.1)
          ])
          (λ j t k v n d correct x. still k t v n d (heard.said j t k v n d correct x));
      grounds = at_each (λ k p. (v n : ℕ) (d : List ℕ) → faulty k ≡ false → faulty (primary f v) ≡ false → Told p.sent 3 k v n d → HasSaid (new (primary f v)) 2 (primary f v) v n d) w i q
          (λ v n d correct leads x. still (primary f v) 2 v n d (elim (grounds_after f i faulty w step.move may heard i v n d leads x) [
            | inl y ↦ heard.grounds i v n d correct leads y
            | inr y ↦ y
          ]))
          (λ k v n d correct leads x. still (primary f v) 2 v n d (heard.grounds k v n d correct leads x));
    }
  where
    -- what was said stays so
    still : (k t v n : ℕ) (d : List ℕ) → HasSaid (w k) t k v n d → HasSaid (after_step f w step k) t k v n d
    still k t v n d x = said_on (λ _. false) w (after_step f w step) (world_grows f w step) t k v n d (λ _. x) refl

pub start_heard : (f : ℕ) (faulty : ℕ → Bool) → Heard f faulty new_world
start_heard f faulty = record { said = λ i t k v n d correct x. absurd cc; grounds = λ k v n d correct leads x. absurd cc }

pub run_heard : (f : ℕ) (faulty : ℕ → Bool) (w : World) (steps : List Step) → Heard f faulty w → AreAllowed f faulty w steps → AreOfferedSteps f faulty w steps → Heard f faulty (after_steps f w steps)
run_heard f faulty w [] heard all offered = heard
run_heard f faulty w (step ∷ steps) heard all offered = run_heard f faulty (after_step f w step) steps (heard_after f faulty w step heard all.0 offered.0) all.1 offered.1

-- Calls ---------------------------------------------------------------------------------------------------------------

said_offered : (f : ℕ) (faulty : ℕ → Bool) (w : World) (i : ℕ) (hs : List Header) → AreOfferedSteps f faulty w (steps_of i (all_said hs))
said_offered f faulty w i [] = tt
said_offered f faulty w i (h ∷ hs) = (tt, said_offered f faulty (with_history w i (after_move f i (w i) (Says h))) i hs)

if_offered : (f : ℕ) (faulty : ℕ → Bool) (w : World) (i : ℕ) (b : Bool) (moves : List Move) → AreOfferedSteps f faulty w (steps_of i moves) → AreOfferedSteps f faulty w (steps_of i (cond b moves []))
if_offered f faulty w i b moves x = cond_both b moves [] (λ (l : List Move). AreOfferedSteps f faulty w (steps_of i l)) (λ _. x) (λ _. tt)

pub calls_offered : (f : ℕ) (null : List ℕ) (faulty : ℕ → Bool) (w : World) (i : ℕ) (c : HeaderCall) → IsOffered f null faulty w i c → AreOfferedSteps f faulty w (steps_of i (moves_of f null i (w i).now c))
calls_offered f null faulty w i (Receives h) offered =
    let hs = answers_in f i (h ∷ (w i).now.log) h in
    if_offered f faulty w i (is_acceptable f (w i).now h) (Accepts h ∷ all_said hs) (tt, said_offered f faulty (with_history w i (after_move f i (w i) (Accepts h))) i hs)
calls_offered f null faulty w i (Orders d) offered =
    let s = (w i).now in
    let n = next_number s in
    let h = vote 2 i s.view n d in
    let hs = cond (f == 0) (commits_in f i (h ∷ s.log) s.view n d) [] in
    if_offered f faulty w i ((i == primary f s.view) && (is_within s s.view n && not (has_slot s.log 2 i s.view n))) (Says h ∷ all_said hs)
    (tt, said_offered f faulty (with_history w i (after_move f i (w i) (Says h))) i hs)
calls_offered f null faulty w i (Settles n) offered = if_offered f faulty w i (nat_lt (w i).now.low n) (Drops n ∷ []) (tt, tt)
calls_offered f null faulty w i TimesOut offered = (tt, tt)
calls_offered f null faulty w i (ChangesView v ms) offered =
    let s = (w i).now in
    let r = chosen f v null ms in
    let hs = entry_answers f i s.low (taken_in s.low r.proposals s.log) r.proposals in
    if_offered f faulty w i (nat_lt s.view v && (nat_le s.asked v && is_new_view f v ms)) (Enters r ∷ all_said hs)
    (offered, said_offered f faulty (with_history w i (after_move f i (w i) (Enters r))) i hs)
calls_offered f null faulty w i (Runs h) offered = if_offered f faulty w i (committed f i (w i).now.log h.view h.number h.digest) (Executes h ∷ []) (tt, tt)
