-- What replicas have executed and entered, by the moves of a world.
use Rattle.std.proofs.Common.{◌≡◌, ℕ, ◌+◌, ◌*◌, ◌≤◌, Bool, false, ◌&&◌, List, [], ◌∷◌, ◌⊎◌, inl, inr, refl, sym, subst, ◌∙◌, arith}
use Rattle.std.specs.Prelude.{nat_le}
use Rattle.std.proofs.lemmas.Bool.{and_parts, cases_lt}
use Rattle.bfs_votes.specs.Votes.{Header, Told, primary, prepared, tellers, told}
use Rattle.bfs_agreement.specs.Histories.{Execution, History, IsIn, NewView, World}
use Rattle.bfs_agreement.specs.Moves.{Move, Accepts, Says, Drops, Leaves, Enters, Executes, AreAllowed, IsAllowed, Step, after_move, after_step, after_steps, new_world}
use Rattle.bfs_agreement.proofs.Public.{Kept, Sound, at_each, log_stays, run_sound, told_kept, told_more}
use Rattle.bfs_progress.proofs.Public.{prepared_is}

-- the NEW-VIEW by which it has entered its view tells what that begins behind, and its greatest number
pub record IsCurrent (p : History) (r : NewView) : Type 0 where
  pub entry : IsIn r p.entered
  pub view : r.view ≡ p.now.view
  pub min_s : r.min_s ≡ p.now.min_s
  pub top : r.top ≡ p.now.handed

-- what it has executed is of no later view, and its PRE-PREPARE is in the log yet where it is not stable
pub record IsKept (f : ℕ) (p : History) (x : Header) : Type 0 where
  pub earlier : x.view ≤ p.now.view
  pub there : (x.number ≤ p.now.low) ⊎ Told p.now.log 2 (primary f x.view) x.view x.number x.digest

pub record HasPast (f : ℕ) (p : History) : Type 0 where
  pub current : (p.now.view ≡ 0) ⊎ ((r : NewView) × IsCurrent p r)
  pub executed : (x : Execution) → IsIn x p.executions → IsKept f p x.proposal

module _ (f : ℕ) (faulty : ℕ → Bool) where
  log_grows : (me : ℕ) (p : History) (h : Header) → HasPast f p → (x : Execution) → IsIn x p.executions → IsKept f (record p { now = record p.now { log = h ∷ p.now.log } }) x.proposal
  log_grows me p h past x i =
      let is = past.executed x i in
      let y = x.proposal in
      record { earlier = is.earlier; there = elim is.there [ inl low ↦ inl low | inr told ↦ inr (told_more h p.now.log 2 (primary f y.view) y.view y.number y.digest told) ] }

  current_on : (p q : History) → q.now.view ≡ p.now.view → q.now.min_s ≡ p.now.min_s → q.now.handed ≡ p.now.handed → q.entered ≡ p.entered → HasPast f p → (q.now.view ≡ 0) ⊎ ((r : NewView) × IsCurrent q r)
  current_on p q view min_s handed entered past = elim past.current [
    | inl zero ↦ inl (view ∙ zero)
    | inr r ↦ inr (r.0, record { entry = subst (IsIn r.0) (sym entered) r.1.entry; view = r.1.view ∙ sym view; min_s = r.1.min_s ∙ sym min_s; top = r.1.top ∙ sym handed })
  ]

  move_past : (w : World) (me : ℕ) (p : History) (move : Move) → Kept f me p → IsAllowed f faulty w me p move → HasPast f p → HasPast f (after_move f me p move)
  move_past w me p (Accepts h) kept may past = record { current = current_on p (after_move f me p (Accepts h)) refl refl refl refl past; executed = log_grows me p h past }
  move_past w me p (Says h) kept may past = record { current = current_on p (after_move f me p (Says h)) refl refl refl refl past; executed = λ x i. let is = log_grows me p h past x i in record { earlier = is.earlier; there = is.there } }
  move_past w me p (Drops n) kept may past = record {
    current = current_on p (after_move f me p (Drops n)) refl refl refl refl past;
    executed = λ x i.
        let is = past.executed x i in
        let y = x.proposal in
        record {
          earlier = is.earlier;
          there = elim is.there [
            | inl low ↦ inl (omega (arith, low, may))
            | inr told ↦ elim (cases_lt n y.number) [ inl above ↦ inr (told_kept n p.now.log 2 (primary f y.view) y.view y.number y.digest above told) | inr under ↦ inl under ]
          ];
        };
  }
  move_past w me p (Leaves m) kept may past =
      record { current = current_on p (after_move f me p (Leaves m)) refl refl refl refl past; executed = λ x i. let is = past.executed x i in record { earlier = is.earlier; there = is.there } }
  move_past w me p (Enters r) kept may past = record {
    current = inr (r, record { entry = inl refl; view = refl; min_s = refl; top = refl });
    executed = λ x i.
        let is = past.executed x i in
        let y = x.proposal in
        let above = may.above in
        let earlier = is.earlier in
        record {
          earlier = omega (arith, earlier, above);
          there = elim is.there [ inl low ↦ inl low | inr told ↦ inr (log_stays p.now.low r.proposals p.now.log 2 (primary f y.view) y.view y.number y.digest told) ];
        };
  }
  move_past w me p (Executes h) kept may past = record {
    current = current_on p (after_move f me p (Executes h)) refl refl refl refl past;
    executed = λ x i. elim i [
      | inl same ↦
          let both = and_parts (prepared f me p.now.log h.view h.number h.digest) (nat_le (2 * f + 1) (tellers f p.now.log 4 h.view h.number h.digest) && told p.now.log 4 me h.view h.number h.digest) may in
          let told = (prepared_is f me p.now.log h.view h.number h.digest both.0).proposal in
          subst (λ (y : Execution). IsKept f (after_move f me p (Executes h)) y.proposal) (sym same) (record { earlier = kept.log_views 2 (primary f h.view) h.view h.number h.digest told; there = inr told })
      | inr before ↦ let is = past.executed x before in record { earlier = is.earlier; there = is.there }
    ];
  }

  -- each correct one's
  abbrev HavePast : World → Type 0
  HavePast w = (k : ℕ) → faulty k ≡ false → HasPast f (w k)

  steps_past : (steps : List Step) (w : World) → Sound f faulty w → AreAllowed f faulty w steps → HavePast w → HavePast (after_steps f w steps)
  steps_past [] w sound all past = past
  steps_past (step ∷ steps) w sound all past =
      let i = step.who in
      steps_past steps (after_step f w step) (run_sound f faulty w (step ∷ []) sound (all.0, tt)) all.1
      (at_each (λ k p. faulty k ≡ false → HasPast f p) w i (after_move f i (w i) step.move) (λ correct. move_past w i (w i) step.move (sound.kept i correct) all.0 (past i correct)) past)

  pub have_past : (steps : List Step) → Sound f faulty new_world → AreAllowed f faulty new_world steps → HavePast (after_steps f new_world steps)
  have_past steps sound all = steps_past steps new_world sound all (λ k correct. record { current = inl refl; executed = λ x i. absurd i })
