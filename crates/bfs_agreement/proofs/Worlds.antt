-- Every world of allowed steps.
use Rattle.std.proofs.Common.{◌≡◌, ℕ, ◌+◌, ◌*◌, ◌≤◌, ◌==◌, Bool, true, false, ◌&&◌, ◌||◌, nat_le, List, [], ◌∷◌, ◌++◌, ◌⊎◌, inl, inr, refl, sym, subst, ◌∙◌, arith}
use Rattle.std.proofs.lemmas.Bool.{and_parts, or_left, or_right, cond_both, eqb-true, eqb-false, leb-true, cases_Bool}
use Rattle.bfs_votes.specs.Votes.{Header, says, told, Told, count_below, primary, prepared, committed, replicas}
use Rattle.bfs_agreement.specs.Histories.{IsIn, Executed, ViewChange, NewView, Execution, History, World, WasSent, IsValidNewView}
use Rattle.bfs_agreement.specs.Moves.{Move, Accepts, Says, Drops, Leaves, Enters, Executes, after_move, IsAllowed, Step, with_history, after_step, after_steps, AreAllowed, new_world}
use Rattle.bfs_votes.specs.Laws.{QuorumsMeet}
use Rattle.bfs_agreement.proofs.Counts.{QuorumsShare, quorums_share}
use Rattle.bfs_agreement.proofs.Told.{told_cases, told_more}
use Rattle.bfs_agreement.proofs.Logs.{kept_told, taken_told, join_right}
use Rattle.bfs_agreement.proofs.Kept.{Kept, fresh_kept, accept_kept, drop_kept, leave_kept, enter_kept}
use Rattle.bfs_agreement.proofs.Said.{moved, says_itself, say_kept}
use Rattle.bfs_agreement.proofs.Carried.{Facts, carried, same_digest}
use Rattle.bfs_agreement.specs.Laws.{HasQuorum, MovesAgree, QuorumsAreCarried, TellsOneDigest}
use Rattle.bfs_votes.proofs.Public.{more}

-- histories only grow
pub record Grows (p q : History) : Type 0 where
  pub sent : (t k v n : ℕ) (d : List ℕ) → Told p.sent t k v n d → Told q.sent t k v n d
  pub offers : (t k v n : ℕ) (d : List ℕ) → Told p.offers t k v n d → Told q.offers t k v n d
  pub changes : (m : ViewChange) → IsIn m p.changes → IsIn m q.changes

grows_same : (p : History) → Grows p p
grows_same p = record { sent = λ t k v n d x. x; offers = λ t k v n d x. x; changes = λ m x. x }

grows : (f me : ℕ) (p : History) (move : Move) → Grows p (after_move f me p move)
grows f me p (Accepts h) = record { sent = λ t k v n d x. x; offers = λ t k v n d x. x; changes = λ m x. x }
grows f me p (Says h) = record { sent = λ t k v n d x. told_more h p.sent t k v n d x; offers = λ t k v n d x. x; changes = λ m x. x }
grows f me p (Drops m) = record { sent = λ t k v n d x. x; offers = λ t k v n d x. x; changes = λ m x. x }
grows f me p (Leaves m) = record { sent = λ t k v n d x. x; offers = λ t k v n d x. x; changes = λ m x. inr x }
grows f me p (Enters r) =
    record {
      sent = λ t k v n d x. x;
      offers = λ t k v n d x. cond_both (me == primary f r.view) (r.proposals ++ p.offers) p.offers (λ (l : List Header). Told l t k v n d) (λ e. join_right r.proposals p.offers t k v n d x) (λ e. x);
      changes = λ m x. x;
    }
grows f me p (Executes h) = record { sent = λ t k v n d x. x; offers = λ t k v n d x. x; changes = λ m x. x }

-- what holds at the changed replica and at all others
pub at_each : (P : ℕ → History → Type 0) (w : World) (i : ℕ) (p : History) → P i p → ((j : ℕ) → P j (w j)) → (j : ℕ) → P j (with_history w i p j)
at_each P w i p here all j = cond_both (j == i) p (w j) (P j) (λ e. subst (λ (k : ℕ). P k p) (sym (eqb-true j i e)) here) (λ e. all j)

pub world_grows : (f : ℕ) (w : World) (step : Step) (j : ℕ) → Grows (w j) (after_step f w step j)
world_grows f w step = at_each (λ j q. Grows (w j) q) w step.who (after_move f step.who (w step.who) step.move) (grows f step.who (w step.who) step.move) (λ j. grows_same (w j))

pub said_on : (faulty : ℕ → Bool) (w new : World) → ((j : ℕ) → Grows (w j) (new j)) → (t k v n : ℕ) (d : List ℕ) → WasSent faulty w t k v n d → WasSent faulty new t k v n d
said_on faulty w new on t k v n d all_said correct = elim (all_said correct) [
  | inl x ↦ inl ((on k).sent t k v n d x)
  | inr y ↦ inr (y.0, (on k).offers 2 k v n d y.1)
]

pub new_view_on : (f : ℕ) (faulty : ℕ → Bool) (w new : World) (r : NewView) → ((j : ℕ) → Grows (w j) (new j)) → IsValidNewView f faulty w r → IsValidNewView f faulty new r
new_view_on f faulty w new r on x =
    record {
      senders = x.senders;
      views = x.views;
      sent = λ m y correct. (on m.sender).changes m (x.sent m y correct);
      valid = λ m c y z. let s = x.valid m c y z in record { earlier = s.earlier; backed = s.backed; authentic = λ t k v n d h. said_on faulty w new on t k v n d (s.authentic t k v n d h) };
      choice = x.choice;
    }

backers_on : (f : ℕ) (faulty : ℕ → Bool) (w new : World) → ((j : ℕ) → Grows (w j) (new j)) → (v n : ℕ) (d : List ℕ) → HasQuorum f faulty w v n d → HasQuorum f faulty new v n d
backers_on f faulty w new on v n d h =
    let le = more (λ k. faulty k || told (w k).sent 4 k v n d) (λ k. faulty k || told (new k).sent 4 k v n d) (replicas f)
    (λ k x. grown (faulty k) (told (w k).sent 4 k v n d) (told (new k).sent 4 k v n d) ((on k).sent 4 k v n d) x) in
    omega (arith, h, le)
  where
    grown : (a b c : Bool) → (b ≡ true → c ≡ true) → (a || b) ≡ true → (a || c) ≡ true
    grown true b c i e = refl
    grown false b c i e = i e

-- the log had the batch committed, by COMMITs that their senders sent or that faulty ones may have
abbrev pub IsBacked : (f : ℕ) (faulty : ℕ → Bool) → World → (me : ℕ) → Execution → Type 0
IsBacked f faulty w me x =
    (committed f me x.log x.proposal.view x.proposal.number x.proposal.digest ≡ true)
    × HasQuorum f faulty w x.proposal.view x.proposal.number x.proposal.digest

pub record Sound (f : ℕ) (faulty : ℕ → Bool) (w : World) : Type 0 where
  pub kept : (i : ℕ) → faulty i ≡ false → Kept f i (w i)
  pub entered : (i : ℕ) (r : NewView) → IsIn r (w i).entered → IsValidNewView f faulty w r
  pub heard : (i k v n : ℕ) (d : List ℕ) → faulty k ≡ false → Told (w i).now.log 4 k v n d → Told (w k).sent 4 k v n d
  pub executions : (i : ℕ) (x : Execution) → IsIn x (w i).executions → IsBacked f faulty w i x

kept_after : (f me : ℕ) (faulty : ℕ → Bool) (w : World) (p : History) (move : Move) → Kept f me p → faulty me ≡ false → w me ≡ p → IsAllowed f faulty w me p move → Kept f me (after_move f me p move)
kept_after f me faulty w p (Accepts h) kept correct here may = accept_kept f me faulty w p h kept correct here may
kept_after f me faulty w p (Says h) kept correct here may = say_kept f me p h kept may
kept_after f me faulty w p (Drops m) kept correct here may = drop_kept f me p m kept may
kept_after f me faulty w p (Leaves m) kept correct here may = leave_kept f me p m kept may
kept_after f me faulty w p (Enters r) kept correct here may = enter_kept f me faulty w p r kept may
kept_after f me faulty w p (Executes h) kept correct here may = kept

-- a NEW-VIEW that was entered by, before or now
entered_after : (f me : ℕ) (faulty : ℕ → Bool) (w : World) (p : History) (move : Move) → IsAllowed f faulty w me p move → ((r : NewView) → IsIn r p.entered → IsValidNewView f faulty w r) → (r : NewView) → IsIn r (after_move f me p move).entered → IsValidNewView f faulty w r
entered_after f me faulty w p (Accepts h) may all = all
entered_after f me faulty w p (Says h) may all = all
entered_after f me faulty w p (Drops m) may all = all
entered_after f me faulty w p (Leaves m) may all = all
entered_after f me faulty w p (Enters r) may all = λ q x. elim x [ inl e ↦ subst (λ (s : NewView). IsValidNewView f faulty w s) (sym e) may.valid | inr y ↦ all q y ]
entered_after f me faulty w p (Executes h) may all = all

-- a COMMIT is no PRE-PREPARE
sent_itself : (faulty : ℕ → Bool) (w : World) (h : Header) → h.tag ≡ 4 → WasSent faulty w h.tag h.sender h.view h.number h.digest → faulty h.sender ≡ false → Told (w h.sender).sent h.tag h.sender h.view h.number h.digest
sent_itself faulty w h is all_said ok = elim (all_said ok) [ inl x ↦ x | inr y ↦ let e = y.0 in absurd (omega (arith, e, is)) ]

-- a COMMIT that the log has: it was there, or is said now, or was sent by another
heard_after : (f me : ℕ) (faulty : ℕ → Bool) (w : World) (p : History) (move : Move) → IsAllowed f faulty w me p move → ((k v n : ℕ) (d : List ℕ) → faulty k ≡ false → Told p.now.log 4 k v n d → Told (w k).sent 4 k v n d)
    → (k v n : ℕ) (d : List ℕ) → faulty k ≡ false → Told (after_move f me p move).now.log 4 k v n d → Told (w k).sent 4 k v n d ⊎ ((k ≡ me) × Told (after_move f me p move).sent 4 k v n d)
heard_after f me faulty w p (Accepts h) may all k v n d correct x = elim (told_cases h p.now.log 4 k v n d x) [
  | inl a ↦ inl (moved h 4 k v n d a (λ t k v n d. t ≡ 4 → WasSent faulty w t k v n d → faulty k ≡ false → Told (w k).sent t k v n d) (λ is all_said ok. sent_itself faulty w h is all_said ok) refl (moved h 4 k v n d a (λ t k v n d. WasSent faulty w t k v n d) may.authentic) correct)
  | inr b ↦ inl (all k v n d correct b)
]
heard_after f me faulty w p (Says h) may all k v n d correct x = elim (told_cases h p.now.log 4 k v n d x) [
  | inl a ↦ inr (sym a.sender ∙ may.own, moved h 4 k v n d a (λ t k v n d. Told (h ∷ p.sent) t k v n d) (or_left (says h.tag h.sender h.view h.number h.digest h) (told p.sent h.tag h.sender h.view h.number h.digest) (says_itself h)))
  | inr b ↦ inl (all k v n d correct b)
]
heard_after f me faulty w p (Drops m) may all k v n d correct x = inl (all k v n d correct (kept_told m p.now.log 4 k v n d x))
heard_after f me faulty w p (Leaves m) may all k v n d correct x = inl (all k v n d correct x)
heard_after f me faulty w p (Enters r) may all k v n d correct x = elim (taken_told p.now.low r.proposals p.now.log 4 k v n d x) [
  | inl a ↦ let e = (may.valid.choice.kinds 4 k v n d a).0 in absurd (omega (arith, e))
  | inr b ↦ inl (all k v n d correct b)
]
heard_after f me faulty w p (Executes h) may all k v n d correct x = inl (all k v n d correct x)

backers_now : (f me : ℕ) (faulty : ℕ → Bool) (w : World) (p : History) (h : Header) → ((k v n : ℕ) (d : List ℕ) → faulty k ≡ false → Told p.now.log 4 k v n d → Told (w k).sent 4 k v n d)
    → committed f me p.now.log h.view h.number h.digest ≡ true → HasQuorum f faulty w h.view h.number h.digest
backers_now f me faulty w p h heard e =
    let v = h.view in
    let n = h.number in
    let d = h.digest in
    let a = and_parts (prepared f me p.now.log v n d) (nat_le (2 * f + 1) (count_below (λ k. told p.now.log 4 k v n d) (replicas f)) && told p.now.log 4 me v n d) e in
    let b = and_parts (nat_le (2 * f + 1) (count_below (λ k. told p.now.log 4 k v n d) (replicas f))) (told p.now.log 4 me v n d) a.1 in
    let enough : 2 * f + 1 ≤ count_below (λ k. told p.now.log 4 k v n d) (replicas f) = leb-true (2 * f + 1) (count_below (λ k. told p.now.log 4 k v n d) (replicas f)) b.0 in
    let le = more (λ k. told p.now.log 4 k v n d) (λ k. faulty k || told (w k).sent 4 k v n d) (replicas f)
    (λ k x. elim (cases_Bool (faulty k)) [ inl y ↦ or_left (faulty k) (told (w k).sent 4 k v n d) y | inr y ↦ or_right (faulty k) (told (w k).sent 4 k v n d) (heard k v n d y x) ]) in
    omega (arith, enough, le)

-- a COMMIT that a replica says is in its own history
at_itself : (w : World) (i : ℕ) (q : History) (k v n : ℕ) (d : List ℕ) → k ≡ i → Told q.sent 4 k v n d → Told (with_history w i q k).sent 4 k v n d
at_itself w i q k v n d same x = cond_both (k == i) q (w k) (λ (p : History). Told p.sent 4 k v n d) (λ e. x) (λ e. absurd (eqb-false k i e same))

-- what was executed: 2f+1 COMMITs of the log, each of which a correct sender sent
ran_after : (f me : ℕ) (faulty : ℕ → Bool) (w : World) (p : History) (move : Move) → IsAllowed f faulty w me p move → ((k v n : ℕ) (d : List ℕ) → faulty k ≡ false → Told p.now.log 4 k v n d → Told (w k).sent 4 k v n d)
    → ((x : Execution) → IsIn x p.executions → IsBacked f faulty w me x) → (x : Execution) → IsIn x (after_move f me p move).executions → IsBacked f faulty w me x
ran_after f me faulty w p (Accepts h) may heard all = all
ran_after f me faulty w p (Says h) may heard all = all
ran_after f me faulty w p (Drops m) may heard all = all
ran_after f me faulty w p (Leaves m) may heard all = all
ran_after f me faulty w p (Enters r) may heard all = all
ran_after f me faulty w p (Executes h) may heard all = λ x y. elim y [
  | inl e ↦ subst (λ (z : Execution). IsBacked f faulty w me z) (sym e) (may, backers_now f me faulty w p h heard may)
  | inr z ↦ all x z
]

backed_on : (f : ℕ) (faulty : ℕ → Bool) (w new : World) → ((j : ℕ) → Grows (w j) (new j)) → (me : ℕ) (x : Execution) → IsBacked f faulty w me x → IsBacked f faulty new me x
backed_on f faulty w new on me x backed = (backed.0, backers_on f faulty w new on x.proposal.view x.proposal.number x.proposal.digest backed.1)

-- a whole world, one step on
pub sound_after : (f : ℕ) (faulty : ℕ → Bool) (w : World) (step : Step) → Sound f faulty w → IsAllowed f faulty w step.who (w step.who) step.move → Sound f faulty (after_step f w step)
sound_after f faulty w step sound may =
    let i = step.who in
    let q = after_move f i (w i) step.move in
    let new = after_step f w step in
    let on = world_grows f w step in
    record {
      kept = at_each (λ j p. faulty j ≡ false → Kept f j p) w i q (λ correct. kept_after f i faulty w (w i) step.move (sound.kept i correct) correct refl may) sound.kept;
      entered = at_each (λ j p. (r : NewView) → IsIn r p.entered → IsValidNewView f faulty new r) w i q
          (λ r x. new_view_on f faulty w new r on (entered_after f i faulty w (w i) step.move may (sound.entered i) r x))
          (λ j r x. new_view_on f faulty w new r on (sound.entered j r x));
      heard = at_each (λ j p. (k v n : ℕ) (d : List ℕ) → faulty k ≡ false → Told p.now.log 4 k v n d → Told (new k).sent 4 k v n d) w i q
          (λ k v n d correct x. elim (heard_after f i faulty w (w i) step.move may (sound.heard i) k v n d correct x) [
            | inl y ↦ (on k).sent 4 k v n d y
            | inr y ↦ at_itself w i q k v n d y.0 y.1
          ])
          (λ j k v n d correct x. (on k).sent 4 k v n d (sound.heard j k v n d correct x));
      executions = at_each (λ j p. (x : Execution) → IsIn x p.executions → IsBacked f faulty new j x) w i q
          (λ x y. backed_on f faulty w new on i x (ran_after f i faulty w (w i) step.move may (sound.heard i) (sound.executions i) x y))
          (λ j x y. backed_on f faulty w new on j x (sound.executions j x y));
    }

pub start_sound : (f : ℕ) (faulty : ℕ → Bool) → Sound f faulty new_world
start_sound f faulty =
    record {
      kept = λ i correct. fresh_kept f i;
      entered = λ i r x. absurd x;
      heard = λ i k v n d correct x. absurd cc;
      executions = λ i x y. absurd y;
    }

pub run_sound : (f : ℕ) (faulty : ℕ → Bool) (w : World) (steps : List Step) → Sound f faulty w → AreAllowed f faulty w steps → Sound f faulty (after_steps f w steps)
run_sound f faulty w [] sound all = sound
run_sound f faulty w (step ∷ steps) sound all = run_sound f faulty (after_step f w step) steps (sound_after f faulty w step sound all.0) all.1

facts_of : (f : ℕ) (faulty : ℕ → Bool) (w : World) → Sound f faulty w → Facts f faulty w
facts_of f faulty w sound =
    record {
      one = λ k t u v n d e correct x y. (sound.kept k correct).one t u k k v n d e x y;
      offered_one = λ k t v n d e correct x y. (sound.kept k correct).offered_one t k k v n d e x y;
      offered = λ k v n d correct x. (sound.kept k correct).offered k v n d x;
      covers = λ k v n d m correct x y lt. (sound.kept k correct).covers m k v n d x y lt;
      follows = λ k t v u n d e correct x y lt. (sound.kept k correct).follows t k k v u n d e x y lt;
      entered = λ k r correct x. sound.entered k r x;
    }

-- two that executed a number
pub same_executed : (f : ℕ) (faulty : ℕ → Bool) (w : World) → QuorumsShare f faulty → Sound f faulty w → (i j : ℕ) (x y : Header) → Executed (w i) x → Executed (w j) y → x.number ≡ y.number → x.digest ≡ y.digest
same_executed f faulty w few sound i j x y left right same =
    let first = sound.executions i (record { proposal = x; log = left.0 }) left.1 in
    let second = sound.executions j (record { proposal = y; log = right.0 }) right.1 in
    same_digest f faulty w (facts_of f faulty w sound) few x.view y.view x.number x.digest y.digest first.1
    (subst (λ (n : ℕ). HasQuorum f faulty w y.view n y.digest) (sym same) second.1)

pub moves_agree : QuorumsMeet → MovesAgree
moves_agree meet f faulty steps few all i j x y left right same =
    same_executed f faulty (after_steps f new_world steps) (quorums_share meet f faulty few) (run_sound f faulty new_world steps (start_sound f faulty) all) i j x y left right same

pub quorums_are_carried : QuorumsMeet → QuorumsAreCarried
quorums_are_carried meet f faulty steps view number later digest few all quorum =
    let w = after_steps f new_world steps in
    carried f faulty w (facts_of f faulty w (run_sound f faulty new_world steps (start_sound f faulty) all)) (quorums_share meet f faulty few) view number digest quorum later

-- what a correct replica has sent for a number in a view
pub one_digest : (f : ℕ) (faulty : ℕ → Bool) (w : World) → Sound f faulty w → TellsOneDigest faulty w
one_digest f faulty w sound k t u v n d e correct (inl x) (inl y) = (sound.kept k correct).one t u k k v n d e x y
one_digest f faulty w sound k t u v n d e correct (inl x) (inr y) = sym ((sound.kept k correct).offered_one t k k v n e d y.1 x)
one_digest f faulty w sound k t u v n d e correct (inr x) (inl y) = (sound.kept k correct).offered_one u k k v n d e x.1 y
one_digest f faulty w sound k t u v n d e correct (inr x) (inr y) = (sound.kept k correct).offers_once k v n d e x.1 y.1
