-- A correct replica's VIEW-CHANGEs are valid, and of what was sent.
use Rattle.std.proofs.Common.{◌≡◌, ℕ, suc, ◌+◌, ◌<◌, ◌≤◌, ◌==◌, max, Bool, true, ◌&&◌, not, cond, nat_lt, nat_le, List, [], ◌∷◌, ◌⊎◌, inl, inr, refl, sym, ap, subst, ◌∙◌, arith}
use Rattle.std.specs.List.{list_all}
use Rattle.std.proofs.lemmas.Bool.{and_parts, and_from, or_left, or_right, or_cases, cond_both, eqb-true, eq-eqb, lt-ltb}
use Rattle.bfs_votes.specs.Votes.{Header, says, told, Told, primary, is_backed, prepared, committed, has_slot}
use Rattle.bfs_agreement.specs.Histories.{IsIn, Certificate, ViewChange, State, History, World, WasSent}
use Rattle.bfs_agreement.specs.Moves.{Move, Accepts, Says, Drops, Enters, Executes, after_move, Step, after_step, after_steps, AreAllowed, taken_in}
use Rattle.bfs_agreement.specs.Nodes.{after_moves}
use Rattle.bfs_agreement.specs.Choice.{chosen}
use Rattle.bfs_agreement.specs.Calls.{vote, is_within, answers_in, commits_in, all_said, is_acceptable, next_number, matching, candidates, is_highest, highest_among, view_change_of, is_valid_change, is_new_view, entry_answers, HeaderCall, Receives, Orders, Settles, TimesOut, ChangesView, Runs, moves_of}
use Rattle.bfs_agreement.proofs.Public.{in_told, Kept, told_cases, told_more, moved, says_itself, world_grows, said_on}
use Rattle.bfs_progress.proofs.Heard.{Heard}
use Rattle.bfs_progress.proofs.Later.{run_later}
use Rattle.bfs_progress.proofs.High.{LogHigh}
use Rattle.bfs_progress.proofs.Logs.{backed_from, prepared_is, backups_more}
use Rattle.bfs_progress.proofs.Answered.{said_now}

-- Lists ---------------------------------------------------------------------------------------------------------------

pub all_from : {A : Type 0} (test : A → Bool) (xs : List A) → ((x : A) → IsIn x xs → test x ≡ true) → list_all test xs ≡ true
all_from test [] each = refl
all_from test (x ∷ xs) each = and_from (test x) (list_all test xs) (each x (inl refl)) (all_from test xs (λ y i. each y (inr i)))

in_highest : (all cs : List Certificate) (c : Certificate) → IsIn c (highest_among all cs) → IsIn c cs
in_highest all [] c = λ i. i
in_highest all (b ∷ cs) c = cond_both (is_highest all b) (b ∷ highest_among all cs) (highest_among all cs) (λ (l : List Certificate). IsIn c l → IsIn c (b ∷ cs))
    (λ _ i. elim i [ inl same ↦ inl same | inr later ↦ inr (in_highest all cs c later) ])
    (λ _ i. inr (in_highest all cs c i))

pub record IsCandidate (f me low : ℕ) (log : List Header) (c : Certificate) : Type 0 where
  pub there : IsIn c.proposal log
  pub prepares : c.prepares ≡ matching log c.proposal
  pub tag : c.proposal.tag ≡ 2
  pub sender : c.proposal.sender ≡ primary f c.proposal.view
  pub ready : prepared f me log c.proposal.view c.proposal.number c.proposal.digest ≡ true

candidate_is : (f me low : ℕ) (log hs : List Header) (c : Certificate) → ((h : Header) → IsIn h hs → IsIn h log) → IsIn c (candidates f me low log hs) → IsCandidate f me low log c
candidate_is f me low log [] c among = λ i. absurd i
candidate_is f me low log (h ∷ hs) c among = cond_both (((h.tag == 2) && (h.sender == primary f h.view)) && (nat_lt low h.number && prepared f me log h.view h.number h.digest))
    (record { proposal = h; prepares = matching log h } ∷ candidates f me low log hs) (candidates f me low log hs) (λ (l : List Certificate). IsIn c l → IsCandidate f me low log c)
    (λ fits i. elim i [
      | inl same ↦
          let a = and_parts ((h.tag == 2) && (h.sender == primary f h.view)) (nat_lt low h.number && prepared f me log h.view h.number h.digest) fits in
          let b = and_parts (h.tag == 2) (h.sender == primary f h.view) a.0 in
          let e = and_parts (nat_lt low h.number) (prepared f me log h.view h.number h.digest) a.1 in
          subst (λ (x : Certificate). IsCandidate f me low log x) (sym same)
          (record { there = among h (inl refl); prepares = refl; tag = eqb-true h.tag 2 b.0; sender = eqb-true h.sender (primary f h.view) b.1; ready = e.1 })
      | inr later ↦ candidate_is f me low log hs c (λ x y. among x (inr y)) later
    ])
    (λ _ i. candidate_is f me low log hs c (λ x y. among x (inr y)) i)

-- what matches a PRE-PREPARE is of the log, and all PREPAREs that tell its digest match it
matching_told : (log : List Header) (h : Header) (t k v n : ℕ) (d : List ℕ) → Told (matching log h) t k v n d → Told log t k v n d
matching_told [] h t k v n d = λ x. absurd cc
matching_told (p ∷ log) h t k v n d =
    cond_both ((p.tag == 3) && ((p.view == h.view) && (p.number == h.number))) (p ∷ matching log h) (matching log h) (λ (l : List Header). Told l t k v n d → Told (p ∷ log) t k v n d)
    (λ _ x. elim (or_cases (says t k v n d p) (told (matching log h) t k v n d) x) [
      | inl a ↦ or_left (says t k v n d p) (told log t k v n d) a
      | inr later ↦ told_more p log t k v n d (matching_told log h t k v n d later)
    ])
    (λ _ x. told_more p log t k v n d (matching_told log h t k v n d x))

told_matching : (log : List Header) (h : Header) (k : ℕ) → Told log 3 k h.view h.number h.digest → Told (matching log h) 3 k h.view h.number h.digest
told_matching [] h k x = x
told_matching (p ∷ log) h k x = cond_both ((p.tag == 3) && ((p.view == h.view) && (p.number == h.number))) (p ∷ matching log h) (matching log h) (λ (l : List Header). Told l 3 k h.view h.number h.digest)
    (λ _. elim (or_cases (says 3 k h.view h.number h.digest p) (told log 3 k h.view h.number h.digest) x) [
      | inl a ↦ or_left (says 3 k h.view h.number h.digest p) (told (matching log h) 3 k h.view h.number h.digest) a
      | inr b ↦ or_right (says 3 k h.view h.number h.digest p) (told (matching log h) 3 k h.view h.number h.digest) (told_matching log h k b)
    ])
    (λ other. elim (told_cases p log 3 k h.view h.number h.digest x) [
      | inl is ↦
          let fits = and_from (p.tag == 3) ((p.view == h.view) && (p.number == h.number)) (eq-eqb p.tag 3 is.tag) (and_from (p.view == h.view) (p.number == h.number) (eq-eqb p.view h.view is.view) (eq-eqb p.number h.number is.number)) in
          absurd cc
      | inr b ↦ told_matching log h k b
    ])

-- a certificate of what is prepared holds by itself
backed_alone : (f me : ℕ) (log : List Header) (h : Header) → h.tag ≡ 2 → h.sender ≡ primary f h.view → prepared f me log h.view h.number h.digest ≡ true → is_backed f (h ∷ matching log h) h.view h.number h.digest ≡ true
backed_alone f me log h two from ready =
    let v = h.view in
    let n = h.number in
    let d = h.digest in
    let p = primary f v in
    let l = h ∷ matching log h in
    let enough = (prepared_is f me log v n d ready).enough in
    let grown = backups_more f log l v n d (λ k x. told_more h (matching log h) 3 k v n d (told_matching log h k x)) in
    let itself : Told l 2 p v n d = or_left (says 2 p v n d h) (told (matching log h) 2 p v n d)
    (moved h 2 p v n d (record { tag = two; sender = from; view = refl; number = refl; digest = refl }) (λ t k v n d. says t k v n d h ≡ true) (says_itself h)) in
    backed_from f l v n d itself (omega (arith, enough, grown))

-- A VIEW-CHANGE -------------------------------------------------------------------------------------------------------

pub record IsGood (f : ℕ) (faulty : ℕ → Bool) (w : World) (k : ℕ) (m : ViewChange) : Type 0 where
  pub sender : m.sender ≡ k
  pub valid : is_valid_change f m.view m ≡ true
  pub stable : m.stable ≤ (w k).now.low
  pub near : (c : Certificate) → IsIn c m.certificates → c.proposal.number ≤ m.stable + 32
  pub authentic : (c : Certificate) → IsIn c m.certificates → (t s v n : ℕ) (d : List ℕ) → Told (c.proposal ∷ c.prepares) t s v n d → WasSent faulty w t s v n d

made_good : (f : ℕ) (faulty : ℕ → Bool) (w : World) (i u : ℕ) → Heard f faulty w → LogHigh (w i) → Kept f i (w i) → (w i).now.view < u → IsGood f faulty w i (view_change_of f i (w i).now u)
made_good f faulty w i u heard high kept above =
    let s = (w i).now in
    let m = view_change_of f i s u in
    let all = candidates f i s.low s.log s.log in
    let is : (c : Certificate) → IsIn c m.certificates → IsCandidate f i s.low s.log c = λ c x. candidate_is f i s.low s.log s.log c (λ h y. y) (in_highest all all c x) in
    let test = λ (c : Certificate). nat_lt c.proposal.view u && is_backed f (c.proposal ∷ c.prepares) c.proposal.view c.proposal.number c.proposal.digest in
    let each : (c : Certificate) → IsIn c m.certificates → test c ≡ true = λ c x.
    let can = is c x in
    let h = c.proposal in
    let le : h.view ≤ s.view = kept.log_views h.tag h.sender h.view h.number h.digest (in_told s.log h can.there) in
    let backed = subst (λ (l : List Header). is_backed f (h ∷ l) h.view h.number h.digest ≡ true) (sym can.prepares) (backed_alone f i s.log h can.tag can.sender can.ready) in
    and_from (nat_lt h.view u) (is_backed f (h ∷ c.prepares) h.view h.number h.digest) (lt-ltb h.view u (omega (arith, le, above))) backed in
    record {
      sender = refl;
      stable = omega arith;
      near = λ c x. let can = is c x in let h = c.proposal in high h.tag h.sender h.view h.number h.digest (in_told s.log h can.there);
      valid = and_from (u == u) (list_all test m.certificates) (eq-eqb u u refl) (all_from test m.certificates each);
      authentic = λ c x t k v n d told_it correct.
          let can = is c x in
          let h = c.proposal in
          heard.said i t k v n d correct (elim (told_cases h c.prepares t k v n d told_it) [
            | inl a ↦ moved h t k v n d a (λ t k v n d. Told s.log t k v n d) (in_told s.log h can.there)
            | inr b ↦ matching_told s.log h t k v n d (subst (λ (l : List Header). Told l t k v n d) can.prepares b)
          ]);
    }

-- later on
pub sent_on : (f : ℕ) (faulty : ℕ → Bool) (w : World) (steps : List Step) (t k v n : ℕ) (d : List ℕ) → WasSent faulty w t k v n d → WasSent faulty (after_steps f w steps) t k v n d
sent_on f faulty w [] t k v n d x = x
sent_on f faulty w (step ∷ steps) t k v n d x = sent_on f faulty (after_step f w step) steps t k v n d (said_on faulty w (after_step f w step) (world_grows f w step) t k v n d x)

pub good_on : (f : ℕ) (faulty : ℕ → Bool) (w : World) (steps : List Step) (k : ℕ) (m : ViewChange) → AreAllowed f faulty w steps → IsGood f faulty w k m
    → IsGood f faulty (after_steps f w steps) k m
good_on f faulty w steps k m may good =
    let one = good.stable in
    let two = (run_later f faulty w steps may k).low in
    record {
      sender = good.sender;
      valid = good.valid;
      stable = omega (arith, one, two);
      near = good.near;
      authentic = λ c x t s v n d y. sent_on f faulty w steps t s v n d (good.authentic c x t s v n d y);
    }

-- After a call --------------------------------------------------------------------------------------------------------

said_changes : (f me : ℕ) (p : History) (hs : List Header) → (after_moves f me p (all_said hs)).changes ≡ p.changes
said_changes f me p [] = refl
said_changes f me p (h ∷ hs) = said_changes f me (after_move f me p (Says h)) hs

-- who has asked for a view that it has not entered has sent a VIEW-CHANGE for it
abbrev pub HasTold : History → Type 0
HasTold p = (p.now.asked ≡ p.now.view) ⊎ ((m : ViewChange) × IsIn m p.changes × (m.view ≡ p.now.asked))

told_same : (p q : History) → q.now.asked ≡ p.now.asked → q.now.view ≡ p.now.view → q.changes ≡ p.changes → HasTold p → HasTold q
told_same p q asked view changes (inl x) = inl (asked ∙ x ∙ sym view)
told_same p q asked view changes (inr x) = inr (x.0, subst (λ (l : List ViewChange). IsIn x.0 l) (sym changes) x.1, x.2 ∙ sym asked)

-- what a call leaves of VIEW-CHANGEs
pub record Tells (f : ℕ) (p q : History) (made : ViewChange) : Type 0 where
  pub told : HasTold p → HasTold q
  pub changes : (m : ViewChange) → IsIn m q.changes → IsIn m p.changes ⊎ (m ≡ made)

quiet_tells : (f me : ℕ) (p q : History) (made : ViewChange) → q.now.asked ≡ p.now.asked → q.now.view ≡ p.now.view → q.changes ≡ p.changes → Tells f p q made
quiet_tells f me p q made asked view changes = record { told = told_same p q asked view changes; changes = λ m x. inl (subst (λ (l : List ViewChange). IsIn m l) changes x) }

-- one message more, and others said
then_tells : (f me : ℕ) (p r : History) (hs : List Header) (made : ViewChange) → r.now.asked ≡ p.now.asked → r.now.view ≡ p.now.view → r.changes ≡ p.changes → Tells f p (after_moves f me r (all_said hs)) made
then_tells f me p r hs made asked view changes =
    quiet_tells f me p (after_moves f me r (all_said hs)) made (ap (λ (s : State). s.asked) (said_now f me r hs) ∙ asked) (ap (λ (s : State). s.view) (said_now f me r hs) ∙ view) (said_changes f me r hs ∙ changes)

if_tells : (f me : ℕ) (p : History) (b : Bool) (moves : List Move) (made : ViewChange) → Tells f p (after_moves f me p moves) made → Tells f p (after_moves f me p (cond b moves [])) made
if_tells f me p b moves made x = cond_both b moves [] (λ (l : List Move). Tells f p (after_moves f me p l) made) (λ _. x) (λ _. quiet_tells f me p p made refl refl refl)

abbrev pub own_change : (f me : ℕ) → History → ViewChange
own_change f me p = view_change_of f me p.now (suc (max p.now.view p.now.asked))

pub call_tells : (f : ℕ) (null : List ℕ) (me : ℕ) (p : History) (c : HeaderCall) → Tells f p (after_moves f me p (moves_of f null me p.now c)) (own_change f me p)
call_tells f null me p (Receives h) = if_tells f me p (is_acceptable f p.now h) (Accepts h ∷ all_said (answers_in f me (h ∷ p.now.log) h)) (own_change f me p)
    (then_tells f me p (after_move f me p (Accepts h)) (answers_in f me (h ∷ p.now.log) h) (own_change f me p) refl refl refl)
call_tells f null me p (Orders d) =
    let s = p.now in
    let n = next_number s in
    let h = vote 2 me s.view n d in
    let hs = cond (f == 0) (commits_in f me (h ∷ s.log) s.view n d) [] in
    if_tells f me p ((me == primary f s.view) && (is_within s s.view n && not (has_slot s.log 2 me s.view n))) (Says h ∷ all_said hs) (own_change f me p)
    (then_tells f me p (after_move f me p (Says h)) hs (own_change f me p) refl refl refl)
call_tells f null me p (Settles n) = if_tells f me p (nat_lt p.now.low n) (Drops n ∷ []) (own_change f me p) (quiet_tells f me p (after_move f me p (Drops n)) (own_change f me p) refl refl refl)
call_tells f null me p TimesOut = record { told = λ _. inr (own_change f me p, inl refl, refl); changes = λ m x. elim x [ inl same ↦ inr same | inr old ↦ inl old ] }
call_tells f null me p (ChangesView v ms) =
    let s = p.now in
    let r = chosen f v null ms in
    let hs = entry_answers f me s.low (taken_in s.low r.proposals s.log) r.proposals in
    let q = after_move f me p (Enters r) in
    if_tells f me p (nat_lt s.view v && (nat_le s.asked v && is_new_view f v ms)) (Enters r ∷ all_said hs) (own_change f me p)
    (record {
      told = λ _. inl (ap (λ (x : State). x.asked) (said_now f me q hs) ∙ sym (ap (λ (x : State). x.view) (said_now f me q hs)));
      changes = λ m x. inl (subst (λ (l : List ViewChange). IsIn m l) (said_changes f me q hs) x);
    })
call_tells f null me p (Runs h) = if_tells f me p (committed f me p.now.log h.view h.number h.digest) (Executes h ∷ []) (own_change f me p) (quiet_tells f me p (after_move f me p (Executes h)) (own_change f me p) refl refl refl)

-- a VIEW-CHANGE that is made now
pub made_now : (f : ℕ) (faulty : ℕ → Bool) (w : World) (i : ℕ) → Heard f faulty w → LogHigh (w i) → Kept f i (w i) → IsGood f faulty w i (own_change f i (w i))
made_now f faulty w i heard high kept = made_good f faulty w i (suc (max (w i).now.view (w i).now.asked)) heard high kept (omega arith)
