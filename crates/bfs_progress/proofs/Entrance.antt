-- Members that have asked for one view enter it together.
use Rattle.std.proofs.Common.{◌≡◌, ℕ, zero, suc, ◌+◌, ◌*◌, ◌<◌, ◌≤◌, ◌==◌, Bool, true, false, ◌&&◌, not, nat_lt, nat_le, List, [], ◌∷◌, ◌++◌, ◌⊎◌, inl, inr, refl, sym, ap, subst, ◌∙◌, arith}
use Rattle.std.specs.List.{list_any, list_all}
use Rattle.std.proofs.lemmas.Bool.{and_parts, and_from, or_left, or_right, cond_both, eqb-true, eqb-false, eq-eqb, lt-ltb, le-leb, cases_Bool, not-true, not_from_false}
use Rattle.std.proofs.lemmas.List.Folds.{list_any-append}
use Rattle.bfs_votes.specs.Votes.{Header, says, told, Told, count_below, replicas, primary}
use Rattle.bfs_votes.proofs.Public.{more}
use Rattle.bfs_agreement.specs.Histories.{IsIn, ViewChange, NewView, State, History, World, WasSent, FewAreFaulty}
use Rattle.bfs_agreement.specs.Moves.{Move, Says, Enters, after_move, Step, after_step, after_steps, taken_in}
use Rattle.bfs_agreement.specs.Nodes.{after_moves}
use Rattle.bfs_agreement.specs.Choice.{chosen}
use Rattle.bfs_agreement.specs.Calls.{all_said, is_valid_change, is_new_view, entry_answers, entering, ChangesView, moves_of, HeaderTurn, steps_of, after_header_turn, after_header_turns, AreAuthentic}
use Rattle.bfs_agreement.proofs.Public.{joined_more, handed_taken, taken_told, choice_is_by_its_rule, world_grows}
use Rattle.bfs_progress.specs.Premises.{AreOffered, IsOffered, reached}
use Rattle.bfs_progress.specs.Members.{IsQuorum, AreTogether, HaveAsked, AreChangesOf, MakeNewView}
use Rattle.bfs_progress.specs.Exchanges.{backups_of, all_enter, entrance}
use Rattle.bfs_progress.specs.Laws.{EntersTogether}
use Rattle.bfs_progress.proofs.Numbers.{each_below, differs}
use Rattle.bfs_progress.proofs.Turns.{at_caller, others_stay}
use Rattle.bfs_progress.proofs.Answered.{said_now, entry_proposal}
use Rattle.bfs_progress.proofs.Changes.{all_from, sent_on}
use Rattle.bfs_progress.proofs.Reached.{Facts, turn_done, always}

-- One enters ----------------------------------------------------------------------------------------------------------

said_offers : (f me : ℕ) (p : History) (hs : List Header) → (after_moves f me p (all_said hs)).offers ≡ p.offers
said_offers f me p [] = refl
said_offers f me p (h ∷ hs) = said_offers f me (after_move f me p (Says h)) hs

pub record Entered (f : ℕ) (me : ℕ) (p q : History) (r : NewView) : Type 0 where
  pub view : q.now.view ≡ r.view
  pub asked : q.now.asked ≡ r.view
  pub low : q.now.low ≡ p.now.low
  pub min_s : q.now.min_s ≡ r.min_s
  pub handed : q.now.handed ≡ r.top
  pub has : (k v n : ℕ) (d : List ℕ) → p.now.low < n → n ≤ p.now.low + 32 → Told r.proposals 2 k v n d → Told q.now.log 2 k v n d
  pub from : (k v n : ℕ) (d : List ℕ) → Told q.now.log 2 k v n d → Told r.proposals 2 k v n d ⊎ Told p.now.log 2 k v n d
  pub offers : me ≡ primary f r.view → (k v n : ℕ) (d : List ℕ) → Told r.proposals 2 k v n d → Told q.offers 2 k v n d

pub enter_one : (f : ℕ) (null : List ℕ) (me : ℕ) (p : History) (v : ℕ) (ms : List ViewChange) → p.now.view < v → p.now.asked ≡ v → is_new_view f v ms ≡ true
    → Entered f me p (after_moves f me p (entering f null me p.now v ms)) (chosen f v null ms)
enter_one f null me p v ms above asked new =
    let s = p.now in
    let r = chosen f v null ms in
    let held = taken_in s.low r.proposals s.log in
    let hs = entry_answers f me s.low held r.proposals in
    let q = after_move f me p (Enters r) in
    let now = said_now f me q hs in
    let may = and_from (nat_lt s.view v) (nat_le s.asked v && is_new_view f v ms) (lt-ltb s.view v above) (and_from (nat_le s.asked v) (is_new_view f v ms) (le-leb s.asked v (omega (arith, asked))) new) in
    cond_both (nat_lt s.view v && (nat_le s.asked v && is_new_view f v ms)) (Enters r ∷ all_said hs) [] (λ (l : List Move). Entered f me p (after_moves f me p l) r)
    (λ _. record {
      view = ap (λ (x : State). x.view) now;
      asked = ap (λ (x : State). x.asked) now;
      low = ap (λ (x : State). x.low) now;
      min_s = ap (λ (x : State). x.min_s) now;
      handed = ap (λ (x : State). x.handed) now;
      has = λ k u n d lt le x. subst (λ (y : State). Told y.log 2 k u n d) (sym now) (joined_more hs held 2 k u n d (handed_taken s.low r.proposals s.log 2 k u n d lt le x));
      from = λ k u n d x. taken_told s.low r.proposals s.log 2 k u n d (entry_proposal f me s.low held r.proposals k u n d (subst (λ (y : State). Told y.log 2 k u n d) now x));
      offers = λ leads k u n d x. subst (λ (l : List Header). Told l 2 k u n d) (sym (said_offers f me q hs))
          (cond_both (me == primary f v) (r.proposals ++ p.offers) p.offers (λ (l : List Header). Told l 2 k u n d)
          (λ _. list_any-append (says 2 k u n d) r.proposals p.offers ∙ or_left (told r.proposals 2 k u n d) (told p.offers 2 k u n d) x)
          (λ backs. absurd (eqb-false me (primary f v) backs leads)));
    })
    (λ refused. absurd cc)

-- VIEW-CHANGEs --------------------------------------------------------------------------------------------------------

changes_on : (f : ℕ) (w : World) (steps : List Step) (k : ℕ) (m : ViewChange) → IsIn m (w k).changes → IsIn m (after_steps f w steps k).changes
changes_on f w [] k m x = x
changes_on f w (step ∷ steps) k m x = changes_on f (after_step f w step) steps k m ((world_grows f w step k).changes m x)

module _ (f : ℕ) (null : List ℕ) (faulty members : ℕ → Bool) (v : ℕ) (positive : 0 < f) (few : FewAreFaulty f faulty) (quorum : IsQuorum f faulty members v) where
  abbrev Waits : World → ℕ → Type 0
  Waits w k = ((w k).now.asked ≡ v) × ((w k).now.view < v)

  record Gathered (w : World) (bound : ℕ) (ms : List ViewChange) : Type 0 where
    of_members : (m : ViewChange) → IsIn m ms → members m.sender ≡ true
    sent : (m : ViewChange) → IsIn m ms → IsIn m (w m.sender).changes
    views : (m : ViewChange) → IsIn m ms → m.view ≡ v
    each : (k : ℕ) → k < bound → members k ≡ true → list_any (λ m. m.sender == k) ms ≡ true

  gather : (w : World) (bound : ℕ) → Facts f faulty w → ((k : ℕ) → members k ≡ true → Waits w k) → (ms : List ViewChange) × Gathered w bound ms
  gather w zero facts waits = ([], record { of_members = λ m x. absurd x; sent = λ m x. absurd x; views = λ m x. absurd x; each = λ k low. absurd (omega (arith, low)) })
  gather w (suc b) facts waits =
      let got = gather w b facts waits in
      let ms = got.0 in
      let old = got.1 in
      elim (cases_Bool (members b)) [
        | inl in_b ↦ elim (facts.told b (quorum.correct b in_b)) [
          | inl none ↦ let here = (waits b in_b).0 in let above = (waits b in_b).1 in absurd (omega (arith, none, here, above))
          | inr told_it ↦
              let m = told_it.0 in
              let is_b : m.sender ≡ b = (facts.good b m (quorum.correct b in_b) told_it.1).sender in (
                m ∷ ms,
                record {
                  of_members = λ x i. elim i [ inl same ↦ subst (λ (y : ViewChange). members y.sender ≡ true) (sym same) (subst (λ (y : ℕ). members y ≡ true) (sym is_b) in_b) | inr later ↦ old.of_members x later ];
                  sent = λ x i. elim i [ inl same ↦ subst (λ (y : ViewChange). IsIn y (w y.sender).changes) (sym same) (subst (λ (y : ℕ). IsIn m (w y).changes) (sym is_b) told_it.1) | inr later ↦ old.sent x later ];
                  views = λ x i. elim i [ inl same ↦ subst (λ (y : ViewChange). y.view ≡ v) (sym same) (told_it.2 ∙ (waits b in_b).0) | inr later ↦ old.views x later ];
                  each = each_below b (λ k. members k ≡ true → list_any (λ x. x.sender == k) (m ∷ ms) ≡ true) (λ _. or_left (m.sender == b) (list_any (λ x. x.sender == b) ms) (eq-eqb m.sender b is_b))
                      (λ k low in_k. or_right (m.sender == k) (list_any (λ x. x.sender == k) ms) (old.each k low in_k));
                },
              )
        ]
        | inr out ↦ (
          ms,
          record {
            of_members = old.of_members;
            sent = old.sent;
            views = old.views;
            each = each_below b (λ k. members k ≡ true → list_any (λ x. x.sender == k) ms ≡ true) (λ in_b. absurd cc) old.each;
          },
        )
      ]

  -- they make a NEW-VIEW
  pub they_make : (w : World) (ms : List ViewChange) → Facts f faulty w → AreChangesOf members w v ms → MakeNewView f faulty w v ms
  they_make w ms facts theirs =
      let senders = λ (k : ℕ). list_any (λ m. m.sender == k) ms in
      let enough = quorum.enough in
      let grown : count_below members (replicas f) ≤ count_below senders (replicas f) = more members senders (replicas f) theirs.each in
      let good = λ (m : ViewChange) (x : IsIn m ms). facts.good m.sender m (quorum.correct m.sender (theirs.of_members m x)) (theirs.sent m x) in
      record {
        valid = and_from (list_all (is_valid_change f v) ms) (nat_le (2 * f + 1) (count_below senders (replicas f)))
            (all_from (is_valid_change f v) ms (λ m x. subst (λ (u : ℕ). is_valid_change f u m ≡ true) (theirs.views m x) (good m x).valid))
            (le-leb (2 * f + 1) (count_below senders (replicas f)) (omega (arith, enough, grown)));
        authentic = λ m x. ((λ _. theirs.sent m x), (good m x).authentic);
      }

  makes_on : (w : World) (turn : HeaderTurn) (ms : List ViewChange) → MakeNewView f faulty w v ms → MakeNewView f faulty (after_header_turn f null w turn) v ms
  makes_on w turn ms make =
      let steps = steps_of turn.who (moves_of f null turn.who (w turn.who).now turn.call) in
      record {
        valid = make.valid;
        authentic = λ m x. (
          (λ correct. changes_on f w steps m.sender m ((make.authentic m x).0 correct)),
          λ c y t s u n d z. sent_on f faulty w steps t s u n d ((make.authentic m x).1 c y t s u n d z),
        );
      }

  -- Each enters -------------------------------------------------------------------------------------------------------

  module _ (ms : List ViewChange) where
    abbrev r : NewView
    r = chosen f v null ms

    abbrev entry : ℕ → HeaderTurn
    entry k = record { who = k; call = ChangesView v ms }

    abbrev IsOfferedIn : World → Type 0
    IsOfferedIn w = (k u n : ℕ) (d : List ℕ) → Told r.proposals 2 k u n d → WasSent faulty w 2 k u n d

    -- a turn that enters
    in_then : (w : World) (j : ℕ) → MakeNewView f faulty w v ms → Waits w j → Entered f j (w j) (after_header_turn f null w (entry j) j) r
    in_then w j make waits =
        at_caller f null (λ (q : History). Entered f j (w j) q r) w (entry j) (enter_one f null j (w j) v ms waits.1 waits.0 make.valid)

    pub record Done (w : World) (turns : List HeaderTurn) (some : ℕ → Bool) (bound : ℕ) : Type 0 where
      pub authentic : AreAuthentic f null faulty w turns
      pub offered : AreOffered f null faulty w turns
      pub entered : (k : ℕ) → k < bound → some k ≡ true → Entered f k (w k) (after_header_turns f null w turns k) r
      pub stay : (k : ℕ) → (some k ≡ false) ⊎ (bound ≤ k) → after_header_turns f null w turns k ≡ w k

    each_done : (w : World) (some : ℕ → Bool) (bound : ℕ) → Facts f faulty w → MakeNewView f faulty w v ms → IsOfferedIn w → ((k : ℕ) → k < bound → some k ≡ true → Waits w k)
        → Done w (all_enter some v ms bound) some bound
    each_done w some zero facts make offered waits = record { authentic = tt; offered = tt; entered = λ k low. absurd (omega (arith, low)); stay = λ k x. refl }
    each_done w some (suc b) facts make offered waits =
        let turns = all_enter some v ms b in
        cond_both (some b) (entry b ∷ turns) turns (λ (l : List HeaderTurn). Done w l some (suc b))
        (λ enters.
        let w1 = after_header_turn f null w (entry b) in
        let steps = steps_of b (moves_of f null b (w b).now (ChangesView v ms)) in
        let same : (k : ℕ) → (k ≡ b → ⊥) → w1 k ≡ w k = λ k other. others_stay f null w (entry b) k (differs k b other) in
        let rest = each_done w1 some b (turn_done f null faulty w (entry b) positive few facts make.authentic (λ _. offered)) (makes_on w (entry b) ms make)
        (λ k u n d x. sent_on f faulty w steps 2 k u n d (offered k u n d x))
        (λ k low x. subst (λ (y : History). (y.now.asked ≡ v) × (y.now.view < v)) (sym (same k (λ e. omega (arith, low, e)))) (waits k (omega (arith, low)) x)) in
        record {
          authentic = (make.authentic, rest.authentic);
          offered = ((λ _. offered), rest.offered);
          entered = each_below b (λ k. some k ≡ true → Entered f k (w k) (after_header_turns f null w1 turns k) r)
              (λ _. subst (λ (y : History). Entered f b (w b) y r) (sym (rest.stay b (inr (omega arith)))) (in_then w b make (waits b (omega arith) enters)))
              (λ k low x. subst (λ (y : History). Entered f k y (after_header_turns f null w1 turns k) r) (same k (λ e. omega (arith, low, e))) (rest.entered k low x));
          stay = λ k x. elim x [
            | inl out ↦ rest.stay k (inl out) ∙ same k (λ e. let here : some b ≡ false = subst (λ (y : ℕ). some y ≡ false) e out in absurd cc)
            | inr high ↦ rest.stay k (inr (omega (arith, high))) ∙ same k (λ e. omega (arith, high, e))
          ];
        })
        (λ passes.
        let rest = each_done w some b facts make offered (λ k low x. waits k (omega (arith, low)) x) in
        record {
          authentic = rest.authentic;
          offered = rest.offered;
          entered = each_below b (λ k. some k ≡ true → Entered f k (w k) (after_header_turns f null w turns k) r) (λ enters. absurd cc) rest.entered;
          stay = λ k x. elim x [ inl out ↦ rest.stay k (inl out) | inr high ↦ rest.stay k (inr (omega (arith, high))) ];
        })

-- The primary begins the view, and the others enter it ----------------------------------------------------------------

pub record Entrance (f : ℕ) (null : List ℕ) (faulty members : ℕ → Bool) (w : World) (v : ℕ) (ms : List ViewChange) : Type 0 where
  pub authentic : AreAuthentic f null faulty w (entrance f members v ms)
  pub offered : AreOffered f null faulty w (entrance f members v ms)
  pub entered : (k : ℕ) → members k ≡ true → Entered f k (w k) (after_header_turns f null w (entrance f members v ms) k) (chosen f v null ms)

pub entrance_done : (f : ℕ) (null : List ℕ) (faulty members : ℕ → Bool) (w : World) (v : ℕ) (ms : List ViewChange) → 0 < f → FewAreFaulty f faulty → Facts f faulty w
    → HaveAsked f faulty members w v → MakeNewView f faulty w v ms → Entrance f null faulty members w v ms
entrance_done f null faulty members w v ms positive few facts asked make =
    let p = primary f v in
    let r = chosen f v null ms in
    let quorum = asked.quorum in
    let turn : HeaderTurn = record { who = p; call = ChangesView v ms } in
    let w1 = after_header_turn f null w turn in
    let leads_offered : IsOffered f null faulty w p (ChangesView v ms) = λ backs. absurd (eqb-false p p backs refl) in
    let facts1 = turn_done f null faulty w turn positive few facts make.authentic leads_offered in
    let first = in_then f null faulty members v positive few quorum ms w p make (asked.asked p quorum.leads, asked.before p quorum.leads) in
    let choice = choice_is_by_its_rule f v null ms in
    let in_offers : (k u n : ℕ) (d : List ℕ) → Told (chosen f v null ms).proposals 2 k u n d → WasSent faulty w1 2 k u n d = λ k u n d x _.
    inr (refl, subst (λ (y : ℕ). Told (w1 y).offers 2 k u n d) (sym (choice.kinds 2 k u n d x).1) (first.offers refl k u n d x)) in
    let backups = backups_of f members v in
    let rest = each_done f null faulty members v positive few quorum ms w1 backups (replicas f) facts1 (makes_on f null faulty members v positive few quorum w turn ms make) in_offers
    (λ k low x.
    let c = and_parts (members k) (not (k == p)) x in
    subst (λ (y : History). (y.now.asked ≡ v) × (y.now.view < v)) (sym (others_stay f null w turn k (not-true (k == p) c.1))) (asked.asked k c.0, asked.before k c.0)) in
    let last = after_header_turns f null w1 (all_enter backups v ms (replicas f)) in
    record {
      authentic = (make.authentic, rest.authentic);
      offered = (leads_offered, rest.offered);
      entered = λ k x. elim (cases_Bool (k == p)) [
        | inl same ↦ subst (λ (y : ℕ). Entered f y (w y) (last y) r) (sym (eqb-true k p same)) (subst (λ (y : History). Entered f p (w p) y r) (sym (rest.stay p (inl (not_backup members p)))) first)
        | inr other ↦ subst (λ (y : History). Entered f k y (last k) r) (others_stay f null w turn k other)
            (rest.entered k (quorum.among k x) (and_from (members k) (not (k == p)) x (not_from_false (k == p) other)))
      ];
    }
  where
    not_backup : (members : ℕ → Bool) (p : ℕ) → (members p && not (p == p)) ≡ false
    not_backup members p = elim (cases_Bool (members p && not (p == p))) [
      | inl x ↦ absurd (eqb-false p p (not-true (p == p) (and_parts (members p) (not (p == p)) x).1) refl)
      | inr x ↦ x
    ]

-- VIEW-CHANGEs of each of them
pub changes_there : (f : ℕ) (null : List ℕ) (faulty members : ℕ → Bool) (w : World) (v : ℕ) → 0 < f → FewAreFaulty f faulty → Facts f faulty w → HaveAsked f faulty members w v
    → (ms : List ViewChange) × AreChangesOf members w v ms × MakeNewView f faulty w v ms
changes_there f null faulty members w v positive few facts asked =
    let got = gather f null faulty members v positive few asked.quorum w (replicas f) facts (λ k x. (asked.asked k x, asked.before k x)) in
    let theirs : AreChangesOf members w v got.0 = record { of_members = got.1.of_members; sent = got.1.sent; views = got.1.views; each = λ k x. got.1.each k (asked.quorum.among k x) x } in
    (got.0, theirs, they_make f null faulty members v positive few asked.quorum w got.0 facts theirs)

pub together_then : (f : ℕ) (null : List ℕ) (faulty members : ℕ → Bool) (w : World) (v : ℕ) (ms : List ViewChange) → HaveAsked f faulty members w v → Entrance f null faulty members w v ms
    → AreTogether f faulty members (after_header_turns f null w (entrance f members v ms)) v
together_then f null faulty members w v ms asked done =
    record { quorum = asked.quorum; entered = λ k x. (done.entered k x).view; asked = λ k x. (done.entered k x).asked }

pub enters_together : EntersTogether
enters_together f null faulty members turns v run asked =
    let w = reached f null turns in
    let facts = always f null faulty turns run in (
      changes_there f null faulty members w v run.others run.few facts asked,
      λ ms make.
          let done = entrance_done f null faulty members w v ms run.others run.few facts asked make in
          (done.authentic, done.offered, together_then f null faulty members w v ms asked done),
    )
