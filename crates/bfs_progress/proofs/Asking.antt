-- Members come to ask for one view, and so to be together in it.
use Rattle.std.proofs.Common.{◌≡◌, ℕ, zero, suc, ◌+◌, ◌-◌, ◌<◌, ◌≤◌, ◌==◌, max, Bool, true, false, not, List, ◌∷◌, ◌++◌, refl, sym, ap, subst, ◌∙◌, append_assoc, arith}
use Rattle.std.proofs.lemmas.Bool.{and_parts, cond_both}
use Rattle.bfs_votes.specs.Votes.{replicas, primary}
use Rattle.bfs_agreement.specs.Histories.{History, World, ViewChange}
use Rattle.bfs_agreement.specs.Moves.{new_world}
use Rattle.bfs_agreement.specs.Calls.{TimesOut, ChangesView, HeaderTurn, after_header_turn, after_header_turns, AreAuthentic}
use Rattle.bfs_progress.specs.Premises.{AreOffered, IsARun, reached}
use Rattle.bfs_progress.specs.Members.{IsQuorum, AreTogether, HaveAsked, MayMeet}
use Rattle.bfs_progress.specs.Exchanges.{backups_of, timeouts, all_time_out, all_enter, entrance}
use Rattle.bfs_progress.specs.Ways.{AreTurnsOf}
use Rattle.bfs_progress.specs.Laws.{NoStateIsADeadEnd}
use Rattle.bfs_progress.proofs.Numbers.{each_below, differs}
use Rattle.bfs_progress.proofs.Turns.{at_caller, others_stay, after_join, authentic_join, offered_join, turns_of_join}
use Rattle.bfs_progress.proofs.Reached.{Facts, always}
use Rattle.bfs_progress.proofs.Entrance.{enters_together}

-- turns of members, in which nothing comes but what was sent
pub record IsFurther (f : ℕ) (null : List ℕ) (faulty members : ℕ → Bool) (w : World) (turns : List HeaderTurn) : Type 0 where
  pub of_members : AreTurnsOf members turns
  pub authentic : AreAuthentic f null faulty w turns
  pub offered : AreOffered f null faulty w turns

-- asked for a view, unless for a later one
abbrev pub HasAsked : (p q : History) (view : ℕ) → Type 0
HasAsked p q view = (q.now.asked ≡ max p.now.asked view) × (q.now.view ≡ p.now.view)

module _ (f : ℕ) (null : List ℕ) (faulty members : ℕ → Bool) where
  further_join : (w : World) (xs ys : List HeaderTurn) → IsFurther f null faulty members w xs → IsFurther f null faulty members (after_header_turns f null w xs) ys
      → IsFurther f null faulty members w (xs ++ ys)
  further_join w xs ys a b =
      record {
        of_members = turns_of_join members xs ys a.of_members b.of_members;
        authentic = authentic_join f null faulty w xs ys a.authentic b.authentic;
        offered = offered_join f null faulty w xs ys a.offered b.offered;
      }

  -- One ---------------------------------------------------------------------------------------------------------------

  abbrev timeout : ℕ → HeaderTurn
  timeout j = record { who = j; call = TimesOut }

  pub record Asked (w new : World) (j count : ℕ) : Type 0 where
    pub asked : (new j).now.asked ≡ (w j).now.asked + count
    pub view : (new j).now.view ≡ (w j).now.view
    pub others : (k : ℕ) → (k == j) ≡ false → new k ≡ w k

  asks : (w : World) (j count : ℕ) → (w j).now.view ≤ (w j).now.asked → Asked w (after_header_turns f null w (timeouts j count)) j count
  asks w j zero le = record { asked = omega arith; view = refl; others = λ k x. refl }
  asks w j (suc count) le =
      let w1 = after_header_turn f null w (timeout j) in
      let asked1 : (w1 j).now.asked ≡ suc (max (w j).now.view (w j).now.asked) = at_caller f null (λ (p : History). p.now.asked ≡ suc (max (w j).now.view (w j).now.asked)) w (timeout j) refl in
      let view1 : (w1 j).now.view ≡ (w j).now.view = at_caller f null (λ (p : History). p.now.view ≡ (w j).now.view) w (timeout j) refl in
      let rest = asks w1 j count (omega (arith, le, asked1, view1)) in
      let on = rest.asked in
      record { asked = omega (arith, on, asked1, le); view = rest.view ∙ view1; others = λ k x. rest.others k x ∙ others_stay f null w (timeout j) k x }

  asks_further : (w : World) (j count : ℕ) → members j ≡ true → IsFurther f null faulty members w (timeouts j count)
  asks_further w j zero x = record { of_members = tt; authentic = tt; offered = tt }
  asks_further w j (suc count) x =
      let rest = asks_further (after_header_turn f null w (timeout j)) j count x in
      record { of_members = (x, rest.of_members); authentic = (tt, rest.authentic); offered = (tt, rest.offered) }

  -- Each --------------------------------------------------------------------------------------------------------------

  -- from a world that has, for those below the bound, the histories of the one by which it is counted
  pub record AllAsked (w new : World) (views : ℕ → ℕ) (bound : ℕ) (turns : List HeaderTurn) (from : World) : Type 0 where
    pub asked : (k : ℕ) → k < bound → members k ≡ true → HasAsked (from k) (new k) (views k)
    pub others : (k : ℕ) → bound ≤ k → new k ≡ w k
    pub further : IsFurther f null faulty members w turns

  pub all_asked : (from w : World) (views : ℕ → ℕ) (bound : ℕ) → ((k : ℕ) → k < bound → w k ≡ from k) → ((k : ℕ) → members k ≡ true → (from k).now.view ≤ (from k).now.asked)
      → AllAsked w (after_header_turns f null w (all_time_out members from views bound)) views bound (all_time_out members from views bound) from
  all_asked from w views zero same marks =
      record { asked = λ k low. absurd (omega (arith, low)); others = λ k x. refl; further = record { of_members = tt; authentic = tt; offered = tt } }
  all_asked from w views (suc b) same marks =
      let count = views b - (from b).now.asked in
      let first = timeouts b count in
      let rest = all_time_out members from views b in
      cond_both (members b) (first ++ rest) rest (λ (l : List HeaderTurn). AllAsked w (after_header_turns f null w l) views (suc b) l from)
      (λ in_b.
      let at_b : w b ≡ from b = same b (omega arith) in
      let got = asks w b count (subst (λ (p : History). p.now.view ≤ p.now.asked) (sym at_b) (marks b in_b)) in
      let w1 = after_header_turns f null w first in
      let more = all_asked from w1 views b (λ k low. got.others k (differs k b (λ e. omega (arith, low, e))) ∙ same k (omega (arith, low))) marks in
      let counted = got.asked in
      let was : (w b).now.asked ≡ (from b).now.asked = ap (λ (p : History). p.now.asked) at_b in
      let asked_b : HasAsked (from b) (w1 b) (views b) = (omega (arith, counted, was), got.view ∙ ap (λ (p : History). p.now.view) at_b) in
      subst (λ (x : World). AllAsked w x views (suc b) (first ++ rest) from) (sym (after_join f null w first rest))
      (record {
        asked = each_below b (λ k. members k ≡ true → HasAsked (from k) (after_header_turns f null w1 rest k) (views k))
            (λ _. subst (λ (p : History). HasAsked (from b) p (views b)) (sym (more.others b (omega arith))) asked_b) more.asked;
        others = λ k high. more.others k (omega (arith, high)) ∙ got.others k (differs k b (λ e. omega (arith, high, e)));
        further = further_join w first rest (asks_further w b count in_b) more.further;
      }))
      (λ out.
      let more = all_asked from w views b (λ k low. same k (omega (arith, low))) marks in
      record {
        asked = each_below b (λ k. members k ≡ true → HasAsked (from k) (after_header_turns f null w rest k) (views k)) (λ in_b. absurd cc) more.asked;
        others = λ k high. more.others k (omega (arith, high));
        further = more.further;
      })

  pub enters_by : (some : ℕ → Bool) (view : ℕ) (ms : List ViewChange) (bound : ℕ) → ((k : ℕ) → some k ≡ true → members k ≡ true) → AreTurnsOf members (all_enter some view ms bound)
  enters_by some view ms zero among = tt
  enters_by some view ms (suc b) among =
      cond_both (some b) (record { who = b; call = ChangesView view ms } ∷ all_enter some view ms b) (all_enter some view ms b) (λ (l : List HeaderTurn). AreTurnsOf members l)
      (λ x. (among b x, enters_by some view ms b among))
      (λ _. enters_by some view ms b among)

-- each has asked for its view then
pub record Timed (f : ℕ) (null : List ℕ) (faulty members : ℕ → Bool) (w new : World) (views : ℕ → ℕ) (turns : List HeaderTurn) : Type 0 where
  pub asked : (k : ℕ) → members k ≡ true → HasAsked (w k) (new k) (views k)
  pub further : IsFurther f null faulty members w turns

pub all_timed : (f : ℕ) (null : List ℕ) (faulty members : ℕ → Bool) (w : World) (views : ℕ → ℕ) (view : ℕ) → Facts f faulty w → IsQuorum f faulty members view
    → Timed f null faulty members w (after_header_turns f null w (all_time_out members w views (replicas f))) views (all_time_out members w views (replicas f))
all_timed f null faulty members w views view facts quorum =
    let got = all_asked f null faulty members w w views (replicas f) (λ k low. refl) (λ k x. (facts.sound.kept k (quorum.correct k x)).asked) in
    record { asked = λ k x. got.asked k (quorum.among k x) x; further = got.further }

-- who may meet asks for the view
pub meets : (f : ℕ) (null : List ℕ) (faulty members : ℕ → Bool) (w : World) (view : ℕ) → Facts f faulty w → MayMeet f faulty members w view
    → HaveAsked f faulty members (after_header_turns f null w (all_time_out members w (λ _. view) (replicas f))) view
meets f null faulty members w view facts may =
    let got = all_timed f null faulty members w (λ _. view) view facts may.quorum in
    record {
      quorum = may.quorum;
      asked = λ k x. let e = (got.asked k x).0 in let le = may.asked k x in omega (arith, e, le);
      before = λ k x. subst (λ (y : ℕ). y < view) (sym (got.asked k x).1) (may.before k x);
    }

pub run_on : (f : ℕ) (null : List ℕ) (faulty members : ℕ → Bool) (turns further : List HeaderTurn) → IsARun f null faulty turns → IsFurther f null faulty members (reached f null turns) further
    → IsARun f null faulty (turns ++ further)
run_on f null faulty members turns further run more =
    record {
      others = run.others;
      few = run.few;
      authentic = authentic_join f null faulty new_world turns further run.authentic more.authentic;
      offered = offered_join f null faulty new_world turns further run.offered more.offered;
    }

pub no_state_is_a_dead_end : NoStateIsADeadEnd
no_state_is_a_dead_end f null faulty members turns v run may =
    let w = reached f null turns in
    let asking = all_time_out members w (λ _. v) (replicas f) in
    let facts = always f null faulty turns run in
    let timed = all_timed f null faulty members w (λ _. v) v facts may.quorum in
    let all = turns ++ asking in
    let run1 = run_on f null faulty members turns asking run timed.further in
    let asked : HaveAsked f faulty members (reached f null all) v = subst (λ (x : World). HaveAsked f faulty members x v) (sym (after_join f null new_world turns asking)) (meets f null faulty members w v facts may) in
    let enters = enters_together f null faulty members all v run1 asked in
    let changes = enters.0.0 in
    let done = enters.1 changes enters.0.2 in
    let entering = entrance f members v changes in
    let backups = backups_of f members v in
    let more : IsFurther f null faulty members (reached f null all) entering = record {
      of_members = (may.quorum.leads, enters_by f null faulty members backups v changes (replicas f) (λ k x. (and_parts (members k) (not (k == primary f v)) x).0));
      authentic = done.0;
      offered = done.1;
    } in
    let joins : all ++ entering ≡ turns ++ (asking ++ entering) = append_assoc turns asking entering in (
      asking ++ entering,
      turns_of_join members asking entering timed.further.of_members more.of_members,
      subst (λ (l : List HeaderTurn). IsARun f null faulty l) joins (run_on f null faulty members all entering run1 more),
      subst (λ (l : List HeaderTurn). AreTogether f faulty members (reached f null l) v) joins
          (subst (λ (x : World). AreTogether f faulty members x v) (sym (after_join f null new_world all entering)) done.2),
    )
