-- What holds in a view: each has answered, and where nothing is unheard what was proposed is committed.
use Rattle.std.proofs.Common.{◌≡◌, ℕ, ◌+◌, ◌*◌, ◌<◌, Bool, true, false, ◌&&◌, List, sym, ap, subst, ◌∙◌, arith}
use Rattle.std.proofs.lemmas.Bool.{and_parts, and_from, leb-true, le-leb}
use Rattle.std.specs.Prelude.{nat_le}
use Rattle.bfs_votes.specs.Votes.{has_slot, told, Told, replicas, primary, prepared, committed, tellers}
use Rattle.bfs_votes.proofs.Public.{more}
use Rattle.bfs_agreement.specs.Histories.{World}
use Rattle.bfs_agreement.proofs.Public.{prepared_more}
use Rattle.bfs_order.specs.Laws.Logs.{IsInWindow, IsWindowed}
use Rattle.bfs_order.specs.Replica.States.{State, known}
use Rattle.bfs_progress.specs.Members as theory
use Rattle.bfs_progress.proofs.Public.{all_heard, own_digest, prepared_is, slot_told}
use Rattle.bfs_nodes_agree.specs.Orders.Replicas.{OrderReplicas}
use Rattle.bfs_nodes_agree.specs.Nodes.Replicas.{NodeReplicas}
use Rattle.bfs_nodes_agree.proofs.Public.{at_in, told_in}
use Rattle.bfs_nodes_progress.specs.Inside.Below.{Below}
use Rattle.bfs_nodes_progress.specs.Laws.{AnswersAreSaid, QuietIsCommitted}
use Rattle.bfs_nodes_progress.specs.Members.{AreTogether, HasAnswered, HasRoom, is_committed}
use Rattle.bfs_nodes_progress.specs.Runs.{order_of, reached}
use Rattle.bfs_nodes_progress.proofs.Speaking.{Speaking}
use Rattle.bfs_nodes_progress.proofs.Reached.{Facts, always, responds, told_here, told_world}

-- Nodes and the world that follows them -----------------------------------------------------------------------------------

module _ (f : ℕ) (faulty : ℕ → Bool) (w : NodeReplicas) (v : OrderReplicas) (t : World) (facts : Facts f faulty w v t) where
  order_is : (k : ℕ) → (v k).state ≡ order_of w k
  order_is k = (facts.right k).tracks.state

  pub same_f : (k : ℕ) → (order_of w k).f ≡ f
  same_f k = (facts.right k).same_f

  pub same_me : (k : ℕ) → (order_of w k).me ≡ k
  same_me k = (facts.right k).me

  pub view_there : (k : ℕ) → (t k).now.view ≡ (order_of w k).view
  view_there k = (facts.followed k).follows.state.view ∙ ap (λ (s : State). s.view) (order_is k)

  pub asked_there : (k : ℕ) → (t k).now.asked ≡ (order_of w k).asked
  asked_there k = (facts.followed k).follows.state.asked ∙ ap (λ (s : State). s.asked) (order_is k)

  pub low_there : (k : ℕ) → (t k).now.low ≡ (order_of w k).low
  low_there k = (facts.followed k).follows.state.low ∙ ap (λ (s : State). s.low) (order_is k)

  pub min_s_there : (k : ℕ) → (t k).now.min_s ≡ (order_of w k).min_s
  min_s_there k = (facts.followed k).follows.state.min_s ∙ ap (λ (s : State). s.min_s) (order_is k)

  pub together_there : (members : ℕ → Bool) (view : ℕ) → AreTogether f faulty members w view → theory.AreTogether f faulty members t view
  together_there members view together = record {
    quorum = together.quorum;
    entered = λ k x. view_there k ∙ together.entered k x;
    asked = λ k x. asked_there k ∙ together.asked k x;
  }

  pub room_there : (members : ℕ → Bool) (n : ℕ) → HasRoom members w n → theory.HasRoom members t n
  room_there members n room = record {
    low = λ k x. let a = room.low k x in let b = low_there k in omega (arith, a, b);
    min_s = λ k x. let a = room.min_s k x in let b = min_s_there k in omega (arith, a, b);
    high = λ k x. let a = room.high k x in let b = low_there k in omega (arith, a, b);
  }

  -- what is committed there is committed at the node
  pub committed_here : (k u n : ℕ) (d : List ℕ) → committed f k (t k).now.log u n d ≡ true → is_committed (order_of w k) u n d ≡ true
  committed_here k u n d e =
      let there = (t k).now.log in
      let here = known (order_of w k) in
      let a = and_parts (prepared f k there u n d) (nat_le (2 * f + 1) (tellers f there 4 u n d) && told there 4 k u n d) e in
      let b = and_parts (nat_le (2 * f + 1) (tellers f there 4 u n d)) (told there 4 k u n d) a.1 in
      let enough = leb-true (2 * f + 1) (tellers f there 4 u n d) b.0 in
      let most = more (λ j. told there 4 j u n d) (λ j. told here 4 j u n d) (replicas f) (λ j x. told_here f faulty w v t facts k 4 j u n d (omega arith) x) in
      let all : committed f k here u n d ≡ true = and_from (prepared f k here u n d) (nat_le (2 * f + 1) (tellers f here 4 u n d) && told here 4 k u n d)
      (prepared_more f k there here u n d (λ x j small y. told_here f faulty w v t facts k x j u n d small y) a.0)
      (and_from (nat_le (2 * f + 1) (tellers f here 4 u n d)) (told here 4 k u n d) (le-leb (2 * f + 1) (tellers f here 4 u n d) (omega (arith, enough, most)))
      (told_here f faulty w v t facts k 4 k u n d (omega arith) b.1)) in
      subst (λ (g : ℕ). committed g (order_of w k).me here u n d ≡ true) (sym (same_f k)) (subst (λ (j : ℕ). committed f j here u n d ≡ true) (sym (same_me k)) all)

  -- Answers ---------------------------------------------------------------------------------------------------------------

  -- a vote that stands in a log is above the low mark
  above : (k x j u n : ℕ) (d : List ℕ) → x < 5 → Told (known (order_of w k)) x j u n d → (t k).now.low < n
  above k x j u n d small y =
      let windowed = subst IsWindowed (order_is k) (facts.windowed k) in
      let got = told_in (known (order_of w k)) x j u n d y in
      let within = at_in (IsInWindow (order_of w k).low) (known (order_of w k)) windowed got.0 got.1 in
      let tag = got.2.tag in
      let number = got.2.number in
      let low = low_there k in
      let lt = within.above (omega (arith, tag, small)) in
      omega (arith, lt, number, low)

  pub own_here : (k x u n : ℕ) (d : List ℕ) → faulty k ≡ false → 2 < x → x < 5 → Told (known (order_of w k)) 2 (primary f u) u n d → has_slot (known (order_of w k)) x k u n ≡ true
      → Told (known (order_of w k)) x k u n d
  own_here k x u n d correct vote small there slot =
      let got = slot_told (known (order_of w k)) x k u n slot in
      told_here f faulty w v t facts k x k u n d small
      (own_digest f faulty t u n d (responds f faulty w v t facts) k x got.0 correct vote small (above k 2 (primary f u) u n d (omega arith) there)
      (told_world f faulty w v t facts k 2 (primary f u) u n d (omega arith) there) (told_world f faulty w v t facts k x k u n got.0 small got.1))

  pub has_answered : (k : ℕ) → faulty k ≡ false → HasAnswered (order_of w k)
  has_answered k correct =
      let s = order_of w k in
      let speaks = subst Speaking (order_is k) (facts.speaks k correct) in
      let own : (x n : ℕ) (d : List ℕ) → 2 < x → x < 5 → Told (known s) 2 (primary s.f s.view) s.view n d → has_slot (known s) x s.me s.view n ≡ true → Told (known s) x s.me s.view n d =
      subst (λ (g : ℕ). (x n : ℕ) (d : List ℕ) → 2 < x → x < 5 → Told (known s) 2 (primary g s.view) s.view n d → has_slot (known s) x s.me s.view n ≡ true → Told (known s) x s.me s.view n d) (sym (same_f k))
      (subst (λ (j : ℕ). (x n : ℕ) (d : List ℕ) → 2 < x → x < 5 → Told (known s) 2 (primary f s.view) s.view n d → has_slot (known s) x j s.view n ≡ true → Told (known s) x j s.view n d) (sym (same_me k))
      (λ x n d vote small there slot. own_here k x s.view n d correct vote small there slot)) in
      record {
        prepares = λ n d backup there. own 3 n d (omega arith) (omega arith) there (speaks.prepares n d backup there);
        commits = λ n d ready. own 4 n d (omega arith) (omega arith) (prepared_is s.f s.me (known s) s.view n d ready).proposal (speaks.commits n d ready);
      }

-- The laws ----------------------------------------------------------------------------------------------------------------

pub answers_are_said : Below → AnswersAreSaid
answers_are_said laws f keys start faulty turns run k correct =
    let led = always laws f faulty run.others run.few keys start turns run.shared run.authentic in
    has_answered f faulty (reached f keys start turns) led.orders led.world led.facts k correct

pub quiet_is_committed : Below → QuietIsCommitted
quiet_is_committed laws f keys start faulty members turns view n d run together lows proposed heard =
    let w = reached f keys start turns in
    let led = always laws f faulty run.others run.few keys start turns run.shared run.authentic in
    let v = led.orders in
    let t = led.world in
    let facts = led.facts in
    let p = primary f view in
    let all = all_heard f faulty members t view n d (responds f faulty w v t facts) (together_there f faulty w v t facts members view together)
    (λ k x. let a = lows k x in let b = low_there f faulty w v t facts k in omega (arith, a, b)) (told_world f faulty w v t facts p 2 p view n d (omega arith) proposed)
    (λ i j x small in_i in_j y. told_world f faulty w v t facts j x i view n d small (heard i j x d small in_i in_j (told_here f faulty w v t facts i x i view n d small y))) in
    λ k x. committed_here f faulty w v t facts k view n d (all k x)
