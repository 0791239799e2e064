-- What is committed behind the number last executed is executed, number after number.
use Rattle.std.proofs.Common.{◌≡◌, ℕ, zero, suc, ◌+◌, ◌≤◌, Bool, true, cond, List, Option, Some, None, option_map, refl, sym, ap, subst, ◌∙◌, arith}
use Rattle.std.specs.Prelude.{is_some}
use Rattle.std.proofs.lemmas.Bool.{and_parts}
use Rattle.bfs_votes.specs.Votes.{Told, primary, prepared, committed}
use Rattle.bfs_log.specs.Batches.{Committed}
use Rattle.bfs_log.specs.Headers.{header, message_header}
use Rattle.bfs_log.specs.Logs.{batch_in}
use Rattle.bfs_messages.specs.declared.signed.Signed.{Signed}
use Rattle.bfs_messages.specs.declared.order_messages.OrderMessage.{OrderMessage}
use Rattle.bfs_messages.specs.declared.order_messages.OrderMessage.TheVariants.{PrePrepare, Prepare, Commit, Checkpoint}
use Rattle.bfs_model.specs.Server.Tree.{FileSystem}
use Rattle.bfs_order.specs.Replica.Executing.{batch_of, next_committed, next_order, where_committed}
use Rattle.bfs_order.specs.Replica.States.{State, known}
use Rattle.bfs_agreement.specs.Histories.{IsIn}
use Rattle.bfs_agreement.proofs.Public.{in_told, moved}
use Rattle.bfs_node.specs.Executing.{executed_on}
use Rattle.bfs_node.specs.Nodes.{Node, Outcome}
use Rattle.bfs_progress.proofs.Public.{prepared_is, told_slot}
use Rattle.bfs_nodes_agree.specs.Nodes.Steps.{Executes, after_execution, outcome}
use Rattle.bfs_nodes_agree.proofs.Public.{in_map, some_is}
use Rattle.bfs_nodes_progress.specs.Executing.{AreCommitted, executing}
use Rattle.bfs_nodes_progress.specs.Inside.Below.{Below}
use Rattle.bfs_nodes_progress.specs.Laws.{CommittedIsExecuted}
use Rattle.bfs_nodes_progress.specs.Members.{is_committed}
use Rattle.bfs_nodes_progress.specs.Runs.{reached}
use Rattle.bfs_nodes_progress.proofs.Reached.{always, told_world}
use Rattle.bfs_nodes_progress.proofs.Rounds.{own_found}

-- The next batch ----------------------------------------------------------------------------------------------------------

-- a PRE-PREPARE has a batch
proposal_batch : (m : OrderMessage) → (message_header m).tag ≡ 2 → (c : Committed) × (batch_in m ≡ Some c) × (c.number ≡ (message_header m).number)
proposal_batch (PrePrepare proposal) two = (record { number = proposal.vote.number; batch = proposal.batch }, refl, refl)
proposal_batch (Prepare vote) two = absurd (omega (arith, two))
proposal_batch (Commit vote) two = absurd (omega (arith, two))
proposal_batch (Checkpoint checkpoint) two = absurd (omega (arith, two))

-- the log tells no other digest of the number
abbrev pub IsOne : State → (number : ℕ) → List ℕ → Type 0
IsOne s number digest = (e : List ℕ) → Told (known s) 2 (primary s.f s.view) s.view number e → e ≡ digest

pub proposed_in : (s : State) (n : ℕ) (d : List ℕ) → is_committed s s.view n d ≡ true → Told (known s) 2 (primary s.f s.view) s.view n d
proposed_in s n d ready = (prepared_is s.f s.me (known s) s.view n d (and_parts (prepared s.f s.me (known s) s.view n d) _ ready).0).proposal

-- it is found in the log
pub record IsNext (s : State) (m : Signed OrderMessage) : Type 0 where
  pub next : next_order s ≡ Some m
  pub there : IsIn m s.log
  pub batch : Committed
  pub holds : batch_in m.message ≡ Some batch
  pub number : batch.number ≡ s.last + 1
  pub digest : Told (known s) 2 (primary s.f s.view) s.view (s.last + 1) (header m).digest

pub next_is : (s : State) (d : List ℕ) → is_committed s s.view (s.last + 1) d ≡ true → IsOne s (s.last + 1) d → (m : Signed OrderMessage) × IsNext s m
next_is s d ready one =
    let n = s.last + 1 in
    let leader : State = record s { me = primary s.f s.view } in
    let got = own_found leader 2 s.view n (told_slot (known s) 2 (primary s.f s.view) s.view n d (proposed_in s n d ready)) in
    let m = got.0 in
    let h = header m in
    let is = got.1.is in
    let there : Told (known s) 2 (primary s.f s.view) s.view n h.digest =
    moved h 2 (primary s.f s.view) s.view n h.digest is (λ t k v n d. Told (known s) t k v n d) (in_told (known s) h (in_map header s.log m got.1.there)) in
    let same : committed s.f s.me (known s) s.view n h.digest ≡ true = subst (λ (e : List ℕ). committed s.f s.me (known s) s.view n e ≡ true) (sym (one h.digest there)) ready in
    let batch = proposal_batch m.message is.tag in (
      m,
      record {
        next = ap (where_committed s) got.1.first ∙ ap (λ (b : Bool). cond b (Some m) None) same;
        there = got.1.there;
        batch = batch.0;
        holds = batch.1;
        number = batch.2 ∙ is.number;
        digest = there;
      },
    )

executes_next : (node : Node) (d : List ℕ) → is_committed node.order node.order.view (node.order.last + 1) d ≡ true → IsOne node.order (node.order.last + 1) d → is_some node.files ≡ true
    → ((outcome node Executes).now.order ≡ record node.order { last = node.order.last + 1 }) × (is_some (outcome node Executes).now.files ≡ true)
executes_next node d ready one live = let got = (next_is node.order d ready one).1 in go node.files (next_committed node.order) got.batch live (ap batch_of got.next ∙ got.holds) got.number
  where
    found : Option FileSystem → Option Committed → Option (Option Outcome)
    found files next = option_map (λ (f : FileSystem). option_map (executed_on node f) next) files

    go : (files : Option FileSystem) (next : Option Committed) (c : Committed) → is_some files ≡ true → next ≡ Some c → c.number ≡ node.order.last + 1
        → ((after_execution node (found files next)).now.order ≡ record node.order { last = node.order.last + 1 }) × (is_some (after_execution node (found files next)).now.files ≡ true)
    go None next c live is number = absurd cc
    go (Some files) None c live is number = absurd cc
    go (Some files) (Some x) c live is number = (ap (λ (n : ℕ). record node.order { last = n }) (ap (λ (y : Committed). y.number) (some_is x c is) ∙ number), refl)

-- So many -----------------------------------------------------------------------------------------------------------------

pub record IsAfter (s : State) (count : ℕ) (node : Node) : Type 0 where
  pub order_is : node.order ≡ record s { last = s.last + count }
  pub live : is_some node.files ≡ true

pub after_so_many : (node : Node) (total : ℕ) → is_some node.files ≡ true → AreCommitted node total → ((n : ℕ) (d : List ℕ) → is_committed node.order node.order.view n d ≡ true → IsOne node.order n d)
    → (count : ℕ) → count ≤ total → IsAfter node.order count (executing count node)
after_so_many node total live all one zero le = record { order_is = let e : node.order.last ≡ node.order.last + 0 = omega arith in ap (λ (n : ℕ). record node.order { last = n }) e; live = live }
after_so_many node total live all one (suc count) le =
    let s = node.order in
    let before = after_so_many node total live all one count (omega (arith, le)) in
    let there = executing count node in
    let now : State = record s { last = s.last + count } in
    let got = all (s.last + count + 1) (omega arith) (omega (arith, le)) in
    let d = got.0 in
    let step = executes_next there d (subst (λ (x : State). is_committed x x.view (x.last + 1) d ≡ true) (sym before.order_is) got.1)
    (subst (λ (x : State). IsOne x (x.last + 1) d) (sym before.order_is) (one (s.last + count + 1) d got.1)) before.live in
    let sums : s.last + count + 1 ≡ s.last + suc count = omega arith in
    record {
      order_is = step.0 ∙ ap (λ (x : State). record x { last = x.last + 1 }) before.order_is ∙ ap (λ (n : ℕ). record s { last = n }) sums;
      live = step.1;
    }

pub committed_is_executed : Below → CommittedIsExecuted
committed_is_executed laws f keys start faulty turns k count run correct live all =
    let w = reached f keys start turns in
    let node = (w k).node in
    let s = node.order in
    let led = always laws f faulty run.others run.few keys start turns run.shared run.authentic in
    let kept = led.facts.sound.kept k correct in
    let p = primary s.f s.view in
    let there = λ (n : ℕ) (d : List ℕ) (x : Told (known s) 2 p s.view n d). told_world f faulty w led.orders led.world led.facts k 2 p s.view n d (omega arith) x in
    let after = after_so_many node count live all (λ n d ready e x. kept.single 2 p s.view n e d (there n e x) (there n d (proposed_in s n d ready))) count (omega arith) in
    ap (λ (x : State). x.last) after.order_is
