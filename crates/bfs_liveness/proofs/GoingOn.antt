-- A full window is emptied, and members come up to its end, where the primary can propose again.
use Rattle.std.proofs.Common.{◌≡◌, ℕ, ◌+◌, ◌≤◌, ◌%◌, ◌==◌, ◌&&◌, Bool, false, cond, not, List, [], ◌++◌, ◌⊎◌, inl, inr, sym, ap, subst, ◌∙◌, append_assoc, arith}
use Rattle.std.proofs.Math.Nat.{add-mul-mod_self_left}
use Rattle.bfs_messages.specs.Messages as model
use Rattle.bfs_messages.specs.Signing.{as_message}
use Rattle.bfs_messages.specs.declared.message.Message.TheVariants.{Order}
use Rattle.bfs_messages.specs.declared.order_messages.OrderMessage.{OrderMessage}
use Rattle.bfs_messages.specs.declared.signed.Signed.{Signed}
use Rattle.bfs_model.specs.Server.Limits.{checkpoint_interval, log_size}
use Rattle.bfs_order.specs.Replica.Proposing.{next_number}
use Rattle.bfs_order.specs.Replica.Resending.{own_message}
use Rattle.bfs_votes.specs.Tags.{checkpoint_tag}
use Rattle.bfs_votes.specs.Votes.{primary, replicas}
use Rattle.bfs_agreement.specs.Histories.{IsIn}
use Rattle.bfs_nodes_agree.specs.Nodes.Replicas.{NodeReplicas, NodeTurn, after_node_turns, new_node_replicas}
use Rattle.bfs_nodes_agree.specs.Nodes.Steps.{Takes}
use Rattle.bfs_nodes_agree.proofs.Public.{either_in, out_of_map}
use Rattle.bfs_nodes_progress.specs.Following.{AreMembers}
use Rattle.bfs_nodes_progress.specs.Runs.{IsARun, order_of, reached}
use Rattle.bfs_nodes_progress.proofs.Public.{after_join}
use Rattle.bfs_liveness.specs.Even.{AreEven}
use Rattle.bfs_liveness.specs.Exchanges.{all_execute, all_tell, emptying, exchange, hearing_and_executing, taking, three_exchanges, told_to}
use Rattle.bfs_liveness.specs.LawsOfCatching.{MembersComeUp}
use Rattle.bfs_liveness.specs.LawsOfExecuting.{FullWindowsAreEmptied, IsFull}
use Rattle.bfs_liveness.specs.LawsOfMeeting.{WaysAreRuns}
use Rattle.bfs_liveness.specs.LawsOfWindows.{FullWindowsGoOn, WhatIsStableIsAMultiple, WindowsAreBounded}
use Rattle.bfs_liveness.specs.Waiting.{HasServed, WhatWaitsStays, forgets}
use Rattle.bfs_liveness.specs.Ways.{AreFairTo, IsWay}
use Rattle.bfs_liveness.proofs.Emptying.{only_tells}
use Rattle.bfs_liveness.proofs.Exchanges.{brings_votes}
use Rattle.bfs_liveness.proofs.Lists.{out_of_each, out_of_where}
use Rattle.bfs_liveness.proofs.Ordering.{only_executions}
use Rattle.bfs_liveness.proofs.StillWaiting.{served_behind}
use Rattle.bfs_liveness.proofs.Ways.{ways_join}

-- a window ends at a multiple where it begins at one
end_multiple : (low : ℕ) → (low % checkpoint_interval) ≡ 0 → ((low + log_size) % checkpoint_interval) ≡ 0
end_multiple low multiple = add-mul-mod_self_left low checkpoint_interval 2 ∙ multiple

-- What waits ----------------------------------------------------------------------------------------------------------

-- the host has no node forget requests by them
abbrev ForgetNone : List NodeTurn → Type 0
ForgetNone turns = (turn : NodeTurn) → IsIn turn turns → forgets turn.step ≡ false

none_both : (xs ys : List NodeTurn) → ForgetNone xs → ForgetNone ys → ForgetNone (xs ++ ys)
none_both xs ys one other turn i = elim (either_in xs ys turn i) [ inl j ↦ one turn j | inr j ↦ other turn j ]

exchanges_forget_none : (f : ℕ) (members : ℕ → Bool) (w : NodeReplicas) → ForgetNone (exchange f members w)
exchanges_forget_none f members w turn i = ap forgets (brings_votes f members w turn i).step

told_forget_none : (f : ℕ) (members : ℕ → Bool) (w : NodeReplicas) (number who : ℕ) → ForgetNone (told_to f members w number who)
told_forget_none f members w number who turn i =
    let given = λ (k : ℕ). taking who (own_message (order_of w k) checkpoint_tag 0 number) in
    let from = out_of_each (λ k. cond (members k && not (k == who)) (given k) []) (replicas f) turn i in
    let there = out_of_where (members from.0 && not (from.0 == who)) (given from.0) turn from.2 in
    let is = out_of_map (λ (m : Signed OrderMessage). record { who = who; step = Takes (as_message Order m) }) (own_message (order_of w from.0) checkpoint_tag 0 number) turn there.1 in
    ap (λ (x : NodeTurn). forgets x.step) is.2

emptying_forgets_none : (f : ℕ) (members : ℕ → Bool) (w : NodeReplicas) (view number : ℕ) → ForgetNone (emptying f members w view number)
emptying_forgets_none f members w view number =
    let one = exchange f members w in
    let w1 = after_node_turns w one in
    let two = exchange f members w1 in
    let three = exchange f members (after_node_turns w1 two) in
    let heard = after_node_turns w (three_exchanges f members w) in
    let ran = all_execute f members heard number in
    let there = after_node_turns w (hearing_and_executing f members w number) in
    let told = all_tell f members in
    let rest = told_to f members (after_node_turns there told) number (primary f view) in
    none_both (hearing_and_executing f members w number) (told ++ rest)
    (none_both (three_exchanges f members w) ran
    (none_both one (two ++ three) (exchanges_forget_none f members w) (none_both two three (exchanges_forget_none f members w1) (exchanges_forget_none f members (after_node_turns w1 two))))
    (λ turn i. ap forgets (only_executions f members heard number turn i).1))
    (none_both told rest (λ turn i. ap forgets (only_tells f members turn i).1) (told_forget_none f members (after_node_turns there told) number (primary f view)))

-- a request waits at a node, or was executed there
abbrev WaitsOrServed : (k : ℕ) → Signed model.Request → NodeReplicas → Type 0
WaitsOrServed k one w = IsIn one (w k).node.pending ⊎ HasServed (w k) one

-- All of it -----------------------------------------------------------------------------------------------------------

pub full_windows_go_on : FullWindowsAreEmptied → MembersComeUp → WaysAreRuns → WindowsAreBounded → WhatIsStableIsAMultiple → WhatWaitsStays → FullWindowsGoOn
full_windows_go_on empties come runs bounded multiples stays f keys start faulty members turns view low run fair even over most =
    let w = reached f keys start turns in
    let p = primary f view in
    let end = low + log_size in
    let quorum = even.together.quorum in
    let are : AreMembers f faulty members = record { enough = quorum.enough; correct = quorum.correct; among = quorum.among } in
    let low_is = even.low p quorum.leads in
    let under = bounded f keys start faulty turns p run in
    let multiple = subst (λ (n : ℕ). (n % checkpoint_interval) ≡ 0) low_is (multiples f keys start faulty members turns p run are) in
    let full : IsFull low (next_number (order_of w p)) = record { to_its_end = omega (arith, over, under, low_is); multiple = end_multiple low multiple; bounded = omega (arith, most) } in
    let first = emptying f members w view end in
    let done = empties f keys start faulty members turns view low run fair even full in
    let emptied = done.2 in
    let came = come f keys start faulty members (turns ++ first) view done.1 (runs f keys start faulty members turns first run are fair done.0).1 emptied.together emptied.live in
    let number = came.0 in
    let second = came.2 in
    let up = came.3 in
    let greatest = came.1 in
    let at = greatest.low in
    let at_most = emptied.lows greatest.who greatest.member in
    let at_least = greatest.greatest p quorum.leads in
    let at_p = emptied.low in
    let same : number ≡ end = omega (arith, at, at_most, at_least, at_p) in
    let next = up.next p quorum.leads in
    let next_before = emptied.next in
    let all : (turns ++ first) ++ second ≡ turns ++ (first ++ second) = append_assoc turns first second in (
      first ++ second,
      ways_join members w first second done.0 (subst (λ (x : NodeReplicas). IsWay members x second) (after_join (new_node_replicas f keys start) turns first) up.is_way),
      subst (IsARun f keys start faulty) all up.run,
      subst (AreFairTo f keys start faulty members) all up.fair,
      subst (λ (x : List NodeTurn). AreEven f faulty members (reached f keys start x) view end) all
          (subst (λ (n : ℕ). AreEven f faulty members (reached f keys start ((turns ++ first) ++ second)) view n) same up.even),
      subst (λ (x : List NodeTurn). next_number (order_of (reached f keys start x) p) ≤ end + 1) all (omega (arith, next, next_before, same)),
      λ k member one i.
          let joined : reached f keys start (turns ++ first) ≡ after_node_turns w first = after_join (new_node_replicas f keys start) turns first in
          let behind : reached f keys start ((turns ++ first) ++ second) ≡ after_node_turns (reached f keys start (turns ++ first)) second = after_join (new_node_replicas f keys start) (turns ++ first) second in
          let kept : WaitsOrServed k one (reached f keys start (turns ++ first)) = subst (WaitsOrServed k one) (sym joined) (stays w first k (λ turn j _. emptying_forgets_none f members w view end turn j) one i) in
          subst (λ (x : List NodeTurn). WaitsOrServed k one (reached f keys start x)) all (elim kept [
            | inl still ↦ inl (subst (λ (waiting : List (Signed model.Request)). IsIn one waiting) (sym (up.pending k)) still)
            | inr served ↦ inr (subst (λ (x : NodeReplicas). HasServed (x k) one) (sym behind) (served_behind second (reached f keys start (turns ++ first)) k one served))
          ]),
    )
