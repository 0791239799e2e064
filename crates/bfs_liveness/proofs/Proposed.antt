-- What a primary proposes is the first of its number in the log.
use Rattle.std.proofs.Common.{◌≡◌, ℕ, ◌≤◌, ◌==◌, ◌&&◌, Bool, true, false, cond, List, [], ◌∷◌, ◌++◌, Option, Some, None, refl, sym, ap, subst, arith}
use Rattle.std.specs.Prelude.{find}
use Rattle.std.proofs.lemmas.Bool.{and_from, eq-eqb}
use Rattle.bfs_auth.specs.Keys.{Keys}
use Rattle.bfs_log.specs.Headers.{header}
use Rattle.bfs_log.specs.Logs.{message_at}
use Rattle.bfs_messages.specs.Messages.{Batch}
use Rattle.bfs_messages.specs.declared.order_messages.OrderMessage.{OrderMessage}
use Rattle.bfs_messages.specs.declared.signed.Signed.{Signed}
use Rattle.bfs_model.specs.Server.Tree.{Time}
use Rattle.bfs_order.specs.Replica.Proposing as order
use Rattle.bfs_order.specs.Replica.Proposing.{next_number, proposal, proposal_commits}
use Rattle.bfs_order.specs.Replica.States.{State, known}
use Rattle.bfs_votes.specs.Votes.{Told, is_slot}
use Rattle.bfs_agreement.proofs.Public.{in_told, moved}
use Rattle.bfs_node.specs.Nodes.{Node}
use Rattle.bfs_node.specs.Proposing.{pending_batch, proposal_refusal, proposed}
use Rattle.bfs_node.specs.declared.error.NodeError.{NodeError}
use Rattle.bfs_nodes_agree.specs.Nodes.Steps.{Proposes, outcome, unless}
use Rattle.bfs_nodes_agree.proofs.Public.{found, in_map, slot_is}
use Rattle.bfs_liveness.proofs.Filled.{told_le}
use Rattle.bfs_liveness.proofs.Votes.{find_more}

-- What is found -------------------------------------------------------------------------------------------------------

find_last : {A : Type 0} (p : A → Bool) (xs : List A) (x : A) → find p xs ≡ None → p x ≡ true → find p (xs ++ x ∷ []) ≡ Some x
find_last p [] x none is = ap (λ b. cond b (Some x) None) is
find_last p (y ∷ ys) x none is =
    (elim (p y) as (λ b. cond b (Some y) (find p ys) ≡ None → cond b (Some y) (find p (ys ++ x ∷ [])) ≡ Some x) [ true ↦ λ e. absurd cc | false ↦ λ e. find_last p ys x e is ]) none

-- what is found at a place is told there
pub found_told : (s : State) (q n : ℕ) (m : Signed OrderMessage) → message_at s.log 2 q s.view n ≡ Some m → Told (known s) 2 q s.view n (header m).digest
found_told s q n m e =
    let at = found (λ (y : Signed OrderMessage). is_slot 2 q s.view n (header y)) s.log m e in
    moved (header m) 2 q s.view n (header m).digest (slot_is 2 q s.view n (header m) at.1) (λ t k v n d. Told (known s) t k v n d) (in_told (known s) (header m) (in_map header s.log m at.0))

-- Proposals -----------------------------------------------------------------------------------------------------------

-- the next number has no PRE-PREPARE yet
none_there : (s : State) (q n : ℕ) → next_number s ≤ n → message_at s.log 2 q s.view n ≡ None
none_there s q n next = go (message_at s.log 2 q s.view n) refl
  where
    go : (o : Option (Signed OrderMessage)) → message_at s.log 2 q s.view n ≡ o → message_at s.log 2 q s.view n ≡ None
    go None e = e
    go (Some m) e = let le = told_le s.view (known s) q n (header m).digest (found_told s q n m e) in absurd (omega (arith, le, next))

proposal_found : (keys : Keys) (s : State) (batch : Batch) → message_at (order.proposed keys s batch).now.log 2 s.me s.view (next_number s) ≡ Some (proposal keys s batch)
proposal_found keys s batch =
    let m = proposal keys s batch in
    let n = next_number s in
    let test = λ (y : Signed OrderMessage). is_slot 2 s.me s.view n (header y) in
    let is : is_slot 2 s.me s.view n (header m) ≡ true =
    and_from (2 == 2) ((s.me == s.me) && ((s.view == s.view) && (n == n))) refl
    (and_from (s.me == s.me) ((s.view == s.view) && (n == n)) (eq-eqb s.me s.me refl) (and_from (s.view == s.view) (n == n) (eq-eqb s.view s.view refl) (eq-eqb n n refl))) in
    find_more test (s.log ++ m ∷ []) (proposal_commits keys s batch) m (find_last test s.log m (none_there s s.me n (omega arith)) is)

pub proposes_found : (node : Node) (time : Time) → proposal_refusal node ≡ None
    → message_at (outcome node (Proposes time)).now.order.log 2 node.order.me node.order.view (next_number node.order) ≡ Some (proposal node.keys node.order (pending_batch node time))
proposes_found node time none =
    let s = node.order in
    let m = proposal node.keys s (pending_batch node time) in
    subst (λ (r : Option NodeError). message_at (unless r node (proposed node time)).now.order.log 2 s.me s.view (next_number s) ≡ Some m) (sym none) (proposal_found node.keys s (pending_batch node time))
