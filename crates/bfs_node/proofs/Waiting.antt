-- Requests that wait no longer.
use Rattle.std.proofs.Common.{◌≡◌, ◌∙◌, ℕ, ◌+◌, ◌<◌, Bool, true, false, ◌&&◌, cond, not, List, [], ◌∷◌, ◌++◌, append_assoc, append-nil, get_or, length, take, refl, sym, ap, ap₂, subst}
use Rattle.std.specs.Prelude.{◌==◌, ◌||◌, Option, Some, None, filter, nat_le}
use Rattle.std.specs.List.{flat_map, list_any}
use Rattle.std.proofs.lemmas.Bool.{and_from, and_parts, eq-eqb, eqb-true, or_left, or_right}
use Rattle.std.proofs.lemmas.Grind.{flat_map-append}
use Rattle.std.proofs.lemmas.List.{take_more}
use Rattle.std.proofs.lemmas.List.Folds.{list_any-append}
use Rattle.std.proofs.lemmas.Map.Views.{any-filter_same}
use Rattle.bfs_model.specs.Server.Limits.{most_requests}
use Rattle.bfs_messages.specs.Messages as model
use Rattle.bfs_messages.specs.declared.order_messages.OrderMessage.{OrderMessage}
use Rattle.bfs_messages.specs.declared.signed.Signed.{Signed}
use Rattle.bfs_order.specs.Replica.States.{State}
use Rattle.bfs_pending.specs.Requests.{is_same, without_named}
use Rattle.bfs_replies.specs.Classes.{class_of}
use Rattle.bfs_replies.specs.Tables.{Table}
use Rattle.bfs_node.specs.Forgetting.{is_new, is_new_class, open_in}
use Rattle.bfs_node.specs.Nodes.{Node}
use Rattle.bfs_node.specs.Offering.{has_its_share, room_refusal, waits_already}
use Rattle.bfs_node.specs.declared.error.NodeError.{NodeError}
use Rattle.bfs_node.specs.declared.error.NodeError.TheVariants as error

-- One list after another ------------------------------------------------------------------------------------------------

pub without_both : (waiting one other : List (Signed model.Request)) → without_named (without_named waiting one) other ≡ without_named waiting (one ++ other)
without_both [] one other = refl
without_both (x ∷ waiting) one other =
    let first = without_named waiting one in
    let both = without_named waiting (one ++ other) in
    let more = without_both waiting one other in
    (elim (list_any (is_same x) one) as
    (λ p. without_named (cond (not p) (x ∷ first) first) other ≡ cond (not (p || list_any (is_same x) other)) (x ∷ both) both) [
      | true ↦ more
      | false ↦ ap (λ (kept : List (Signed model.Request)). cond (not (list_any (is_same x) other)) (x ∷ kept) kept) more
    ])
    ∙ sym (ap (λ (b : Bool). cond (not b) (x ∷ both) both) (list_any-append (is_same x) one other))

pub without_none : (waiting : List (Signed model.Request)) → without_named waiting [] ≡ waiting
without_none [] = refl
without_none (one ∷ waiting) = ap (λ (kept : List (Signed model.Request)). one ∷ kept) (without_none waiting)

-- what one message more proposes
pub opened_more : (s : State) (log : List (Signed OrderMessage)) (i : ℕ) (m : Signed OrderMessage) → i < length log → m ≡ get_or log i m
    → flat_map (open_in s) (take (i + 1) log) ≡ flat_map (open_in s) (take i log) ++ open_in s m
opened_more s log i m within is =
    ap (flat_map (open_in s)) (take_more log i m within ∙ ap (λ (x : Signed OrderMessage). take i log ++ x ∷ []) (sym is))
    ∙ flat_map-append (open_in s) (take i log) (m ∷ [])
    ∙ ap (λ (l : List (Signed model.Request)). flat_map (open_in s) (take i log) ++ l) (append-nil (open_in s m))

-- Those that are not new -----------------------------------------------------------------------------------------------

same_self : (one : Signed model.Request) → is_same one one ≡ true
same_self one =
    and_from (one.message.client == one.message.client) (one.message.timestamp == one.message.timestamp)
    (eq-eqb one.message.client one.message.client refl) (eq-eqb one.message.timestamp one.message.timestamp refl)

-- of one client and timestamp all are new, or none
new_alike : (table : Table) (one other : Signed model.Request) → is_same one other ≡ true → is_new table other ≡ is_new table one
new_alike table one other same =
    let parts = and_parts (one.message.client == other.message.client) (one.message.timestamp == other.message.timestamp) same in
    sym (ap₂ (λ (client timestamp : ℕ). is_new_class (class_of table client timestamp)) (eqb-true one.message.client other.message.client parts.0) (eqb-true one.message.timestamp other.message.timestamp parts.1))

abbrev answered_in : Table → List (Signed model.Request) → List (Signed model.Request)
answered_in table waiting = filter (λ (one : Signed model.Request). not (is_new table one)) waiting

is_there : (front rest : List (Signed model.Request)) (one : Signed model.Request) → list_any (is_same one) (front ++ one ∷ rest) ≡ true
is_there front rest one =
    list_any-append (is_same one) front (one ∷ rest)
    ∙ or_right (list_any (is_same one) front) (is_same one one || list_any (is_same one) rest) (or_left (is_same one one) (list_any (is_same one) rest) (same_self one))

turned : (b : Bool) → not (not b && true) ≡ b
turned true = refl
turned false = refl

stays_new : (table : Table) (front rest : List (Signed model.Request)) (one : Signed model.Request) → not (list_any (is_same one) (answered_in table (front ++ one ∷ rest))) ≡ is_new table one
stays_new table front rest one =
    ap not (any-filter_same (is_same one) (λ (other : Signed model.Request). not (is_new table other)) (not (is_new table one)) (λ other same. ap not (new_alike table one other same)) (front ++ one ∷ rest))
    ∙ ap (λ (b : Bool). not (not (is_new table one) && b)) (is_there front rest one)
    ∙ turned (is_new table one)

left_new : (table : Table) (front rest : List (Signed model.Request)) → without_named rest (answered_in table (front ++ rest)) ≡ filter (is_new table) rest
left_new table front [] = refl
left_new table front (one ∷ rest) =
    let answered = answered_in table (front ++ one ∷ rest) in
    ap (λ (kept : List (Signed model.Request)). cond (not (list_any (is_same one) answered)) (one ∷ kept) kept)
    (subst (λ (all : List (Signed model.Request)). without_named rest (answered_in table all) ≡ filter (is_new table) rest) (append_assoc front (one ∷ []) rest) (left_new table (front ++ one ∷ []) rest))
    ∙ ap (λ (b : Bool). cond b (one ∷ filter (is_new table) rest) (filter (is_new table) rest)) (stays_new table front rest one)

-- without those that are not new, the new ones are left
pub only_new : (table : Table) (waiting : List (Signed model.Request)) → without_named waiting (answered_in table waiting) ≡ filter (is_new table) waiting
only_new table waiting = left_new table [] waiting

-- One that is offered ----------------------------------------------------------------------------------------------------

-- there is a place for one that does not wait yet
pub has_room : (node : Node) (request : Signed model.Request) → waits_already node request ≡ false → nat_le most_requests (length node.pending) ≡ false
    → has_its_share node request.message.client ≡ false → room_refusal node request ≡ None
has_room node request new room share =
    let full : Option NodeError = Some error.BatchFull in
    ap (λ (b : Bool). cond b None (cond (nat_le most_requests (length node.pending) || has_its_share node request.message.client) full None)) new
    ∙ ap (λ (b : Bool). cond (b || has_its_share node request.message.client) full None) room
    ∙ ap (λ (b : Bool). cond b full None) share
