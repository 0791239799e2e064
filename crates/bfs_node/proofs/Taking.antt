-- Where all pass, all come.
use Rattle.std.proofs.Common.{◌≡◌, ◌∙◌, ◌+◌, ◌≤◌, true, false, List, [], ◌∷◌, length, refl, ap, arith}
use Rattle.std.specs.Prelude.{nat_le}
use Rattle.std.specs.List.{list_all}
use Rattle.std.proofs.lemmas.Bool.{and_parts, false_from_ne_true, leb-true}
use Rattle.std.proofs.lemmas.List.{length-append}
use Rattle.bfs_auth.specs.Authenticators.{passes}
use Rattle.bfs_model.specs.Server.Limits.{most_requests}
use Rattle.bfs_messages.specs.Messages as model
use Rattle.bfs_messages.specs.Signing.{is_signed, request_is_signed, sender_of}
use Rattle.bfs_messages.specs.Spelling.{body_text}
use Rattle.bfs_messages.specs.declared.message.Message.{Message}
use Rattle.bfs_messages.specs.declared.message.Message.TheVariants.{Request, Order, ViewChange, NewView, Reply}
use Rattle.bfs_messages.specs.declared.signed.Signed.{Signed}
use Rattle.bfs_node.specs.Delivering.{after_request, after_requests, request_in}
use Rattle.bfs_node.specs.Inside.Taking.{with_request_of, with_requests_of}
use Rattle.bfs_node.specs.Nodes.{Messages, Node}

-- How many there are ---------------------------------------------------------------------------------------------------------

one_at_most : (waiting : List (Signed model.Request)) (signed : Signed Message) (message : Message)
    → (length waiting ≤ length (with_request_of waiting signed message)) × (length (with_request_of waiting signed message) ≤ length waiting + 1)
one_at_most waiting signed (Request request) = let more = length-append waiting (request_in signed request ∷ []) in (omega (arith, more), omega (arith, more))
one_at_most waiting signed (Order message) = (omega arith, omega arith)
one_at_most waiting signed (ViewChange change) = (omega arith, omega arith)
one_at_most waiting signed (NewView new) = (omega arith, omega arith)
one_at_most waiting signed (Reply reply) = (omega arith, omega arith)

pub no_more : (waiting : List (Signed model.Request)) (messages : Messages)
    → (length waiting ≤ length (with_requests_of waiting messages)) × (length (with_requests_of waiting messages) ≤ length waiting + length messages)
no_more waiting [] = (omega arith, omega arith)
no_more waiting (signed ∷ messages) =
    let one = one_at_most waiting signed signed.message in
    let more = no_more (with_request_of waiting signed signed.message) messages in
    (omega (arith, one.0, more.0), omega (arith, one.1, more.1))

-- All come -------------------------------------------------------------------------------------------------------------------

one_came : (node : Node) (signed : Signed Message) (message : Message) → passes node.keys (sender_of message) (body_text message) signed.auth ≡ true
    → length (with_request_of node.pending signed message) ≤ most_requests → after_request node signed message ≡ record node { pending = with_request_of node.pending signed message }
one_came node signed (Request request) passed few =
    let room : nat_le most_requests (length node.pending) ≡ false =
    false_from_ne_true (nat_le most_requests (length node.pending))
    (λ full. let le : most_requests ≤ length node.pending = leb-true most_requests (length node.pending) full in omega (arith, le, few, length-append node.pending (request_in signed request ∷ []))) in
    let its : request_is_signed node.keys (request_in signed request) ≡ true = passed in
    rw its (rw room refl)
one_came node signed (Order message) passed few = refl
one_came node signed (ViewChange change) passed few = refl
one_came node signed (NewView new) passed few = refl
one_came node signed (Reply reply) passed few = refl

pub all_came : (node : Node) (messages : Messages) → list_all (is_signed node.keys) messages ≡ true → length (with_requests_of node.pending messages) ≤ most_requests
    → (after_requests node messages).pending ≡ with_requests_of node.pending messages
all_came node [] passed few = refl
all_came node (signed ∷ messages) passed few =
    let waiting = with_request_of node.pending signed signed.message in
    let parts = and_parts (is_signed node.keys signed) (list_all (is_signed node.keys) messages) passed in
    ap (λ (n : Node). (after_requests n messages).pending) (one_came node signed signed.message parts.0 (omega (arith, few, (no_more waiting messages).0)))
    ∙ all_came (record node { pending = waiting }) messages parts.1 few
