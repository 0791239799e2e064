-- Requests come, and the batch that is proposed if all pass is hashed meanwhile.
use Rattle.std.specs.Prelude.{◌≡◌, ◌≤◌, List, [], ◌∷◌, ◌++◌, length, Some}
use Rattle.std.specs.List.{fold}
use Rattle.std.specs.Option.{option_map}
use Rattle.bfs_model.specs.Server.Limits.{most_requests}
use Rattle.bfs_messages.specs.Messages as model
use Rattle.bfs_messages.specs.declared.message.Message.{Message}
use Rattle.bfs_messages.specs.declared.message.Message.TheVariants.{Request}
use Rattle.bfs_messages.specs.declared.signed.Signed.{Signed}
use Rattle.bfs_node.specs.Delivering.{request_in}
use Rattle.bfs_node.specs.Nodes.{Messages, Node}

-- those that wait, and the REQUEST that a message is behind them
abbrev pub with_request_of : (waiting : List (Signed model.Request)) → Signed Message → Message → List (Signed model.Request)
with_request_of waiting signed (Request request) = waiting ++ request_in signed request ∷ []
with_request_of waiting signed _ = waiting

-- the same of all REQUESTs among messages
abbrev pub with_requests_of : (waiting : List (Signed model.Request)) → Messages → List (Signed model.Request)
with_requests_of waiting messages = fold (λ so_far signed. with_request_of so_far signed signed.message) waiting messages

-- a batch of all of these, which are not too many
abbrev pub HasAll : Node → Messages → model.Batch → Type 0
HasAll node messages batch =
    (option_map (λ (requests : model.Requests). requests.requests) batch ≡ Some (with_requests_of node.pending messages)) × (length (with_requests_of node.pending messages) ≤ most_requests)
