-- Tallies of a block's requests, and their lines.
use Rattle.std.proofs.Common.{◌≡◌, ℕ, List, [], ◌∷◌, ◌++◌, map, refl, ap, ap₂}
use Rattle.bfs_clients.specs.Clients.{Clients}
use Rattle.bfs_clients.specs.Tallies.{Tally, agreed, all_tallied, no_replies, tally_of}
use Rattle.bfs_clients.proofs.Public.{of_its_request}
use Rattle.bfs_node.specs.Nodes.{Messages}
use Rattle.bfs_trace.specs.Events.{Request}
use Rattle.bfs_replay.specs.Inside.Results.{tally_lines}
use Rattle.bfs_replay.specs.Output.{result_line, result_lines}

-- before any reply
abbrev pub begun : Clients → List Request → List Tally
begun clients requests = map (λ request. no_replies clients.f request.client request.timestamp) requests

-- once replies have come
pub told : (clients : Clients) (replies : Messages) (requests : List Request) → all_tallied clients replies (begun clients requests) ≡ map (λ request. tally_of clients replies request.client request.timestamp) requests
told clients replies [] = refl
told clients replies (request ∷ requests) = ap (λ more. tally_of clients replies request.client request.timestamp ∷ more) (told clients replies requests)

pub lines_told : (clients : Clients) (replies : Messages) (requests : List Request) → tally_lines (map (λ request. tally_of clients replies request.client request.timestamp) requests) ≡ result_lines clients replies requests
lines_told clients replies [] = refl
lines_told clients replies (request ∷ requests) =
    let tally : Tally = tally_of clients replies request.client request.timestamp in
    let its = of_its_request clients replies request.client request.timestamp in
    ap₂ (λ (line lines : List ℕ). line ++ lines) (ap₂ (λ (client timestamp : ℕ). result_line client timestamp (agreed tally)) its.0 its.1) (lines_told clients replies requests)
