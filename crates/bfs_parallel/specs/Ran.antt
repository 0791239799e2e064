-- Which requests a gate has run.
use Rattle.std.specs.Prelude.{ℕ, ◌+◌, ⊤, IsFalse, List, [], ◌∷◌, map}
use Rattle.bfs_handover.specs.declared.results.NumberedReply.{NumberedReply}
use Rattle.bfs_workers.specs.Alone.{is_alone}

-- the gate has run each of the requests, of which the first has that number, but those that may touch any inode
abbrev pub AllRan : (ran : ℕ → List ℕ → Type 0) → (number : ℕ) → (requests replies : List (List ℕ)) → Type 0
AllRan ran number [] replies = ⊤
AllRan ran number (request ∷ requests) [] = ⊤
AllRan ran number (request ∷ requests) (reply ∷ replies) = (IsFalse (is_alone request) → ran number reply) × AllRan ran (number + 1) requests replies

-- the bytes of replies
abbrev pub bytes_of : List NumberedReply → List (List ℕ)
bytes_of replies = map (λ reply. reply.bytes.items) replies
