-- The requests that wait to be ordered (OSDI 1999 section 4.2).
use Rattle.std.specs.Prelude.{◌==◌, ℕ, Bool, ◌&&◌, not, List, count_by, filter}
use Rattle.std.specs.List.{list_any}
use Rattle.bfs_messages.specs.Messages.{Request, Batch, requests_of}
use Rattle.bfs_messages.specs.declared.signed.Signed.{Signed}

-- the same client's, with the same timestamp
abbrev pub is_same : Signed Request → Signed Request → Bool
is_same one other = (one.message.client == other.message.client) && (one.message.timestamp == other.message.timestamp)

-- in a batch stands one of the same client and timestamp
abbrev pub is_among : Batch → Signed Request → Bool
is_among batch one = list_any (is_same one) (requests_of batch)

-- those that wait once a batch was executed
abbrev pub without : List (Signed Request) → Batch → List (Signed Request)
without waiting batch = filter (λ one. not (is_among batch one)) waiting

-- those of whose client and timestamp none is among others
abbrev pub without_named : (waiting others : List (Signed Request)) → List (Signed Request)
without_named waiting others = filter (λ one. not (list_any (is_same one) others)) waiting

-- how many of them are a client's
abbrev pub count_of : (client : ℕ) → List (Signed Request) → ℕ
count_of client waiting = count_by (λ one. one.message.client == client) waiting
