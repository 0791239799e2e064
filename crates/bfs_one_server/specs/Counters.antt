-- What a client's counter of timestamps gives (OSDI 1999 section 4.1).
use Rattle.std.specs.Prelude.{◌≡◌, ℕ, ◌+◌, ◌<◌, List, ◌∷◌}
use Rattle.bfs_messages.specs.Messages.{Request}
use Rattle.bfs_agreement.specs.Histories.{IsIn}

-- all that was signed has earlier timestamps
abbrev pub AreCounted : (next : ℕ) → List Request → Type 0
AreCounted next signed = (q : Request) → IsIn q signed → q.timestamp < next

-- a request with the next timestamp is the first of its timestamp, and with it all that was signed is counted
abbrev pub CountedRequestsAreFirst : Type 0
CountedRequestsAreFirst = (next : ℕ) (signed : List Request) (request : Request) → AreCounted next signed → request.timestamp ≡ next
    → ((other : Request) → IsIn other signed → other.timestamp ≡ request.timestamp → ⊥) × AreCounted (next + 1) (request ∷ signed)
