-- What a replica answers to what is in its log: messages of its own (OSDI 1999 section 4.2).
use Rattle.std.specs.Prelude.{ℕ, ◌==◌, List, [], ◌∷◌, ◌++◌, if◌then◌else◌}
use Rattle.bfs_auth.specs.Keys.{Keys}
use Rattle.bfs_votes.specs.Votes.{Header, primary, prepared}
use Rattle.bfs_log.specs.Headers.{header}
use Rattle.bfs_log.specs.Logs.{Log}
use Rattle.bfs_messages.specs.Messages.{Vote}
use Rattle.bfs_messages.specs.declared.order_messages.OrderMessage.{OrderMessage}
use Rattle.bfs_messages.specs.declared.order_messages.OrderMessage.TheVariants.{Prepare, Commit}
use Rattle.bfs_messages.specs.Signing.{order_signed_by}
use Rattle.bfs_order.specs.Replica.Refusals.{is_there}
use Rattle.bfs_order.specs.Replica.States.{State, known, with_more}
use Rattle.bfs_votes.specs.Tags.{pre_prepare_tag, prepare_tag}

-- a message of its own, where it has said none of that kind in that view and of that number
abbrev pub said_once : Keys → State → OrderMessage → Log
said_once keys s m = if is_there s (header (order_signed_by keys m)) then [] else (order_signed_by keys m ∷ [])

abbrev pub own_vote : State → (view number : ℕ) → List ℕ → Vote
own_vote s view number digest = record { sender = s.me; view = view; number = number; digest = digest }

-- the primary sends none
abbrev pub prepares_in : Keys → State → (view number : ℕ) → List ℕ → Log
prepares_in keys s view number digest = if s.me == primary s.f view then [] else said_once keys s (Prepare (own_vote s view number digest))

-- once it is prepared
abbrev pub commits_in : Keys → State → (view number : ℕ) → List ℕ → Log
commits_in keys s view number digest =
    if prepared s.f s.me (known s) view number digest then said_once keys s (Commit (own_vote s view number digest)) else []

abbrev pub votes_in : Keys → State → (view number : ℕ) → List ℕ → Log
votes_in keys s view number digest =
    prepares_in keys s view number digest ++ commits_in keys (with_more s (prepares_in keys s view number digest)) view number digest

-- to a PRE-PREPARE and a PREPARE, which are in the log
abbrev pub answers_in : Keys → State → Header → Log
answers_in keys s h =
    if h.tag == pre_prepare_tag then votes_in keys s h.view h.number h.digest else
    (if h.tag == prepare_tag then commits_in keys s h.view h.number h.digest else [])
