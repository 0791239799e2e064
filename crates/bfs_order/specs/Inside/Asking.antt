-- What an accepted message asks for, in the code: a copy of what is asked of it.
use Rattle.std.specs.Prelude.{◌≡◌, [], if◌then◌else◌}
use Rattle.bfs_auth.specs.Keys.{Keys}
use Rattle.bfs_votes.specs.Votes.{Header, is_stable}
use Rattle.bfs_log.specs.Logs.{Log, kept_after}
use Rattle.bfs_order.specs.Replica.Accepting.{settled}
use Rattle.bfs_order.specs.Replica.Answers.{votes_in, commits_in, answers_in}
use Rattle.bfs_order.specs.Replica.States.{State, known}
use Rattle.bfs_order.specs.declared.asking.Asked.{Asked}
use Rattle.bfs_order.specs.declared.asking.Asked.TheVariants.{Proposal, Prepared, Stable, Nothing}

abbrev pub asked_answers : Keys → State → Asked → Log
asked_answers keys s (Proposal vote) = votes_in keys s vote.view vote.number vote.digest
asked_answers keys s (Prepared vote) = commits_in keys s vote.view vote.number vote.digest
asked_answers keys s (Stable checkpoint) = []
asked_answers keys s Nothing = []

abbrev pub asked_settled : State → Asked → State
asked_settled s (Stable checkpoint) = record s {
  low = (if is_stable s.f (known s) checkpoint.number checkpoint.digest then checkpoint.number else s.low);
  log = (if is_stable s.f (known s) checkpoint.number checkpoint.digest then kept_after checkpoint.number checkpoint.digest s.log else s.log);
}
asked_settled s (Proposal vote) = s
asked_settled s (Prepared vote) = s
asked_settled s Nothing = s

-- it asks for what the message does
pub record Asks (asked : Asked) (h : Header) : Type 0 where
  pub answers : (keys : Keys) (s : State) → answers_in keys s h ≡ asked_answers keys s asked
  pub settled : (s : State) → settled s h ≡ asked_settled s asked
