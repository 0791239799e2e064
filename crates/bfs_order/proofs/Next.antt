-- The batch that is next is what its PRE-PREPARE says, once that is committed.
use Rattle.std.proofs.Common.{◌≡◌, ◌+◌, Bool, true, false, cond, refl, ap, ◌∙◌}
use Rattle.std.specs.Prelude.{Option, Some, None, unwrap_or}
use Rattle.std.specs.Option.{option_map}
use Rattle.bfs_votes.specs.Votes.{committed, primary}
use Rattle.bfs_log.specs.Batches.{Said}
use Rattle.bfs_log.specs.Headers.{header}
use Rattle.bfs_log.specs.Logs.{batch_in, said_in, said_of}
use Rattle.bfs_messages.specs.declared.signed.Signed.{Signed}
use Rattle.bfs_messages.specs.declared.order_messages.OrderMessage.{OrderMessage}
use Rattle.bfs_order.specs.Replica.Executing.{batch_of, next_committed, next_proposal, where_committed}
use Rattle.bfs_order.specs.Replica.States.{State, known}

abbrev said_by : Option (Signed OrderMessage) → Option Said
said_by found = option_map said_in found

none_by : (s : State) (found : Option (Signed OrderMessage)) → said_by found ≡ None → batch_of (where_committed s found) ≡ None
none_by s None e = refl
none_by s (Some m) e = absurd cc

pub next_none : (s : State) → said_of s.log 2 (primary s.f s.view) s.view (s.last + 1) ≡ None → next_committed s ≡ None
next_none s e = none_by s (next_proposal s) e

batch_where : (b : Bool) (m : Signed OrderMessage) → batch_of (cond b (Some m) None) ≡ cond b (batch_in m.message) None
batch_where true m = refl
batch_where false m = refl

some_by : (s : State) (found : Option (Signed OrderMessage)) (said : Said) → said_by found ≡ Some said
    → batch_of (where_committed s found) ≡ cond (committed s.f s.me (known s) s.view (s.last + 1) said.digest) said.batch None
some_by s None said e = absurd cc
some_by s (Some m) said e =
    let is : said_in m ≡ said = ap (λ (o : Option Said). unwrap_or o (said_in m)) e in
    batch_where (committed s.f s.me (known s) s.view (s.last + 1) (header m).digest) m
    ∙ ap (λ (d : Said). cond (committed s.f s.me (known s) s.view (s.last + 1) d.digest) d.batch None) is

pub next_some : (s : State) (said : Said) → said_of s.log 2 (primary s.f s.view) s.view (s.last + 1) ≡ Some said
    → next_committed s ≡ cond (committed s.f s.me (known s) s.view (s.last + 1) said.digest) said.batch None
next_some s said e = some_by s (next_proposal s) said e
