-- When a replica does what, by what it was told: rules of OSDI 1999 section 4.5.2, and of giving again and fetching what was lost.
use Rattle.std.specs.Prelude.{ℕ, ◌*◌, ◌==◌, Bool, true, false, ◌&&◌, ◌||◌, List, Option, Some, None, count_by, map, min, nat_le, nat_lt, not, replicate, slice_get, if◌then◌else◌}
use Rattle.bfs_model.specs.Server.Limits.{most_faults, most_replicas}
use Rattle.bfs_policy.specs.Fetching.{fetched_from, fetching_after, fetching_seen, is_hopeful, nothing_fetched}
use Rattle.bfs_policy.specs.Peers.{given_to, peer_after, peer_at, peers_told, tells_that}
use Rattle.bfs_policy.specs.Standings.{goes_for, is_ahead}
use Rattle.bfs_policy.specs.Telling.{is_telling_due, nothing_told, telling_after}
use Rattle.bfs_policy.specs.Timers.{has_executed, is_late, new_timer, timer_after}
use Rattle.bfs_policy.specs.declared.facts.Decision.{Decision}
use Rattle.bfs_policy.specs.declared.facts.Facts.{Facts}
use Rattle.bfs_policy.specs.declared.facts.Leaving.{Leaving}
use Rattle.bfs_policy.specs.declared.facts.Leaving.TheVariants.{Stays, TimesOut, Follows}
use Rattle.bfs_policy.specs.declared.facts.Standing.{Standing}
use Rattle.bfs_policy.specs.declared.fetching.Fetching.{Fetching}
use Rattle.bfs_policy.specs.declared.peers.Peer.{Peer}
use Rattle.bfs_policy.specs.declared.telling.Telling.{Telling}
use Rattle.bfs_policy.specs.declared.timer.Timer.{Timer}

pub record Policy : Type 0 where
  -- it is replica me of 3f + 1
  pub f : ℕ
  pub me : ℕ
  pub timer : Timer
  -- by the replicas' numbers; what stands at its own says nothing
  pub peers : List Peer
  pub fetching : Fetching
  pub telling : Telling

-- with a patience in microseconds
abbrev pub new_policy : (f me patience : ℕ) → Policy
new_policy f me patience = record {
  f = min f most_faults;
  me = me;
  timer = new_timer patience;
  peers = replicate most_replicas (peer_at None);
  fetching = nothing_fetched;
  telling = nothing_told;
}

-- What others tell ------------------------------------------------------------------------------------------------------------

-- one of the others tells where it stands
abbrev pub heard : (from : ℕ) → Standing → Policy → Policy
heard from standing policy =
    if (from == policy.me) || nat_lt (3 * policy.f) from then policy else record policy { peers = peers_told from standing policy.peers }

-- how many others tell that it is so with them
abbrev pub telling_that : (Standing → Bool) → Policy → ℕ
telling_that is policy = count_by (tells_that is) policy.peers

-- The rules -------------------------------------------------------------------------------------------------------------------

-- a view that it has asked for is waited for only once 2f + 1 replicas, itself among them, ask for it or for later ones
abbrev pub may_wait : Policy → (own : Standing) → Bool
may_wait policy own = nat_le own.asked own.view || nat_le (2 * policy.f) (telling_that (goes_for own.asked) policy)

abbrev pub waits : Policy → Facts → Bool
waits policy facts = facts.waits && may_wait policy facts.own

-- f + 1 others have a checkpoint above the number that it has executed
abbrev pub is_behind : Policy → Facts → Bool
is_behind policy facts = facts.is_behind || nat_lt policy.f (telling_that (is_ahead facts.own.last) policy)

abbrev pub timer_seen : Policy → Facts → Timer
timer_seen policy facts = timer_after facts.own (waits policy facts) facts.now policy.timer

abbrev pub state_seen : Policy → Facts → Fetching
state_seen policy facts = fetching_seen (has_executed policy.timer facts.own) (is_behind policy facts) facts.has_piece facts.now policy.fetching

-- its time has run out, unless it may hope to get a state
abbrev pub is_time_out : Policy → Facts → Bool
is_time_out policy facts = is_late facts.now (timer_seen policy facts) && not (is_behind policy facts && is_hopeful policy.f (state_seen policy facts))

-- who sees f + 1 others ask for later views follows at once
abbrev pub leaving_by : Option ℕ → (is_time_out : Bool) → Leaving
leaving_by (Some view) out = Follows view
leaving_by None true = TimesOut
leaving_by None false = Stays

-- What it does, by what it was told -------------------------------------------------------------------------------------------

abbrev pub policy_after : Policy → Facts → Policy
policy_after policy facts = record policy {
  timer = timer_seen policy facts;
  peers = map (peer_after facts.own facts.now) policy.peers;
  fetching = fetching_after policy.f policy.me facts.own.last facts.now (state_seen policy facts);
  telling = telling_after facts.own facts.now policy.telling;
}

abbrev pub decision_of : Policy → Facts → Decision
decision_of policy facts = record {
  tells = is_telling_due facts.own facts.now policy.telling;
  proposes = facts.may_propose;
  leaving = leaving_by facts.follow (is_time_out policy facts);
  fetches_from = fetched_from policy.f policy.me facts.own.last facts.now (state_seen policy facts);
}

abbrev pub given_at : Option Peer → Option Standing
given_at None = None
given_at (Some peer) = given_to peer

-- where that replica stands, if what was said is to be given to it again
abbrev pub to_resend : Policy → (number : ℕ) → Option Standing
to_resend policy number = given_at (slice_get policy.peers number)
