-- Another replica, as far as it tells, and when what was said is given again to it. Times are in microseconds.
use Rattle.std.specs.Prelude.{ℕ, ◌*◌, Bool, true, false, ◌&&◌, List, Option, Some, None, is_some, min, slice_get, slice_set, if◌then◌else◌}
use Rattle.bfs_policy.specs.Standings.{may_lack, stand_alike}
use Rattle.bfs_policy.specs.Times.{has_lasted, since_when}
use Rattle.bfs_policy.specs.declared.facts.Standing.{Standing}
use Rattle.bfs_policy.specs.declared.peers.Peer.{Peer}

-- how long it is waited for one that doesn't move, at first and at most
abbrev pub least_pause : ℕ
least_pause = 300000

abbrev pub most_pause : ℕ
most_pause = 8000000

-- what it told is known, and nothing was given to it since
abbrev pub peer_at : Option Standing → Peer
peer_at told = record { told = told; since = None; pause = least_pause; is_due = false }

abbrev pub stands_at : Standing → Option Standing → Bool
stands_at standing None = false
stands_at standing (Some told) = stand_alike told standing

-- it tells where it stands. Once it has moved it is waited for anew
abbrev pub peer_told : Standing → Peer → Peer
peer_told standing peer = if stands_at standing peer.told then peer else peer_at (Some standing)

abbrev pub with_peer : Option Peer → (number : ℕ) → Standing → List Peer → List Peer
with_peer None number standing peers = peers
with_peer (Some peer) number standing peers = slice_set peers number (peer_told standing peer)

-- one of them does
abbrev pub peers_told : (number : ℕ) → Standing → List Peer → List Peer
peers_told number standing peers = with_peer (slice_get peers number) number standing peers

-- of one that has told nothing, nothing is known
abbrev pub told_that : (Standing → Bool) → Option Standing → Bool
told_that is None = false
told_that is (Some told) = is told

abbrev pub tells_that : (Standing → Bool) → Peer → Bool
tells_that is peer = told_that is peer.told

-- it may lack something, and has not moved for the pause
abbrev pub lacks_still : (own : Standing) → (now : ℕ) → Peer → Bool
lacks_still own now peer = tells_that (may_lack own) peer && has_lasted peer.since peer.pause now

-- then what was said is given to it again, and it is waited for twice as long
abbrev pub peer_after : (own : Standing) → (now : ℕ) → Peer → Peer
peer_after own now peer =
    if lacks_still own now peer then record { told = peer.told; since = Some now; pause = min (2 * peer.pause) most_pause; is_due = true }
    else record { told = peer.told; since = since_when peer.since (is_some peer.told) now; pause = peer.pause; is_due = false }

-- to whom it is given again: to one that stands so
abbrev pub given_to : Peer → Option Standing
given_to peer = if peer.is_due then peer.told else None
