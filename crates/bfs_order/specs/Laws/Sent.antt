-- What a replica sends over any calls.
use Rattle.std.specs.Prelude.{◌≡◌, ◌<◌, ◌≤◌, ◌⊎◌, ℕ, List}
use Rattle.bfs_votes.specs.Votes.{Told}
use Rattle.bfs_log.specs.Logs.{headers}
use Rattle.bfs_order.specs.Laws.Calls.{Call, after, sent_by}
use Rattle.bfs_order.specs.Replica.States.{fresh, known}
use Rattle.bfs_votes.specs.Tags.{checkpoint_tag}

-- it is the sender of all of it
abbrev pub SpeaksForItself : Type 0
SpeaksForItself = (f me : ℕ) (calls : List Call) (tag sender view number : ℕ) (digest : List ℕ)
    → Told (headers (sent_by (fresh f me) calls)) tag sender view number digest → sender ≡ me

-- PRE-PREPARE, PREPARE and COMMIT of one number and view tell one digest
abbrev pub SaysOneDigest : Type 0
SaysOneDigest = (f me : ℕ) (calls : List Call) (one other view number : ℕ) (d e : List ℕ) → one < checkpoint_tag → other < checkpoint_tag
    → Told (headers (sent_by (fresh f me) calls)) one me view number d → Told (headers (sent_by (fresh f me) calls)) other me view number e → d ≡ e

-- and stand in its log until the low mark has come to their number
abbrev pub KeepsWhatItSaid : Type 0
KeepsWhatItSaid = (f me : ℕ) (calls : List Call) (tag view number : ℕ) (digest : List ℕ) → tag < checkpoint_tag
    → Told (headers (sent_by (fresh f me) calls)) tag me view number digest
    → (number ≤ (after (fresh f me) calls).low) ⊎ Told (known (after (fresh f me) calls)) tag me view number digest
