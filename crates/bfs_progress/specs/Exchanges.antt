-- Turns in which members hear one another, each a finite list.
use Rattle.std.specs.Prelude.{◌≡◌, ℕ, zero, suc, ◌-◌, ◌==◌, Bool, true, false, ◌&&◌, not, List, [], ◌∷◌, ◌++◌, if◌then◌else◌}
use Rattle.bfs_votes.specs.Votes.{Header, Told, replicas, primary}
use Rattle.bfs_votes.specs.Tags.{commit_tag, pre_prepare_tag, prepare_tag}
use Rattle.bfs_agreement.specs.Histories.{IsIn, ViewChange, World}
use Rattle.bfs_agreement.specs.Calls.{vote, Receives, Settles, TimesOut, ChangesView, HeaderTurn}

-- members other than the primary of a view (OSDI 1999 section 4)
abbrev pub backups_of : (f : ℕ) (members : ℕ → Bool) (view : ℕ) → ℕ → Bool
backups_of f members view k = members k && not (k == primary f view)

-- In a view -----------------------------------------------------------------------------------------------------------

-- a message comes to each member below a bound but its sender
abbrev pub deliveries : (members : ℕ → Bool) → Header → (bound : ℕ) → List HeaderTurn
deliveries members h zero = []
deliveries members h (suc k) =
    if members k && not (k == h.sender) then record { who = k; call = Receives h } ∷ deliveries members h k else deliveries members h k

-- the vote of each sender below a bound comes to each other member
abbrev pub votes : (f : ℕ) (members senders : ℕ → Bool) (tag view number : ℕ) → List ℕ → (bound : ℕ) → List HeaderTurn
votes f members senders tag view number digest zero = []
votes f members senders tag view number digest (suc k) =
    if senders k then deliveries members (vote tag k view number digest) (replicas f) ++ votes f members senders tag view number digest k
    else votes f members senders tag view number digest k

-- the primary's PRE-PREPARE comes once more, then the PREPARE of each backup, then the COMMIT of each (OSDI 1999 section 4.2)
abbrev pub exchange : (f : ℕ) (members : ℕ → Bool) (view number : ℕ) → List ℕ → List HeaderTurn
exchange f members view number digest =
    deliveries members (vote pre_prepare_tag (primary f view) view number digest) (replicas f)
    ++ (votes f members (backups_of f members view) prepare_tag view number digest (replicas f)
    ++ votes f members members commit_tag view number digest (replicas f))

-- among other turns, what each has said of the number, as its log has it at first, comes to each other
abbrev pub IsRound : (members : ℕ → Bool) → World → (view number : ℕ) → List HeaderTurn → Type 0
IsRound members w view number turns = (i j tag : ℕ) (digest : List ℕ) → members i ≡ true → members j ≡ true → (i == j) ≡ false
    → Told (w i).now.log tag i view number digest → IsIn (record { who = j; call = Receives (vote tag i view number digest) }) turns

-- Between views -------------------------------------------------------------------------------------------------------

-- one times out, so often
abbrev pub timeouts : (who count : ℕ) → List HeaderTurn
timeouts who zero = []
timeouts who (suc count) = record { who = who; call = TimesOut } ∷ timeouts who count

-- each member below a bound times out until it has asked for its view
abbrev pub all_time_out : (members : ℕ → Bool) → World → (views : ℕ → ℕ) → (bound : ℕ) → List HeaderTurn
all_time_out members w views zero = []
all_time_out members w views (suc k) =
    if members k then timeouts k (views k - (w k).now.asked) ++ all_time_out members w views k else all_time_out members w views k

-- each of some replicas below a bound enters a view by a NEW-VIEW with these
abbrev pub all_enter : (some : ℕ → Bool) (view : ℕ) → List ViewChange → (bound : ℕ) → List HeaderTurn
all_enter some view changes zero = []
all_enter some view changes (suc k) =
    if some k then record { who = k; call = ChangesView view changes } ∷ all_enter some view changes k else all_enter some view changes k

-- the primary begins the view, and its NEW-VIEW comes to each other member (OSDI 1999 section 4.4)
abbrev pub entrance : (f : ℕ) (members : ℕ → Bool) (view : ℕ) → List ViewChange → List HeaderTurn
entrance f members view changes =
    record { who = primary f view; call = ChangesView view changes } ∷ all_enter (backups_of f members view) view changes (replicas f)

-- each member below a bound takes a number for stable (OSDI 1999 section 4.3)
abbrev pub all_settle : (members : ℕ → Bool) (number bound : ℕ) → List HeaderTurn
all_settle members number zero = []
all_settle members number (suc k) =
    if members k then record { who = k; call = Settles number } ∷ all_settle members number k else all_settle members number k
