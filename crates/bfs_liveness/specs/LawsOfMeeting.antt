-- The statements on ways, and on how members meet in a view: contracts of functions of src/meeting.rt, which do nothing.
use Rattle.std.specs.Prelude.{◌≡◌, ℕ, ◌+◌, ◌<◌, ◌≤◌, Bool, true, List, ◌++◌}
use Rattle.bfs_votes.specs.Votes.{primary}
use Rattle.bfs_nodes_agree.specs.Nodes.Replicas.{Beginning, Keyring, NodeTurn}
use Rattle.bfs_nodes_progress.specs.Following.{AreMembers, asked_by}
use Rattle.bfs_nodes_progress.specs.Runs.{IsARun, reached}
use Rattle.bfs_liveness.specs.Meeting.{MayMeetIn, Meets, meeting}
use Rattle.bfs_liveness.specs.Ways.{AreFairTo, HaveViews, IsWay}

-- a run goes on by each way of members, behind which they hear one another still
abbrev pub WaysAreRuns : Type 0
WaysAreRuns = (f : ℕ) (keys : Keyring) (start : Beginning) (faulty members : ℕ → Bool) (turns way : List NodeTurn)
    → IsARun f keys start faulty turns → AreMembers f faulty members → AreFairTo f keys start faulty members turns
    → IsWay members (reached f keys start turns) way
    → IsARun f keys start faulty (turns ++ way) × AreFairTo f keys start faulty members (turns ++ way)

-- of f + 1 views in a row a member leads one
abbrev pub AMemberLeads : Type 0
AMemberLeads = (f : ℕ) (faulty members : ℕ → Bool) (view : ℕ) → AreMembers f faulty members
    → (next : ℕ) × (view < next) × (next ≤ view + (f + 1)) × (members (primary f next) ≡ true)

-- in each later view that one of them leads they meet by this way
abbrev pub MembersMeetIn : Type 0
MembersMeetIn = (f : ℕ) (keys : Keyring) (start : Beginning) (faulty members : ℕ → Bool) (turns : List NodeTurn) (view : ℕ)
    → IsARun f keys start faulty turns → AreMembers f faulty members → AreFairTo f keys start faulty members turns
    → MayMeetIn f members (reached f keys start turns) view
    → Meets f keys start faulty members turns (meeting f members (reached f keys start turns) view) view

-- so there is a view in which they do, at most f + 1 views above the latest that one of them has asked for
abbrev pub MembersMeet : Type 0
MembersMeet = (f : ℕ) (keys : Keyring) (start : Beginning) (faulty members : ℕ → Bool) (turns : List NodeTurn)
    → IsARun f keys start faulty turns → AreMembers f faulty members → AreFairTo f keys start faulty members turns
    → HaveViews members (reached f keys start turns) (f + 1)
    → (view : ℕ) × (latest : ℕ) × (members latest ≡ true) × (view ≤ asked_by (reached f keys start turns) latest + (f + 1))
    × Meets f keys start faulty members turns (meeting f members (reached f keys start turns) view) view
