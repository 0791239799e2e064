-- The statements of Following that are proved: contracts of functions of src/laws.rt, which do nothing.
use Rattle.std.specs.Prelude.{◌≡◌, ℕ, ◌+◌, ◌<◌, ◌≤◌, Bool, true, false, ◌&&◌, List, ◌++◌, Some, None, nat_lt}
use Rattle.bfs_node.specs.Changing.{view_to_follow}
use Rattle.bfs_nodes_agree.specs.Nodes.Replicas.{Beginning, Keyring, NodeReplicas, NodeTurn}
use Rattle.bfs_votes.specs.Votes.{count_below, replicas}
use Rattle.bfs_nodes_progress.specs.Following.{AreMembers, ChangesCome, HaveSupport, SupportIsHeard, asked_by, heard, rounds_of_following}
use Rattle.bfs_nodes_progress.specs.Runs.{IsARun, reached}

-- whoever lies, no node has heard a correct one ask for a later view than that has asked for
abbrev pub WhatIsHeardWasAsked : Type 0
WhatIsHeardWasAsked = (f : ℕ) (keys : Keyring) (start : Beginning) (faulty : ℕ → Bool) (turns : List NodeTurn) → IsARun f keys start faulty turns
    → (j k : ℕ) → faulty k ≡ false → heard (reached f keys start turns j).node k ≤ asked_by (reached f keys start turns) k

-- there is a view that it may follow to
abbrev pub MayFollow : NodeReplicas → (k : ℕ) → Type 0
MayFollow w k = (to : ℕ) × (view_to_follow (w k).node ≡ Some to)

-- that view is later than its own, and a member has asked for it or for a later one
abbrev pub FollowsAMember : (members : ℕ → Bool) → NodeReplicas → (k to : ℕ) → Type 0
FollowsAMember members w k to = (asked_by w k < to) × (j : ℕ) × (members j ≡ true) × (to ≤ asked_by w j)

-- a member that has asked for less than f + 1 members, and has heard so, may follow; who may follows to a later view, and not past all members
abbrev pub NoneLags : Type 0
NoneLags = (f : ℕ) (keys : Keyring) (start : Beginning) (faulty members : ℕ → Bool) (turns : List NodeTurn) (k : ℕ)
    → IsARun f keys start faulty turns → AreMembers f faulty members → members k ≡ true
    → ((these : ℕ → Bool) (view : ℕ) → HaveSupport f members these (reached f keys start turns) view → SupportIsHeard members these (reached f keys start turns) view
    → asked_by (reached f keys start turns) k < view → MayFollow (reached f keys start turns) k)
    × ((to : ℕ) → view_to_follow (reached f keys start turns k).node ≡ Some to → FollowsAMember members (reached f keys start turns) k to)

-- how many members have asked for a later view than one
abbrev pub ahead_of : (f : ℕ) (members : ℕ → Bool) → NodeReplicas → (k : ℕ) → ℕ
ahead_of f members w k = count_below (λ j. members j && nat_lt (asked_by w k) (asked_by w j)) (replicas f)

-- where following ends: a member that may not follow, and has heard of those that have asked for a later view, has at most f before it
abbrev pub FewAreAhead : Type 0
FewAreAhead = (f : ℕ) (keys : Keyring) (start : Beginning) (faulty members : ℕ → Bool) (turns : List NodeTurn) (k : ℕ)
    → IsARun f keys start faulty turns → AreMembers f faulty members → members k ≡ true
    → ((j : ℕ) → members j ≡ true → asked_by (reached f keys start turns) k < asked_by (reached f keys start turns) j
    → asked_by (reached f keys start turns) k < heard (reached f keys start turns k).node j)
    → view_to_follow (reached f keys start turns k).node ≡ None
    → ahead_of f members (reached f keys start turns) k ≤ f

-- where f + 1 members have asked for a view and are heard, and none has asked for a later one, rounds of following lead each to it: as many as the least view
-- that one has asked for lies below it
abbrev pub AllAsk : Type 0
AllAsk = (f : ℕ) (keys : Keyring) (start : Beginning) (faulty members these : ℕ → Bool) (turns : List NodeTurn) (view rounds : ℕ)
    → IsARun f keys start faulty turns → AreMembers f faulty members
    → HaveSupport f members these (reached f keys start turns) view → SupportIsHeard members these (reached f keys start turns) view
    → ((k : ℕ) → members k ≡ true → asked_by (reached f keys start turns) k ≤ view)
    → ((k : ℕ) → members k ≡ true → view ≤ asked_by (reached f keys start turns) k + rounds)
    → IsARun f keys start faulty (turns ++ rounds_of_following f members (reached f keys start turns) rounds)
    × ((k : ℕ) → members k ≡ true → asked_by (reached f keys start (turns ++ rounds_of_following f members (reached f keys start turns) rounds)) k ≡ view)

-- where f + 1 members have asked for a view or later ones, their VIEW-CHANGEs for it come to each other member, by whose keys they are valid, whatever else
-- comes and whoever lies meanwhile, and no member may follow any more, each has asked for the view or a later one
abbrev pub AllFollow : Type 0
AllFollow = (f : ℕ) (keys : Keyring) (start : Beginning) (faulty members these : ℕ → Bool) (turns further : List NodeTurn) (view : ℕ)
    → IsARun f keys start faulty (turns ++ further) → AreMembers f faulty members
    → HaveSupport f members these (reached f keys start turns) view
    → ChangesCome keys members these view further
    → ((k : ℕ) → members k ≡ true → view_to_follow (reached f keys start (turns ++ further) k).node ≡ None)
    → (k : ℕ) → members k ≡ true → view ≤ asked_by (reached f keys start (turns ++ further)) k
