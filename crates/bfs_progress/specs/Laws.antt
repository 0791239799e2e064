-- The statements that are proved of the definitions: contracts of functions of src/laws.rt, which do nothing.
use Rattle.std.specs.Prelude.{◌≡◌, ℕ, ◌+◌, ◌*◌, ◌<◌, ◌≤◌, Bool, true, List, ◌++◌}
use Rattle.bfs_votes.specs.Votes.{Told, count_below, replicas, primary}
use Rattle.bfs_votes.specs.Tags.{pre_prepare_tag}
use Rattle.bfs_agreement.specs.Histories.{IsIn, ViewChange, World}
use Rattle.bfs_agreement.specs.Calls.{Orders, ChangesView, HeaderTurn, next_number, is_new_view, after_header_turn, after_header_turns, AreAuthentic}
use Rattle.bfs_progress.specs.Premises.{AreOffered, IsARun, reached}
use Rattle.bfs_progress.specs.Members.{AreTogether, HasRoom, AllIsHeard, IsCommitted, HaveAsked, MayMeet, AreChangesOf, MakeNewView}
use Rattle.bfs_progress.specs.Exchanges.{IsRound, exchange, all_time_out, entrance}
use Rattle.bfs_progress.specs.Following.{may_follow, follows, AskedIsHeard, SomeHaveAsked}
use Rattle.bfs_progress.specs.Ways.{AreTurnsOf, CanExecute, IsWay}

-- In a view -----------------------------------------------------------------------------------------------------------

-- a number above all low marks for which the primary has a PRE-PREPARE, and of which nothing is unheard, is committed at each
abbrev pub QuietIsCommitted : Type 0
QuietIsCommitted = (f : ℕ) (null : List ℕ) (faulty members : ℕ → Bool) (turns : List HeaderTurn) (view number : ℕ) (digest : List ℕ)
    → IsARun f null faulty turns
    → AreTogether f faulty members (reached f null turns) view
    → ((k : ℕ) → members k ≡ true → (reached f null turns k).now.low < number)
    → Told (reached f null turns (primary f view)).now.log pre_prepare_tag (primary f view) view number digest
    → AllIsHeard members (reached f null turns) view number
    → IsCommitted f members (reached f null turns) view number digest

-- where they stay together and have room, and what they have said of such a number comes to each in three rounds, whatever else comes and whoever lies
-- meanwhile, it is committed at each
abbrev pub RoundsCommit : Type 0
RoundsCommit = (f : ℕ) (null : List ℕ) (faulty members : ℕ → Bool) (turns one two three : List HeaderTurn) (view number : ℕ) (digest : List ℕ)
    → IsARun f null faulty (turns ++ (one ++ (two ++ three)))
    → AreTogether f faulty members (reached f null turns) view
    → AreTogether f faulty members (reached f null (turns ++ (one ++ (two ++ three)))) view
    → HasRoom members (reached f null turns) number
    → HasRoom members (reached f null (turns ++ (one ++ (two ++ three)))) number
    → Told (reached f null turns (primary f view)).now.log pre_prepare_tag (primary f view) view number digest
    → IsRound members (reached f null turns) view number one
    → IsRound members (reached f null (turns ++ one)) view number two
    → IsRound members (reached f null ((turns ++ one) ++ two)) view number three
    → IsCommitted f members (reached f null (turns ++ (one ++ (two ++ three)))) view number digest

-- the exchange of a number for which the primary has a PRE-PREPARE is of what was sent, and leaves it committed at each
abbrev pub ExchangeCommits : Type 0
ExchangeCommits = (f : ℕ) (null : List ℕ) (faulty members : ℕ → Bool) (turns : List HeaderTurn) (view number : ℕ) (digest : List ℕ)
    → IsARun f null faulty turns
    → AreTogether f faulty members (reached f null turns) view
    → HasRoom members (reached f null turns) number
    → Told (reached f null turns (primary f view)).now.log pre_prepare_tag (primary f view) view number digest
    → AreAuthentic f null faulty (reached f null turns) (exchange f members view number digest)
    × AreTogether f faulty members (after_header_turns f null (reached f null turns) (exchange f members view number digest)) view
    × IsCommitted f members (after_header_turns f null (reached f null turns) (exchange f members view number digest)) view number digest

-- what the primary proposes next is committed at each behind an exchange
abbrev pub ProposalCommits : Type 0
ProposalCommits = (f : ℕ) (null : List ℕ) (faulty members : ℕ → Bool) (turns : List HeaderTurn) (view : ℕ) (digest : List ℕ)
    → IsARun f null faulty turns
    → AreTogether f faulty members (reached f null turns) view
    → HasRoom members (reached f null turns) (next_number (reached f null turns (primary f view)).now)
    → IsCommitted f members
    (after_header_turns f null (after_header_turn f null (reached f null turns) (record { who = primary f view; call = Orders digest }))
    (exchange f members view (next_number (reached f null turns (primary f view)).now) digest))
    view (next_number (reached f null turns (primary f view)).now) digest

-- Between views -------------------------------------------------------------------------------------------------------

-- who have asked for one view have sent VIEW-CHANGEs that make a NEW-VIEW; and by any that make one, those of liars among them, they enter it together
abbrev pub EntersTogether : Type 0
EntersTogether = (f : ℕ) (null : List ℕ) (faulty members : ℕ → Bool) (turns : List HeaderTurn) (view : ℕ)
    → IsARun f null faulty turns
    → HaveAsked f faulty members (reached f null turns) view
    → ((changes : List ViewChange) × AreChangesOf members (reached f null turns) view changes × MakeNewView f faulty (reached f null turns) view changes)
    × ((changes : List ViewChange) → MakeNewView f faulty (reached f null turns) view changes
    → AreAuthentic f null faulty (reached f null turns) (entrance f members view changes)
    × AreOffered f null faulty (reached f null turns) (entrance f members view changes)
    × AreTogether f faulty members (after_header_turns f null (reached f null turns) (entrance f members view changes)) view)

-- where a NEW-VIEW comes to each, of whatever VIEW-CHANGEs, and none asks for a later view meanwhile, they are together in it, whatever else comes
abbrev pub NewViewsAreEntered : Type 0
NewViewsAreEntered = (f : ℕ) (null : List ℕ) (faulty members : ℕ → Bool) (turns further : List HeaderTurn) (view : ℕ)
    → IsARun f null faulty (turns ++ further)
    → HaveAsked f faulty members (reached f null turns) view
    → ((k : ℕ) → members k ≡ true → (reached f null (turns ++ further) k).now.asked ≡ view)
    → ((k : ℕ) → members k ≡ true
    → (changes : List ViewChange) × (is_new_view f view changes ≡ true) × IsIn (record { who = k; call = ChangesView view changes }) further)
    → AreTogether f faulty members (reached f null (turns ++ further)) view

-- who asks for less than f + 1 of them have asked for may follow to there; and where one may follow to, one of them has asked for, whatever others claim
abbrev pub NoneLags : Type 0
NoneLags = (f : ℕ) (members : ℕ → Bool) (w : World) (heard : ℕ → ℕ → ℕ) (k view : ℕ)
    → 2 * f + 1 ≤ count_below members (replicas f)
    → AskedIsHeard members w heard
    → members k ≡ true
    → (SomeHaveAsked f members w view → (w k).now.asked < view → may_follow f k (heard k) view ≡ true)
    × (may_follow f k (heard k) view ≡ true → (j : ℕ) × (members j ≡ true) × (view ≤ (w j).now.asked))

-- so where f + 1 of them have asked for a view, and none for a later one, all ask for it by following
abbrev pub AllAsk : Type 0
AllAsk = (f : ℕ) (null : List ℕ) (faulty members : ℕ → Bool) (turns : List HeaderTurn) (heard : ℕ → ℕ → ℕ) (view : ℕ)
    → IsARun f null faulty turns
    → MayMeet f faulty members (reached f null turns) view
    → AskedIsHeard members (reached f null turns) heard
    → SomeHaveAsked f members (reached f null turns) view
    → IsARun f null faulty (turns ++ all_time_out members (reached f null turns) (follows f heard) (replicas f))
    × HaveAsked f faulty members (reached f null (turns ++ all_time_out members (reached f null turns) (follows f heard) (replicas f))) view

-- From every state ----------------------------------------------------------------------------------------------------

-- by turns of theirs, in which nothing comes but what was sent, they are together in any later view that one of them leads
abbrev pub NoStateIsADeadEnd : Type 0
NoStateIsADeadEnd = (f : ℕ) (null : List ℕ) (faulty members : ℕ → Bool) (turns : List HeaderTurn) (view : ℕ)
    → IsARun f null faulty turns
    → MayMeet f faulty members (reached f null turns) view
    → (further : List HeaderTurn) × AreTurnsOf members further
    × IsARun f null faulty (turns ++ further)
    × AreTogether f faulty members (reached f null (turns ++ further)) view

-- and there is a way on, to any later view that one of them leads, on which a batch of any digest is committed at each, and each can execute up to it
abbrev pub EachBatchCanBeCommitted : Type 0
EachBatchCanBeCommitted = (f : ℕ) (null : List ℕ) (faulty members : ℕ → Bool) (turns : List HeaderTurn) (view : ℕ) (digest : List ℕ)
    → IsARun f null faulty turns
    → MayMeet f faulty members (reached f null turns) view
    → (further : List HeaderTurn) × IsWay f null faulty members (reached f null turns) further
    × ((number : ℕ) × IsCommitted f members (after_header_turns f null (reached f null turns) further) view number digest
    × CanExecute f members (after_header_turns f null (reached f null turns) further) number)
