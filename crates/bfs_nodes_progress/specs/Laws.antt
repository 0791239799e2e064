-- The statements that are proved of the definitions: contracts of functions of src/laws.rt, which do nothing.
use Rattle.std.specs.Prelude.{◌≡◌, ℕ, ◌+◌, ◌-◌, ◌<◌, ◌≤◌, Bool, true, false, is_some, List, ◌∷◌, ◌++◌, None}
use Rattle.bfs_messages.specs.Signing.{as_message}
use Rattle.bfs_messages.specs.declared.signed.Signed.{Signed}
use Rattle.bfs_messages.specs.declared.message.Message.TheVariants.{Order}
use Rattle.bfs_messages.specs.declared.order_messages.OrderMessage.{OrderMessage}
use Rattle.bfs_model.specs.Server.Limits.{log_size}
use Rattle.bfs_model.specs.Server.Tree.{Time}
use Rattle.bfs_votes.specs.Tags.{pre_prepare_tag}
use Rattle.bfs_votes.specs.Votes.{Told, primary}
use Rattle.bfs_log.specs.Logs.{headers}
use Rattle.bfs_log.specs.Headers.{header}
use Rattle.bfs_auth.specs.Keys.{Keys}
use Rattle.bfs_order.specs.Replica.Accepting.{answers}
use Rattle.bfs_order.specs.Replica.Proposing.{batch_digest, next_number}
use Rattle.bfs_order.specs.Replica.Resending.{own_answers, own_message}
use Rattle.bfs_order.specs.Replica.States.{State, known}
use Rattle.bfs_order.specs.declared.resending.Lag.{Lag}
use Rattle.bfs_agreement.specs.Calls.{answers_in}
use Rattle.bfs_agreement.specs.Histories.{IsIn}
use Rattle.bfs_node.specs.Changing.{may_begin}
use Rattle.bfs_node.specs.Nodes.{Node}
use Rattle.bfs_node.specs.Proposing.{pending_batch, proposal_refusal}
use Rattle.bfs_node.specs.Resending.{resent}
use Rattle.bfs_progress.specs.Members.{IsQuorum}
use Rattle.bfs_nodes_agree.specs.Nodes.Replicas.{Beginning, Keyring, NodeTurn}
use Rattle.bfs_nodes_agree.specs.Nodes.Steps.{Proposes, outcome}
use Rattle.bfs_nodes_progress.specs.Runs.{IsARun, order_of, reached}
use Rattle.bfs_nodes_progress.specs.Members.{AllIsHeard, AreTogether, HasAnswered, HasRoom, IsCommitted, IsProposed}
use Rattle.bfs_nodes_progress.specs.Rounds.{IsRound}
use Rattle.bfs_nodes_progress.specs.Begun.{AllAsk, ChangesCome, NewViewIsGiven}
use Rattle.bfs_nodes_progress.specs.Entering.{HaveAsked, NewViewsCome}
use Rattle.bfs_nodes_progress.specs.Giving.{GivesChange, GivesNewView}
use Rattle.bfs_nodes_progress.specs.Executing.{AreCommitted, executing}
use Rattle.bfs_nodes_progress.specs.Requests.{HasExecuted, IsReadyFor, executions, proposing}

-- What is said --------------------------------------------------------------------------------------------------------

-- what an order answers is, by headers, what the theory has a replica answer
abbrev pub AnswersAreTheTheorys : Type 0
AnswersAreTheTheorys = (keys : Keys) (s : State) (m : Signed OrderMessage) → headers (answers keys s m) ≡ answers_in s.f s.me (header m ∷ known s) (header m)

-- each correct node has answered what it has
abbrev pub AnswersAreSaid : Type 0
AnswersAreSaid = (f : ℕ) (keys : Keyring) (start : Beginning) (faulty : ℕ → Bool) (turns : List NodeTurn) → IsARun f keys start faulty turns
    → (k : ℕ) → faulty k ≡ false → HasAnswered (order_of (reached f keys start turns) k)

-- of a number it gives again: the PRE-PREPARE to one that has not executed it, PREPARE and COMMIT to one where it isn't stable
pub record GivesVotes (node : Node) (to : Lag) (number : ℕ) : Type 0 where
  pub proposal : to.last < number → (m : Signed OrderMessage) → IsIn m (own_message node.order pre_prepare_tag node.order.view number) → IsIn (as_message Order m) (resent node to)
  pub answers : to.stable < number → (m : Signed OrderMessage) → IsIn m (own_answers node.order number) → IsIn (as_message Order m) (resent node to)

-- and gives that again to one that tells that it is in the view
abbrev pub VotesAreResent : Type 0
VotesAreResent = (node : Node) (to : Lag) (number : ℕ) → node.order.asked ≤ node.order.view
    → to.view ≡ node.order.view → node.order.low ≤ number → number ≤ node.order.low + log_size → GivesVotes node to number

-- and what the primary proposes stands in its log, for its next number: a batch of the requests that wait
abbrev pub ProposalsStand : Type 0
ProposalsStand = (node : Node) (time : Time) → proposal_refusal node ≡ None
    → Told (known (outcome node (Proposes time)).now.order) pre_prepare_tag node.order.me node.order.view (next_number node.order) (batch_digest (pending_batch node time))

-- In a view -----------------------------------------------------------------------------------------------------------

-- a number above all low marks for which the primary has a PRE-PREPARE, and of which nothing is unheard, is committed at each
abbrev pub QuietIsCommitted : Type 0
QuietIsCommitted = (f : ℕ) (keys : Keyring) (start : Beginning) (faulty members : ℕ → Bool) (turns : List NodeTurn) (view number : ℕ) (digest : List ℕ)
    → IsARun f keys start faulty turns
    → AreTogether f faulty members (reached f keys start turns) view
    → ((k : ℕ) → members k ≡ true → (order_of (reached f keys start turns) k).low < number)
    → IsProposed f (reached f keys start turns) view number digest
    → AllIsHeard members (reached f keys start turns) view number
    → IsCommitted members (reached f keys start turns) view number digest

-- where they stay together and have room, and what they have said of such a number comes to each in three rounds, whatever else comes and whoever lies
-- meanwhile, it is committed at each
abbrev pub RoundsCommit : Type 0
RoundsCommit = (f : ℕ) (keys : Keyring) (start : Beginning) (faulty members : ℕ → Bool) (turns one two three : List NodeTurn) (view number : ℕ) (digest : List ℕ)
    → IsARun f keys start faulty (turns ++ (one ++ (two ++ three)))
    → AreTogether f faulty members (reached f keys start turns) view
    → AreTogether f faulty members (reached f keys start (turns ++ (one ++ (two ++ three)))) view
    → HasRoom members (reached f keys start turns) number
    → HasRoom members (reached f keys start (turns ++ (one ++ (two ++ three)))) number
    → IsProposed f (reached f keys start turns) view number digest
    → IsRound members (reached f keys start turns) number one
    → IsRound members (reached f keys start (turns ++ one)) number two
    → IsRound members (reached f keys start ((turns ++ one) ++ two)) number three
    → IsCommitted members (reached f keys start (turns ++ (one ++ (two ++ three)))) view number digest

-- Between views -------------------------------------------------------------------------------------------------------

-- of the view that it leads, has asked for and not entered, a node keeps VIEW-CHANGEs of fewer than 2f + 1 replicas
abbrev pub WhatIsDueIsBegun : Type 0
WhatIsDueIsBegun = (f : ℕ) (keys : Keyring) (start : Beginning) (turns : List NodeTurn) (k : ℕ) → may_begin (reached f keys start turns k).node ≡ false

-- where each member has asked for a view, and for none later, and a VIEW-CHANGE of each other one has come to its primary, right by its keys, it has begun
-- the view, whatever else has come, before or between them
abbrev pub ViewsAreBegun : Type 0
ViewsAreBegun = (f : ℕ) (keys : Keyring) (start : Beginning) (faulty members : ℕ → Bool) (turns : List NodeTurn) (view : ℕ)
    → IsARun f keys start faulty turns
    → IsQuorum f faulty members view
    → AllAsk members (reached f keys start turns) view
    → ChangesCome f keys members view turns
    → (order_of (reached f keys start turns) (primary f view)).view ≡ view

-- where its primary has begun the view, a NEW-VIEW that is right by its keys comes to each other member, of whatever VIEW-CHANGEs, and none asks for a
-- later view meanwhile, they are together in it, whatever else comes
abbrev pub NewViewsAreEntered : Type 0
NewViewsAreEntered = (f : ℕ) (keys : Keyring) (start : Beginning) (faulty members : ℕ → Bool) (turns further : List NodeTurn) (view : ℕ)
    → IsARun f keys start faulty (turns ++ further)
    → HaveAsked f faulty members (reached f keys start turns) view
    → ((k : ℕ) → members k ≡ true → (order_of (reached f keys start (turns ++ further)) k).asked ≡ view)
    → (order_of (reached f keys start (turns ++ further)) (primary f view)).view ≡ view
    → NewViewsCome f keys members view further
    → AreTogether f faulty members (reached f keys start (turns ++ further)) view

-- a node that has asked for a view, and not entered it, gives its VIEW-CHANGE for it again
abbrev pub ChangesAreGiven : Type 0
ChangesAreGiven = (f : ℕ) (keys : Keyring) (start : Beginning) (faulty : ℕ → Bool) (turns : List NodeTurn) (k : ℕ) → IsARun f keys start faulty turns
    → (order_of (reached f keys start turns) k).view < (order_of (reached f keys start turns) k).asked → GivesChange (reached f keys start turns k).node

-- and one that has entered a view gives the NEW-VIEW by which it has, its own where it leads it
abbrev pub NewViewsAreGiven : Type 0
NewViewsAreGiven = (f : ℕ) (keys : Keyring) (start : Beginning) (faulty : ℕ → Bool) (turns : List NodeTurn) (k : ℕ) → IsARun f keys start faulty turns
    → 0 < (order_of (reached f keys start turns) k).view → GivesNewView f faulty (reached f keys start turns) k

-- where members have asked for a view, a VIEW-CHANGE of each has come to its primary, then its NEW-VIEW comes to each, right by their keys, and none asks
-- for a later view meanwhile, they are together in it, whatever else comes
abbrev pub EntersTogether : Type 0
EntersTogether = (f : ℕ) (keys : Keyring) (start : Beginning) (faulty members : ℕ → Bool) (turns one two : List NodeTurn) (view : ℕ)
    → IsARun f keys start faulty (turns ++ (one ++ two))
    → HaveAsked f faulty members (reached f keys start turns) view
    → AllAsk members (reached f keys start (turns ++ (one ++ two))) view
    → ChangesCome f keys members view (turns ++ one)
    → NewViewIsGiven f keys members (reached f keys start (turns ++ one)) view two
    → AreTogether f faulty members (reached f keys start (turns ++ (one ++ two))) view

-- Executing -----------------------------------------------------------------------------------------------------------

-- what is committed behind the number last executed is executed by as many calls, where the file system is live
abbrev pub CommittedIsExecuted : Type 0
CommittedIsExecuted = (f : ℕ) (keys : Keyring) (start : Beginning) (faulty : ℕ → Bool) (turns : List NodeTurn) (k count : ℕ)
    → IsARun f keys start faulty turns → faulty k ≡ false
    → is_some (reached f keys start turns k).node.files ≡ true
    → AreCommitted (reached f keys start turns k).node count
    → (executing count (reached f keys start turns k).node).order.last ≡ (order_of (reached f keys start turns) k).last + count

-- All of it -----------------------------------------------------------------------------------------------------------

-- where members are together in a view, its primary proposes the requests that wait there, they stay together, the number stays between the marks of each,
-- and what they say of it comes in three rounds, whatever else comes, then each of them that is ready for the number executes the batch by so many calls
abbrev pub RequestsAreExecuted : Type 0
RequestsAreExecuted = (f : ℕ) (keys : Keyring) (start : Beginning) (faulty members : ℕ → Bool) (turns one two three : List NodeTurn) (view : ℕ) (time : Time) (k : ℕ)
    → let node = (reached f keys start turns (primary f view)).node in
    let number = next_number node.order in
    let proposed = turns ++ proposing f view time in
    let end = proposed ++ (one ++ (two ++ three)) in
    IsARun f keys start faulty end
    → proposal_refusal node ≡ None
    → AreTogether f faulty members (reached f keys start proposed) view
    → AreTogether f faulty members (reached f keys start end) view
    → HasRoom members (reached f keys start proposed) number
    → HasRoom members (reached f keys start end) number
    → IsRound members (reached f keys start proposed) number one
    → IsRound members (reached f keys start (proposed ++ one)) number two
    → IsRound members (reached f keys start ((proposed ++ one) ++ two)) number three
    → members k ≡ true
    → is_some (reached f keys start end k).node.files ≡ true
    → IsReadyFor (reached f keys start end k).node number
    → HasExecuted (reached f keys start (end ++ executions k (number - (order_of (reached f keys start end) k).last)) k) number (batch_digest (pending_batch node time))
