-- The statements that are proved of the definitions: contracts of functions of src/laws.rt, which do nothing.
use Rattle.std.specs.Prelude.{◌≡◌, ℕ, ◌+◌, ◌<◌, ◌≤◌, Bool, true, List, ◌++◌, Some}
use Rattle.lms.specs.Signers.{HssKey}
use Rattle.bfs_auth.specs.Authenticators.{passes, signature}
use Rattle.bfs_auth.specs.Places.{place_in}
use Rattle.bfs_auth.specs.declared.places.Place.{Place}
use Rattle.bfs_auth.specs.declared.principals.Principal.TheVariants.{Replica}
use Rattle.bfs_messages.specs.Messages as model
use Rattle.bfs_messages.specs.declared.signed.Signed.{Signed}
use Rattle.bfs_model.specs.Server.Stored.{IsTime}
use Rattle.bfs_model.specs.Server.Tree.{Time}
use Rattle.bfs_votes.specs.Votes.{replicas}
use Rattle.bfs_agreement.specs.Histories.{IsIn}
use Rattle.bfs_nodes_agree.specs.Nodes.Premises.{AreShared}
use Rattle.bfs_nodes_agree.specs.Nodes.Replicas.{Beginning, Keyring, NodeReplicas, NodeTurn}
use Rattle.bfs_nodes_progress.specs.Following.{AreMembers, asked_by}
use Rattle.bfs_nodes_progress.specs.Runs.{IsARun, reached}
use Rattle.bfs_liveness.specs.LawsOfProgress.{AreServedBehind, IsServed}
use Rattle.bfs_liveness.specs.Ways.{AreFairTo, HasFuture, HaveViews, IsWay}
use Rattle.bfs_passing.specs.Alike.{PassAlike}
use Rattle.bfs_passing.specs.Keys.{HasKey, IsInTime}
use Rattle.bfs_passing.specs.Own.{OwnIsInTime, OwnPasses, SignInTime}
use Rattle.bfs_passing.specs.Signers.{KnowSigners, ShareKeys}

-- where replicas know the same public keys, what is signed passes at each of them or at none
abbrev pub SignedPassesAlike : Type 0
SignedPassesAlike = (f : ℕ) (keys : Keyring) (i j : ℕ) → KnowSigners f keys → AreShared f keys → i < replicas f → j < replicas f → PassAlike (keys i) (keys j)

-- what a replica signs passes by its own keys, in the views and of the numbers that its key has
abbrev pub SignedInTimePasses : Type 0
SignedInTimePasses = (f : ℕ) (keys : Keyring) (know : KnowSigners f keys) (i : ℕ) (key : HssKey) (text : List ℕ) (place : Place) → i < replicas f → HasKey f keys know i key
    → place_in text ≡ Some place → IsInTime key place → passes (keys i) (Replica i) text (signature (keys i) text) ≡ true

-- so what members have signed does, where each has such a key, and all of its own is in time
abbrev pub OwnSignaturesPass : Type 0
OwnSignaturesPass = (f : ℕ) (keys : Keyring) (know : KnowSigners f keys) (members : ℕ → Bool) (key : ℕ → HssKey) (w : NodeReplicas) → ((i : ℕ) → members i ≡ true → i < replicas f)
    → ((i : ℕ) → members i ≡ true → HasKey f keys know i (key i)) → ShareKeys keys members → OwnIsInTime members key w → OwnPasses keys members w

-- so members hear one another, where what each has signed passes by its own keys: what it has of others it has checked
abbrev pub SignersAreHeard : Type 0
SignersAreHeard = (f : ℕ) (keys : Keyring) (start : Beginning) (faulty members : ℕ → Bool) (turns : List NodeTurn)
    → KnowSigners f keys → ShareKeys keys members → IsARun f keys start faulty turns → AreMembers f faulty members → SignInTime f keys start faulty members turns → AreFairTo f keys start faulty members turns

-- from every state that nodes can come into, whoever lies, there is a way behind which each executes all that waits at the primary of a view
abbrev pub EachStateIsServedWhereAllSign : Type 0
EachStateIsServedWhereAllSign = (f : ℕ) (keys : Keyring) (start : Beginning) (faulty members : ℕ → Bool) (turns : List NodeTurn) (time : Time)
    → KnowSigners f keys → ShareKeys keys members → IsARun f keys start faulty turns → AreMembers f faulty members → SignInTime f keys start faulty members turns
    → HasFuture f members (reached f keys start turns) → IsTime time
    → (view : ℕ) × (before : List NodeTurn) × (latest : ℕ) × (members latest ≡ true) × (view ≤ asked_by (reached f keys start turns) latest + (f + 1))
    × AreServedBehind f keys start faulty members turns before view time

-- one behind which each request that waits at every member is served
abbrev pub EachRequestIsExecutedWhereAllSign : Type 0
EachRequestIsExecutedWhereAllSign = (f : ℕ) (keys : Keyring) (start : Beginning) (faulty members : ℕ → Bool) (turns : List NodeTurn) (time : Time)
    → KnowSigners f keys → ShareKeys keys members → IsARun f keys start faulty turns → AreMembers f faulty members → SignInTime f keys start faulty members turns
    → HasFuture f members (reached f keys start turns) → IsTime time
    → (way : List NodeTurn)
    × IsWay members (reached f keys start turns) way
    × IsARun f keys start faulty (turns ++ way)
    × ((one : Signed model.Request) → ((k : ℕ) → members k ≡ true → IsIn one (reached f keys start turns k).node.pending)
    → IsServed start faulty members (reached f keys start (turns ++ way)) one)

-- and for each member one behind which each request that waits at that one is served
abbrev pub WhatWaitsAtOneIsExecutedWhereAllSign : Type 0
WhatWaitsAtOneIsExecutedWhereAllSign = (f : ℕ) (keys : Keyring) (start : Beginning) (faulty members : ℕ → Bool) (turns : List NodeTurn) (k : ℕ) (time : Time)
    → KnowSigners f keys → ShareKeys keys members → IsARun f keys start faulty turns → AreMembers f faulty members → SignInTime f keys start faulty members turns
    → HasFuture f members (reached f keys start turns) → HaveViews members (reached f keys start turns) (replicas f) → IsTime time → members k ≡ true
    → (way : List NodeTurn)
    × IsWay members (reached f keys start turns) way
    × IsARun f keys start faulty (turns ++ way)
    × ((one : Signed model.Request) → IsIn one (reached f keys start turns k).node.pending → IsServed start faulty members (reached f keys start (turns ++ way)) one)
