-- What users read from one server, by what their clients sign and accept.
use Rattle.std.specs.Prelude.{◌≡◌, ℕ, false, List, ◌∷◌, ◌++◌, length, Some}
use Rattle.bfs_model.specs.Bytes.Arguments.{read, write}
use Rattle.bfs_model.specs.Bytes.Attributes.{Attributes}
use Rattle.bfs_model.specs.Bytes.Call as rpc
use Rattle.bfs_model.specs.Bytes.Replies.{contents, results, success}
use Rattle.bfs_model.specs.Server.WellFormed.{IsWellFormed}
use Rattle.bfs_messages.specs.Messages.{Batch, Request}
use Rattle.bfs_agreement.specs.Histories.{IsIn}
use Rattle.bfs_one_server.specs.Laws.{AreAll, HasAccepted, client_after, history}
use Rattle.bfs_one_server.specs.Premises.{IsARun}
use Rattle.bfs_one_server.specs.Reading.{IsDone, NoneRewrites, Spells}
use Rattle.bfs_one_server.specs.Serving.{Effect, IsOf}
use Rattle.bfs_one_server.specs.Worlds.{Act, Deployment, Signs, after_acts, new_world}

-- Of the requests of two correct clients, the later one signed once a result of the earlier one was accepted
pub record IsBehind (d : Deployment) (before after : List Act) (earlier later : Request) (told gave : List ℕ) : Type 0 where
  pub run : IsARun d (before ++ Signs later ∷ after)
  pub honest : d.liar earlier.client ≡ false
  pub honest_later : d.liar later.client ≡ false
  pub signed : IsIn earlier (client_after d before earlier.client).signed
  pub accepted : HasAccepted d before earlier.client earlier.timestamp told
  pub accepted_later : HasAccepted d (before ++ Signs later ∷ after) later.client later.timestamp gave

-- their places in the one history, with what stands between them
pub record StandBehind (d : Deployment) (acts : List Act) (earlier later : Request) (told gave : List ℕ) : Type 0 where
  pub batches : List Batch
  pub are : AreAll d.faulty (after_acts (new_world d) acts).nodes batches
  pub front : List Effect
  pub one : Effect
  pub between : List Effect
  pub other : Effect
  pub back : List Effect
  pub places : history d batches ≡ front ++ one ∷ (between ++ other ∷ back)
  pub one_is : one.request ≡ earlier
  pub one_told : one.reply ≡ told
  pub other_is : other.request ≡ later
  pub other_gave : other.reply ≡ gave

-- a WRITE that was accepted as done, and a READ behind it of as many bytes from there that is accepted as done: where no request between their
-- places rewrites the file, whichever clients they are of, the READ gives what was written (RFC 1094 sections 2.2.7 and 2.2.9)
pub record ReadsWrites (d : Deployment) (acts : List Act) (earlier later : Request) (told gave : List ℕ) : Type 0 where
  pub stand : StandBehind d acts earlier later told gave
  pub gives : (one other : rpc.Request) (id offset : ℕ) (written : List ℕ)
      → Spells stand.one one (write (Some id) offset written) → IsDone stand.one
      → NoneRewrites id stand.between
      → Spells stand.other other (read (Some id) offset (length written)) → IsDone stand.other
      → (of : Attributes) × (gave ≡ success other.xid (results (contents of written)))

abbrev pub AcceptedWritesAreRead : Type 0
AcceptedWritesAreRead = (d : Deployment) (before after : List Act) (earlier later : Request) (told gave : List ℕ) → IsWellFormed d.files
    → IsBehind d before after earlier later told gave → ReadsWrites d (before ++ Signs later ∷ after) earlier later told gave

-- However often a request was sent and accepted, it takes effect at one place, and each result is the reply there: so a CREATE that is sent again
-- makes one file
pub record TakesEffectOnce (d : Deployment) (acts : List Act) (client timestamp : ℕ) (result : List ℕ) : Type 0 where
  pub batches : List Batch
  pub are : AreAll d.faulty (after_acts (new_world d) acts).nodes batches
  pub effect : Effect
  pub there : IsIn effect (history d batches)
  pub is : IsOf effect client timestamp result
  pub one : (other : Effect) → IsIn other (history d batches) → other.request.client ≡ client → other.request.timestamp ≡ timestamp → other ≡ effect
  pub one_result : (other : List ℕ) → HasAccepted d acts client timestamp other → other ≡ result

abbrev pub RequestsTakeEffectOnce : Type 0
RequestsTakeEffectOnce = (d : Deployment) (acts : List Act) (client timestamp : ℕ) (result : List ℕ) → IsARun d acts → d.liar client ≡ false
    → HasAccepted d acts client timestamp result → TakesEffectOnce d acts client timestamp result
