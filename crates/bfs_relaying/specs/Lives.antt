-- Lives of a relay: each begins at what is reserved, and takes turns until its process ends.
use Rattle.std.specs.Prelude.{◌≡◌, ℕ, ◌<◌, ◌≤◌, List, [], ◌∷◌, All, Some}
use Rattle.std.specs.List.{AllByRecursion}
use Rattle.bfs_auth.specs.Keys.{Keys}
use Rattle.bfs_clients.specs.Clients.{Clients, signed_request}
use Rattle.bfs_filter.specs.Runs.{Exchange, TakesAll}
use Rattle.bfs_frames.specs.declared.parcels.To.{To}
use Rattle.bfs_frames.specs.declared.parcels.To.TheVariants.{Replica, Replicas}
use Rattle.bfs_messages.specs.Spelling.{signed_text}
use Rattle.bfs_messages.specs.declared.message.Message.{Message}
use Rattle.bfs_messages.specs.declared.signed.Signed.{Signed}
use Rattle.bfs_relay.specs.GivenKeys.{clients_with}
use Rattle.bfs_frames.specs.Parcels.{Told, told_by}
use Rattle.bfs_relaying.specs.Reserving.{Reserving, Takes, begun}

-- What is told -----------------------------------------------------------------------------------------------------------

-- the text of a request that a client signed with a timestamp from low on and below high
pub record IsRequestWithin (clients : Clients) (low high : ℕ) (text : List ℕ) : Type 0 where
  pub client : ℕ
  pub timestamp : ℕ
  pub call : List ℕ
  pub signed : Signed Message
  pub is_signed : signed_request clients (record { client = client; timestamp = timestamp; call = call }) ≡ Some signed
  pub is_text : text ≡ signed_text signed
  pub from : low ≤ timestamp
  pub below : timestamp < high

-- all that goes to replicas is such requests
abbrev pub IsWithinTo : Clients → (low high : ℕ) → To → (payload : List ℕ) → Type 0
IsWithinTo clients low high Replicas payload = IsRequestWithin clients low high payload
IsWithinTo clients low high (Replica number) payload = IsRequestWithin clients low high payload
IsWithinTo clients low high _ payload = Unit {0}

abbrev pub IsWithin : Clients → (low high : ℕ) → Told → Type 0
IsWithin clients low high told = IsWithinTo clients low high told.to told.payload

-- in all turns
abbrev pub TellsWithin : Clients → (low high : ℕ) → List Exchange → Type 0
TellsWithin clients low high exchanges = AllByRecursion (λ exchange. All (λ parcel. IsWithin clients low high (told_by parcel)) exchange.parcels) exchanges

-- Lives -------------------------------------------------------------------------------------------------------------------

pub record Life : Type 0 where
  pub f : ℕ
  pub keys : List Keys
  -- what was reserved when it began
  pub from : ℕ
  -- the turns that it took, with what it told or was to tell when its process ended
  pub exchanges : List Exchange
  -- the relay behind them
  pub last : Reserving

abbrev pub IsLived : Life → Type 0
IsLived life = TakesAll Takes (begun life.f life.keys life.from) life.exchanges life.last

-- each life begins at what is reserved when it begins: what was reserved last, or more
abbrev pub Follow : (reserved : ℕ) → List Life → Type 0
Follow reserved [] = Unit {0}
Follow reserved (life ∷ lives) = (reserved ≤ life.from) × IsLived life × Follow life.last.reserved lives

-- the timestamps of each life are below those of the lives behind it
abbrev pub Rise : (reserved : ℕ) → List Life → Type 0
Rise reserved [] = Unit {0}
Rise reserved (life ∷ lives) = TellsWithin (clients_with life.f life.keys) reserved life.last.reserved life.exchanges × Rise life.last.reserved lives

-- over all lives, whatever comes; and since a life may end behind any turn, what leaves in a turn is below what is reserved then
abbrev pub TimestampsRise : Type 0
TimestampsRise = (reserved : ℕ) (lives : List Life) → Follow reserved lives → Rise reserved lives
