-- Lives of a relay that signs: each begins at the indexes that are reserved, and takes turns until its process ends.
use Rattle.std.specs.Prelude.{◌≡◌, ℕ, ◌+◌, ◌≤◌, List, [], ◌∷◌, ◌++◌, map}
use Rattle.std.specs.List.{flat_map}
use Rattle.lms.specs.Signers.{HssKey}
use Rattle.bfs_auth.specs.Keys.{Keys}
use Rattle.bfs_filter.specs.Runs.{Exchange, TakesAll}
use Rattle.bfs_frames.specs.declared.frames.Turn.{Turn}
use Rattle.bfs_relay.specs.Relays.{Relay}
use Rattle.bfs_relay.specs.Turns.{turned}
use Rattle.bfs_signing.specs.Indexes.{Use, next_after, uses_of}
use Rattle.bfs_signing.specs.Requests.{signed_texts}
use Rattle.bfs_signing.specs.Signing.{Signing, Signs, begun}

pub record Life : Type 0 where
  pub f : ℕ
  pub keys : List Keys
  -- the timestamps that were reserved when it began
  pub from : ℕ
  pub key : HssKey
  -- the indexes that were reserved then
  pub first : ℕ
  -- the turns that it took, with what it told or was to tell when its process ended
  pub exchanges : List Exchange
  -- the relay behind them
  pub last : Signing

abbrev pub begun_in : Life → Signing
begun_in life = begun life.f life.keys life.from life.key life.first

abbrev pub IsLived : Life → Type 0
IsLived life = TakesAll Signs (begun_in life) life.exchanges life.last

-- each life begins at the indexes that are reserved when it begins: those that were last, or more
abbrev pub Follow : (reserved : ℕ) → List Life → Type 0
Follow reserved [] = Unit {0}
Follow reserved (life ∷ lives) = (reserved ≤ life.first) × IsLived life × Follow life.last.reserved lives

-- What indexes sign -------------------------------------------------------------------------------------------------------

abbrev pub turns_of : List Exchange → List Turn
turns_of exchanges = map (λ exchange. exchange.turn) exchanges

-- of a relay that takes these turns, from an index on
abbrev pub uses_from : Relay → (next : ℕ) → List Turn → List Use
uses_from relay next [] = []
uses_from relay next (turn ∷ turns) =
    let texts = signed_texts (turned turn relay).told in
    uses_of next texts ++ uses_from (record (turned turn relay) { told = [] }) (next_after next texts) turns

-- in a life
abbrev pub uses_in : Life → List Use
uses_in life = uses_from (begun_in life).relay.relay life.first (turns_of life.exchanges)

-- each index is at least so large, and above those before it
abbrev pub RiseFrom : (least : ℕ) → List Use → Type 0
RiseFrom least [] = Unit {0}
RiseFrom least (one ∷ uses) = (least ≤ one.index) × RiseFrom (one.index + 1) uses

-- Over all lives, whatever comes, no index is used twice. So no two texts are signed by one, since a use has all that it signs.
abbrev pub IndexesRise : Type 0
IndexesRise = (reserved : ℕ) (lives : List Life) → Follow reserved lives → RiseFrom reserved (flat_map uses_in lives)
