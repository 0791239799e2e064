-- A run of a filter, as a fold over the turns that it read.
use Rattle.std.specs.Prelude.{◌≡◌, ℕ, Bool, true, false, List, [], ◌∷◌, map, filter, Option, IfSome}
use Rattle.std.specs.List.{AllByRecursion, flat_map}
use Rattle.std.specs.Io.KnownBytes.{Appends, Consumes, IsAtEnd}
use Rattle.bfs_frames.specs.Cuts.{HasBadTime, IsCut}
use Rattle.bfs_frames.specs.Frames.{IsTurn, RawFrame, ReadsTurn, passes, raw_frame, turn_text}
use Rattle.bfs_frames.specs.Parcels.{answer_text}
use Rattle.bfs_frames.specs.declared.error.ReadError.{ReadError}
use Rattle.bfs_frames.specs.declared.error.ReadError.TheVariants as read
use Rattle.bfs_frames.specs.declared.frames.Turn.{Turn}
use Rattle.bfs_frames.specs.declared.limits.Limits.{Limits}
use Rattle.bfs_frames.specs.declared.parcels.Parcel.{Parcel}
use Rattle.bfs_filter.specs.Output.{AppendsFront}
use Rattle.bfs_filter.specs.declared.error.ServeError.{ServeError}
use Rattle.bfs_filter.specs.declared.error.ServeError.TheVariants as errors

-- a turn, and what the machine answered
pub record Exchange : Type 0 where
  -- the frames that came, those that don't pass among them
  pub came : List RawFrame
  pub turn : Turn
  pub parcels : List Parcel

-- where a filter stands: its machine, what its reader has left and what its writer holds, where those are known
pub record Standing (M : Type 0) : Type 0 where
  pub machine : M
  pub input : Option (List ℕ)
  pub output : Option (List ℕ)

abbrev pub standing : {M : Type 0} → M → (input output : Option (List ℕ)) → Standing M
standing machine input output = record { machine = machine; input = input; output = output }

-- the turn has a text, and its frames are those that pass, in their order
pub record IsFiltered (limits : Limits) (exchange : Exchange) : Type 0 where
  pub fits : IsTurn exchange.turn.time exchange.came
  pub passed : map raw_frame exchange.turn.frames.items ≡ filter (passes limits) exchange.came

-- the machine takes the turns one after another
abbrev pub TakesAll : {M : Type 0} → (M → Turn → List Parcel → M → Type 0) → M → List Exchange → M → Type 0
TakesAll {M} takes old [] new = old ≡ new
TakesAll {M} takes old (exchange ∷ rest) new = (next : M) × takes old exchange.turn exchange.parcels next × TakesAll takes next rest new

-- the texts of the turns, one behind another
abbrev pub input_text : List Exchange → List ℕ
input_text exchanges = flat_map (λ exchange. turn_text exchange.turn.time exchange.came) exchanges

-- the texts of the answers, one behind another
abbrev pub output_text : List Exchange → List ℕ
output_text exchanges = flat_map (λ exchange. answer_text exchange.parcels) exchanges

-- turns were read, taken and answered, and nothing else was read or written
pub record Serves {M : Type 0} (takes : M → Turn → List Parcel → M → Type 0) (limits : Limits) (old new : Standing M) : Type 0 where
  pub exchanges : List Exchange
  pub each : AllByRecursion (IsFiltered limits) exchanges
  pub taken : TakesAll takes old.machine exchanges new.machine
  pub consumed : Consumes old.input new.input (input_text exchanges)
  pub written : Appends old.output new.output (output_text exchanges)

-- Errors ---------------------------------------------------------------------------------------------------------------

-- why no turn is at the front of the input
abbrev pub NoTurnAt : ReadError → Option (List ℕ) → Type 0
NoTurnAt read.Cut input = IfSome input IsCut
NoTurnAt read.BadTime input = IfSome input HasBadTime
NoTurnAt _ input = Unit {0}

-- a turn was read that the machine doesn't take, and nothing of an answer was written
pub record IsUntaken {M : Type 0} (limits : Limits) (old new : Standing M) : Type 0 where
  pub turn : Turn
  pub came : ReadsTurn limits old.input new.input turn
  pub unwritten : new.output ≡ old.output

-- a turn was read and taken, and a front of its answer was written
pub record IsUntold {M : Type 0} (takes : M → Turn → List Parcel → M → Type 0) (limits : Limits) (old new : Standing M) : Type 0 where
  pub turn : Turn
  pub came : ReadsTurn limits old.input new.input turn
  pub parcels : List Parcel
  pub taken : takes old.machine turn parcels new.machine
  pub cut : AppendsFront old.output new.output (answer_text parcels)

-- how the turn behind those that were served fails
abbrev pub Fails : {M : Type 0} → (M → Turn → List Parcel → M → Type 0) → Limits → ServeError → (old new : Standing M) → Type 0
Fails takes limits (errors.Read error) old new = (new.machine ≡ old.machine) × (new.output ≡ old.output) × NoTurnAt error old.input
Fails takes limits errors.Memory old new = IsUntaken limits old new
Fails takes limits (errors.Storage error) old new = IsUntaken limits old new
Fails takes limits errors.Spent old new = IsUntaken limits old new
Fails takes limits (errors.Write error) old new = IsUntold takes limits old new

-- turns were served, and the one behind them failed
pub record Stops {M : Type 0} (takes : M → Turn → List Parcel → M → Type 0) (limits : Limits) (error : ServeError) (old new : Standing M) : Type 0 where
  pub last : Standing M
  pub served : Serves takes limits old last
  pub failed : Fails takes limits error last new

-- The end ----------------------------------------------------------------------------------------------------------------

-- where no turn came, none was left, and nothing was done
abbrev pub EndsBefore : {M : Type 0} → (more : Bool) → (old new : Standing M) → Type 0
EndsBefore true old new = Unit {0}
EndsBefore false old new = (new.machine ≡ old.machine) × (new.output ≡ old.output) × IsAtEnd old.input
