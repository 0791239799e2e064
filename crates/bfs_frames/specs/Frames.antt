-- Frames and turns as bytes, and what is read of them.
use Rattle.std.specs.Prelude.{◌≡◌, ℕ, ◌+◌, ◌*◌, Bool, List, [], ◌∷◌, ◌++◌, length, map, filter, nat_le, Option, None, Some, is_some, option_and_then, if◌then◌else◌}
use Rattle.std.specs.List.{AllByRecursion, flat_map}
use Rattle.std.specs.Io.KnownBytes.{Consumes}
use Rattle.bfs_model.specs.Bytes.Formats.{list_text}
use Rattle.bfs_model.specs.Bytes.Items.{word}
use Rattle.bfs_model.specs.Server.Stored.{IsByte, IsWord, TimeIsSpellable}
use Rattle.bfs_model.specs.Server.Tree.{Time}
use Rattle.bfs_frames.specs.Kinds.{kind_at, number_of}
use Rattle.bfs_frames.specs.declared.kind.Kind.{Kind}
use Rattle.bfs_frames.specs.declared.kind.Kind.TheVariants.{Request, Order, ViewChange, NewView, Reply, Status, AskState, State, AskReport, Report, Call, Answer, Log}
use Rattle.bfs_frames.specs.declared.limits.Limits.{Limits}
use Rattle.bfs_frames.specs.declared.frames.Frame.{Frame}
use Rattle.bfs_frames.specs.declared.frames.Turn.{Turn}

-- a frame as it comes, of any kind and any length
pub record RawFrame : Type 0 where
  pub kind : ℕ
  pub payload : List ℕ

-- a byte, and a length of one word
abbrev pub IsFrame : RawFrame → Type 0
IsFrame frame = IsByte frame.kind × IsWord (length frame.payload)

abbrev pub frame_text : RawFrame → List ℕ
frame_text frame = frame.kind ∷ [] ++ word (length frame.payload) ++ frame.payload

abbrev pub microseconds : Time → ℕ
microseconds time = 1000000 * time.seconds + time.useconds

-- a time, how many frames came by then, and they
abbrev pub turn_text : Time → List RawFrame → List ℕ
turn_text time frames = word time.seconds ++ word time.useconds ++ list_text frame_text frames

-- a turn that has a text
pub record IsTurn (time : Time) (frames : List RawFrame) : Type 0 where
  pub time_fits : TimeIsSpellable time
  pub count : IsWord (length frames)
  pub each : AllByRecursion IsFrame frames

-- no bytes begin with two turns
abbrev pub BeginWithOneTurn : Type 0
BeginWithOneTurn = (t u : Time) (fs gs : List RawFrame) (x y : List ℕ) → IsTurn t fs → IsTurn u gs → turn_text t fs ++ x ≡ turn_text u gs ++ y
    → (t ≡ u) × (fs ≡ gs) × (x ≡ y)

abbrev pub most_of : Limits → Kind → ℕ
most_of limits Request = limits.request
most_of limits Order = limits.order
most_of limits ViewChange = limits.view_change
most_of limits NewView = limits.new_view
most_of limits Reply = limits.reply
most_of limits Status = limits.status
most_of limits AskState = limits.ask_state
most_of limits State = limits.state
most_of limits AskReport = limits.ask_report
most_of limits Report = limits.report
most_of limits Call = limits.call
most_of limits Answer = limits.answer
most_of limits Log = limits.log

-- the kind of that number, if it lets so many bytes through
abbrev pub kind_within : Limits → (number size : ℕ) → Option Kind
kind_within limits number size = option_and_then (λ kind. if nat_le size (most_of limits kind) then Some kind else None) (kind_at number)

-- its kind is known, and its payload within the limit of that kind
abbrev pub passes : Limits → RawFrame → Bool
passes limits frame = is_some (kind_within limits frame.kind (length frame.payload))

-- a frame of the code, as it comes
abbrev pub raw_frame : Frame → RawFrame
raw_frame frame = record { kind = number_of frame.kind; payload = frame.payload.items }

abbrev pub frames_in : Option Frame → List Frame
frames_in None = []
frames_in (Some frame) = frame ∷ []

-- so many bytes were consumed, whichever
pub record ReadsOver (old new : Option (List ℕ)) (count : ℕ) : Type 0 where
  pub bytes : List ℕ
  pub counted : length bytes ≡ count
  pub consumed : Consumes old new bytes

-- so many frames were consumed, and those of them that pass were given, in their order
pub record ReadsFrames (limits : Limits) (old new : Option (List ℕ)) (count : ℕ) (given : List Frame) : Type 0 where
  pub all : List RawFrame
  pub counted : length all ≡ count
  pub each : AllByRecursion IsFrame all
  pub consumed : Consumes old new (flat_map frame_text all)
  pub passed : map raw_frame given ≡ filter (passes limits) all

-- a turn was consumed, and its time was given, and those of its frames that pass, in their order
pub record ReadsTurn (limits : Limits) (old new : Option (List ℕ)) (turn : Turn) : Type 0 where
  pub all : List RawFrame
  pub fits : IsTurn turn.time all
  pub consumed : Consumes old new (turn_text turn.time all)
  pub passed : map raw_frame turn.frames.items ≡ filter (passes limits) all
