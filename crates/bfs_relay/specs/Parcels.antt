-- What a relay tells: requests to replicas, replies to callers, and a line to the operator.
use Rattle.std.specs.Prelude.{ℕ, List, [], ◌∷◌, ◌++◌, length, codes, ◌==◌, if◌then◌else◌}
use Rattle.bfs_model.specs.Bytes.Items.{hyper}
use Rattle.bfs_frames.specs.declared.kind.Kind.{Kind}
use Rattle.bfs_frames.specs.declared.kind.Kind.TheVariants.{Request, Answer, Log}
use Rattle.bfs_frames.specs.Parcels.{Told}
use Rattle.bfs_frames.specs.declared.parcels.To.{To}
use Rattle.bfs_frames.specs.declared.parcels.To.TheVariants.{Operator, Caller}

-- a request's text
abbrev pub request_told : To → (text : List ℕ) → Told
request_told to text = record { to = to; kind = Request; payload = text }

-- the caller's ticket, and the reply; nothing where the reply has no bytes
abbrev pub reply_told : (ticket : ℕ) → (reply : List ℕ) → List Told
reply_told ticket reply = if length reply == 0 then [] else record { to = Caller ticket; kind = Answer; payload = hyper ticket ++ reply } ∷ []

-- what the operator reads where calls are dropped
unfoldable pub dropped_line : List ℕ
dropped_line = codes "calls are dropped: too many wait"

abbrev pub dropped_told : Told
dropped_told = record { to = Operator; kind = Log; payload = dropped_line }
