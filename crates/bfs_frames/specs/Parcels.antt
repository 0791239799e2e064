-- Parcels and answers as bytes.
use Rattle.std.specs.Prelude.{ℕ, List, [], ◌∷◌, ◌++◌}
use Rattle.bfs_model.specs.Bytes.Formats.{list_text}
use Rattle.bfs_model.specs.Bytes.Items.{hyper}
use Rattle.bfs_frames.specs.Frames.{frame_text, raw_frame}
use Rattle.bfs_frames.specs.declared.kind.Kind.{Kind}
use Rattle.bfs_frames.specs.declared.parcels.Parcel.{Parcel}
use Rattle.bfs_frames.specs.declared.parcels.To.{To}
use Rattle.bfs_frames.specs.declared.parcels.To.TheVariants.{Replicas, Replica, Client, Operator, Caller}

abbrev pub place_of : To → ℕ
place_of Replicas = 0
place_of (Replica number) = 1
place_of (Client number) = 2
place_of Operator = 3
place_of (Caller ticket) = 4

-- of the replica or the client, or the ticket
abbrev pub number_of : To → ℕ
number_of Replicas = 0
number_of (Replica number) = number
number_of (Client number) = number
number_of Operator = 0
number_of (Caller ticket) = ticket

abbrev pub parcel_text : Parcel → List ℕ
parcel_text parcel = place_of parcel.to ∷ [] ++ hyper (number_of parcel.to) ++ frame_text (raw_frame parcel.frame)

-- how many parcels there are, and they
abbrev pub answer_text : List Parcel → List ℕ
answer_text parcels = list_text parcel_text parcels

-- what a parcel tells, and whom
pub record Told : Type 0 where
  pub to : To
  pub kind : Kind
  pub payload : List ℕ

abbrev pub told_by : Parcel → Told
told_by parcel = record { to = parcel.to; kind = parcel.frame.kind; payload = parcel.frame.payload.items }
