-- What a replica makes of a turn.
use Rattle.std.specs.Prelude.{◌≡◌, ℕ, Bool, false, List, [], ◌∷◌, map, if◌then◌else◌, nat_le, ◌==◌, ◌&&◌, Result, Ok, Err}
use Rattle.bfs_model.specs.Bytes.Items.{Fault, word_at}
use Rattle.bfs_model.specs.Server.Tree.{Time}
use Rattle.bfs_votes.specs.Tags.{pre_prepare_tag, checkpoint_tag, view_change_tag, new_view_tag}
use Rattle.bfs_frames.specs.Parcels.{Told, told_by}
use Rattle.bfs_frames.specs.declared.frames.Frame.{Frame}
use Rattle.bfs_frames.specs.declared.frames.Turn.{Turn}
use Rattle.bfs_frames.specs.declared.kind.Kind.{Kind}
use Rattle.bfs_frames.specs.declared.parcels.Parcel.{Parcel}
use Rattle.bfs_frames.specs.declared.kind.Kind.TheVariants.{Order, ViewChange, NewView}
use Rattle.bfs_nodes_agree.specs.Nodes.Steps.{Delivers}
use Rattle.bfs_service.specs.Acting.{Acting, GoesOn, IsOwn, IsTaking, after_step}
use Rattle.bfs_service.specs.Telling.{Tells}

-- a text that begins with that tag is a message of the kind
abbrev pub is_of_kind : Kind → (tag : ℕ) → Bool
is_of_kind Order tag = nat_le pre_prepare_tag tag && nat_le tag checkpoint_tag
is_of_kind ViewChange tag = tag == view_change_tag
is_of_kind NewView tag = tag == new_view_tag
is_of_kind _ tag = false

abbrev pub begins_as : Kind → Result (ℕ × List ℕ) Fault → Bool
begins_as kind (Ok tag) = is_of_kind kind tag.0
begins_as kind (Err fault) = false

-- whether a frame is to hold a message of a replica
abbrev pub is_message : Frame → Bool
is_message frame = begins_as frame.kind (word_at frame.payload.items)

abbrev pub frame_delivered : Acting → Frame → Acting
frame_delivered acting frame = if is_message frame then after_step acting (Delivers frame.payload.items) else acting

-- a frame comes, before and behind which the replica does what it does of itself
abbrev pub HearsOne : Time → Frame → Acting → Acting → Type 0
HearsOne time frame before after = (ready : Acting) × GoesOn (IsOwn time) before ready × GoesOn (IsOwn time) (frame_delivered ready frame) after

-- frames come, one after another
abbrev pub Hears : Time → List Frame → Acting → Acting → Type 0
Hears time [] before after = before ≡ after
Hears time (frame ∷ frames) before after = (next : Acting) × HearsOne time frame before next × Hears time frames next after

-- REQUESTs are taken, each message of a replica comes, in their order, and before and behind each the replica does what it does of itself; then
-- all is told that its node gave to be sent, and what that gives again
pub record Turned (turn : Turn) (before after : Acting) (told : List Told) : Type 0 where
  pub asked : Acting
  pub heard : Acting
  pub done : Acting
  pub takes : GoesOn IsTaking before asked
  pub hears : Hears turn.time turn.frames.items asked heard
  pub acts : GoesOn (IsOwn turn.time) heard done
  pub tells : Tells done told
  pub after_is : after ≡ record { node = done.node; sent = [] }

-- as a machine of a filter
abbrev pub Takes : Acting → Turn → List Parcel → Acting → Type 0
Takes before turn parcels after = Turned turn before after (map told_by parcels)
