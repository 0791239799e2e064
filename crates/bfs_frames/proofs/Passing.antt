-- Which frames pass.
use Rattle.std.proofs.Common.{◌≡◌, ◌==◌, ℕ, ◌≤◌, Bool, true, false, cond, List, [], ◌∷◌, length, map, filter, find, nat_le, All, Option, Some, None, is_some, refl, sym, ap, ◌∙◌}
use Rattle.std.proofs.lemmas.Bool.{eqb-true, leb-true}
use Rattle.std.proofs.lemmas.List.Elements.{All-nil, All-cons}
use Rattle.bfs_frames.specs.Kinds.{all_kinds, kind_at, number_of}
use Rattle.bfs_frames.specs.Frames.{RawFrame, kind_within, most_of, passes, raw_frame}
use Rattle.bfs_frames.specs.declared.frames.Frame.{Frame}
use Rattle.bfs_frames.specs.declared.kind.Kind.{Kind}
use Rattle.bfs_frames.specs.declared.kind.Kind.TheVariants.{Request, Order, ViewChange, NewView, Reply, Status, AskState, State, AskReport, Report, Call, Answer, Log}
use Rattle.bfs_frames.specs.declared.limits.Limits.{Limits}

-- the kind that is found has the number
found_by : {X : Type 0} (p : X → Bool) (b : Bool) (y x : X) (rest : Option X) → p y ≡ b → (rest ≡ Some x → p x ≡ true) → cond b (Some y) rest ≡ Some x
    → p x ≡ true
found_by p true y x rest is more e = cc
found_by p false y x rest is more e = more e

find_passes : {X : Type 0} (p : X → Bool) (xs : List X) (x : X) → find p xs ≡ Some x → p x ≡ true
find_passes p [] x e = absurd cc
find_passes p (y ∷ ys) x e = found_by p (p y) y x (find p ys) refl (find_passes p ys x) e

pub number_of_kind_at : (number : ℕ) (kind : Kind) → kind_at number ≡ Some kind → number_of kind ≡ number
number_of_kind_at number kind e = eqb-true (number_of kind) number (find_passes (λ (k : Kind). number_of k == number) all_kinds kind e)

kind_at_number : (kind : Kind) → kind_at (number_of kind) ≡ Some kind
kind_at_number Request = refl
kind_at_number Order = refl
kind_at_number ViewChange = refl
kind_at_number NewView = refl
kind_at_number Reply = refl
kind_at_number Status = refl
kind_at_number AskState = refl
kind_at_number State = refl
kind_at_number AskReport = refl
kind_at_number Report = refl
kind_at_number Call = refl
kind_at_number Answer = refl
kind_at_number Log = refl

-- what passes is of a kind that there is, and within its limit
abbrev Checked : Limits → ℕ → Kind → Option Kind → Type 0
Checked limits size kind found = (found ≡ Some kind) × (size ≤ most_of limits kind)

checked_by : (limits : Limits) (size : ℕ) (kind of : Kind) (b : Bool) → nat_le size (most_of limits of) ≡ b → cond b (Some of) None ≡ Some kind
    → Checked limits size kind (Some of)
checked_by limits size kind of true le e =
    let same : of ≡ kind = cc in
    (ap (λ (k : Kind). Some k) same, leb-true size (most_of limits kind) (ap (λ k. nat_le size (most_of limits k)) (sym same) ∙ le))
checked_by limits size kind of false le e = absurd cc

checked_in : (limits : Limits) (size : ℕ) (kind : Kind) (found : Option Kind)
    → (elim found as (λ _. Option Kind) [ None ↦ None | Some of ↦ cond (nat_le size (most_of limits of)) (Some of) None ]) ≡ Some kind
    → Checked limits size kind found
checked_in limits size kind None e = absurd cc
checked_in limits size kind (Some of) e = checked_by limits size kind of (nat_le size (most_of limits of)) refl e

pub checked : (limits : Limits) (number size : ℕ) (kind : Kind) → kind_within limits number size ≡ Some kind → Checked limits size kind (kind_at number)
checked limits number size kind e = checked_in limits size kind (kind_at number) e

-- Frames that passed --------------------------------------------------------------------------------------------------

abbrev IsWithin : Limits → Frame → Type 0
IsWithin limits frame = length frame.payload.items ≤ most_of limits frame.kind

within : (limits : Limits) (frame : Frame) (found : Option Kind) → kind_within limits (number_of frame.kind) (length frame.payload.items) ≡ found
    → is_some found ≡ true → IsWithin limits frame
within limits frame None e is = absurd cc
within limits frame (Some kind) e is =
    let h = checked limits (number_of frame.kind) (length frame.payload.items) kind e in
    let same : frame.kind ≡ kind = cc (kind_at_number frame.kind, h.0) in
    rw same h.1

passed_within : (limits : Limits) (frame : Frame) → passes limits (raw_frame frame) ≡ true → IsWithin limits frame
passed_within limits frame e = within limits frame (kind_within limits (number_of frame.kind) (length frame.payload.items)) refl e

-- one more frame, of which the test gives b
more_within : (limits : Limits) (b : Bool) (x : RawFrame) (rest : List RawFrame) (given : List Frame) → passes limits x ≡ b
    → ((frames : List Frame) → map raw_frame frames ≡ rest → All (IsWithin limits) frames)
    → map raw_frame given ≡ cond b (x ∷ rest) rest → All (IsWithin limits) given
more_within limits false x rest given is each e = each given e
more_within limits true x rest [] is each e = absurd cc
more_within limits true x rest (frame ∷ frames) is each e =
    let first : raw_frame frame ≡ x = cc in
    let others : map raw_frame frames ≡ rest = cc in
    All-cons (IsWithin limits) frame frames (passed_within limits frame (ap (passes limits) first ∙ is)) (each frames others)

nothing_within : (limits : Limits) (given : List Frame) → map raw_frame given ≡ [] → All (IsWithin limits) given
nothing_within limits [] e = All-nil (IsWithin limits)
nothing_within limits (frame ∷ frames) e = absurd cc

-- those of the frames that pass keep the limits
pub given_within : (limits : Limits) (all : List RawFrame) (given : List Frame) → map raw_frame given ≡ filter (passes limits) all
    → All (IsWithin limits) given
given_within limits [] given e = nothing_within limits given e
given_within limits (x ∷ xs) given e = more_within limits (passes limits x) x (filter (passes limits) xs) given refl (given_within limits xs) e
