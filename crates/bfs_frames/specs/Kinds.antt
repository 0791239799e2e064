-- The kinds of frames, each by the number that a frame begins with.
use Rattle.std.specs.Prelude.{ℕ, ◌==◌, List, [], ◌∷◌, Option, find}
use Rattle.bfs_frames.specs.declared.kind.Kind.{Kind}
use Rattle.bfs_frames.specs.declared.kind.Kind.TheVariants.{Request, Order, ViewChange, NewView, Reply, Status, AskState, State, AskReport, Report, Call, Answer, Log}

abbrev pub number_of : Kind → ℕ
number_of Request = 1
number_of Order = 2
number_of ViewChange = 3
number_of NewView = 4
number_of Reply = 5
number_of Status = 6
number_of AskState = 7
number_of State = 8
number_of AskReport = 9
number_of Report = 10
number_of Call = 11
number_of Answer = 12
number_of Log = 13

abbrev pub all_kinds : List Kind
all_kinds = Request ∷ Order ∷ ViewChange ∷ NewView ∷ Reply ∷ Status ∷ AskState ∷ State ∷ AskReport ∷ Report ∷ Call ∷ Answer ∷ Log ∷ []

-- the kind with that number
abbrev pub kind_at : ℕ → Option Kind
kind_at number = find (λ kind. number_of kind == number) all_kinds
