-- What a replica knows of the order in numbers, beside its log.
use Rattle.bfs_log.specs.Logs.{Log}
use Rattle.bfs_order.specs.Replica.States.{State}
use Rattle.bfs_order.specs.declared.marks.Marks.{Marks}

abbrev pub marks_of : State → Marks
marks_of s = record { f = s.f; me = s.me; view = s.view; asked = s.asked; low = s.low; min_s = s.min_s; handed = s.handed; last = s.last }

abbrev pub state_with : Marks → Log → State
state_with marks log = record { f = marks.f; me = marks.me; view = marks.view; asked = marks.asked; low = marks.low; min_s = marks.min_s; handed = marks.handed; last = marks.last; log = log }
