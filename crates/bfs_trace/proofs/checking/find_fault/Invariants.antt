use Rattle.std.proofs.Common.{◌≡◌, ◌≤◌, ◌+◌, IfSome, length, option_map}
use Rattle.bfs_trace.specs.Inside.Places.{first_fault, first_place}
use Rattle.bfs_trace.specs.Words.{parts, parts_left}
use Rattle.bfs_trace.proofs.Rests.{bytes_left}
use Rattle.bfs_trace.proofs.checking.find_fault.Given as goal

-- the first fault of the rest of the text, behind the lines so far, is that of all of it
abbrev pub invariant-loop-left : goal.invariant-loop-left
invariant-loop-left l =
    (first_fault l.population (parts_left 10 (option_map (λ x. x.now) l.left)) (l.number + 1) l.place ≡ first_fault l.population (parts 10 l.text) 1 (first_place l.population))
    × IfSome l.left (λ x. l.number + length x.now ≤ length l.text)

abbrev pub decreases-loop-left : goal.decreases-loop-left
decreases-loop-left l = bytes_left (option_map (λ x. x.now) l.left)
