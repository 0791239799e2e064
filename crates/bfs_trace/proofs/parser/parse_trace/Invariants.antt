use Rattle.std.proofs.Common.{◌≡◌, ◌≤◌, ◌+◌, IfSome, length, option_map}
use Rattle.bfs_trace.specs.Words.{parts, parts_left}
use Rattle.bfs_trace.specs.Trace.{first_reading, read_lines}
use Rattle.bfs_trace.proofs.Rests.{bytes_left}
use Rattle.bfs_trace.proofs.parser.parse_trace.Given as goal

-- the rest of the text, read behind the events so far, says what all of it says
abbrev pub invariant-loop-left : goal.invariant-loop-left
invariant-loop-left l =
    (read_lines l.population (parts_left 10 (option_map (λ x. x.now) l.left)) (l.number + 1) l.reading ≡ read_lines l.population (parts 10 l.text) 1 (first_reading l.population))
    × IfSome l.left (λ x. l.number + length x.now ≤ length l.text)

abbrev pub decreases-loop-left : goal.decreases-loop-left
decreases-loop-left l = bytes_left (option_map (λ x. x.now) l.left)
