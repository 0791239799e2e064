use Rattle.std.proofs.Common.{◌≡◌, length}
use Rattle.bfs_trace.specs.Texts.{text_after, text_in_parts}
use Rattle.bfs_trace.specs.Words.{parts}
use Rattle.bfs_trace.proofs.texts.push_escapes.Given as goal

-- the text so far, with what the parts that are left spell, is all of it
abbrev pub invariant-loop-part : goal.invariant-loop-part
invariant-loop-part l = text_after l.text l.parts ≡ text_in_parts (parts 37 l.word)

abbrev pub decreases-loop-part : goal.decreases-loop-part
decreases-loop-part l = length l.parts
