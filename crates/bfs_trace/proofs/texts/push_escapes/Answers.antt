use Rattle.std.proofs.Common.{◌≡◌, ◌∷◌, sym, ◌∙◌}
use Rattle.bfs_trace.specs.Words.{parts}
use Rattle.bfs_trace.proofs.Cuts.{word_is}
use Rattle.bfs_trace.proofs.Growing.{begun_too_long, part_too_long}
use Rattle.bfs_trace.proofs.texts.push_escapes.Goals as goal

pub returns-in_err-push : goal.returns-in_err-push
returns-in_err-push c =
    let all : parts 37 c.args.word.now ≡ c.in_ok-plain.plain.now ∷ c.next_word.new.self = sym c.new-parts.ensures ∙ word_is c.new-parts.result c.in_ok-plain.ensures.word in
    rw (c.from_residual-in_err-push.ensures, all) (begun_too_long c.in_ok-plain.plain.now c.next_word.new.self (rw c.requires at c.in_err-push.ensures))

pub returns-in_err-push_escape : goal.returns-in_err-push_escape
returns-in_err-push_escape c =
    rw (c.from_residual-in_err-push_escape.ensures, ← c.loop-part.invariant, word_is c.loop-part.parts c.in-Some.ensures.word) (part_too_long c.loop-part.text c.in-Some.part.now c.next_word-in-loop-part.new.self c.in_err-push_escape.ensures)
