use Rattle.std.proofs.Common.{◌+◌, ◌++◌, get_or, length, drop, sym, ap, ◌∙◌, append_assoc, append-nil, arith}
use Rattle.std.proofs.lemmas.List.{at_drop_all, at_drop_more}
use Rattle.bfs_model.specs.Bytes.Items.{word, words}
use Rattle.bfs_trace.proofs.Room.{length_of_both}
use Rattle.bfs_trace.proofs.buffer.Buffer.push_words.Goals as goal

pub returns-in_err-push_word : goal.returns-in_err-push_word
returns-in_err-push_word c =
    let i = c.loop-number.number-index in
    let next = word (get_or c.args.numbers.now i 0) in
    let rest = words (drop (i + 1) c.args.numbers.now) in
    rw c.from_residual.ensures
    (omega (arith, c.in_err-push_word.ensures, ap length c.loop-number.invariant, at_drop_more (λ left. length (words left)) c.args.numbers.now i 0 (omega arith), length_of_both c.loop-number.self (words (drop i c.args.numbers.now)), length_of_both next rest, length_of_both c.loop-number.self next))

pub loop-number-preserved : goal.loop-number-preserved
loop-number-preserved c =
    let i = c.loop-number.number-index in
    rw (c.in_ok-push_word.ensures, append_assoc c.loop-number.self (word (get_or c.args.numbers.now i 0)) (words (drop (i + 1) c.args.numbers.now)))
    (sym (at_drop_more (λ left. c.loop-number.self ++ words left) c.args.numbers.now i 0 (omega arith)) ∙ c.loop-number.invariant)

pub returns : goal.returns
returns c = sym (append-nil c.loop-number.self) ∙ sym (at_drop_all (λ left. c.loop-number.self ++ words left) c.args.numbers.now c.loop-number.number-index (omega arith)) ∙ c.loop-number.invariant
