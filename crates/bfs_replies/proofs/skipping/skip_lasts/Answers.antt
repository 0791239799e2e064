-- Turn by turn one more is passed over.
use Rattle.std.proofs.Common.{◌≡◌, ℕ, ◌+◌, ◌-◌, List, [], ◌∷◌, ◌++◌, length, Option, Some, sym, ap, ◌∙◌, arith}
use Rattle.std.proofs.lemmas.List.{length_push}
use Rattle.bfs_model.proofs.Public.{turn, turn_none, turns_done}
use Rattle.bfs_replies.specs.Parsing.{last_seen}
use Rattle.bfs_replies.specs.TextReading.{last_from, passed}
use Rattle.bfs_replies.proofs.skipping.skip_lasts.Goals as goal

pub returns-in_default : goal.returns-in_default
returns-in_default c =
    let so_far = c.loop-last.invariant.1 in
    sym (ap (passed {A = Option _}) (turn_none last_from (c.args.count - c.loop-last._last) (c.args.count - (c.loop-last._last + 1)) c.loop-last.left.left so_far.0 _ (omega arith) c.in_default.ensures.read so_far.2))

pub loop-last-preserved : goal.loop-last-preserved
loop-last-preserved c =
    let so_far = c.loop-last.invariant.1 in
    let read = c.in-Ok.ensures.read in (
      read.1,
      (
        so_far.0 ++ last_seen c.in-Ok.field-0 ∷ [],
        length_push so_far.0 (last_seen c.in-Ok.field-0) ∙ ap (λ n. n + 1) so_far.1,
        turn last_from (c.args.count - c.loop-last._last) (c.args.count - (c.loop-last._last + 1)) c.loop-last.left.left so_far.0 (last_seen c.in-Ok.field-0) c.read_last.new.reader.left _ (omega arith) read.0 so_far.2,
      ),
    )

pub returns : goal.returns
returns c =
    let so_far = c.loop-last.invariant.1 in
    let count : length so_far.0 ≡ c.args.count = omega (arith, so_far.1) in
    let rest = c.rest.ensures in
    sym (ap passed (turns_done last_from (c.args.count - c.loop-last._last) 0 c.loop-last.left.left so_far.0 _ (omega arith) so_far.2)
    ∙ ap (λ (n : ℕ). Some (n, c.loop-last.left.left)) count
    ∙ ap (λ (left : List ℕ). Some (c.args.count, left)) (sym rest))
