-- The blocks behind the first one are written, and then the first one, which stands there as it was made ready.
use Rattle.std.proofs.Common.{◌≡◌, ◌+◌, ◌-◌, ◌≤◌, length, take, drop, set, sym, ap, subst, ◌∙◌, arith}
use Rattle.bfs_blocks.specs.Blocks.{IsReady, bytes_in, bytes_of, put_at}
use Rattle.bfs_blocks.proofs.PutLemmas.{length_put}
use Rattle.bfs_blocks.proofs.WriteLemmas.{filled_first, first_of, is_first, put_in_first}
use Rattle.bfs_blocks.proofs.writing.+put_from.Goals as goal

pub put-requires-clause-ready : goal.put-requires-clause-ready
put-requires-clause-ready t c =
    let first = is_first c.args.blocks.now c.args.bytes.now c.index-blocks-0.result c.index-blocks-0-2.result c.make_ready.new.self c.args.start c.min-here.result c.len.result c.is_empty.result c.is_empty.ensures c.if-is_empty.false c.requires.filled c.requires.start c.requires.within c.index-blocks-0.is c.len.ensures c.min-here.ensures c.make_ready.ensures.bytes in
    let is = first_of c.args.blocks.now c.put_from.new.blocks c.make_ready.new.self c.index-blocks-0-3.result first.some in
    subst (λ b. IsReady b (length c.split_at.result.0.now)) (sym is) (subst (IsReady c.make_ready.new.self) (sym c.split_at.ensures.front_len) c.in_ok-make_ready.ensures.ok)

pub put-requires-clause-within : goal.put-requires-clause-within
put-requires-clause-within t c =
    let first = is_first c.args.blocks.now c.args.bytes.now c.index-blocks-0.result c.index-blocks-0-2.result c.make_ready.new.self c.args.start c.min-here.result c.len.result c.is_empty.result c.is_empty.ensures c.if-is_empty.false c.requires.filled c.requires.start c.requires.within c.index-blocks-0.is c.len.ensures c.min-here.ensures c.make_ready.ensures.bytes in
    let is = first_of c.args.blocks.now c.put_from.new.blocks c.make_ready.new.self c.index-blocks-0-3.result first.some in
    subst (λ xs. c.args.start + length c.split_at.result.0.now ≤ length xs) (sym (ap bytes_in is ∙ first.same)) (omega (arith, first.within, c.split_at.ensures.front_len))

pub returns-clause-filled : goal.returns-clause-filled
returns-clause-filled t c =
    let was = bytes_in c.index-blocks-0.result in
    let here = c.split_at.result.0.now in
    let first = is_first c.args.blocks.now c.args.bytes.now c.index-blocks-0.result c.index-blocks-0-2.result c.make_ready.new.self c.args.start c.min-here.result c.len.result c.is_empty.result c.is_empty.ensures c.if-is_empty.false c.requires.filled c.requires.start c.requires.within c.index-blocks-0.is c.len.ensures c.min-here.ensures c.make_ready.ensures.bytes in
    let is = first_of c.args.blocks.now c.put_from.new.blocks c.make_ready.new.self c.index-blocks-0-3.result first.some in
    let put : bytes_in c.put.new.self ≡ put_at c.args.start here was = c.put.ensures ∙ ap (put_at c.args.start here) (ap bytes_in is ∙ first.same) in
    let long = ap length put ∙ length_put c.args.start here was (omega (arith, first.within, c.split_at.ensures.front_len)) in
    filled_first c.args.blocks.now c.put_from.new.blocks c.index-blocks-0.result c.make_ready.new.self c.put.new.self first.some c.index-blocks-0.is long c.requires.filled c.put_from.ensures.filled c.put_from.auto.blocks

pub returns-clause-ok : goal.returns-clause-ok
returns-clause-ok t c =
    let ready = c.make_ready.new.self in
    let first = is_first c.args.blocks.now c.args.bytes.now c.index-blocks-0.result c.index-blocks-0-2.result ready c.args.start c.min-here.result c.len.result c.is_empty.result c.is_empty.ensures c.if-is_empty.false c.requires.filled c.requires.start c.requires.within c.index-blocks-0.is c.len.ensures c.min-here.ensures c.make_ready.ensures.bytes in
    let behind = take (length (set c.args.blocks.now 0 ready) - 1) (drop 1 (set c.args.blocks.now 0 ready)) in
    put_in_first c.args.blocks.now c.put_from.new.blocks c.index-blocks-0.result ready c.index-blocks-0-3.result c.put.new.self c.args.start c.min-here.result c.args.bytes.now
    first.some c.index-blocks-0.is first.same c.index-blocks-0-3.is first.least first.start_within
    (c.put.ensures
    ∙ ap (λ b. put_at c.args.start c.split_at.result.0.now (bytes_in b)) (sym c.index-blocks-0-3.is)
    ∙ ap (λ xs. put_at c.args.start xs (bytes_in c.index-blocks-0-3.result)) c.split_at.ensures.front)
    (c.in_ok-put_from.ensures.ok ∙ ap (λ xs. put_at 0 xs (bytes_of behind)) c.split_at.ensures.back)
