-- Where the blocks are cut to whole ones, and where the last one that is left is cut too.
use Rattle.std.proofs.Common.{◌≡◌, ◌+◌, ◌*◌, ◌/◌, ◌%◌, ◌≤◌, [], length, take, get_or, sym, ap, subst, ◌∙◌, arith}
use Rattle.std.specs.List.{concat}
use Rattle.std.proofs.lemmas.List.{length-map, length-take, take-map}
use Rattle.bfs_blocks.specs.Blocks.{AreFilled, bytes_in, pieces_of}
use Rattle.bfs_blocks.specs.Bytes.{block_bytes}
use Rattle.bfs_blocks.proofs.BlockLemmas.{cut_last, read_piece, within_blocks}
use Rattle.bfs_blocks.proofs.PieceLemmas.{cut_whole, cut_within, filled_cut, filled_take}
use Rattle.bfs_blocks.proofs.growing.cut.Goals as goal

pub index_mut-requires : goal.index_mut-requires
index_mut-requires c =
    let ends = within_blocks c.args.size c.args.blocks.now.items c.requires.filled c.requires.within c.if-rest-eq0.false in
    omega (arith, ends.below, c.truncate-else-rest-eq0.ensures.len, c.args.blocks.now.ok.0)

pub cut-requires : goal.cut-requires
cut-requires c =
    let ends = within_blocks c.args.size c.args.blocks.now.items c.requires.filled c.requires.within c.if-rest-eq0.false in
    let piece = read_piece c.args.blocks.now.items c.truncate-else-rest-eq0.new.self.items (c.args.size / 4096) c.index_mut.result.now c.truncate-else-rest-eq0.ensures.items ends.below c.index_mut.ensures.value in
    subst (λ p. c.args.size % 4096 ≤ length p) piece ends.rest

pub returns-then-rest-eq0-clause-filled : goal.returns-then-rest-eq0-clause-filled
returns-then-rest-eq0-clause-filled c =
    let k = c.args.size / 4096 in
    let blocks = c.args.blocks.now.items in
    let now = ap pieces_of c.truncate.ensures.items ∙ sym (take-map bytes_in k blocks) in
    subst AreFilled (sym now) (filled_take k (pieces_of blocks) c.requires.filled)

pub returns-then-rest-eq0-clause-bytes : goal.returns-then-rest-eq0-clause-bytes
returns-then-rest-eq0-clause-bytes c =
    let k = c.args.size / 4096 in
    let blocks = c.args.blocks.now.items in
    let now = ap pieces_of c.truncate.ensures.items ∙ sym (take-map bytes_in k blocks) in
    let size : block_bytes * k ≡ c.args.size = omega (arith, c.if-rest-eq0.true) in
    ap concat now ∙ cut_whole k (pieces_of blocks) c.requires.filled (omega (arith, size, c.requires.within)) ∙ ap (λ n. take n (concat (pieces_of blocks))) size

pub returns-else-rest-eq0-clause-filled : goal.returns-else-rest-eq0-clause-filled
returns-else-rest-eq0-clause-filled c =
    let k = c.args.size / 4096 in
    let r = c.args.size % 4096 in
    let blocks = c.args.blocks.now.items in
    let ps = pieces_of blocks in
    let front = c.truncate-else-rest-eq0.new.self.items in
    let ends = within_blocks c.args.size blocks c.requires.filled c.requires.within c.if-rest-eq0.false in
    let now = cut_last blocks front k r c.index_mut.result.now c.cut.new.self c.truncate-else-rest-eq0.ensures.items ends.below c.index_mut.ensures.value c.cut.ensures in
    let long = length-take r (get_or ps k []) in
    let rest = ends.rest in
    let some = ends.some in
    subst AreFilled (sym now) (filled_cut k r ps (take r (get_or ps k [])) c.requires.filled (omega (arith, ends.below, length-map blocks bytes_in)) (omega (arith, long, rest, some)) (omega (arith, long)))

pub returns-else-rest-eq0-clause-bytes : goal.returns-else-rest-eq0-clause-bytes
returns-else-rest-eq0-clause-bytes c =
    let k = c.args.size / 4096 in
    let r = c.args.size % 4096 in
    let blocks = c.args.blocks.now.items in
    let ps = pieces_of blocks in
    let front = c.truncate-else-rest-eq0.new.self.items in
    let ends = within_blocks c.args.size blocks c.requires.filled c.requires.within c.if-rest-eq0.false in
    let now = cut_last blocks front k r c.index_mut.result.now c.cut.new.self c.truncate-else-rest-eq0.ensures.items ends.below c.index_mut.ensures.value c.cut.ensures in
    let size : block_bytes * k + r ≡ c.args.size = omega arith in
    ap concat now ∙ cut_within k r ps [] c.requires.filled (omega (arith, ends.below, length-map blocks bytes_in)) ends.rest ∙ ap (λ n. take n (concat ps)) size
