use Rattle.std.proofs.Common.{sym, ap, subst, ◌∙◌, arith, refl}
use Rattle.std.proofs.lemmas.List.{length-map}
use Rattle.std.specs.List.{concat}
use Rattle.bfs_blocks.specs.Blocks.{AreFilled, bytes_in, pieces_of}
use Rattle.bfs_blocks.proofs.BlockLemmas.{pushed}
use Rattle.bfs_blocks.proofs.PieceLemmas.{concat-push, filled_push}
use Rattle.bfs_blocks.proofs.growing.push.Goals as goal

pub returns-clause-filled : goal.returns-clause-filled
returns-clause-filled c =
    let old = c.args.blocks.now.items in
    let now = pushed old c.args.block c.push.new.self.items (bytes_in c.args.block) c.in_ok-push.ensures.items refl in
    subst AreFilled (sym now) (filled_push (pieces_of old) (bytes_in c.args.block) c.requires.filled (omega (arith, c.requires.full, length-map old bytes_in)) c.requires.piece.0 c.requires.piece.1)

pub returns-clause-ok : goal.returns-clause-ok
returns-clause-ok c =
    let old = c.args.blocks.now.items in
    let now = pushed old c.args.block c.push.new.self.items (bytes_in c.args.block) c.in_ok-push.ensures.items refl in
    ap concat now ∙ concat-push (pieces_of old) (bytes_in c.args.block)
