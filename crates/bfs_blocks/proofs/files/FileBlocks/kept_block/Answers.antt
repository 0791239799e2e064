use Rattle.std.proofs.Common.{◌<◌, length, get_or, sym, ap, subst, ◌∙◌}
use Rattle.std.proofs.lemmas.Option.{IfSome_then}
use Rattle.sha2.specs.Sha256.{sha256}
use Rattle.bfs_blocks.specs.Bytes.{block_at}
use Rattle.bfs_blocks.proofs.BlockLemmas.{block_read}
use Rattle.bfs_blocks.proofs.files.FileBlocks.kept_block.Goals as goal

pub returns-in-Some : goal.returns-in-Some
returns-in-Some c =
    let number = c.args.number in
    let block = c.in-Some.block.now in
    let lookup = c.in-Some.ensures.lookup in
    let below = subst (λ xs. number < length xs) c.deref.ensures.value lookup.3.0 in
    let read = lookup.1 ∙ ap (λ xs. get_or xs number block) c.deref.ensures.value in
    let own = block_read c.self.inside.blocks.items number block c.self.invariant.0 below read in
    IfSome_then c.digest.result c.digest.ensures (λ digest is. is ∙ ap sha256 (sym own ∙ ap (λ xs. block_at xs number) c.self.view_is))
