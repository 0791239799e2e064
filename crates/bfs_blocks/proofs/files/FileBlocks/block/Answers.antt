use Rattle.std.proofs.Common.{◌<◌, ◌≤◌, length, get_or, sym, ap, subst, ◌∙◌}
use Rattle.bfs_blocks.specs.Bytes.{block_at}
use Rattle.bfs_blocks.proofs.BlockLemmas.{block_read, none_read}
use Rattle.bfs_blocks.proofs.files.FileBlocks.block.Goals as goal

pub returns-in-Some : goal.returns-in-Some
returns-in-Some c =
    let blocks = c.self.inside.blocks.items in
    let number = c.args.number in
    let block = c.in-Some.block.now in
    let lookup = c.in-Some.ensures.lookup in
    let below = subst (λ xs. number < length xs) c.deref.ensures.value lookup.3.0 in
    let read = lookup.1 ∙ ap (λ xs. get_or xs number block) c.deref.ensures.value in
    c.as_slice.ensures ∙ sym (block_read blocks number block c.self.invariant.0 below read) ∙ ap (λ xs. block_at xs number) c.self.view_is

pub returns-in-None : goal.returns-in-None
returns-in-None c =
    let number = c.args.number in
    let past = subst (λ xs. length xs ≤ number) c.deref.ensures.value c.in-None.ensures.lookup.3 in
    sym (none_read c.self.inside.blocks.items number c.self.invariant.0 past) ∙ ap (λ xs. block_at xs number) c.self.view_is
