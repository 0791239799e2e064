-- Block after block is fed behind those before it.
use Rattle.std.proofs.Common.{◌+◌, ◌++◌, length, sym, ap, subst, ◌∙◌, append_assoc, arith}
use Rattle.sha2.specs.Hashers.{Holds256}
use Rattle.sha2.specs.Sha256.{sha256}
use Rattle.bfs_blocks.specs.Bytes.{block_at}
use Rattle.bfs_digest.proofs.BlockDigests.{all_of_them, digests_before, one_more}
use Rattle.bfs_digest.proofs.blocks.File.hash_blocks.Goals as goal

pub loop-number-preserved : goal.loop-number-preserved
loop-number-preserved c = λ m holds.
    let bytes = c.args.self.now in
    let n = c.loop-number.number in
    subst (Holds256 c.update.new.self)
    (ap (λ digest. (m ++ digests_before bytes n) ++ digest) c.digest_at.ensures ∙ append_assoc m (digests_before bytes n) (sha256 (block_at bytes n))
    ∙ ap (λ r. m ++ r) (sym (one_more bytes n (n + 1) (omega arith))))
    (c.update.ensures (m ++ digests_before bytes n) (c.loop-number.invariant m holds))

pub returns : goal.returns
returns c = λ m holds.
    subst (λ r. Holds256 c.loop-number.hasher (m ++ r)) (all_of_them c.args.self.now c.loop-number.number (omega (arith, c.block_count-number-end.ensures, ap length c.self.view_is))) (c.loop-number.invariant m holds)
