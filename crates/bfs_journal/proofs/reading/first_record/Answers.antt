use Rattle.std.proofs.Common.{◌∙◌, Some, sym, ap, arith}
use Rattle.bfs_journal.proofs.Records.{few_lacks, is_record, other_lacks, short_lacks, untold_lacks}
use Rattle.bfs_journal.proofs.reading.first_record.Goals as goal

pub returns-then-bytes-lt-HEAD_BYTES-clause-none : goal.returns-then-bytes-lt-HEAD_BYTES-clause-none
returns-then-bytes-lt-HEAD_BYTES-clause-none c = short_lacks c.args.bytes.now c.if-bytes-lt-HEAD_BYTES.true

pub returns-in_default-clause-none : goal.returns-in_default-clause-none
returns-in_default-clause-none c = untold_lacks c.args.bytes.now (sym c.told_length.ensures ∙ c.in_default.is)

pub returns-then-behind-len-clause-none : goal.returns-then-behind-len-clause-none
returns-then-behind-len-clause-none c =
    few_lacks c.args.bytes.now c.split_at.result.1.now c.in-Some.len (sym c.told_length.ensures ∙ c.in-Some.is) c.split_at.ensures.back c.if-behind-len.true

pub returns-then-has_digest-clause-found : goal.returns-then-has_digest-clause-found
returns-then-has_digest-clause-found c =
    let parts = c.split_at-2.ensures in
    is_record c.args.bytes.now c.split_at-2.result.0.now c.split_at-2.result.1.now c.if-bytes-lt-HEAD_BYTES.false (λ i. omega (arith, c.type_inv.bytes i))
    (sym c.told_length.ensures ∙ c.in-Some.is ∙ ap Some (sym parts.front_len))
    (sym c.split_at.ensures.back ∙ parts.by_index.0)
    (sym c.has_digest.ensures ∙ c.if-has_digest.true)

pub returns-else-has_digest-clause-none : goal.returns-else-has_digest-clause-none
returns-else-has_digest-clause-none c =
    let parts = c.split_at-2.ensures in
    other_lacks c.args.bytes.now c.split_at-2.result.0.now c.split_at-2.result.1.now
    (sym c.told_length.ensures ∙ c.in-Some.is ∙ ap Some (sym parts.front_len))
    (sym c.split_at.ensures.back ∙ parts.by_index.0)
    (sym c.has_digest.ensures ∙ c.if-has_digest.false)
