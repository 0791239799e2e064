-- Turn by turn one is passed over, or ends it.
use Rattle.std.proofs.Common.{ℕ, ◌+◌, ◌-◌, Some, sym, ap, ◌∙◌, arith}
use Rattle.bfs_digest.proofs.Rising.{records_rise}
use Rattle.bfs_digest.proofs.Skipping.{unmapped, turn, turn_low, turn_none, turns_done}
use Rattle.bfs_digest.proofs.spelling.skip_records.Goals as goal

pub returns-in_default : goal.returns-in_default
returns-in_default c = turn_none (records_rise c.args.version) _ (c.args.count - c.loop-record._record) (c.args.count - (c.loop-record._record + 1)) c.loop-record.least c.loop-record.reader (omega arith) (unmapped _ _ c.in_default.ensures) c.loop-record.invariant

pub returns-then-id-least : goal.returns-then-id-least
returns-then-id-least c = turn_low (records_rise c.args.version) _ (c.args.count - c.loop-record._record) (c.args.count - (c.loop-record._record + 1)) c.loop-record.least c.number-id.result c.loop-record.reader c.skip_record.new.reader (omega arith) (c.in-Ok.ensures ∙ ap (λ (k : ℕ). Some (k, c.skip_record.new.reader)) (sym c.number-id.ensures)) (omega (arith, c.if-id-least.true)) c.loop-record.invariant

pub loop-record-preserved : goal.loop-record-preserved
loop-record-preserved c = turn (records_rise c.args.version) _ (c.args.count - c.loop-record._record) (c.args.count - (c.loop-record._record + 1)) c.loop-record.least c.number-id.result c.loop-record.reader c.skip_record.new.reader (omega arith) (c.in-Ok.ensures ∙ ap (λ (k : ℕ). Some (k, c.skip_record.new.reader)) (sym c.number-id.ensures)) (omega (arith, c.if-id-least.false)) c.loop-record.invariant

pub returns : goal.returns
returns c = turns_done (records_rise c.args.version) _ (c.args.count - c.loop-record._record) c.loop-record.least c.loop-record.reader (omega arith) c.loop-record.invariant
