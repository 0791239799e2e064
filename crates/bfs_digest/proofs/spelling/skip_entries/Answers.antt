-- Turn by turn one is passed over, or ends it.
use Rattle.std.proofs.Common.{ℕ, ◌+◌, ◌-◌, List, ap, arith}
use Rattle.std.specs.Option.{option_map}
use Rattle.bfs_digest.proofs.Rising.{entries_rise}
use Rattle.bfs_digest.proofs.Skipping.{turn, turn_low, turn_none, turns_done}
use Rattle.bfs_digest.proofs.spelling.skip_entries.Goals as goal

pub returns-in_default : goal.returns-in_default
returns-in_default c = turn_none entries_rise _ (c.args.count - c.loop-entry._entry) (c.args.count - (c.loop-entry._entry + 1)) c.loop-entry.least c.loop-entry.reader (omega arith) c.in_default.ensures.value c.loop-entry.invariant

pub returns-then-cookie-least : goal.returns-then-cookie-least
returns-then-cookie-least c = turn_low entries_rise _ (c.args.count - c.loop-entry._entry) (c.args.count - (c.loop-entry._entry + 1)) c.loop-entry.least c.in-Ok.entry.cookie c.loop-entry.reader c.entry.new.self (omega arith) (ap (option_map {U = ℕ × List ℕ} (λ read. (read.0.cookie, read.1))) c.in-Ok.ensures.value) c.if-cookie-least.true c.loop-entry.invariant

pub loop-entry-preserved : goal.loop-entry-preserved
loop-entry-preserved c = turn entries_rise _ (c.args.count - c.loop-entry._entry) (c.args.count - (c.loop-entry._entry + 1)) c.loop-entry.least c.in-Ok.entry.cookie c.loop-entry.reader c.entry.new.self (omega arith) (ap (option_map {U = ℕ × List ℕ} (λ read. (read.0.cookie, read.1))) c.in-Ok.ensures.value) c.if-cookie-least.false c.loop-entry.invariant

pub returns : goal.returns
returns c = turns_done entries_rise _ (c.args.count - c.loop-entry._entry) c.loop-entry.least c.loop-entry.reader (omega arith) c.loop-entry.invariant
