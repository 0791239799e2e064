-- Turn by turn one entry is read and put behind the others.
use Rattle.std.proofs.Common.{◌≡◌, ℕ, ◌+◌, ◌-◌, sym, ap, subst, arith}
use Rattle.bfs_model.specs.Server.Tree.{Entry, first_ordinal}
use Rattle.bfs_digest.specs.Inside.RecordReading.{entry_from, entries_from}
use Rattle.bfs_digest.specs.Inside.Taking.{entry_seen}
use Rattle.bfs_digest.proofs.Rising.{entries_rise}
use Rattle.bfs_digest.proofs.Building.{AreLeft, begins, built_by, one_built, all_built, none_read}
use Rattle.bfs_digest.proofs.inodes.entries_of.Goals as goal

abbrev cookie_of : Entry → ℕ
cookie_of entry = entry.cookie

pub loop-entry-init : goal.loop-entry-init
loop-entry-init c = begins entries_from cookie_of c.args.count _ first_ordinal c.args.reader.now c.in_ok-entries.entries.items (omega arith) c.in_ok-entries.ensures.items

pub returns-in_default : goal.returns-in_default
returns-in_default c = λ y rest read may. none_read entries_rise (entries_from c.args.count first_ordinal c.args.reader.now) (c.args.count - c.loop-entry._entry) (c.args.count - (c.loop-entry._entry + 1)) c.loop-entry.reader c.loop-entry.entries.items (omega arith) c.in_default.ensures.value c.loop-entry.invariant y rest read

pub loop-entry-preserved : goal.loop-entry-preserved
loop-entry-preserved c =
    let entry : Entry = record { cookie = c.in-Ok.entry.cookie; name = c.in_ok-name.name; child = c.in-Ok.entry.child } in
    let same : entry ≡ entry_seen c.in-Ok.entry = ap (λ name. record entry { name = name }) c.in_ok-name.ensures in
    subst (AreLeft entries_from cookie_of (entries_from c.args.count first_ordinal c.args.reader.now) (c.args.count - (c.loop-entry._entry + 1)) c.entry.new.self) (sym c.in_ok-push.ensures.items)
    (one_built entries_rise (entries_from c.args.count first_ordinal c.args.reader.now) (c.args.count - c.loop-entry._entry) (c.args.count - (c.loop-entry._entry + 1)) c.loop-entry.reader c.entry.new.self c.loop-entry.entries.items entry
    (omega arith) (built_by (entry_from c.loop-entry.reader) entry (entry_seen c.in-Ok.entry) c.entry.new.self c.in-Ok.ensures.value same) c.loop-entry.invariant)

pub returns : goal.returns
returns c = λ y rest read. all_built entries_rise (entries_from c.args.count first_ordinal c.args.reader.now) (c.args.count - c.loop-entry._entry) c.loop-entry.reader c.loop-entry.entries.items y rest (omega arith) c.loop-entry.invariant read
