use Rattle.std.proofs.Common.{length, ◌/◌}
use Rattle.tests_journal.proofs.Cuts.{grows, grows_whole, stays}
use Rattle.tests_journal.proofs.disks.FailingDisk.append.Goals as goal

pub returns-in_err-extend_from_slice-clause-crash : goal.returns-in_err-extend_from_slice-clause-crash
returns-in_err-extend_from_slice-clause-crash c =
    stays c.args.self.now.synced c.args.self.now.bytes.items c.extend_from_slice.new.self.items c.args.bytes.now c.in_err-extend_from_slice.ensures.items

pub returns-then-self-clause-crash : goal.returns-then-self-clause-crash
returns-then-self-clause-crash c =
    grows c.args.self.now.synced (length c.args.bytes.now / 2) c.args.self.now.bytes.items c.extend_from_slice.new.self.items c.args.bytes.now
    c.in_ok-extend_from_slice.ensures.items

pub returns-in_err-extend_from_slice-2-clause-crash : goal.returns-in_err-extend_from_slice-2-clause-crash
returns-in_err-extend_from_slice-2-clause-crash c =
    stays c.args.self.now.synced c.args.self.now.bytes.items c.extend_from_slice-2.new.self.items c.args.bytes.now c.in_err-extend_from_slice-2.ensures.items

pub returns-clause-crash : goal.returns-clause-crash
returns-clause-crash c =
    grows_whole c.args.self.now.synced c.args.self.now.bytes.items c.extend_from_slice-2.new.self.items c.args.bytes.now c.in_ok-extend_from_slice-2.ensures.items
