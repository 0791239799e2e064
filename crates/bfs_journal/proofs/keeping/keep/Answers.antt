use Rattle.bfs_journal.proofs.Growing.{grown_by, synced, unwritten, written}
use Rattle.bfs_journal.proofs.keeping.keep.Goals as goal

pub returns-in_err-put_record-clause-any_moment : goal.returns-in_err-put_record-clause-any_moment
returns-in_err-put_record-clause-any_moment g c bodies settled =
    let disk = g.D.Disk in
    unwritten disk.seen disk.may_leave disk.moment disk.left_since c.args.disk.now bodies c.args.body.now (g.met.D.Disk.only_now c.args.disk.now) settled

pub returns-in_err-append-clause-any_moment : goal.returns-in_err-append-clause-any_moment
returns-in_err-append-clause-any_moment g c bodies settled =
    let disk = g.D.Disk in
    let follows = grown_by (disk.may_leave c.args.disk.now) (disk.may_leave c.append.new.self) c.new-record.result.items c.put_record.new.bytes.items c.as_slice.result.now
    c.args.body.now c.new-record.ensures.items c.in_ok-put_record.ensures c.as_slice.ensures.value c.append.ensures.crash in
    written disk.seen disk.may_leave disk.moment disk.left_since c.args.disk.now c.append.new.self bodies c.args.body.now (g.met.D.Disk.only_now c.args.disk.now)
    settled c.requires.body follows c.append.ensures.time

pub returns-in_err-sync-clause-any_moment : goal.returns-in_err-sync-clause-any_moment
returns-in_err-sync-clause-any_moment g c bodies settled =
    let disk = g.D.Disk in
    let follows = grown_by (disk.may_leave c.args.disk.now) (disk.may_leave c.append.new.self) c.new-record.result.items c.put_record.new.bytes.items c.as_slice.result.now
    c.args.body.now c.new-record.ensures.items c.in_ok-put_record.ensures c.as_slice.ensures.value c.append.ensures.crash in
    synced disk.seen disk.may_leave disk.moment disk.left_since c.args.disk.now c.append.new.self c.sync.new.self bodies c.args.body.now
    (g.met.D.Disk.only_now c.args.disk.now) settled c.requires.body follows c.append.ensures.time c.sync.ensures.crash c.sync.ensures.time

pub returns-clause-any_moment : goal.returns-clause-any_moment
returns-clause-any_moment g c bodies settled =
    let disk = g.D.Disk in
    let follows = grown_by (disk.may_leave c.args.disk.now) (disk.may_leave c.append.new.self) c.new-record.result.items c.put_record.new.bytes.items c.as_slice.result.now
    c.args.body.now c.new-record.ensures.items c.in_ok-put_record.ensures c.as_slice.ensures.value c.append.ensures.crash in
    synced disk.seen disk.may_leave disk.moment disk.left_since c.args.disk.now c.append.new.self c.sync.new.self bodies c.args.body.now
    (g.met.D.Disk.only_now c.args.disk.now) settled c.requires.body follows c.append.ensures.time c.sync.ensures.crash c.sync.ensures.time
