-- The records are read to the end.
use Rattle.std.proofs.Common.{◌≡◌, Some, sym, ap, ◌∙◌}
use Rattle.bfs_model.specs.Server.Tree.{root_id}
use Rattle.bfs_digest.specs.Text.{Header}
use Rattle.bfs_digest.specs.Inside.TextReading.{records_from}
use Rattle.bfs_digest.proofs.Rising.{left}
use Rattle.bfs_digest.proofs.Skipping.{reads_all}
use Rattle.bfs_digest.proofs.spelling.spelled.Goals as goal

pub returns-clause-ok : goal.returns-clause-ok
returns-clause-ok c =
    let header = c.in_ok-header.header in
    let records = c.rest-records.result.now in
    let passed : left (records_from c.args.version header.count root_id records) ≡ Some c.skip_records.new.reader =
    ap (λ bytes. left (records_from c.args.version header.count root_id bytes)) c.rest-records.ensures ∙ ap (λ (h : Header). left (records_from c.args.version h.count root_id c.numbers.new.self)) (sym c.header.view_is) ∙ c.in_ok-skip_records.ensures in
    let all = reads_all (records_from c.args.version header.count root_id records) c.skip_records.new.reader passed (sym c.is_at_end.ensures ∙ c.if-not-is_at_end.false) in
    record { numbers = c.in_ok-header.ensures ∙ ap (λ bytes. Some (header, bytes)) (sym c.rest-records.ensures); inodes = all.item; read = all.is }
