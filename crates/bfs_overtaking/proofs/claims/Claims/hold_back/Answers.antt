-- The claims tell which of the earlier calls conflict with this one.
use Rattle.std.proofs.Common.{take, ap, sym, ◌∙◌}
use Rattle.bfs_overtaking.specs.Inside.Claims.{any_before, is_written_before}
use Rattle.bfs_footprint.specs.Seen.{footprint_seen}
use Rattle.bfs_overtaking.specs.Machine.{is_held}
use Rattle.bfs_overtaking.proofs.Holding.{first_holds, second_holds, held_known, held_whole}
use Rattle.bfs_overtaking.proofs.claims.Claims.hold_back.Goals as goal

pub returns-then-is_written_before : goal.returns-then-is_written_before
returns-then-is_written_before c standings are =
    let claims = c.args.self.now in
    let reads = c.as_slice.result.now in
    let writes = c.in-Known.writes in
    rw (c.in-Known.is, ← c.as_slice.ensures.value)
    (first_holds c.is_written_before.result (is_written_before claims reads c.args.place) (any_before claims.touchers writes c.args.place) _
    c.if-is_written_before.true c.is_written_before.ensures (held_known claims standings c.args.place are reads writes))

pub returns-else-is_written_before : goal.returns-else-is_written_before
returns-else-is_written_before c standings are =
    let claims = c.args.self.now in
    let reads = c.as_slice.result.now in
    let writes = c.as_slice-else-is_written_before.result.now in
    rw (c.in-Known.is, ← c.as_slice.ensures.value, ← c.as_slice-else-is_written_before.ensures.value)
    (c.any_before.ensures
    ∙ second_holds c.is_written_before.result (is_written_before claims reads c.args.place) (any_before claims.touchers writes c.args.place) _
    c.if-is_written_before.false c.is_written_before.ensures (held_known claims standings c.args.place are reads writes))

pub returns-in-Whole : goal.returns-in-Whole
returns-in-Whole c standings are = c.is_before.ensures ∙ held_whole c.args.self.now standings c.args.place are ∙ ap (λ f. is_held (take c.args.place standings) (footprint_seen f)) (sym c.in-Whole.is)
