use Rattle.std.proofs.Common.{◌+◌, List, IsErrOf, sym, subst, arith}
use Rattle.std.proofs.lemmas.Grind.{common_steps}
use Rattle.bfs_frames.specs.Frames.{ReadsFrames, frames_in}
use Rattle.bfs_frames.specs.declared.error.InputError.TheVariants as input
use Rattle.bfs_frames.specs.declared.frames.Frame.{Frame}
use Rattle.bfs_frames.proofs.Cuts.{cut_at_frame}
use Rattle.bfs_frames.proofs.Reading.{frames_more}
use Rattle.bfs_frames.proofs.turns.read_frames.Goals as goal

pub loop-preserved : goal.loop-preserved
loop-preserved g c =
    let old = g.R.Read.remaining c.args.reader.now in
    let new = g.R.Read.remaining c.read_frame.new.reader in
    subst (λ (given : List Frame). ReadsFrames c.args.limits.now old new (c.loop.counter + 1) given)
    (sym c.in_ok-keep.ensures)
    (frames_more c.args.limits.now _ _ _ c.loop.counter 1 c.loop.frames.items (frames_in c.in_ok-found.found) c.loop.invariant c.in_ok-found.ensures.frame)

pub returns-in_err-found-clause-cut : goal.returns-in_err-found-clause-cut
returns-in_err-found-clause-cut g c e =
    let same : IsErrOf c.read_frame.result input.Cut = grind (arith, common_steps) in
    cut_at_frame c.args.limits.now _ _ c.loop.counter c.args.count c.loop.frames.items c.loop.invariant c.loop-test.true (c.read_frame.ensures.cut same)
