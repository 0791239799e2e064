use Rattle.std.proofs.Common.{take, ◌++◌, length}
use Rattle.std.specs.List.{flat_map}
use Rattle.std.specs.Io.KnownBytes.{Appends}
use Rattle.bfs_model.specs.Bytes.Items.{word}
use Rattle.bfs_frames.specs.Parcels.{parcel_text}
use Rattle.bfs_frames.proofs.parcels.write_answer.Given as goal

abbrev pub invariant-loop-parcel : goal.invariant-loop-parcel
invariant-loop-parcel g l =
    let written = word (length l.parcels) ++ flat_map parcel_text (take l.parcel-index l.parcels) in
    Appends (g.W.Write.contents l.fn.writer) (g.W.Write.contents l.writer) written
