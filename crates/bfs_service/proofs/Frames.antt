-- Frames that come, one after another.
use Rattle.std.proofs.Common.{◌≡◌, ℕ, ◌+◌, ◌<◌, List, [], ◌∷◌, ◌++◌, get_or, length, take, refl, sym, subst}
use Rattle.bfs_frames.specs.declared.frames.Frame.{Frame}
use Rattle.bfs_model.specs.Server.Tree.{Time}
use Rattle.bfs_service.specs.Acting.{Acting}
use Rattle.bfs_service.specs.Turns.{Hears, HearsOne}
use Rattle.bfs_service.proofs.Folding.{taken_more}

hears_behind : (time : Time) (frames : List Frame) (frame : Frame) (first next last : Acting) → Hears time frames first next → HearsOne time frame next last
    → Hears time (frames ++ frame ∷ []) first last
hears_behind time [] frame first next last same one = (last, subst (λ (a : Acting). HearsOne time frame a last) (sym same) one, refl)
hears_behind time (other ∷ frames) frame first next last hears one = (hears.0, hears.1, hears_behind time frames frame hears.0 next last hears.2 one)

-- one frame more
pub hears_more : (time : Time) (frames : List Frame) (i : ℕ) (frame : Frame) (first next last : Acting) → i < length frames → frame ≡ get_or frames i frame
    → Hears time (take i frames) first next → HearsOne time frame next last → Hears time (take (i + 1) frames) first last
hears_more time frames i frame first next last within is hears one =
    subst (λ (some : List Frame). Hears time some first last) (sym (taken_more frames i frame within is))
    (hears_behind time (take i frames) frame first next last hears one)
