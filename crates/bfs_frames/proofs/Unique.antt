-- No bytes begin with two turns.
use Rattle.std.proofs.Common.{◌≡◌, ℕ, List, [], ◌∷◌, ◌++◌, length, refl, sym, ap, ◌∙◌, append_assoc, arith}
use Rattle.std.specs.List.{AllByRecursion, flat_map}
use Rattle.bfs_model.specs.Bytes.Items.{word}
use Rattle.bfs_model.specs.Server.Tree.{Time}
use Rattle.bfs_frames.specs.Frames.{BeginWithOneTurn, IsFrame, RawFrame, frame_text}
use Rattle.bfs_frames.proofs.Cuts.{five, frame_one, word_one}

same_frames : (fs gs : List RawFrame) (x y : List ℕ) → AllByRecursion IsFrame fs → AllByRecursion IsFrame gs → length fs ≡ length gs
    → flat_map frame_text fs ++ x ≡ flat_map frame_text gs ++ y → (fs ≡ gs) × (x ≡ y)
same_frames [] [] x y p q n e = (refl, e)
same_frames [] (g ∷ gs) x y p q n e = absurd cc
same_frames (f ∷ fs) [] x y p q n e = absurd cc
same_frames (f ∷ fs) (g ∷ gs) x y p q n e =
    let left = flat_map frame_text fs ++ x in
    let right = flat_map frame_text gs ++ y in
    let regrouped = sym (append_assoc (frame_text f) (flat_map frame_text fs) x) ∙ e ∙ append_assoc (frame_text g) (flat_map frame_text gs) y in
    let first : (f ≡ g) × (left ≡ right) = frame_one f g left right p.0 q.0 regrouped in
    let fewer : length fs ≡ length gs = omega arith in
    let others = same_frames fs gs x y p.1 q.1 fewer first.1 in
    (ap (λ (h : RawFrame). h ∷ fs) first.0 ∙ ap (λ (hs : List RawFrame). g ∷ hs) others.0, others.1)

time_is : (t u : Time) → t.seconds ≡ u.seconds → t.useconds ≡ u.useconds → t ≡ u
time_is t u s m = ap (λ (n : ℕ). record { seconds = n; useconds = t.useconds }) s ∙ ap (λ (n : ℕ). record { seconds = u.seconds; useconds = n }) m

pub one_turn : BeginWithOneTurn
one_turn t u fs gs x y p q e =
    let here = flat_map frame_text fs in
    let there = flat_map frame_text gs in
    let behind = word (length fs) ++ (here ++ x) in
    let beyond = word (length gs) ++ (there ++ y) in
    let begun = sym (five (word t.seconds) (word t.useconds) (word (length fs)) here x) in
    let whole = begun ∙ e ∙ five (word u.seconds) (word u.useconds) (word (length gs)) there y in
    let first = word_one t.seconds u.seconds (word t.useconds ++ behind) (word u.useconds ++ beyond) p.time_fits.seconds q.time_fits.seconds whole in
    let second = word_one t.useconds u.useconds behind beyond p.time_fits.useconds q.time_fits.useconds first.1 in
    let third = word_one (length fs) (length gs) (here ++ x) (there ++ y) p.count q.count second.1 in
    let frames = same_frames fs gs x y p.each q.each third.0 third.1 in
    (time_is t u first.0 second.0, frames.0, frames.1)
