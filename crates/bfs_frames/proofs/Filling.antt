-- A buffer that is filled by one read after another.
use Rattle.std.proofs.Common.{◌≡◌, ℕ, ◌+◌, ◌-◌, ◌≤◌, List, ◌++◌, arith, length, take, slice_range, sym, ap, ◌∙◌, subst, le_refl, drop_at, length-take-le}
use Rattle.std.proofs.lemmas.Slice.{take-put_mid_below}
use Rattle.std.specs.Prelude.{Option}
use Rattle.std.specs.Io.KnownBytes.{Consumes, Keeps}
use Rattle.std.proofs.KnownBytes.{Consumes-trans, Consumes-kept}
use borrow.Rule.Slice.PartMut.{put_mid, post_of}
use lib.Seq.{take-add, take-append-le}

-- a read put its bytes behind those from before
pub filled_more : (a b c : Option (List ℕ)) (at n : ℕ) (buffer part : List ℕ) → at ≤ length buffer → n ≤ length part
    → Consumes a b (take at buffer) → Consumes b c (take n part) → Consumes a c (take (at + n) (put_mid at (length buffer - at) buffer part))
filled_more a b c at n buffer part within fits first second =
    let room = length buffer - at in
    let new = put_mid at room buffer part in
    let after = post_of at room buffer in
    let less : (at + n) - at ≡ n = omega arith in
    let read : slice_range new at (at + n) ≡ take n part =
    ap (take ((at + n) - at)) (drop_at (take at buffer) (part ++ after) at (length-take-le at buffer within))
    ∙ ap (λ (m : ℕ). take m (part ++ after)) less ∙ take-append-le n part after fits in
    let front : take at new ≡ take at buffer = take-put_mid_below _ _ _ _ _ (le_refl _) within in
    let more : at + ((at + n) - at) ≡ at + n = omega arith in
    let joined : take at buffer ++ slice_range new at (at + n) ≡ take (at + n) new =
    ap (λ (l : List ℕ). l ++ slice_range new at (at + n)) (sym front) ∙ sym (take-add at ((at + n) - at) new) ∙ ap (λ (m : ℕ). take m new) more in
    subst (Consumes a c) (ap (λ (l : List ℕ). take at buffer ++ l) (sym read) ∙ joined) (Consumes-trans a b c (take at buffer) (take n part) first second)

-- a read that failed left what stood there
pub filled_kept : (a b c : Option (List ℕ)) (at : ℕ) (buffer part : List ℕ) → at ≤ length buffer → Consumes a b (take at buffer) → Keeps b c
    → Consumes a c (take at (put_mid at (length buffer - at) buffer part))
filled_kept a b c at buffer part within first kept =
    subst (Consumes a c) (sym (take-put_mid_below _ _ _ _ _ (le_refl _) within)) (Consumes-kept a b c (take at buffer) first kept)
