-- Frames that are read one after another.
use Rattle.std.proofs.Common.{◌≡◌, ℕ, ◌+◌, ◌<◌, ◌^◌, Bool, true, false, cond, List, [], ◌∷◌, ◌++◌, length, map, filter, Option, Some, None, is_some, refl, sym, ap, subst, ◌∙◌, append-nil, length-append, arith}
use Rattle.std.specs.List.{AllByRecursion, flat_map}
use Rattle.std.specs.Io.KnownBytes.{Consumes}
use Rattle.std.proofs.KnownBytes.{Consumes-trans}
use Rattle.std.proofs.lemmas.List.{map-append}
use Rattle.std.proofs.lemmas.List.Concat.{flat_map-append}
use Rattle.std.proofs.lemmas.List.Elements.{filter-append}
use Rattle.bfs_model.specs.Bytes.Items.{word}
use Rattle.bfs_frames.specs.Kinds.{number_of}
use Rattle.bfs_frames.specs.Frames.{IsFrame, RawFrame, ReadsFrames, ReadsOver, frame_text, kind_within, passes, raw_frame}
use Rattle.bfs_frames.specs.declared.frames.Frame.{Frame}
use Rattle.bfs_frames.specs.declared.limits.Limits.{Limits}
use Rattle.bfs_frames.proofs.Passing.{checked, number_of_kind_at}

-- more bytes are read over
pub over_more : (a b c : Option (List ℕ)) (m n k : ℕ) (bytes : List ℕ) → ReadsOver a b m → Consumes b c bytes → length bytes ≡ n → m + n ≡ k
    → ReadsOver a c k
over_more a b c m n k bytes first second is sum = record {
  bytes = first.bytes ++ bytes;
  counted = omega (arith, length-append first.bytes bytes, first.counted);
  consumed = Consumes-trans a b c first.bytes bytes first.consumed second;
}

all_frames : (xs ys : List RawFrame) → AllByRecursion IsFrame xs → AllByRecursion IsFrame ys → AllByRecursion IsFrame (xs ++ ys)
all_frames [] ys p q = q
all_frames (x ∷ xs) ys p q = (p.0, all_frames xs ys p.1 q)

-- some frames, and then others
pub frames_more : (limits : Limits) (a b c : Option (List ℕ)) (m n : ℕ) (xs ys : List Frame) → ReadsFrames limits a b m xs → ReadsFrames limits b c n ys
    → ReadsFrames limits a c (m + n) (xs ++ ys)
frames_more limits a b c m n xs ys first second =
    let read = Consumes-trans a b c (flat_map frame_text first.all) (flat_map frame_text second.all) first.consumed second.consumed in
    record {
      all = first.all ++ second.all;
      counted = omega (arith, length-append first.all second.all, first.counted, second.counted);
      each = all_frames first.all second.all first.each second.each;
      consumed = subst (Consumes a c) (sym (flat_map-append frame_text first.all second.all)) read;
      passed =
          map-append raw_frame xs ys
          ∙ ap (λ (l : List RawFrame). l ++ map raw_frame ys) first.passed
          ∙ ap (λ (l : List RawFrame). filter (passes limits) first.all ++ l) second.passed
          ∙ sym (filter-append (passes limits) first.all second.all);
    }

-- one frame, which is given or not
one_read : (limits : Limits) (a b c d : Option (List ℕ)) (number len : ℕ) (payload : List ℕ) (given : List Frame) → number < 256 → len < 2 ^ 32
    → Consumes a b (number ∷ []) → Consumes b c (word len) → Consumes c d payload → length payload ≡ len
    → map raw_frame given ≡ filter (passes limits) (record { kind = number; payload = payload } ∷ []) → ReadsFrames limits a d 1 given
one_read limits a b c d number len payload given byte short first second third is passed =
    let frame : RawFrame = record { kind = number; payload = payload } in
    let front = Consumes-trans a b c (number ∷ []) (word len) first second in
    let text : ((number ∷ []) ++ word len) ++ payload ≡ frame_text frame ++ [] =
    ap (λ (n : ℕ). ((number ∷ []) ++ word n) ++ payload) (sym is) ∙ sym (append-nil (frame_text frame)) in
    record {
      all = frame ∷ [];
      counted = refl;
      each = ((byte, subst (λ (n : ℕ). n < 2 ^ 32) (sym is) short), tt);
      consumed = subst (Consumes a d) text (Consumes-trans a c d ((number ∷ []) ++ word len) payload front third);
      passed = passed;
    }

-- a frame that passes
pub frame_given : (limits : Limits) (a b c d : Option (List ℕ)) (number len : ℕ) (frame : Frame) → number < 256 → len < 2 ^ 32
    → kind_within limits number len ≡ Some frame.kind → length frame.payload.items ≡ len
    → Consumes a b (number ∷ []) → Consumes b c (word len) → Consumes c d frame.payload.items → ReadsFrames limits a d 1 (frame ∷ [])
frame_given limits a b c d number len frame byte short within is first second third =
    let named : number_of frame.kind ≡ number = number_of_kind_at number frame.kind (checked limits number len frame.kind within).0 in
    let came : RawFrame = record { kind = number; payload = frame.payload.items } in
    let raw : raw_frame frame ≡ came = ap (λ (n : ℕ). record { kind = n; payload = frame.payload.items }) named in
    let passed : passes limits came ≡ true = ap (λ (n : ℕ). is_some (kind_within limits number n)) is ∙ ap is_some within in
    one_read limits a b c d number len frame.payload.items (frame ∷ []) byte short first second third is
    (ap (λ (r : RawFrame). r ∷ []) raw ∙ sym (ap (λ (b : Bool). cond b (came ∷ []) []) passed))

-- a frame that is read over
pub frame_read_over : (limits : Limits) (a b c d : Option (List ℕ)) (number len : ℕ) → number < 256 → len < 2 ^ 32 → kind_within limits number len ≡ None
    → Consumes a b (number ∷ []) → Consumes b c (word len) → ReadsOver c d len → ReadsFrames limits a d 1 []
frame_read_over limits a b c d number len byte short without first second third =
    let came : RawFrame = record { kind = number; payload = third.bytes } in
    let passed : passes limits came ≡ false = ap (λ (n : ℕ). is_some (kind_within limits number n)) third.counted ∙ ap is_some without in
    one_read limits a b c d number len third.bytes [] byte short first second third.consumed third.counted
    (sym (ap (λ (b : Bool). cond b (came ∷ []) []) passed))
