-- Bytes that end within a turn.
use Rattle.std.proofs.Common.{◌≡◌, ℕ, suc, ◌+◌, ◌<◌, ◌≤◌, ◌^◌, List, [], ◌∷◌, ◌++◌, length, take, drop, Option, Some, None, IfSome, refl, sym, ap, subst, ◌∙◌, append-nil, append_assoc, length-append, arith}
use Rattle.std.specs.List.{AllByRecursion, flat_map}
use Rattle.std.specs.Io.KnownBytes.{Consumes, IsAtEnd}
use Rattle.std.proofs.KnownBytes.{Consumes-trans, Consumes-whole}
use Rattle.std.proofs.lemmas.List.{drop_at, take_at}
use Rattle.bfs_model.specs.Bytes.Formats.{list_text, word_from}
use Rattle.bfs_model.specs.Bytes.Items.{word}
use Rattle.bfs_model.proofs.Public.{some_is, word_exact}
use Rattle.bfs_frames.specs.Frames.{IsFrame, RawFrame, ReadsFrames, frame_text, turn_text}
use Rattle.bfs_frames.specs.Cuts.{AreFewer, HasBadTime, IsCut, LacksFrames}
use Rattle.bfs_frames.specs.Errors.{read_error}
use Rattle.bfs_frames.specs.declared.error.InputError.{InputError}
use Rattle.bfs_frames.specs.declared.error.InputError.TheVariants as input
use Rattle.bfs_frames.specs.declared.error.ReadError.TheVariants as errors
use Rattle.bfs_frames.specs.declared.frames.Frame.{Frame}
use Rattle.bfs_frames.specs.declared.limits.Limits.{Limits}

-- Words and frames at the front of the same bytes ---------------------------------------------------------------------

length-word : (n : ℕ) → length (word n) ≡ 4
unfolding word
length-word n = refl

pub word_one : (m n : ℕ) (x y : List ℕ) → m < 2 ^ 32 → n < 2 ^ 32 → word m ++ x ≡ word n ++ y → (m ≡ n) × (x ≡ y)
word_one m n x y p q e =
    let same : ◌≡◌ {A = ℕ × List ℕ} (m, x) (n, y) = some_is (m, x) (n, y) (sym (word_exact.again m x p) ∙ ap word_from e ∙ word_exact.again n y q) in
    (ap (λ (r : ℕ × List ℕ). r.0) same, ap (λ (r : ℕ × List ℕ). r.1) same)

tail_one : (a b : ℕ) (x y : List ℕ) → a ∷ x ≡ b ∷ y → x ≡ y
tail_one a b x y e = cc

head_one : (a b : ℕ) (x y : List ℕ) → a ∷ x ≡ b ∷ y → a ≡ b
head_one a b x y e = cc

frame_is : (f g : RawFrame) → f.kind ≡ g.kind → f.payload ≡ g.payload → f ≡ g
frame_is f g kinds payloads =
    ap (λ (k : ℕ). record { kind = k; payload = f.payload }) kinds ∙ ap (λ (l : List ℕ). record { kind = g.kind; payload = l }) payloads

-- two frames at the front are one
pub frame_one : (f g : RawFrame) (x y : List ℕ) → IsFrame f → IsFrame g → frame_text f ++ x ≡ frame_text g ++ y → (f ≡ g) × (x ≡ y)
frame_one f g x y p q e =
    let left = (word (length f.payload) ++ f.payload) ++ x in
    let right = (word (length g.payload) ++ g.payload) ++ y in
    let tails : left ≡ right = tail_one f.kind g.kind left right e in
    let regrouped = sym (append_assoc (word (length f.payload)) f.payload x) ∙ tails ∙ append_assoc (word (length g.payload)) g.payload y in
    let both = word_one (length f.payload) (length g.payload) (f.payload ++ x) (g.payload ++ y) p.1 q.1 regrouped in
    let payloads = sym (take_at f.payload x (length g.payload) both.0) ∙ ap (take (length g.payload)) both.1 ∙ take_at g.payload y (length g.payload) refl in
    let behind = sym (drop_at f.payload x (length g.payload) both.0) ∙ ap (drop (length g.payload)) both.1 ∙ drop_at g.payload y (length g.payload) refl in
    (frame_is f g (head_one f.kind g.kind left right e) payloads, behind)

-- fewer frames and no further one are not as many frames as that
peel : (fs gs : List RawFrame) (x y : List ℕ) → AllByRecursion IsFrame fs → AllByRecursion IsFrame gs → length fs < length gs → LacksFrames 1 x
    → flat_map frame_text fs ++ x ≡ flat_map frame_text gs ++ y → ⊥
peel [] [] x y p q lt lacks e = omega arith
peel [] (g ∷ gs) x y p q lt lacks e =
    lacks (g ∷ []) (flat_map frame_text gs ++ y) refl (q.0, tt)
    (e ∙ append_assoc (frame_text g) (flat_map frame_text gs) y ∙ ap (λ (l : List ℕ). l ++ (flat_map frame_text gs ++ y)) (sym (append-nil (frame_text g))))
peel (f ∷ fs) [] x y p q lt lacks e = omega arith
peel (f ∷ fs) (g ∷ gs) x y p q lt lacks e =
    peel fs gs x y p.1 q.1 (omega arith) lacks
    (frame_one f g (flat_map frame_text fs ++ x) (flat_map frame_text gs ++ y) p.0 q.0
    (sym (append_assoc (frame_text f) (flat_map frame_text fs) x) ∙ e ∙ append_assoc (frame_text g) (flat_map frame_text gs) y)).1

-- Where a frame is cut -------------------------------------------------------------------------------------------------

frame_long : (f : RawFrame) (t : List ℕ) → 5 ≤ length (frame_text f ++ t)
frame_long f t =
    let is : length (frame_text f ++ t) ≡ suc (length ((word (length f.payload) ++ f.payload) ++ t)) = refl in
    omega (arith, is, length-append (word (length f.payload) ++ f.payload) t, length-append (word (length f.payload)) f.payload, length-word (length f.payload))

few_lack : (bytes : List ℕ) → length bytes < 5 → LacksFrames 1 bytes
few_lack bytes lt [] rest is fit e = omega arith
few_lack bytes lt (f ∷ fs) rest is fit e =
    omega (arith, ap length (e ∙ append_assoc (frame_text f) (flat_map frame_text fs) rest), frame_long f (flat_map frame_text fs ++ rest), lt)

payload_lacks : (number len : ℕ) (left : List ℕ) → len < 2 ^ 32 → length left < len → LacksFrames 1 (((number ∷ []) ++ word len) ++ left)
payload_lacks number len left small few [] rest is fit e = omega arith
payload_lacks number len left small few (f ∷ fs) rest is fit e =
    let behind = flat_map frame_text fs ++ rest in
    let there = (word (length f.payload) ++ f.payload) ++ behind in
    let tails : word len ++ left ≡ there = tail_one number f.kind (word len ++ left) there (e ∙ append_assoc (frame_text f) (flat_map frame_text fs) rest) in
    let both = word_one len (length f.payload) left (f.payload ++ behind) small fit.0.1 (tails ∙ append_assoc (word (length f.payload)) f.payload behind) in
    omega (arith, both.0, ap length both.1, length-append f.payload behind, few)

-- Where a turn is cut --------------------------------------------------------------------------------------------------

few_cut : (bytes : List ℕ) → length bytes < 12 → IsCut bytes
few_cut bytes lt time frames rest fits e =
    omega (
      arith,
      lt,
      ap length e,
      length-append (turn_text time frames) rest,
      length-append (word time.seconds ++ word time.useconds) (list_text frame_text frames),
      length-append (word time.seconds) (word time.useconds),
      length-append (word (length frames)) (flat_map frame_text frames),
      length-word time.seconds,
      length-word time.useconds,
      length-word (length frames),
    )

four : (a b c d : List ℕ) → ((a ++ b) ++ c) ++ d ≡ a ++ (b ++ (c ++ d))
four a b c d = simp append_assoc

pub five : (a b c d r : List ℕ) → ((a ++ b) ++ (c ++ d)) ++ r ≡ a ++ (b ++ (c ++ (d ++ r)))
five a b c d r = simp append_assoc

frames_lack : (s u n : ℕ) (left : List ℕ) → s < 2 ^ 32 → u < 2 ^ 32 → n < 2 ^ 32 → LacksFrames n left → IsCut (((word s ++ word u) ++ word n) ++ left)
frames_lack s u n left p q r lacks time frames rest fits e =
    let there = flat_map frame_text frames in
    let whole = sym (four (word s) (word u) (word n) left) ∙ e ∙ five (word time.seconds) (word time.useconds) (word (length frames)) there rest in
    let behind = word (length frames) ++ (there ++ rest) in
    let first = word_one s time.seconds (word u ++ (word n ++ left)) (word time.useconds ++ behind) p fits.time_fits.seconds whole in
    let second = word_one u time.useconds (word n ++ left) behind q fits.time_fits.useconds first.1 in
    let third = word_one n (length frames) left (there ++ rest) r fits.count second.1 in
    lacks frames rest (sym third.0) fits.each third.1

-- Of what a reader has ---------------------------------------------------------------------------------------------------

abbrev Known : Type 0
Known = Option (List ℕ)

weaker : (a : Known) (P Q : List ℕ → Type 0) → ((left : List ℕ) → P left → Q left) → IfSome a P → IfSome a Q
weaker None P Q f p = tt
weaker (Some left) P Q f p = f left p

behind : (a b : Known) (xs : List ℕ) (P Q : List ℕ → Type 0) → Consumes a b xs → ((left : List ℕ) → P left → Q (xs ++ left)) → IfSome b P → IfSome a Q
behind None b xs P Q c f p = tt
behind (Some l) None xs P Q c f p = absurd c
behind (Some l) (Some r) xs P Q c f p = subst Q (sym c) (f r p)

-- some bytes, and then too few
pub fewer_more : (a b : Known) (xs : List ℕ) (m n k : ℕ) → length xs ≡ m → m + n ≤ k → Consumes a b xs → IfSome b (AreFewer n) → IfSome a (AreFewer k)
fewer_more a b xs m n k is sum c few = behind a b xs (AreFewer n) (AreFewer k) c (λ left lt. omega (arith, length-append xs left, is, sum, lt)) few

-- the end comes behind too few bytes
pub ended : (a b c : Known) (xs : List ℕ) (k : ℕ) → Consumes a b xs → Consumes b c [] → IsAtEnd c → length xs < k → IfSome a (AreFewer k)
ended a b c xs k first second end lt =
    Consumes-whole a c (xs ++ []) (AreFewer k) (Consumes-trans a b c xs [] first second) end (subst (λ (l : List ℕ). length l < k) (sym (append-nil xs)) lt)

pub cut_at_kind : (a : Known) → IfSome a (AreFewer 1) → IfSome a (LacksFrames 1)
cut_at_kind a few = weaker a (AreFewer 1) (LacksFrames 1) (λ left lt. few_lack left (omega arith)) few

pub cut_at_length : (a b : Known) (number : ℕ) → Consumes a b (number ∷ []) → IfSome b (AreFewer 4) → IfSome a (LacksFrames 1)
cut_at_length a b number c few =
    behind a b (number ∷ []) (AreFewer 4) (LacksFrames 1) c
    (λ left lt. few_lack ((number ∷ []) ++ left) (omega (arith, length-append (number ∷ []) left))) few

pub cut_at_payload : (a b c : Known) (number len : ℕ) → len < 2 ^ 32 → Consumes a b (number ∷ []) → Consumes b c (word len) → IfSome c (AreFewer len)
    → IfSome a (LacksFrames 1)
cut_at_payload a b c number len small first second few =
    behind a c ((number ∷ []) ++ word len) (AreFewer len) (LacksFrames 1) (Consumes-trans a b c (number ∷ []) (word len) first second)
    (λ left lt. payload_lacks number len left small lt) few

pub cut_at_frame : (limits : Limits) (a b : Known) (i count : ℕ) (given : List Frame) → ReadsFrames limits a b i given → i < count
    → IfSome b (LacksFrames 1) → IfSome a (LacksFrames count)
cut_at_frame limits a b i count given read lt lacks =
    behind a b (flat_map frame_text read.all) (LacksFrames 1) (LacksFrames count) read.consumed
    (λ left none gs rest is fit e. peel read.all gs left rest read.each fit (omega (arith, read.counted, is, lt)) none e) lacks

pub cut_at_seconds : (a : Known) → IfSome a (AreFewer 4) → IfSome a IsCut
cut_at_seconds a few = weaker a (AreFewer 4) IsCut (λ left lt. few_cut left (omega arith)) few

pub cut_at_useconds : (a b : Known) (s : ℕ) → Consumes a b (word s) → IfSome b (AreFewer 4) → IfSome a IsCut
cut_at_useconds a b s c few =
    behind a b (word s) (AreFewer 4) IsCut c
    (λ left lt. few_cut (word s ++ left) (omega (arith, length-append (word s) left, length-word s))) few

pub cut_at_count : (a b c : Known) (s u : ℕ) → Consumes a b (word s) → Consumes b c (word u) → IfSome c (AreFewer 4) → IfSome a IsCut
cut_at_count a b c s u first second few =
    behind a c (word s ++ word u) (AreFewer 4) IsCut (Consumes-trans a b c (word s) (word u) first second)
    (λ left lt. few_cut ((word s ++ word u) ++ left)
    (omega (arith, length-append (word s ++ word u) left, length-append (word s) (word u), length-word s, length-word u)))
    few

pub cut_at_frames : (a b c d : Known) (s u n : ℕ) → s < 2 ^ 32 → u < 2 ^ 32 → n < 2 ^ 32 → Consumes a b (word s) → Consumes b c (word u)
    → Consumes c d (word n) → IfSome d (LacksFrames n) → IfSome a IsCut
cut_at_frames a b c d s u n p q r first second third lacks =
    behind a d ((word s ++ word u) ++ word n) (LacksFrames n) IsCut
    (Consumes-trans a c d (word s ++ word u) (word n) (Consumes-trans a b c (word s) (word u) first second) third)
    (λ left none. frames_lack s u n left p q r none) lacks

pub bad_time : (a b c : Known) (s u : ℕ) → Consumes a b (word s) → Consumes b c (word u) → 1000000 ≤ u → IfSome a HasBadTime
bad_time None b c s u first second many = tt
bad_time (Some l) None c s u first second many = absurd first
bad_time (Some l) (Some m) None s u first second many = absurd second
bad_time (Some l) (Some m) (Some r) s u first second many =
    record {
      seconds = s;
      useconds = u;
      rest = r;
      many = many;
      front = first ∙ ap (λ (k : List ℕ). word s ++ k) second
          ∙ sym (append_assoc (word s) (word u) r);
    }

-- Which errors of a turn the input's are ------------------------------------------------------------------------------

pub cut_is_cut : (error : InputError) → read_error error ≡ errors.Cut → error ≡ input.Cut
cut_is_cut input.Cut e = refl
cut_is_cut input.Memory e = absurd cc
cut_is_cut (input.Failed error) e = absurd cc

pub none_is_bad_time : (error : InputError) → read_error error ≡ errors.BadTime → ⊥
none_is_bad_time input.Cut e = cc
none_is_bad_time input.Memory e = cc
none_is_bad_time (input.Failed error) e = cc

pub ruleset cuts_of_turns = (cut_at_seconds, cut_at_useconds, cut_at_count, cut_at_frames, bad_time, cut_is_cut, none_is_bad_time)
