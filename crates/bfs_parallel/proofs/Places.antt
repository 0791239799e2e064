-- The places of a level's requests, and the replies that are put there.
use Rattle.std.proofs.Common.{◌≡◌, ℕ, zero, suc, ◌+◌, ◌-◌, ◌<◌, ◌≤◌, Bool, true, false, cond, ◌||◌, List, [], ◌∷◌, ◌++◌, length, map, take, get_or, slice_set, slice_index_or, refl, ap, sym, subst, ◌∙◌, arith, eqb, eq-eqb, eqb-true, ne_eqb, true≢false, inl, inr, ◌⊎◌}
use Rattle.std.specs.Prelude.{◌==◌, if◌then◌else◌}
use Rattle.std.specs.Global.{Global}
use Rattle.std.specs.List.{All, AllByRecursion}
use Rattle.std.specs.List.Sorted.{IsStrictlyIncreasing}
use Rattle.std.specs.declared.vec.Vec.{Vec}
use Rattle.std.proofs.lemmas.List.{append-nil, get_or-set_same, get_or-set_other, length-set, set-append_right}
use Rattle.std.proofs.lemmas.List.Elements.{All-head, All-tail}
use Rattle.bfs_model.specs.Server.Conflicts.{among}
use Rattle.bfs_handover.specs.declared.results.NumberedReply.{NumberedReply}
use Rattle.bfs_parallel.specs.Levels.{AreInLevels, AreKept, all_put, numbers_at, bucket_at, places_from}
use Rattle.bfs_parallel.proofs.Standing.{Differ}

-- Places ----------------------------------------------------------------------------------------------------------------------

pub record IsPlaceOf (from : ℕ) (levels : List ℕ) (level place : ℕ) : Type 0 where
  pub above : from ≤ place
  pub within : place - from < length levels
  pub level_is : get_or levels (place - from) 0 ≡ level

place_later : (from other level place : ℕ) (levels : List ℕ) → IsPlaceOf (from + 1) levels level place → IsPlaceOf from (other ∷ levels) level place
place_later from other level place levels is =
    let above = is.above in
    let within = is.within in
    let on : place - from ≡ suc (place - (from + 1)) = omega arith in record {
      above = omega arith;
      within = omega arith;
      level_is = ap (λ k. get_or (other ∷ levels) k 0) on ∙ is.level_is;
    }

places_later : (from other level : ℕ) (levels places : List ℕ) → AllByRecursion (IsPlaceOf (from + 1) levels level) places → AllByRecursion (IsPlaceOf from (other ∷ levels) level) places
places_later from other level levels [] all = tt
places_later from other level levels (place ∷ places) all = (place_later from other level place levels all.0, places_later from other level levels places all.1)

are_places_from : (from : ℕ) (levels : List ℕ) (level : ℕ) → AllByRecursion (IsPlaceOf from levels level) (places_from from levels level)
are_places_from from [] level = tt
are_places_from from (other ∷ levels) level = by_test (eqb other level) refl (places_later from other level levels (places_from (from + 1) levels level) (are_places_from (from + 1) levels level))
  where
    by_test : (b : Bool) → eqb other level ≡ b → AllByRecursion (IsPlaceOf from (other ∷ levels) level) (places_from (from + 1) levels level)
        → AllByRecursion (IsPlaceOf from (other ∷ levels) level) (cond b (from ∷ places_from (from + 1) levels level) (places_from (from + 1) levels level))
    by_test true same rest = (
      record {
        above = omega arith;
        within = omega arith;
        level_is = ap (λ k. get_or (other ∷ levels) k 0) (let at : from - from ≡ 0 = omega arith in at) ∙ eqb-true other level same;
      },
      rest,
    )
    by_test false same rest = rest

pub are_places : (levels : List ℕ) (level : ℕ) → AllByRecursion (λ place. (place < length levels) × (get_or levels place 0 ≡ level)) (places_from 0 levels level)
are_places levels level = shown (places_from 0 levels level) (are_places_from 0 levels level)
  where
    shown : (places : List ℕ) → AllByRecursion (IsPlaceOf 0 levels level) places → AllByRecursion (λ place. (place < length levels) × (get_or levels place 0 ≡ level)) places
    shown [] all = tt
    shown (place ∷ places) all =
        let within = all.0.within in
        let same : place - 0 ≡ place = omega arith in
        ((omega arith, ap (λ k. get_or levels k 0) (sym same) ∙ all.0.level_is), shown places all.1)

-- each place of a level is among them
there_from : (from : ℕ) (levels : List ℕ) (level place : ℕ) → place < length levels → get_or levels place 0 ≡ level → among (places_from from levels level) (from + place) ≡ true
there_from from [] level place within is = absurd (omega arith)
there_from from (other ∷ levels) level zero within is = by_test (eqb other level) (eq-eqb other level is)
  where
    by_test : (b : Bool) → b ≡ true → among (cond b (from ∷ places_from (from + 1) levels level) (places_from (from + 1) levels level)) (from + 0) ≡ true
    by_test true same = ap (λ b. b || among (places_from (from + 1) levels level) (from + 0)) (eq-eqb from (from + 0) (omega arith))
    by_test false same = absurd (true≢false (sym same))
there_from from (other ∷ levels) level (suc place) within is =
    by_test (eqb other level) (subst (λ k. among (places_from (from + 1) levels level) k ≡ true) (let on : (from + 1) + place ≡ from + suc place = omega arith in on) (there_from (from + 1) levels level place (omega arith) is))
  where
    or_true : (b : Bool) → (b || true) ≡ true
    or_true true = refl
    or_true false = refl

    by_test : (b : Bool) → among (places_from (from + 1) levels level) (from + suc place) ≡ true → among (cond b (from ∷ places_from (from + 1) levels level) (places_from (from + 1) levels level)) (from + suc place) ≡ true
    by_test true rest = ap (λ b. eqb from (from + suc place) || b) rest ∙ or_true (eqb from (from + suc place))
    by_test false rest = rest

pub is_there : (levels : List ℕ) (level place : ℕ) → place < length levels → get_or levels place 0 ≡ level → among (places_from 0 levels level) place ≡ true
is_there levels level place within is = subst (λ k. among (places_from 0 levels level) k ≡ true) (let same : 0 + place ≡ place = omega arith in same) (there_from 0 levels level place within is)

-- They rise ----------------------------------------------------------------------------------------------------------------------

abbrev pub Climb : List ℕ → Type 0
Climb [] = Unit {0}
Climb (k ∷ ks) = AllByRecursion (λ j. k < j) ks × Climb ks

places_climb : (from : ℕ) (levels : List ℕ) (level : ℕ) → Climb (places_from from levels level)
places_climb from [] level = tt
places_climb from (other ∷ levels) level = by_test (eqb other level) (places_climb (from + 1) levels level)
  where
    beyond : (places : List ℕ) → AllByRecursion (IsPlaceOf (from + 1) levels level) places → AllByRecursion (λ j. from < j) places
    beyond [] all = tt
    beyond (place ∷ places) all = (let above = all.0.above in omega arith, beyond places all.1)

    by_test : (b : Bool) → Climb (places_from (from + 1) levels level) → Climb (cond b (from ∷ places_from (from + 1) levels level) (places_from (from + 1) levels level))
    by_test true rest = (beyond (places_from (from + 1) levels level) (are_places_from (from + 1) levels level), rest)
    by_test false rest = rest

pub climb : (levels : List ℕ) (level : ℕ) → Climb (places_from 0 levels level)
climb = places_climb 0

climb_on : (first : ℕ) (ks : List ℕ) → Climb ks → Climb (map (λ k. first + k) ks)
climb_on first [] up = tt
climb_on first (k ∷ ks) up = (above ks up.0, climb_on first ks up.1)
  where
    above : (js : List ℕ) → AllByRecursion (λ j. k < j) js → AllByRecursion (λ j. first + k < j) (map (λ j. first + j) js)
    above [] all = tt
    above (j ∷ js) all = (let less = all.0 in omega arith, above js all.1)

increase : (ks : List ℕ) → Climb ks → IsStrictlyIncreasing ks
increase [] up k less = absurd (omega arith)
increase (j ∷ []) up k less = absurd (omega arith)
increase (i ∷ j ∷ ks) up zero less = up.0.0
increase (i ∷ j ∷ ks) up (suc k) less =
    subst (λ n. get_or (j ∷ ks) k 0 < get_or (i ∷ j ∷ ks) n 0) (let next : suc (k + 1) ≡ suc k + 1 = omega arith in next) (increase (j ∷ ks) up.1 k (omega arith))

pub numbers_rise : (first : ℕ) (levels : List ℕ) (level : ℕ) → IsStrictlyIncreasing (numbers_at first levels level)
numbers_rise first levels level = increase (numbers_at first levels level) (climb_on first (places_from 0 levels level) (climb levels level))

differ : (ks : List ℕ) → Climb ks → Differ ks
differ [] up = tt
differ (k ∷ ks) up = (others ks up.0, differ ks up.1)
  where
    others : (js : List ℕ) → AllByRecursion (λ j. k < j) js → AllByRecursion (λ j. eqb k j ≡ false) js
    others [] all = tt
    others (j ∷ js) all = (let less = all.0 in ne_eqb k j (λ same. absurd (omega arith)), others js all.1)

pub places_differ : (levels : List ℕ) (level : ℕ) → Differ (places_from 0 levels level)
places_differ levels level = differ (places_from 0 levels level) (climb levels level)

-- One place more ------------------------------------------------------------------------------------------------------------------

more_from : (from : ℕ) (levels : List ℕ) (last level : ℕ) → places_from from (levels ++ last ∷ []) level ≡ places_from from levels level ++ (if last == level then (from + length levels) ∷ [] else [])
more_from from [] last level = ap (λ k. if last == level then k ∷ [] else []) (let same : from ≡ from + 0 = omega arith in same)
more_from from (other ∷ levels) last level =
    by_test (eqb other level)
    (more_from (from + 1) levels last level ∙ ap (λ k. places_from (from + 1) levels level ++ (if last == level then k ∷ [] else [])) (let same : (from + 1) + length levels ≡ from + suc (length levels) = omega arith in same))
  where
    by_test : (b : Bool) → places_from (from + 1) (levels ++ last ∷ []) level ≡ places_from (from + 1) levels level ++ (if last == level then (from + suc (length levels)) ∷ [] else [])
        → cond b (from ∷ places_from (from + 1) (levels ++ last ∷ []) level) (places_from (from + 1) (levels ++ last ∷ []) level)
        ≡ cond b (from ∷ places_from (from + 1) levels level) (places_from (from + 1) levels level) ++ (if last == level then (from + suc (length levels)) ∷ [] else [])
    by_test true rest = ap (λ places. from ∷ places) rest
    by_test false rest = rest

abbrev if_same : (last level number : ℕ) → List ℕ
if_same last level number = if last == level then number ∷ [] else []

numbers_more : (first : ℕ) (levels : List ℕ) (last level number : ℕ) → number ≡ first + length levels → numbers_at first (levels ++ last ∷ []) level ≡ numbers_at first levels level ++ if_same last level number
numbers_more first levels last level number is =
    ap (map (λ place. first + place)) (more_from 0 levels last level) ∙ spread (places_from 0 levels level) (eqb last level)
  where
    spread : (places : List ℕ) (b : Bool) → map (λ place. first + place) (places ++ cond b ((0 + length levels) ∷ []) []) ≡ map (λ place. first + place) places ++ cond b (number ∷ []) []
    spread [] true = ap (λ n. n ∷ []) (let same : first + (0 + length levels) ≡ number = omega arith in same)
    spread [] false = refl
    spread (place ∷ places) b = ap (λ ns. (first + place) ∷ ns) (spread places b)

bucket_here : (buckets : List (Vec ℕ Global)) (at : ℕ) (old new : Vec ℕ Global) (number : ℕ) → at < length buckets → old ≡ slice_index_or buckets at old → new.items ≡ old.items ++ number ∷ []
    → bucket_at (slice_set buckets at new) at ≡ bucket_at buckets at ++ number ∷ []
bucket_here [] at old new number within here is = absurd (omega arith)
bucket_here (v ∷ vs) zero old new number within here is = is ∙ ap (λ (u : Vec ℕ Global). u.items ++ number ∷ []) here
bucket_here (v ∷ vs) (suc at) old new number within here is = bucket_here vs at old new number (omega arith) here is

bucket_other : (buckets : List (Vec ℕ Global)) (at level : ℕ) (new : Vec ℕ Global) → (at ≡ level → ⊥) → bucket_at (slice_set buckets at new) level ≡ bucket_at buckets level
bucket_other [] zero level new other = refl
bucket_other [] (suc at) level new other = refl
bucket_other (v ∷ vs) zero zero new other = absurd (other refl)
bucket_other (v ∷ vs) zero (suc level) new other = refl
bucket_other (v ∷ vs) (suc at) zero new other = refl
bucket_other (v ∷ vs) (suc at) (suc level) new other = bucket_other vs at level new (λ same. other (ap suc same))

-- the number stands behind the others of its level, and the other levels are as they were
number_put : (first : ℕ) (levels : List ℕ) (buckets : List (Vec ℕ Global)) (last number level : ℕ) (old new : Vec ℕ Global) → bucket_at buckets level ≡ numbers_at first levels level → last < length buckets
    → old ≡ slice_index_or buckets last old → new.items ≡ old.items ++ number ∷ [] → bucket_at (slice_set buckets last new) level ≡ numbers_at first levels level ++ if_same last level number
number_put first levels buckets last number level old new kept within here pushed = by_test (eqb last level) refl
  where
    by_test : (b : Bool) → eqb last level ≡ b → bucket_at (slice_set buckets last new) level ≡ numbers_at first levels level ++ if_same last level number
    by_test true same =
        subst (λ l. bucket_at (slice_set buckets last new) l ≡ bucket_at buckets l ++ number ∷ []) (eqb-true last level same) (bucket_here buckets last old new number within here pushed)
        ∙ ap (λ ns. ns ++ number ∷ []) kept ∙ sym (ap (λ b. numbers_at first levels level ++ cond b (number ∷ []) []) same)
    by_test false other =
        bucket_other buckets last level new (λ is. true≢false (sym (eq-eqb last level is) ∙ other))
        ∙ kept ∙ sym (append-nil (numbers_at first levels level)) ∙ sym (ap (λ b. numbers_at first levels level ++ cond b (number ∷ []) []) other)

get_or-push : (levels : List ℕ) (last place : ℕ) → place < length (levels ++ last ∷ []) → ((place < length levels) × (get_or (levels ++ last ∷ []) place 0 ≡ get_or levels place 0)) ⊎ (get_or (levels ++ last ∷ []) place 0 ≡ last)
get_or-push [] last zero less = inr refl
get_or-push [] last (suc place) less = absurd (omega arith)
get_or-push (level ∷ levels) last zero less = inl (omega arith, refl)
get_or-push (level ∷ levels) last (suc place) less = elim (get_or-push levels last place (omega arith)) [
  | inl earlier ↦ inl (let lt = earlier.0 in omega arith, earlier.1)
  | inr is ↦ inr is
]

-- one number more
pub kept_more : (first : ℕ) (levels : List ℕ) (buckets : List (Vec ℕ Global)) (last number : ℕ) (old new : Vec ℕ Global) → AreKept first levels buckets → number ≡ first + length levels → last < length buckets
    → old ≡ slice_index_or buckets last old → new.items ≡ old.items ++ number ∷ [] → AreKept first (levels ++ last ∷ []) (slice_set buckets last new)
kept_more first levels buckets last number old new kept is within here pushed = record {
  each = λ level. number_put first levels buckets last number level old new (kept.each level) within here pushed ∙ sym (numbers_more first levels last level number is);
  below = λ place less. subst (λ n. get_or (levels ++ last ∷ []) place 0 < n) (sym (length-set buckets last new)) (elim (get_or-push levels last place less) [
    | inl earlier ↦ let low = kept.below place earlier.0 in let same = earlier.1 in omega arith
    | inr same ↦ omega arith
  ]);
}

-- where there are more levels, and nothing stands at the new ones
pub kept_grown : (first : ℕ) (levels : List ℕ) (buckets others : List (Vec ℕ Global)) → AreKept first levels buckets → length buckets ≤ length others → ((level : ℕ) → bucket_at others level ≡ bucket_at buckets level) → AreKept first levels others
kept_grown first levels buckets others kept longer same = record {
  each = λ level. same level ∙ kept.each level;
  below = λ place less. let low = kept.below place less in omega arith;
}

-- nothing stands at a level that is put behind
pub nothing_behind : (buckets : List (Vec ℕ Global)) (none : Vec ℕ Global) → none.items ≡ [] → (level : ℕ) → bucket_at (buckets ++ none ∷ []) level ≡ bucket_at buckets level
nothing_behind [] none is zero = is
nothing_behind [] none is (suc level) = refl
nothing_behind (bucket ∷ buckets) none is zero = refl
nothing_behind (bucket ∷ buckets) none is (suc level) = nothing_behind buckets none is level

pub all_taken : (n : ℕ) (levels : List ℕ) → length levels ≤ n → take n levels ≡ levels
all_taken n [] long = nothing n
  where
    nothing : (k : ℕ) → take {A = ℕ} k [] ≡ []
    nothing zero = refl
    nothing (suc k) = refl
all_taken zero (level ∷ levels) long = absurd (omega arith)
all_taken (suc n) (level ∷ levels) long = ap (λ rest. level ∷ rest) (all_taken n levels (omega arith))

-- level after level
in_levels_from : (first : ℕ) (levels : List ℕ) (level : ℕ) (buckets : List (Vec ℕ Global)) → ((k : ℕ) → bucket_at buckets k ≡ numbers_at first levels (level + k)) → ((place : ℕ) → place < length levels → get_or levels place 0 < level + length buckets)
    → AreInLevels first levels level buckets
in_levels_from first levels level [] each below = λ place less. let low = below place less in omega arith
in_levels_from first levels level (bucket ∷ buckets) each below = (
  each 0 ∙ ap (numbers_at first levels) (let same : level + 0 ≡ level = omega arith in same),
  in_levels_from first levels (level + 1) buckets (λ k. each (suc k) ∙ ap (numbers_at first levels) (let same : level + suc k ≡ (level + 1) + k = omega arith in same)) (λ place less. let low = below place less in omega arith),
)

pub in_levels : (first : ℕ) (levels : List ℕ) (buckets : List (Vec ℕ Global)) → AreKept first levels buckets → AreInLevels first levels 0 buckets
in_levels first levels buckets kept =
    in_levels_from first levels 0 buckets (λ k. kept.each k ∙ ap (numbers_at first levels) (let same : k ≡ 0 + k = omega arith in same)) (λ place less. let low = kept.below place less in omega arith)

-- Replies ---------------------------------------------------------------------------------------------------------------------------

-- each reply at the place of its number, where the first has that number
abbrev pub put_from : (first : ℕ) → List NumberedReply → List (List ℕ) → List (List ℕ)
put_from first [] texts = texts
put_from first (reply ∷ replies) texts = put_from first replies (slice_set texts (reply.number - first) reply.bytes.items)

pub length-put_from : (first : ℕ) (replies : List NumberedReply) (texts : List (List ℕ)) → length (put_from first replies texts) ≡ length texts
length-put_from first [] texts = refl
length-put_from first (reply ∷ replies) texts = length-put_from first replies (slice_set texts (reply.number - first) reply.bytes.items) ∙ length-set texts (reply.number - first) reply.bytes.items

-- behind so many others, each is at the place of its number among all
pub put_behind : (before : List (List ℕ)) (first : ℕ) (replies : List NumberedReply) (texts : List (List ℕ)) → length before ≡ first → All (λ (reply : NumberedReply). first ≤ reply.number) replies
    → all_put replies (before ++ texts) ≡ before ++ put_from first replies texts
put_behind before first [] texts long from = refl
put_behind before first (reply ∷ replies) texts long from =
    ap (all_put replies) (set-append_right before texts first reply.number reply.bytes.items long (All-head (λ (other : NumberedReply). first ≤ other.number) reply replies from))
    ∙ put_behind before first replies (slice_set texts (reply.number - first) reply.bytes.items) long (All-tail (λ (other : NumberedReply). first ≤ other.number) reply replies from)

module _ (first : ℕ) (told : ℕ → List ℕ) where
  -- the replies are those of these places
  pub record AreFor (ks : List ℕ) (replies : List NumberedReply) : Type 0 where
    pub numbered : map (λ (reply : NumberedReply). reply.number) replies ≡ map (λ k. first + k) ks
    pub answers : map (λ (reply : NumberedReply). reply.bytes.items) replies ≡ map told ks

  abbrev head_of : List ℕ → ℕ
  head_of [] = 0
  head_of (n ∷ ns) = n

  abbrev tail_of : {X : Type 0} → List X → List X
  tail_of [] = []
  tail_of (x ∷ xs) = xs

  abbrev text_of : List (List ℕ) → List ℕ
  text_of [] = []
  text_of (x ∷ xs) = x

  module _ (k : ℕ) (ks : List ℕ) (reply : NumberedReply) (replies : List NumberedReply) (texts : List (List ℕ)) (are : AreFor (k ∷ ks) (reply ∷ replies)) (others : AllByRecursion (λ i. eqb k i ≡ false) ks) (within : k < length texts) (j : ℕ) where
    abbrev now : List (List ℕ)
    now = slice_set texts (reply.number - first) reply.bytes.items

    pub later : AreFor ks replies
    later = record { numbered = ap tail_of are.numbered; answers = ap tail_of are.answers }

    at : reply.number - first ≡ k
    at = let is : reply.number ≡ first + k = ap head_of are.numbered in omega arith

    pub as_long : length now ≡ length texts
    as_long = length-set texts (reply.number - first) reply.bytes.items

    absent : (js : List ℕ) → AllByRecursion (λ i. eqb k i ≡ false) js → eqb k j ≡ true → among js j ≡ false
    absent [] all same = refl
    absent (i ∷ js) all same = by_head (eqb i j) (ne_eqb i j (λ is. true≢false (sym (eq-eqb k i (eqb-true k j same ∙ sym is)) ∙ all.0))) (absent js all.1 same)
      where
        by_head : (b : Bool) → b ≡ false → among js j ≡ false → (b || among js j) ≡ false
        by_head true is none = absurd (true≢false is)
        by_head false is none = none

    put_here : get_or now k [] ≡ told k
    put_here = ap (λ i. get_or (slice_set texts i reply.bytes.items) k []) at ∙ get_or-set_same texts k reply.bytes.items [] within ∙ ap text_of are.answers

    module _ (here : among ks j ≡ true → get_or (put_from first replies now) j [] ≡ told j) (elsewhere : among ks j ≡ false → get_or (put_from first replies now) j [] ≡ get_or now j []) where
      pub this_by : (b : Bool) → eqb k j ≡ b → (b || among ks j) ≡ true → get_or (put_from first replies now) j [] ≡ told j
      this_by true same is = elsewhere (absent ks others same) ∙ subst (λ i. get_or now i [] ≡ told i) (eqb-true k j same) put_here
      this_by false same is = here is

      pub other_by : (b : Bool) → eqb k j ≡ b → (b || among ks j) ≡ false → get_or (put_from first replies now) j [] ≡ get_or texts j []
      other_by true same none = absurd (true≢false none)
      other_by false same none =
          elsewhere none ∙ ap (λ i. get_or (slice_set texts i reply.bytes.items) j []) at ∙ get_or-set_other texts k j reply.bytes.items [] (λ is. true≢false (sym (eq-eqb k j (sym is)) ∙ same))

  rest_within : (texts others : List (List ℕ)) (js : List ℕ) → length others ≡ length texts → AllByRecursion (λ i. i < length texts) js → AllByRecursion (λ i. i < length others) js
  rest_within texts others [] long all = tt
  rest_within texts others (i ∷ js) long all = (subst (λ n. i < n) (sym long) all.0, rest_within texts others js long all.1)

  put_at : (ks : List ℕ) (replies : List NumberedReply) (texts : List (List ℕ)) → AreFor ks replies → Differ ks → AllByRecursion (λ k. k < length texts) ks → (j : ℕ)
      → (among ks j ≡ true → get_or (put_from first replies texts) j [] ≡ told j) × (among ks j ≡ false → get_or (put_from first replies texts) j [] ≡ get_or texts j [])
  put_at [] [] texts are others within j = ((λ is. absurd (true≢false (sym is))), (λ none. refl))
  put_at [] (reply ∷ replies) texts are others within j = absurd (let wrong : suc (length (map (λ (other : NumberedReply). other.number) replies)) ≡ 0 = ap length are.numbered in omega arith)
  put_at (k ∷ ks) [] texts are others within j = absurd (let wrong : 0 ≡ suc (length (map (λ i. first + i) ks)) = ap length are.numbered in omega arith)
  put_at (k ∷ ks) (reply ∷ replies) texts are others within j =
      let now = slice_set texts (reply.number - first) reply.bytes.items in
      let long : length now ≡ length texts = as_long k ks reply replies texts are others.0 within.0 j in
      let rest = put_at ks replies now (later k ks reply replies texts are others.0 within.0 j) others.1 (rest_within texts now ks long within.1) j in (
        (λ is. this_by k ks reply replies texts are others.0 within.0 j rest.0 rest.1 (eqb k j) refl is),
        (λ none. other_by k ks reply replies texts are others.0 within.0 j rest.0 rest.1 (eqb k j) refl none),
      )

  pub put_there : (ks : List ℕ) (replies : List NumberedReply) (texts : List (List ℕ)) → AreFor ks replies → Differ ks → AllByRecursion (λ k. k < length texts) ks → (j : ℕ) → among ks j ≡ true → get_or (put_from first replies texts) j [] ≡ told j
  put_there ks replies texts are differ within j = (put_at ks replies texts are differ within j).0

  pub put_elsewhere : (ks : List ℕ) (replies : List NumberedReply) (texts : List (List ℕ)) → AreFor ks replies → Differ ks → AllByRecursion (λ k. k < length texts) ks → (j : ℕ) → among ks j ≡ false → get_or (put_from first replies texts) j [] ≡ get_or texts j []
  put_elsewhere ks replies texts are differ within j = (put_at ks replies texts are differ within j).1

  -- what holds of each reply's number and bytes
  pub all_told : (P : ℕ → List ℕ → Type 0) (ks : List ℕ) (replies : List NumberedReply) → AreFor ks replies → AllByRecursion (λ (reply : NumberedReply). P reply.number reply.bytes.items) replies → AllByRecursion (λ k. P (first + k) (told k)) ks
  all_told P [] replies are all = tt
  all_told P (k ∷ ks) [] are all = absurd (let wrong : 0 ≡ suc (length (map (λ i. first + i) ks)) = ap length are.numbered in omega arith)
  all_told P (k ∷ ks) (reply ∷ replies) are all = (
    subst (λ n. P n (told k)) (ap head_of are.numbered) (subst (P reply.number) (ap text_of are.answers) all.0),
    all_told P ks replies (record { numbered = ap tail_of are.numbered; answers = ap tail_of are.answers }) all.1,
  )

  pub all_said : (P : ℕ → List ℕ → Type 0) (ks : List ℕ) (replies : List NumberedReply) → AreFor ks replies → AllByRecursion (λ k. P (first + k) (told k)) ks → AllByRecursion (λ (reply : NumberedReply). P reply.number reply.bytes.items) replies
  all_said P ks [] are all = tt
  all_said P [] (reply ∷ replies) are all = absurd (let wrong : suc (length (map (λ (other : NumberedReply). other.number) replies)) ≡ 0 = ap length are.numbered in omega arith)
  all_said P (k ∷ ks) (reply ∷ replies) are all = (
    subst (λ n. P n reply.bytes.items) (sym (ap head_of are.numbered)) (subst (P (first + k)) (sym (ap text_of are.answers)) all.0),
    all_said P ks replies (record { numbered = ap tail_of are.numbered; answers = ap tail_of are.answers }) all.1,
  )
