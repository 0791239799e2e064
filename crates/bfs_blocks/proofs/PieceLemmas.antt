-- Pieces of bytes, of which all but the last one are whole blocks.
use Rattle.std.proofs.Common.{◌≡◌, ℕ, zero, suc, ◌+◌, ◌*◌, ◌<◌, ◌≤◌, List, [], ◌∷◌, ◌++◌, length, take, drop, get_or, set, refl, sym, ap, subst, ◌∙◌, inl, inr, arith}
use Rattle.std.specs.List.{concat}
use Rattle.std.proofs.lemmas.Bool.{cases_lt}
use Rattle.std.proofs.lemmas.List.{same_lists, append-nil, append_assoc, drop-drop, drop_at, drop_all, drop_more, length-append, length-set, length-take, take-append-le, take_all, take_at}
use Rattle.std.proofs.lemmas.List.FromFn.{get_or-map-range_with_len, length-map-range_with_len}
use Rattle.std.proofs.Math.Seq.{take-append-add}
use Rattle.bfs_blocks.specs.Blocks.{AreFilled}
use Rattle.bfs_blocks.specs.Bytes.{block_at, block_bytes, block_count, blocks_in}

pub concat-append : (xs ys : List (List ℕ)) → concat (xs ++ ys) ≡ concat xs ++ concat ys
concat-append [] ys = refl
concat-append (x ∷ xs) ys = ap (λ rest. x ++ rest) (concat-append xs ys) ∙ sym (append_assoc x (concat xs) (concat ys))

-- Lengths -----------------------------------------------------------------------------------------------------------------

pub length_before : (k : ℕ) (ps : List (List ℕ)) → AreFilled ps → k < length ps → length (concat (take k ps)) ≡ block_bytes * k
length_before zero ps filled lt = omega arith
length_before (suc k) [] filled lt = absurd (omega arith)
length_before (suc k) (p ∷ ps) filled lt =
    let full : length p ≡ block_bytes = filled.2 (omega arith) in
    omega (arith, length-append p (concat (take k ps)), full, length_before k ps filled.3 (omega arith))

pub length_most : (ps : List (List ℕ)) → AreFilled ps → length (concat ps) ≤ block_bytes * length ps
length_most [] filled = omega arith
length_most (p ∷ ps) filled = omega (arith, length-append p (concat ps), filled.1, length_most ps filled.3)

-- Parts of the pieces ---------------------------------------------------------------------------------------------------------

pub filled_drop : (k : ℕ) (ps : List (List ℕ)) → AreFilled ps → AreFilled (drop k ps)
filled_drop zero ps filled = filled
filled_drop (suc k) [] filled = tt
filled_drop (suc k) (p ∷ ps) filled = filled_drop k ps filled.3

pub filled_take : (k : ℕ) (ps : List (List ℕ)) → AreFilled ps → AreFilled (take k ps)
filled_take zero ps filled = tt
filled_take (suc k) [] filled = tt
filled_take (suc k) (p ∷ ps) filled = (filled.0, filled.1, (λ some. filled.2 (omega (arith, some, length-take k ps))), filled_take k ps filled.3)

pub filled_join : (k : ℕ) (ps qs : List (List ℕ)) → AreFilled ps → AreFilled qs → length (take k ps ++ qs) ≡ length ps → AreFilled (take k ps ++ qs)
filled_join zero ps qs filled others same = others
filled_join (suc k) [] qs filled others same = others
filled_join (suc k) (p ∷ ps) qs filled others same =
    (filled.0, filled.1, (λ some. filled.2 (omega (arith, some, same))), filled_join k ps qs filled.3 others (omega (arith, same)))

-- what is behind so many blocks
pub behind : (k : ℕ) (ps : List (List ℕ)) → AreFilled ps → drop (block_bytes * k) (concat ps) ≡ concat (drop k ps)
behind zero ps filled = refl
behind (suc k) [] filled = drop_all (block_bytes * suc k) [] (omega arith)
behind (suc k) (p ∷ []) filled = drop_all (block_bytes * suc k) (p ++ []) (omega (arith, filled.1, length-append p [])) ∙ sym (ap concat (drop_all k [] (omega arith)))
behind (suc k) (p ∷ q ∷ ps) filled =
    let full : length p ≡ block_bytes = filled.2 (omega arith) in
    let e : block_bytes * suc k ≡ length p + block_bytes * k = omega (arith, full) in
    ap (λ n. drop n (p ++ concat (q ∷ ps))) e
    ∙ sym (drop-drop (block_bytes * k) (length p) (p ++ concat (q ∷ ps)))
    ∙ ap (drop (block_bytes * k)) (drop_at p (concat (q ∷ ps)) (length p) refl)
    ∙ behind k (q ∷ ps) filled.3

first_is : (p : List ℕ) (ps : List (List ℕ)) → AreFilled (p ∷ ps) → take block_bytes (concat (p ∷ ps)) ≡ p
first_is p [] filled = ap (take block_bytes) (append-nil p) ∙ take_all block_bytes p filled.1
first_is p (q ∷ ps) filled = take_at p (concat (q ∷ ps)) block_bytes (filled.2 (omega arith))

pub block_is : (k : ℕ) (ps : List (List ℕ)) (d : List ℕ) → AreFilled ps → k < length ps → block_at (concat ps) k ≡ get_or ps k d
unfolding block_at
block_is k ps d filled lt =
    let more = drop_more ps k d lt in
    ap (take block_bytes) (behind k ps filled ∙ ap concat more) ∙ first_is (get_or ps k d) (drop (k + 1) ps) (subst AreFilled more (filled_drop k ps filled))

pub no_block : (k : ℕ) (ps : List (List ℕ)) → AreFilled ps → length ps ≤ k → block_at (concat ps) k ≡ []
unfolding block_at
no_block k ps filled le = ap (take block_bytes) (behind k ps filled ∙ ap concat (drop_all k ps le))

-- The last piece -------------------------------------------------------------------------------------------------------------

pub length_is : (k : ℕ) (ps : List (List ℕ)) (d : List ℕ) → AreFilled ps → length ps ≡ k + 1 → length (concat ps) ≡ block_bytes * k + length (get_or ps k d)
length_is zero [] d filled same = absurd (omega arith)
length_is zero (p ∷ []) d filled same = omega (arith, length-append p [])
length_is zero (p ∷ q ∷ ps) d filled same = absurd (omega arith)
length_is (suc k) [] d filled same = absurd (omega arith)
length_is (suc k) (p ∷ ps) d filled same =
    let full : length p ≡ block_bytes = filled.2 (omega arith) in
    omega (arith, length-append p (concat ps), full, length_is k ps d filled.3 (omega arith))

pub extended : (k : ℕ) (ps : List (List ℕ)) (d more : List ℕ) → length ps ≡ k + 1 → concat (set ps k (get_or ps k d ++ more)) ≡ concat ps ++ more
extended zero [] d more same = absurd (omega arith)
extended zero (p ∷ []) d more same = append-nil (p ++ more) ∙ sym (ap (λ xs. xs ++ more) (append-nil p))
extended zero (p ∷ q ∷ ps) d more same = absurd (omega arith)
extended (suc k) [] d more same = absurd (omega arith)
extended (suc k) (p ∷ ps) d more same = ap (λ xs. p ++ xs) (extended k ps d more (omega arith)) ∙ sym (append_assoc p (concat ps) more)

pub filled_extended : (k : ℕ) (ps : List (List ℕ)) (d more : List ℕ) → AreFilled ps → length ps ≡ k + 1 → length (get_or ps k d) + length more ≤ block_bytes → AreFilled (set ps k (get_or ps k d ++ more))
filled_extended zero [] d more filled same few = tt
filled_extended zero (p ∷ []) d more filled same few =
    let some = filled.0 in
    (omega (arith, some, length-append p more), omega (arith, few, length-append p more), (λ none. absurd (omega (arith, none))), tt)
filled_extended zero (p ∷ q ∷ ps) d more filled same few = absurd (omega arith)
filled_extended (suc k) [] d more filled same few = tt
filled_extended (suc k) (p ∷ ps) d more filled same few =
    (filled.0, filled.1, (λ some. filled.2 (omega (arith, some, length-set ps k (get_or ps k d ++ more)))), filled_extended k ps d more filled.3 (omega arith) few)

pub filled_push : (ps : List (List ℕ)) (q : List ℕ) → AreFilled ps → length (concat ps) ≡ block_bytes * length ps → 0 < length q → length q ≤ block_bytes → AreFilled (ps ++ q ∷ [])
filled_push [] q filled full some few = (some, few, (λ none. absurd (omega (arith, none))), tt)
filled_push (p ∷ ps) q filled full some few =
    let whole = length-append p (concat ps) in
    let most = length_most ps filled.3 in
    let here = filled.1 in
    (filled.0, here, (λ _. omega (arith, whole, most, here, full)), filled_push ps q filled.3 (omega (arith, whole, most, here, full)) some few)

pub concat-push : (ps : List (List ℕ)) (q : List ℕ) → concat (ps ++ q ∷ []) ≡ concat ps ++ q
concat-push ps q = concat-append ps (q ∷ []) ∙ ap (λ xs. concat ps ++ xs) (append-nil q)

-- Cuts ------------------------------------------------------------------------------------------------------------------------

full_first : (p : List ℕ) (ps : List (List ℕ)) → AreFilled (p ∷ ps) → block_bytes ≤ length (concat (p ∷ ps)) → length p ≡ block_bytes
full_first p [] filled many = omega (arith, filled.1, length-append p [], many)
full_first p (q ∷ ps) filled many = filled.2 (omega arith)

-- to whole blocks
pub cut_whole : (k : ℕ) (ps : List (List ℕ)) → AreFilled ps → block_bytes * k ≤ length (concat ps) → concat (take k ps) ≡ take (block_bytes * k) (concat ps)
cut_whole zero ps filled many = refl
cut_whole (suc k) [] filled many = absurd (omega arith)
cut_whole (suc k) (p ∷ ps) filled many =
    let full = full_first p ps filled (omega arith) in
    let e : block_bytes * suc k ≡ length p + block_bytes * k = omega (arith, full) in
    ap (λ xs. p ++ xs) (cut_whole k ps filled.3 (omega (arith, full, length-append p (concat ps))))
    ∙ sym (take-append-add p (concat ps) (block_bytes * k))
    ∙ sym (ap (λ n. take n (p ++ concat ps)) e)

-- within a block
pub cut_within : (k r : ℕ) (ps : List (List ℕ)) (d : List ℕ) → AreFilled ps → k < length ps → r ≤ length (get_or ps k d) → concat (take k ps ++ take r (get_or ps k d) ∷ []) ≡ take (block_bytes * k + r) (concat ps)
cut_within zero r [] d filled lt le = absurd (omega arith)
cut_within zero r (p ∷ ps) d filled lt le =
    let e : block_bytes * zero + r ≡ r = omega arith in
    append-nil (take r p) ∙ sym (ap (λ n. take n (p ++ concat ps)) e ∙ take-append-le r p (concat ps) le)
cut_within (suc k) r [] d filled lt le = absurd (omega arith)
cut_within (suc k) r (p ∷ ps) d filled lt le =
    let full : length p ≡ block_bytes = filled.2 (omega arith) in
    let e : block_bytes * suc k + r ≡ length p + (block_bytes * k + r) = omega (arith, full) in
    ap (λ xs. p ++ xs) (cut_within k r ps d filled.3 (omega arith) le)
    ∙ sym (take-append-add p (concat ps) (block_bytes * k + r))
    ∙ sym (ap (λ n. take n (p ++ concat ps)) e)

pub filled_cut : (k r : ℕ) (ps : List (List ℕ)) (q : List ℕ) → AreFilled ps → k < length ps → 0 < length q → length q ≤ block_bytes → AreFilled (take k ps ++ q ∷ [])
filled_cut k r ps q filled lt some few =
    filled_push (take k ps) q (filled_take k ps filled) (omega (arith, length_before k ps filled lt, length-take k ps)) some few

-- One piece ---------------------------------------------------------------------------------------------------------------------

pub few_in : (k : ℕ) (ps : List (List ℕ)) (d : List ℕ) → AreFilled ps → k < length ps → length (get_or ps k d) ≤ block_bytes
few_in k [] d filled lt = absurd (omega arith)
few_in zero (p ∷ ps) d filled lt = filled.1
few_in (suc k) (p ∷ ps) d filled lt = few_in k ps d filled.3 (omega arith)

pub some_in : (k : ℕ) (ps : List (List ℕ)) (d : List ℕ) → AreFilled ps → k < length ps → 0 < length (get_or ps k d)
some_in k [] d filled lt = absurd (omega arith)
some_in zero (p ∷ ps) d filled lt = filled.0
some_in (suc k) (p ∷ ps) d filled lt = some_in k ps d filled.3 (omega arith)

pub full_in : (k : ℕ) (ps : List (List ℕ)) (d : List ℕ) → AreFilled ps → k + 1 < length ps → length (get_or ps k d) ≡ block_bytes
full_in k [] d filled lt = absurd (omega arith)
full_in zero (p ∷ ps) d filled lt = filled.2 (omega arith)
full_in (suc k) (p ∷ ps) d filled lt = full_in k ps d filled.3 (omega arith)

-- what is left of the piece in which so many bytes end
pub rest_in : (k r : ℕ) (ps : List (List ℕ)) (d : List ℕ) → AreFilled ps → k < length ps → r ≤ block_bytes → block_bytes * k + r ≤ length (concat ps) → r ≤ length (get_or ps k d)
rest_in k r ps d filled lt few within =
    elim (cases_lt (k + 1) (length ps)) [
      | inl more ↦ omega (arith, full_in k ps d filled more, few)
      | inr last ↦ omega (arith, length_is k ps d filled (omega (arith, lt, last)), within)
    ]

-- All pieces ------------------------------------------------------------------------------------------------------------------

pub count_is : (ps : List (List ℕ)) → AreFilled ps → length ps ≡ block_count (length (concat ps))
count_is [] filled = refl
count_is (p ∷ ps) filled =
    let k : ℕ = length ps in
    let some = some_in k (p ∷ ps) [] filled (omega arith) in
    let few = few_in k (p ∷ ps) [] filled (omega arith) in
    omega (arith, length_is k (p ∷ ps) [] filled (omega arith), some, few)

-- they are the blocks
pub blocks_are : (ps : List (List ℕ)) → AreFilled ps → ps ≡ blocks_in (concat ps)
blocks_are ps filled =
    let n : ℕ = block_count (length (concat ps)) in
    same_lists ps (blocks_in (concat ps)) (count_is ps filled ∙ sym (length-map-range_with_len (block_at (concat ps)) 0 n))
    (λ k d lt. sym (block_is k ps d filled lt) ∙ sym (get_or-map-range_with_len (block_at (concat ps)) 0 n k k d (omega (arith, lt, count_is ps filled)) (omega arith)))
