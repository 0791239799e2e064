-- Bytes put over those of blocks: over some of one block, and then over those of the blocks behind it.
use Rattle.std.proofs.Common.{◌≡◌, ℕ, ◌+◌, ◌-◌, ◌*◌, ◌/◌, ◌%◌, ◌<◌, ◌≤◌, min, nat_eq, Bool, false, List, [], ◌∷◌, ◌++◌, length, take, drop, get_or, set, refl, sym, ap, subst, ◌∙◌, arith}
use Rattle.std.specs.List.{concat}
use Rattle.std.proofs.lemmas.List.{get_or_default, append-nil, drop_all, length-append, length-drop, length-map, length-take, length-take-le, map-append, take-append-drop, take-map, drop-map, take_all, take_rest}
use borrow.Rule.Slice.PartMut.{put_mid, post_of}
use Rattle.bfs_blocks.specs.declared.blocks.Block.{Block}
use Rattle.bfs_blocks.specs.Blocks.{AreFilled, bytes_in, bytes_of, pieces_of, put_at}
use Rattle.bfs_blocks.specs.Bytes.{block_bytes}
use Rattle.bfs_blocks.proofs.PieceLemmas.{behind, concat-append, cut_whole, filled_join, length_most}
use Rattle.bfs_blocks.proofs.PutLemmas.{put_behind, put_parts}

pub some_blocks : (blocks : List Block) (bytes : List ℕ) (start : ℕ) → nat_eq (length bytes) 0 ≡ false → start + length bytes ≤ length (bytes_of blocks) → 0 < length blocks
some_blocks [] [] start some within = absurd cc
some_blocks [] (x ∷ xs) start some within = absurd (omega arith)
some_blocks (b ∷ bs) bytes start some within = omega arith

pub start_within : (blocks : List Block) (was : Block) (start n : ℕ) → AreFilled (pieces_of blocks) → 0 < length blocks → was ≡ get_or blocks 0 was → start < block_bytes → start + n ≤ length (bytes_of blocks) → start ≤ length (bytes_in was)
start_within [] was start n filled some is lt within = absurd (omega arith)
start_within (b ∷ []) was start n filled some is lt within = rw is (omega (arith, within, length-append (bytes_in b) []))
start_within (b ∷ d ∷ bs) was start n filled some is lt within = let full : length (bytes_in b) ≡ block_bytes = filled.2 (omega arith) in rw is (omega (arith, full))

-- what stands first, once the blocks behind it were written
pub first_of : (blocks rest : List Block) (ready d : Block) → 0 < length blocks → get_or (put_mid 1 (length (set blocks 0 ready) - 1) (set blocks 0 ready) rest) 0 d ≡ ready
first_of [] rest ready d some = absurd (omega arith)
first_of (b ∷ bs) rest ready d some = refl

-- the first block as it was read and made ready, and as many bytes as go over it
pub record IsFirst (blocks : List Block) (bytes : List ℕ) (was ready : Block) (start n : ℕ) : Type 0 where
  pub some : 0 < length blocks
  pub same : bytes_in ready ≡ bytes_in was
  pub least : n ≡ min (length bytes) (length (bytes_in was) - start)
  pub start_within : start ≤ length (bytes_in was)
  pub within : start + n ≤ length (bytes_in was)

pub is_first : (blocks : List Block) (bytes : List ℕ) (was again ready : Block) (start n len : ℕ) (none : Bool) → none ≡ nat_eq (length bytes) 0 → none ≡ false → AreFilled (pieces_of blocks) → start < block_bytes → start + length bytes ≤ length (bytes_of blocks)
    → was ≡ get_or blocks 0 was → len ≡ length (bytes_in (get_or blocks 0 was)) → n ≡ min (length bytes) (len - start) → bytes_in ready ≡ bytes_in (get_or blocks 0 again) → IsFirst blocks bytes was ready start n
is_first blocks bytes was again ready start n len none empty not filled lt within is long least same =
    let some = some_blocks blocks bytes start (sym empty ∙ not) within in
    let starts = start_within blocks was start (length bytes) filled some is lt within in
    let here : n ≡ min (length bytes) (length (bytes_in was) - start) = least ∙ ap (λ k. min (length bytes) (k - start)) (long ∙ ap (λ b. length (bytes_in b)) (sym is)) in
    record {
      some = some;
      same = same ∙ ap bytes_in (get_or_default blocks 0 again was some ∙ sym is);
      least = here;
      start_within = starts;
      within = omega (arith, starts, here);
    }

pub filled_first : (blocks rest : List Block) (was ready block : Block) → 0 < length blocks → was ≡ get_or blocks 0 was → length (bytes_in block) ≡ length (bytes_in was) → AreFilled (pieces_of blocks) → AreFilled (pieces_of rest)
    → length rest ≡ length (take (length (set blocks 0 ready) - 1) (drop 1 (set blocks 0 ready))) → AreFilled (pieces_of (set (put_mid 1 (length (set blocks 0 ready) - 1) (set blocks 0 ready) rest) 0 block))
filled_first [] rest was ready block some is same filled others count = absurd (omega arith)
filled_first (b ∷ bs) rest was ready block some is same filled others count =
    let size : length (bytes_in block) ≡ length (bytes_in b) = same ∙ ap (λ x. length (bytes_in x)) is in
    let gone : post_of 1 (length (ready ∷ bs) - 1) (ready ∷ bs) ≡ [] = drop_all (length (ready ∷ bs) - 1) bs (omega arith) in
    let long : length rest ≡ length bs = count ∙ ap length (take_all (length (ready ∷ bs) - 1) bs (omega arith)) in
    let many : length (pieces_of rest) ≡ length (pieces_of bs) = length-map rest bytes_in ∙ long ∙ sym (length-map bs bytes_in) in
    let some_here = filled.0 in
    let few_here = filled.1 in
    subst (λ xs. AreFilled (bytes_in block ∷ pieces_of (rest ++ xs))) (sym gone)
    (subst (λ xs. AreFilled (bytes_in block ∷ pieces_of xs)) (sym (append-nil rest))
    (omega (arith, size, some_here), omega (arith, size, few_here), (λ more. size ∙ filled.2 (omega (arith, more, many))), others))

-- the first block, and those behind it
pub put_in_first : (blocks rest : List Block) (was ready before block : Block) (start n : ℕ) (bytes : List ℕ) → 0 < length blocks → was ≡ get_or blocks 0 was → bytes_in ready ≡ bytes_in was
    → before ≡ get_or (put_mid 1 (length (set blocks 0 ready) - 1) (set blocks 0 ready) rest) 0 before → n ≡ min (length bytes) (length (bytes_in was) - start) → start ≤ length (bytes_in was)
    → bytes_in block ≡ put_at start (take n bytes) (bytes_in before) → bytes_of rest ≡ put_at 0 (drop n bytes) (bytes_of (take (length (set blocks 0 ready) - 1) (drop 1 (set blocks 0 ready))))
    → bytes_of (set (put_mid 1 (length (set blocks 0 ready) - 1) (set blocks 0 ready) rest) 0 block) ≡ put_at start bytes (bytes_of blocks)
put_in_first [] rest was ready before block start n bytes some is_was same is_before is within put others = absurd (omega arith)
put_in_first (b ∷ bs) rest was ready before block start n bytes some is_was same is_before is within put others =
    let gone : post_of 1 (length (ready ∷ bs) - 1) (ready ∷ bs) ≡ [] = drop_all (length (ready ∷ bs) - 1) bs (omega arith) in
    let behind_it : bytes_of rest ≡ put_at 0 (drop n bytes) (bytes_of bs) = others ∙ ap (λ xs. put_at 0 (drop n bytes) (bytes_of xs)) (take_all (length (ready ∷ bs) - 1) bs (omega arith)) in
    let here : bytes_in block ≡ put_at start (take n bytes) (bytes_in was) = put ∙ ap (put_at start (take n bytes)) (ap bytes_in is_before ∙ same) in
    ap (λ xs. bytes_in block ++ bytes_of (rest ++ xs)) gone
    ∙ ap (λ xs. bytes_in block ++ bytes_of xs) (append-nil rest)
    ∙ ap (λ xs. xs ++ bytes_of rest) here
    ∙ ap (λ xs. put_at start (take n bytes) (bytes_in was) ++ xs) behind_it
    ∙ put_parts start n bytes (bytes_in was) (bytes_of bs) is within
    ∙ ap (λ x. put_at start bytes (bytes_in x ++ bytes_of bs)) is_was

-- From a block on ----------------------------------------------------------------------------------------------------------------

-- blocks of which those from one on got others in their place
pub from_on : (blocks rest : List Block) (k : ℕ) → length rest ≡ length (take (length blocks - k) (drop k blocks)) → put_mid k (length blocks - k) blocks rest ≡ take k blocks ++ rest
from_on blocks rest k same =
    let gone : post_of k (length blocks - k) blocks ≡ [] = drop_all (length blocks - k) (drop k blocks) (omega (arith, length-drop k blocks)) in
    ap (λ xs. take k blocks ++ (rest ++ xs)) gone ∙ ap (λ xs. take k blocks ++ xs) (append-nil rest)

pub suffix_is : (blocks : List Block) (k : ℕ) → pieces_of (take (length blocks - k) (drop k blocks)) ≡ drop k (pieces_of blocks)
suffix_is blocks k = ap pieces_of (take_rest blocks k) ∙ sym (drop-map bytes_in k blocks)

pieces_on : (blocks rest : List Block) (k : ℕ) → length rest ≡ length (take (length blocks - k) (drop k blocks)) → pieces_of (put_mid k (length blocks - k) blocks rest) ≡ take k (pieces_of blocks) ++ pieces_of rest
pieces_on blocks rest k same = ap pieces_of (from_on blocks rest k same) ∙ map-append bytes_in (take k blocks) rest ∙ ap (λ xs. xs ++ pieces_of rest) (sym (take-map bytes_in k blocks))

pub filled_on : (blocks rest : List Block) (k : ℕ) → k ≤ length blocks → AreFilled (pieces_of blocks) → AreFilled (pieces_of rest) → length rest ≡ length (take (length blocks - k) (drop k blocks)) → AreFilled (pieces_of (put_mid k (length blocks - k) blocks rest))
filled_on blocks rest k le filled others same =
    let ps = pieces_of blocks in
    let many = length-map blocks bytes_in in
    let long = length-append (take k ps) (pieces_of rest) in
    subst AreFilled (sym (pieces_on blocks rest k same)) (filled_join k ps (pieces_of rest) filled others (omega (arith, long, many, le, length-take k ps, length-map rest bytes_in, same, length-take (length blocks - k) (drop k blocks), length-drop k blocks)))

-- the block that an offset is in, where so many bytes from there on are within the file
pub record StartsIn (offset count k : ℕ) (blocks : List Block) : Type 0 where
  pub below : k ≤ length blocks
  pub front : length (concat (take k (pieces_of blocks))) + offset % 4096 ≡ offset
  pub rest : offset % 4096 + count ≤ length (bytes_of (take (length blocks - k) (drop k blocks)))

pub starts_in : (offset count k : ℕ) (blocks : List Block) → AreFilled (pieces_of blocks) → k ≡ min (offset / 4096) (length blocks) → offset + count ≤ length (bytes_of blocks) → StartsIn offset count k blocks
starts_in offset count k blocks filled is within =
    let ps = pieces_of blocks in
    let most = length_most ps filled in
    let many = length-map blocks bytes_in in
    let size : block_bytes * k ≤ length (concat ps) = omega (arith, is, within) in
    let whole : block_bytes * k + offset % 4096 ≡ offset = omega (arith, is, most, many, within) in
    let long : length (concat (take k ps)) ≡ block_bytes * k = ap length (cut_whole k ps filled size) ∙ length-take-le (block_bytes * k) (concat ps) size in
    let back : bytes_of (take (length blocks - k) (drop k blocks)) ≡ drop (block_bytes * k) (concat ps) = ap concat (suffix_is blocks k) ∙ sym (behind k ps filled) in
    record {
      below = omega (arith, is);
      front = omega (arith, long, whole);
      rest = omega (arith, ap length back, length-drop (block_bytes * k) (concat ps), whole, within);
    }

pub put_on : (offset k : ℕ) (blocks rest : List Block) (bytes : List ℕ) → StartsIn offset (length bytes) k blocks → length rest ≡ length (take (length blocks - k) (drop k blocks)) → bytes_of rest ≡ put_at (offset % 4096) bytes (bytes_of (take (length blocks - k) (drop k blocks)))
    → bytes_of (put_mid k (length blocks - k) blocks rest) ≡ put_at offset bytes (bytes_of blocks)
put_on offset k blocks rest bytes starts same put =
    let ps = pieces_of blocks in
    let front : List ℕ = concat (take k ps) in
    let back : List ℕ = concat (drop k ps) in
    ap concat (pieces_on blocks rest k same)
    ∙ concat-append (take k ps) (pieces_of rest)
    ∙ ap (λ xs. front ++ xs) (put ∙ ap (λ xs. put_at (offset % 4096) bytes (concat xs)) (suffix_is blocks k))
    ∙ sym (put_behind (length front) (offset % 4096) bytes front back refl)
    ∙ ap (λ n. put_at n bytes (front ++ back)) starts.front
    ∙ ap (put_at offset bytes) (sym (concat-append (take k ps) (drop k ps)) ∙ ap concat (take-append-drop k ps))

pub same_on : (blocks rest : List Block) (k : ℕ) → length rest ≡ length (take (length blocks - k) (drop k blocks)) → bytes_of rest ≡ bytes_of (take (length blocks - k) (drop k blocks)) → bytes_of (put_mid k (length blocks - k) blocks rest) ≡ bytes_of blocks
same_on blocks rest k same stays =
    let ps = pieces_of blocks in
    ap concat (pieces_on blocks rest k same)
    ∙ concat-append (take k ps) (pieces_of rest)
    ∙ ap (λ xs. concat (take k ps) ++ xs) (stays ∙ ap concat (suffix_is blocks k))
    ∙ sym (concat-append (take k ps) (drop k ps))
    ∙ ap concat (take-append-drop k ps)
