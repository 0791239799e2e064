-- Blocks, and the pieces of bytes in them.
use Rattle.std.proofs.Common.{◌≡◌, ℕ, ◌+◌, ◌-◌, ◌*◌, ◌/◌, ◌%◌, ◌<◌, ◌≤◌, min, List, [], ◌∷◌, ◌++◌, length, map, take, drop, get_or, set, sym, ap, subst, ◌∙◌, arith}
use Rattle.std.specs.Prelude.{Some, Result, Ok, Err, OnOk, OnErr, slice_get}
use Rattle.std.specs.List.{concat}
use Rattle.std.specs.Option.{option_map}
use Rattle.std.proofs.lemmas.List.{drop-drop, drop-take, drop_min, get_or-map, get_or-take, length-map, length-set, length-take-le, map-append, map-set, set-get_or, take-map, take-take, take_all, take_more, take_more_set}
use Rattle.std.proofs.lemmas.Option.{get_or_from_slice_get, slice_get-map, slice_get_within}
use Rattle.bfs_blocks.specs.declared.blocks.Block.{Block}
use Rattle.bfs_blocks.specs.Blocks.{AreFilled, bytes_in, bytes_of, pieces_of}
use Rattle.bfs_blocks.specs.Bytes.{block_at, block_bytes}
use Rattle.bfs_blocks.proofs.PieceLemmas.{block_is, extended, few_in, filled_extended, length_is, length_most, no_block, rest_in}

-- the piece of a block
pub piece_at : (blocks : List Block) (k : ℕ) (block : Block) → slice_get blocks k ≡ Some block → get_or (pieces_of blocks) k [] ≡ bytes_in block
piece_at blocks k block is = get_or_from_slice_get (pieces_of blocks) k (bytes_in block) [] (slice_get-map bytes_in blocks k ∙ ap (option_map bytes_in) is)

-- The last one ------------------------------------------------------------------------------------------------------------------

-- what holds of the last block and of how many bytes there are
pub record IsLast (blocks : List Block) (last : Block) : Type 0 where
  pub some : 0 < length blocks
  pub few : length (bytes_in last) ≤ block_bytes
  pub total : length (bytes_of blocks) ≡ block_bytes * (length blocks - 1) + length (bytes_in last)

pub last_is : (blocks : List Block) (last : Block) → AreFilled (pieces_of blocks) → Some last ≡ slice_get blocks (length blocks - 1) → IsLast blocks last
last_is blocks last filled is =
    let k : ℕ = length blocks - 1 in
    let within = slice_get_within blocks k last (sym is) in
    let many = length-map blocks bytes_in in
    let piece = piece_at blocks k last (sym is) in
    record {
      some = omega (arith, within);
      few = subst (λ p. length p ≤ block_bytes) piece (few_in k (pieces_of blocks) [] filled (omega (arith, within, many)));
      total = length_is k (pieces_of blocks) [] filled (omega (arith, within, many)) ∙ ap (λ p. block_bytes * k + length p) piece;
    }

pub pushed : (blocks : List Block) (block : Block) (now : List Block) (piece : List ℕ) → now ≡ blocks ++ block ∷ [] → bytes_in block ≡ piece → pieces_of now ≡ pieces_of blocks ++ piece ∷ []
pushed blocks block now piece is same = ap (map bytes_in) is ∙ map-append bytes_in blocks (block ∷ []) ∙ ap (λ p. pieces_of blocks ++ p ∷ []) same

-- Changes of one block -----------------------------------------------------------------------------------------------------------

pub piece_read : (blocks : List Block) (k : ℕ) (block : Block) → k < length blocks → block ≡ get_or blocks k block → get_or (pieces_of blocks) k [] ≡ bytes_in block
piece_read blocks k block lt is = get_or-map bytes_in blocks k block [] lt ∙ sym (ap bytes_in is)

pub pieces_set : (blocks : List Block) (k : ℕ) (block : Block) (piece : List ℕ) → bytes_in block ≡ piece → pieces_of (set blocks k block) ≡ set (pieces_of blocks) k piece
pieces_set blocks k block piece is = map-set bytes_in blocks k block ∙ ap (set (pieces_of blocks) k) is

-- a block whose bytes stayed
pub pieces_same : (blocks : List Block) (k : ℕ) (was block : Block) → k < length blocks → was ≡ get_or blocks k was → bytes_in block ≡ bytes_in was → pieces_of (set blocks k block) ≡ pieces_of blocks
pieces_same blocks k was block lt is same =
    pieces_set blocks k block (get_or (pieces_of blocks) k []) (same ∙ sym (piece_read blocks k was lt is)) ∙ set-get_or (pieces_of blocks) k []

-- what comes of the blocks where the last one gets bytes behind it
pub record IsExtended {X E : Type 0} (result : Result X E) (blocks now : List Block) (more : List ℕ) : Type 0 where
  pub filled : AreFilled (pieces_of now)
  pub ok : OnOk result (bytes_of now ≡ bytes_of blocks ++ more)
  pub err : OnErr result (bytes_of now ≡ bytes_of blocks)

pub last_extended : {X E : Type 0} (result : Result X E) (blocks : List Block) (k : ℕ) (was block : Block) (more : List ℕ) → AreFilled (pieces_of blocks) → length blocks ≡ k + 1 → was ≡ get_or blocks k was
    → length (bytes_of blocks) + length more ≤ block_bytes * length blocks → OnOk result (bytes_in block ≡ bytes_in was ++ more) → OnErr result (bytes_in block ≡ bytes_in was) → IsExtended result blocks (set blocks k block) more
last_extended (Ok x) blocks k was block more filled same is few ok err =
    let ps = pieces_of blocks in
    let many : length ps ≡ k + 1 = length-map blocks bytes_in ∙ same in
    let piece = piece_read blocks k was (omega (arith, same)) is in
    let now = pieces_set blocks k block (get_or ps k [] ++ more) (ok ∙ sym (ap (λ p. p ++ more) piece)) in
    record {
      filled = subst AreFilled (sym now) (filled_extended k ps [] more filled many (omega (arith, length_is k ps [] filled many, few, same)));
      ok = ap concat now ∙ extended k ps [] more many;
      err = tt;
    }
last_extended (Err e) blocks k was block more filled same is few ok err =
    let now = pieces_same blocks k was block (omega (arith, same)) is err in
    record {
      filled = subst AreFilled (sym now) filled;
      ok = tt;
      err = ap concat now;
    }

-- Cuts -------------------------------------------------------------------------------------------------------------------------

-- the block that so many bytes end in
pub record EndsWithin (size : ℕ) (blocks : List Block) : Type 0 where
  pub below : size / 4096 < length blocks
  pub some : 0 < size % 4096
  pub rest : size % 4096 ≤ length (get_or (pieces_of blocks) (size / 4096) [])

pub within_blocks : (size : ℕ) (blocks : List Block) → AreFilled (pieces_of blocks) → size ≤ length (bytes_of blocks) → (size % 4096 ≡ 0 → ⊥) → EndsWithin size blocks
within_blocks size blocks filled within some =
    let ps = pieces_of blocks in
    let many = length-map blocks bytes_in in
    let rest : 0 < size % 4096 = omega (arith, some) in
    let below : size / 4096 < length ps = omega (arith, length_most ps filled, within, rest) in
    record {
      below = omega (arith, below, many);
      some = rest;
      rest = rest_in (size / 4096) (size % 4096) ps [] filled below (omega arith) (omega (arith, within));
    }

fronts_are : (blocks front : List Block) (k : ℕ) → front ≡ take (k + 1) blocks → pieces_of front ≡ take (k + 1) (pieces_of blocks)
fronts_are blocks front k is = ap pieces_of is ∙ sym (take-map bytes_in (k + 1) blocks)

-- a block that was read among the first ones
pub read_piece : (blocks front : List Block) (k : ℕ) (was : Block) → front ≡ take (k + 1) blocks → k < length blocks → was ≡ get_or front k was → get_or (pieces_of blocks) k [] ≡ bytes_in was
read_piece blocks front k was is lt read =
    let ps = pieces_of blocks in
    let long : length front ≡ k + 1 = ap length is ∙ length-take-le (k + 1) blocks (omega arith) in
    sym (get_or-take (k + 1) ps k [] (omega arith)) ∙ sym (ap (λ xs. get_or xs k []) (fronts_are blocks front k is)) ∙ piece_read front k was (omega (arith, long)) read

-- the block that so many bytes end in, once it was cut
pub cut_last : (blocks front : List Block) (k r : ℕ) (was block : Block) → front ≡ take (k + 1) blocks → k < length blocks → was ≡ get_or front k was → bytes_in block ≡ take r (bytes_in was)
    → pieces_of (set front k block) ≡ take k (pieces_of blocks) ++ take r (get_or (pieces_of blocks) k []) ∷ []
cut_last blocks front k r was block is lt read cut =
    let ps = pieces_of blocks in
    let long : length front ≡ k + 1 = ap length is ∙ length-take-le (k + 1) blocks (omega arith) in
    let many : length (pieces_of front) ≡ k + 1 = length-map front bytes_in ∙ long in
    let now : List ℕ = take r (get_or ps k []) in
    pieces_set front k block now (cut ∙ sym (ap (take r) (read_piece blocks front k was is lt read)))
    ∙ sym (take_all (k + 1) (set (pieces_of front) k now) (omega (arith, length-set (pieces_of front) k now, many)))
    ∙ take_more_set (pieces_of front) k now (omega (arith, many))
    ∙ ap (λ xs. xs ++ now ∷ []) (ap (take k) (fronts_are blocks front k is) ∙ take-take k (k + 1) ps (omega arith))

-- Reads ------------------------------------------------------------------------------------------------------------------------

-- a block that is there
pub block_read : (blocks : List Block) (k : ℕ) (block : Block) → AreFilled (pieces_of blocks) → k < length blocks → block ≡ get_or blocks k block → block_at (bytes_of blocks) k ≡ bytes_in block
block_read blocks k block filled lt is = block_is k (pieces_of blocks) [] filled (omega (arith, lt, length-map blocks bytes_in)) ∙ piece_read blocks k block lt is

-- and one that is not
pub none_read : (blocks : List Block) (k : ℕ) → AreFilled (pieces_of blocks) → length blocks ≤ k → block_at (bytes_of blocks) k ≡ []
none_read blocks k filled le = no_block k (pieces_of blocks) filled (omega (arith, le, length-map blocks bytes_in))

-- what is left of the block that an offset is in
pub left_of_block : (offset n : ℕ) (bytes block piece : List ℕ) → block ≡ block_at bytes (offset / 4096) → n ≡ min (offset % 4096) (length block) → piece ≡ drop n block → piece ≡ take (block_bytes - offset % block_bytes) (drop offset bytes)
unfolding block_at
left_of_block offset n bytes block piece is_block is is_piece =
    let r : ℕ = offset % 4096 in
    let start : ℕ = block_bytes * (offset / 4096) in
    let e : start + r ≡ offset = omega arith in
    let f : r + (block_bytes - r) ≡ block_bytes = omega arith in
    is_piece ∙ ap (λ k. drop k block) is ∙ drop_min r block ∙ ap (drop r) is_block
    ∙ ap (λ k. drop r (take k (drop start bytes))) (sym f)
    ∙ drop-take r (block_bytes - r) (drop start bytes)
    ∙ ap (take (block_bytes - r)) (drop-drop r start bytes ∙ ap (λ k. drop k bytes) e)

-- copies of the first blocks, and of one more
pub copied : (blocks copies now : List Block) (k : ℕ) (was block : Block) → k < length blocks → was ≡ get_or blocks k was → pieces_of copies ≡ take k (pieces_of blocks) → now ≡ copies ++ block ∷ [] → bytes_in block ≡ bytes_in was → pieces_of now ≡ take (k + 1) (pieces_of blocks)
copied blocks copies now k was block lt is so_far pushing same =
    pushed copies block now (get_or (pieces_of blocks) k []) pushing (same ∙ sym (piece_read blocks k was lt is))
    ∙ ap (λ ps. ps ++ get_or (pieces_of blocks) k [] ∷ []) so_far
    ∙ sym (take_more (pieces_of blocks) k [] (omega (arith, lt, length-map blocks bytes_in)))

-- blocks of which one got its digest
pub one_kept : (blocks before : List Block) (k : ℕ) (d block : Block) → k < length blocks → pieces_of blocks ≡ pieces_of before → bytes_in block ≡ bytes_in (get_or blocks k d) → pieces_of (set blocks k block) ≡ pieces_of before
one_kept blocks before k d block lt so_far same =
    pieces_set blocks k block (get_or (pieces_of blocks) k []) (same ∙ sym (get_or-map bytes_in blocks k d [] lt)) ∙ set-get_or (pieces_of blocks) k [] ∙ so_far
