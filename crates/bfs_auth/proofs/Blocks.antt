-- Zeros behind a key, and the bytes of a masked block.
use Rattle.std.proofs.Common.{◌≡◌, ◌<◌, ◌+◌, ◌-◌, ℕ, List, [], ◌∷◌, ◌++◌, length, take, drop, replicate, arith, ap, sym, ◌∙◌}
use Rattle.std.specs.Prelude.{bit_xor, slice_index_or, slice_set}
use Rattle.std.proofs.lemmas.List.{take_more, take_more_set, take_all, map-append, drop-replicate}
use Rattle.bfs_auth.specs.Hmac.{masked}

pub dropped_zeros : (n : ℕ) → drop {A = ℕ} n (replicate 64 0) ≡ replicate (64 - n) 0
dropped_zeros n = drop-replicate n 64 0

pub masked_more : (mask i : ℕ) (block out : List ℕ) → i < length block → i < length out → take i out ≡ masked mask (take i block)
    → take (i + 1) (slice_set out i (bit_xor (slice_index_or block i 0) mask)) ≡ masked mask (take (i + 1) block)
masked_more mask i block out inside room before =
    let byte = bit_xor (slice_index_or block i 0) mask in
    take_more_set out i byte room ∙ ap (λ front. front ++ byte ∷ []) before
    ∙ sym (ap (masked mask) (take_more block i 0 inside) ∙ map-append (λ x. bit_xor x mask) (take i block) _)

pub whole : (xs : List ℕ) → take (length xs) xs ≡ xs
whole xs = take_all (length xs) xs (omega arith)
