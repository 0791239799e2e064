-- The digests of the blocks of a file, one after another.
use Rattle.std.proofs.Common.{◌≡◌, ℕ, zero, suc, ◌+◌, List, [], ◌∷◌, ◌++◌, length, Some, slice_get, sym, ap, subst, ◌∙◌, append_assoc, append-nil, arith}
use Rattle.std.specs.List.{flat_map, range_with_len}
use Rattle.sha2.specs.Sha256.{sha256}
use Rattle.bfs_blocks.specs.Bytes.{block_at, block_count}
use Rattle.bfs_inode.specs.Records.{blocks_text}

range_grows : (a n : ℕ) → range_with_len a (suc n) ≡ range_with_len a n ++ (a + n) ∷ []
range_grows a zero = let e : a ≡ a + 0 = omega arith in ap (λ k. k ∷ []) e
range_grows a (suc n) = let e : a + 1 + n ≡ a + suc n = omega arith in ap (λ ks. a ∷ ks) (range_grows (a + 1) n ∙ ap (λ k. range_with_len (a + 1) n ++ k ∷ []) e)

front_grows : (n : ℕ) → range_with_len 0 (suc n) ≡ range_with_len 0 n ++ n ∷ []
front_grows n = let e : 0 + n ≡ n = omega arith in range_grows 0 n ∙ ap (λ k. range_with_len 0 n ++ k ∷ []) e

flat_pushed : (f : ℕ → List ℕ) (ks : List ℕ) (k : ℕ) → flat_map f (ks ++ k ∷ []) ≡ flat_map f ks ++ f k
flat_pushed f [] k = append-nil (f k)
flat_pushed f (x ∷ ks) k = ap (λ r. f x ++ r) (flat_pushed f ks k) ∙ sym (append_assoc (f x) (flat_map f ks) (f k))

-- the digests of the first n blocks
abbrev pub digests_before : (bytes : List ℕ) (n : ℕ) → List ℕ
digests_before bytes n = flat_map (λ k. sha256 (block_at bytes k)) (range_with_len 0 n)

pub one_more : (bytes : List ℕ) (n m : ℕ) → m ≡ suc n → digests_before bytes m ≡ digests_before bytes n ++ sha256 (block_at bytes n)
one_more bytes n m is =
    ap (digests_before bytes) is ∙ ap (flat_map (λ k. sha256 (block_at bytes k))) (front_grows n) ∙ flat_pushed (λ k. sha256 (block_at bytes k)) (range_with_len 0 n) n

pub all_of_them : (bytes : List ℕ) (n : ℕ) → n ≡ block_count (length bytes) → digests_before bytes n ≡ blocks_text bytes
unfolding blocks_text
all_of_them bytes n is = ap (digests_before bytes) is
