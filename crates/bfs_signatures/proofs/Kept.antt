-- Nodes that a signer keeps.
use Rattle.std.proofs.Common.{◌≡◌, ◌≤◌, ◌<◌, ◌+◌, ◌-◌, ◌*◌, ◌^◌, inl, inr, ℕ, zero, suc, List, [], ◌∷◌, ◌++◌, length, refl, sym, ap, ◌∙◌, arith, length-append}
use Rattle.std.specs.Prelude.{replicate, slice_index_or}
use Rattle.std.proofs.lemmas.Bool.{cases_lt}
use Rattle.std.proofs.lemmas.List.{get_or-append_right, get_or-replicate, get_or_append_left, get_or_default, get_or_past, get_or_push, length-replicate, length_push}
use Rattle.bfs_signatures.specs.Hashes.{node_hash}
use Rattle.bfs_signatures.specs.Signing.{node}
use Rattle.bfs_signatures.specs.Nodes.{HasNodes, place_of}
use Rattle.bfs_signatures.proofs.Places.{half_above, level_fits, place_zero}

pub node_zero : (leaves : List (List ℕ)) (number : ℕ) → node leaves 0 number ≡ slice_index_or leaves number (replicate 32 0)
unfolding node
node_zero leaves number = refl

pub node_inner : (leaves : List (List ℕ)) (n number : ℕ) → node leaves (suc n) number ≡ node_hash (node leaves n (2 * number)) (node leaves n (2 * number + 1))
unfolding node
node_inner leaves n number = refl

-- a leaf, or what stands for a missing one
padded_at : (leaves : List (List ℕ)) (none : List ℕ) (n number : ℕ) → number < length leaves + n
    → slice_index_or (leaves ++ replicate n none) number [] ≡ slice_index_or leaves number none
padded_at leaves none n number fits = elim (cases_lt number (length leaves)) [
  | inl before ↦ get_or_append_left leaves (replicate n none) [] number before ∙ get_or_default leaves number [] none before
  | inr past ↦
      get_or-append_right leaves (replicate n none) (length leaves) number [] refl past
      ∙ get_or-replicate n (number - length leaves) none [] (omega (arith, fits, past))
      ∙ sym (get_or_past leaves number none past)
]

pub padded_long : (leaves : List (List ℕ)) (none : List ℕ) (width : ℕ) → length leaves ≤ width → length (leaves ++ replicate (width - length leaves) none) ≡ width
padded_long leaves none width room =
    length-append leaves (replicate (width - length leaves) none) ∙ omega (arith, room, length-replicate (width - length leaves) none)

-- the leaves are the first nodes
pub leaves_first : (leaves : List (List ℕ)) (height : ℕ) → length leaves ≤ 2 ^ height
    → HasNodes leaves height (leaves ++ replicate (2 ^ height - length leaves) (replicate 32 0))
leaves_first leaves height room zero number within fits there =
    let nodes = leaves ++ replicate (2 ^ height - length leaves) (replicate 32 0) in
    let long = padded_long leaves (replicate 32 0) (2 ^ height) room in
    let at = place_zero height number in
    ap (λ k. slice_index_or nodes k []) at
    ∙ padded_at leaves (replicate 32 0) (2 ^ height - length leaves) number (omega (arith, at, there, long, room))
    ∙ sym (node_zero leaves number)
leaves_first leaves height room (suc n) number within fits there =
    absurd (omega (arith, there, padded_long leaves (replicate 32 0) (2 ^ height) room, half_above height n within, level_fits height n))

-- a node that is over the two at twice its number behind the leaves
is_over : (leaves nodes : List (List ℕ)) (x : List ℕ) (height k level number : ℕ) → HasNodes leaves height nodes → length nodes ≡ 2 ^ height + k → k + 1 < 2 ^ height
    → x ≡ node_hash (slice_index_or nodes (2 * k) []) (slice_index_or nodes (2 * k + 1) [])
    → level ≤ height → number < 2 ^ (height - level) → place_of height level number ≡ length nodes → x ≡ node leaves level number
is_over leaves nodes x height k zero number has long more over within fits there =
    let all : 2 ^ (height - 0) ≡ 2 ^ height = ap (λ n. 2 ^ n) (omega arith) in
    absurd (omega (arith, place_zero height number, there, long, fits, all))
is_over leaves nodes x height k (suc n) number has long more over within fits there =
    let twice = half_above height n within in
    let few = level_fits height n in
    let left : 2 * k ≡ place_of height n (2 * number) = omega (arith, twice, few, there, long) in
    let right : 2 * k + 1 ≡ place_of height n (2 * number + 1) = omega (arith, twice, few, there, long) in
    let one = ap (λ p. slice_index_or nodes p []) left
    ∙ has n (2 * number) (omega (arith, within)) (omega (arith, twice, fits)) (omega (arith, left, long, more)) in
    let two = ap (λ p. slice_index_or nodes p []) right
    ∙ has n (2 * number + 1) (omega (arith, within)) (omega (arith, twice, fits)) (omega (arith, right, long, more)) in
    over ∙ ap (λ (l : List ℕ). node_hash l (slice_index_or nodes (2 * k + 1) [])) one
    ∙ ap (λ (l : List ℕ). node_hash (node leaves n (2 * number)) l) two
    ∙ sym (node_inner leaves n number)

pub one_more : (leaves nodes : List (List ℕ)) (x : List ℕ) (height k : ℕ) → HasNodes leaves height nodes → length nodes ≡ 2 ^ height + k → k + 1 < 2 ^ height
    → x ≡ node_hash (slice_index_or nodes (2 * k) []) (slice_index_or nodes (2 * k + 1) []) → HasNodes leaves height (nodes ++ x ∷ [])
one_more leaves nodes x height k has long more over level number within fits there = elim (cases_lt (place_of height level number) (length nodes)) [
  | inl before ↦ get_or_append_left nodes (x ∷ []) [] (place_of height level number) before ∙ has level number within fits before
  | inr past ↦
      let at : length nodes ≡ place_of height level number = omega (arith, past, there, length_push nodes x) in
      get_or_push nodes x [] (place_of height level number) at ∙ is_over leaves nodes x height k level number has long more over within fits (sym at)
]
