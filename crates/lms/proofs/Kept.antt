-- Nodes that a signer keeps.
use Rattle.std.proofs.Common.{◌≡◌, ◌≤◌, ◌<◌, ◌+◌, ◌-◌, ◌*◌, ◌^◌, inl, inr, ℕ, zero, suc, List, [], ◌∷◌, ◌++◌, length, refl, sym, ap, ◌∙◌, subst, arith, length-append}
use Rattle.std.specs.Prelude.{slice_index_or}
use Rattle.std.proofs.lemmas.Bool.{cases_lt}
use Rattle.std.proofs.lemmas.List.{get_or_append_left, get_or_push}
use Rattle.std.proofs.lemmas.Nat.{pow_pos}
use Rattle.std.proofs.Math.Nat.{mul-le-mul_left, pow-succ'}
use Rattle.lms.specs.declared.types.LmsType.{LmsType}
use Rattle.lms.specs.declared.types.LmsType.TheVariants.{H5, H10, H15, H20, H25}
use Rattle.lms.specs.declared.private_key.PrivateKey.{PrivateKey}
use Rattle.lms.specs.Types.{leaf_count}
use Rattle.lms.specs.Trees.{inner_node, leaf_node}
use Rattle.lms.specs.Secrets.{node, one_time_key}
use Rattle.lms.specs.Nodes.{HasNodes, IsAtLevel, node_count}

pub leaves_fit : (lms : LmsType) → (1 < leaf_count lms) × (leaf_count lms ≤ 33554432)
leaves_fit H5 = (omega arith, omega arith)
leaves_fit H10 = (omega arith, omega arith)
leaves_fit H15 = (omega arith, omega arith)
leaves_fit H20 = (omega arith, omega arith)
leaves_fit H25 = (omega arith, omega arith)

-- Levels --------------------------------------------------------------------------------------------------------------------

doubled : (number n : ℕ) → number * 2 ^ suc n ≡ 2 * (number * 2 ^ n)
doubled number n = ap (λ p. number * p) (pow-succ' 2 n) ∙ omega arith

pub at_most : (leaves level number : ℕ) → IsAtLevel leaves level number → number + 1 ≤ 2 * leaves
at_most leaves level number at = omega (arith, at.1, mul-le-mul_left (number + 1) (pow_pos level))

pub left_below : (leaves n number : ℕ) → IsAtLevel leaves (suc n) number → IsAtLevel leaves n (2 * number)
left_below leaves n number at = (omega (arith, at.0, doubled number n), omega (arith, at.1, doubled (number + 1) n))

pub right_below : (leaves n number : ℕ) → IsAtLevel leaves (suc n) number → IsAtLevel leaves n (2 * number + 1)
right_below leaves n number at = (omega (arith, at.0, doubled number n), omega (arith, at.1, doubled (number + 1) n))

no_leaf : (leaves n number : ℕ) → IsAtLevel leaves (suc n) number → number < leaves
no_leaf leaves n number at = omega (arith, at.1, doubled (number + 1) n, mul-le-mul_left (number + 1) (pow_pos n))

-- One node more ------------------------------------------------------------------------------------------------------------

pub one_more : (key : PrivateKey) (nodes : List (List ℕ)) (x : List ℕ) → HasNodes key nodes
    → ((level number : ℕ) → IsAtLevel (leaf_count key.lms) level number → node_count key - number ≡ length nodes → x ≡ node key level number)
    → HasNodes key (nodes ++ x ∷ [])
one_more key nodes x has is level number at within = elim (cases_lt (node_count key - number) (length nodes)) [
  | inl before ↦ get_or_append_left nodes (x ∷ []) [] (node_count key - number) before ∙ has level number at before
  | inr past ↦
      let there : length nodes ≡ node_count key - number = omega (arith, past, within, length-append nodes (x ∷ [])) in
      get_or_push nodes x [] (node_count key - number) there ∙ is level number at (sym there)
]

node_leaf : (key : PrivateKey) (number : ℕ) → node key 0 number ≡ leaf_node key.id number (one_time_key key (number - leaf_count key.lms))
unfolding node
node_leaf key number = refl

pub node_inner : (key : PrivateKey) (n number : ℕ) → node key (suc n) number ≡ inner_node key.id number (node key n (2 * number)) (node key n (2 * number + 1))
unfolding node
node_inner key n number = refl

pub is_leaf : (key : PrivateKey) (made number level other : ℕ) → made < node_count key → number ≡ node_count key - made → leaf_count key.lms ≤ number
    → IsAtLevel (leaf_count key.lms) level other → node_count key - other ≡ made
    → leaf_node key.id number (one_time_key key (number - leaf_count key.lms)) ≡ node key level other
is_leaf key made number zero other room here leaf at place =
    let same : other ≡ number = omega (arith, at_most (leaf_count key.lms) 0 other at) in
    sym (ap (node key 0) same ∙ node_leaf key number)
is_leaf key made number (suc n) other room here leaf at place =
    absurd (omega (arith, at_most (leaf_count key.lms) (suc n) other at, no_leaf (leaf_count key.lms) n other at, room, here, leaf, place))

pub is_inner : (key : PrivateKey) (nodes : List (List ℕ)) (number level other : ℕ) (left right : List ℕ) → HasNodes key nodes → length nodes < node_count key
    → number ≡ node_count key - length nodes → number < leaf_count key.lms
    → left ≡ slice_index_or nodes (node_count key - 2 * number) [] → right ≡ slice_index_or nodes (node_count key - (2 * number + 1)) []
    → IsAtLevel (leaf_count key.lms) level other → node_count key - other ≡ length nodes → inner_node key.id number left right ≡ node key level other
is_inner key nodes number zero other left right has room here inner on_left on_right at place =
    absurd (omega (arith, at_most (leaf_count key.lms) 0 other at, at.0, room, here, inner, place))
is_inner key nodes number (suc n) other left right has room here inner on_left on_right at place =
    let leaves = leaf_count key.lms in
    let same : other ≡ number = omega (arith, at_most leaves (suc n) other at) in
    let there : IsAtLevel leaves (suc n) number = subst (λ k. IsAtLevel leaves (suc n) k) same at in
    let first : left ≡ node key n (2 * number) = on_left ∙ has n (2 * number) (left_below leaves n number there) (omega (arith, room, here, inner)) in
    let second : right ≡ node key n (2 * number + 1) = on_right ∙ has n (2 * number + 1) (right_below leaves n number there) (omega (arith, room, here, inner)) in
    ap (λ (l : List ℕ). inner_node key.id number l right) first
    ∙ ap (λ (r : List ℕ). inner_node key.id number (node key n (2 * number)) r) second
    ∙ sym (node_inner key n number) ∙ ap (node key (suc n)) (sym same)

-- no node has the number 0
pub not_below : (leaves level number : ℕ) → 1 < leaves → IsAtLevel leaves level number → 0 < number
not_below leaves level zero some at = absurd (omega (arith, some, at.0))
not_below leaves level (suc n) some at = omega arith
