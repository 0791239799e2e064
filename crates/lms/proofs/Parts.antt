-- Parts that are put into bytes one behind another.
use Rattle.std.proofs.Common.{◌≡◌, ◌≤◌, ◌+◌, ℕ, List, [], ◌∷◌, ◌++◌, length, take, drop, sym, ap, ◌∙◌, arith, append_assoc}
use Rattle.std.proofs.lemmas.List.{append-nil, drop_at, length-take-le, take-append-le, take-take, take_all, take_at}
use borrow.Rule.Slice.PartMut.{put_mid}

-- what stands before a part stays
pub kept : (m place : ℕ) (part old new : List ℕ) → m ≤ place → place ≤ length old → take (place + length part) new ≡ take place old ++ part → take m new ≡ take m old
kept m place part old new before inside e =
    sym (take-take m (place + length part) new (omega (arith, before))) ∙ ap (take m) e
    ∙ take-append-le m (take place old) part (omega (arith, before, length-take-le place old inside)) ∙ take-take m place old before

-- a part up to the end
pub last : (place : ℕ) (part old new : List ℕ) → length new ≡ place + length part → place ≤ length old → take (place + length part) new ≡ take place old ++ part
    → drop place new ≡ part
last place part old new long inside e =
    ap (drop place) (sym (take_all (place + length part) new (omega (arith, long))) ∙ e) ∙ drop_at (take place old) part place (length-take-le place old inside)

-- two bytes behind a hash
pub ended : (hash end : List ℕ) → length hash ≡ 32 → put_mid 32 2 (hash ++ 0 ∷ 0 ∷ []) end ≡ hash ++ end
ended hash end long =
    let none : drop 2 (drop 32 (hash ++ 0 ∷ 0 ∷ [])) ≡ [] = ap (drop 2) (drop_at hash (0 ∷ 0 ∷ []) 32 long) in
    ap (λ (l : List ℕ). l ++ (end ++ drop 2 (drop 32 (hash ++ 0 ∷ 0 ∷ [])))) (take_at hash (0 ∷ 0 ∷ []) 32 long)
    ∙ ap (λ (l : List ℕ). hash ++ (end ++ l)) none ∙ ap (λ (l : List ℕ). hash ++ l) (append-nil end)

-- the front that four parts make, of which the last stands behind a gap
pub front_of : (id number chain value b c d e : List ℕ) → length id ≡ 16 → length number ≡ 4 → length chain ≡ 2 → length d ≡ 55
    → take (0 + length id) b ≡ [] ++ id → take (16 + length number) c ≡ take 16 b ++ number → take (20 + length chain) d ≡ take 20 c ++ chain
    → take (23 + length value) e ≡ take 23 d ++ value → take 22 e ≡ id ++ (number ++ chain)
front_of id number chain value b c d e long_id long_number long_chain long put_id put_number put_chain put_value =
    let third : 22 ≡ 20 + length chain = omega (arith, long_chain) in
    let second : 20 ≡ 16 + length number = omega (arith, long_number) in
    let first : 16 ≡ 0 + length id = omega (arith, long_id) in
    let two : take 20 c ≡ id ++ number =
    ap (λ k. take k c) second ∙ put_number ∙ ap (λ (l : List ℕ). l ++ number) (ap (λ k. take k b) first ∙ put_id) in
    kept 22 23 value d e (omega arith) (omega (arith, long)) put_value
    ∙ ap (λ k. take k d) third ∙ put_chain ∙ ap (λ (l : List ℕ). l ++ chain) two ∙ append_assoc id number chain

-- parts one behind another, the last one up to the end
pub two_of : (first second b c : List ℕ) (place : ℕ) → length first ≡ place → length c ≡ place + length second → length b ≡ length c
    → take (0 + length first) b ≡ [] ++ first → take (place + length second) c ≡ take place b ++ second → c ≡ first ++ second
two_of first second b c place long all same put_first put_second =
    let whole : place + length second ≡ length c = sym all in
    let there : place ≡ 0 + length first = omega (arith, long) in
    sym (take_all (place + length second) c (omega (arith, whole))) ∙ put_second
    ∙ ap (λ (l : List ℕ). l ++ second) (ap (λ k. take k b) there ∙ put_first)

pub four_of : (first second third fourth b c d e : List ℕ) → length first ≡ 4 → length second ≡ 4 → length third ≡ 16 → length fourth ≡ 32 → length e ≡ 56
    → take (0 + length first) b ≡ [] ++ first → take (4 + length second) c ≡ take 4 b ++ second → take (8 + length third) d ≡ take 8 c ++ third
    → take (24 + length fourth) e ≡ take 24 d ++ fourth → e ≡ first ++ (second ++ (third ++ fourth))
four_of first second third fourth b c d e long_first long_second long_third long_fourth long put_first put_second put_third put_fourth =
    let end : 24 + length fourth ≡ 56 = omega (arith, long_fourth) in
    let at_third : 24 ≡ 8 + length third = omega (arith, long_third) in
    let at_second : 8 ≡ 4 + length second = omega (arith, long_second) in
    let at_first : 4 ≡ 0 + length first = omega (arith, long_first) in
    let one : take 4 b ≡ first = ap (λ k. take k b) at_first ∙ put_first in
    let two : take 8 c ≡ first ++ second = ap (λ k. take k c) at_second ∙ put_second ∙ ap (λ (l : List ℕ). l ++ second) one in
    let three : take 24 d ≡ first ++ (second ++ third) =
    ap (λ k. take k d) at_third ∙ put_third ∙ ap (λ (l : List ℕ). l ++ third) two ∙ append_assoc first second third in
    sym (take_all (24 + length fourth) e (omega (arith, end, long))) ∙ put_fourth ∙ ap (λ (l : List ℕ). l ++ fourth) three
    ∙ append_assoc first (second ++ third) fourth ∙ ap (λ (l : List ℕ). first ++ l) (append_assoc second third fourth)
