-- Bytes that are read piece by piece.
use Rattle.std.proofs.Common.{◌≡◌, ℕ, ◌+◌, ◌-◌, ◌≤◌, min, List, ◌++◌, length, take, drop, refl, sym, ap, ◌∙◌, arith}
use Rattle.std.specs.Prelude.{Result, Ok, Err, OnErr}
use Rattle.std.proofs.lemmas.List.{append_assoc, drop-drop, drop-take, length-take, take-append-drop, take-append-le, take-take, take_at}

-- what stood there when memory ran out
pub kept_front : {T E : Type 0} (result : Result T E) (old was now rest more : List ℕ) → length old ≤ length was → was ++ rest ≡ old ++ more → now ≡ was → OnErr result (take (length old) now ≡ old)
kept_front (Ok x) old was now rest more le same is = tt
kept_front (Err e) old was now rest more le same is = ap (take (length old)) is ∙ sym (take-append-le (length old) was rest le) ∙ ap (take (length old)) same ∙ take_at old more (length old) refl

-- so many, and the others behind them
parts_taken : (n left : ℕ) (bytes : List ℕ) → n ≤ left → take n bytes ++ take (left - n) (drop n bytes) ≡ take left bytes
parts_taken n left bytes le =
    let sum : n + (left - n) ≡ left = omega arith in
    ap (λ xs. xs ++ take (left - n) (drop n bytes)) (sym (take-take n left bytes le))
    ∙ ap (λ xs. take n (take left bytes) ++ xs) (sym (drop-take n (left - n) bytes) ∙ ap (λ k. drop n (take k bytes)) sum)
    ∙ take-append-drop n (take left bytes)

pub read_step : (left at n most : ℕ) (bytes out now first piece target : List ℕ) → piece ≡ take most (drop at bytes) → n ≡ min left (length piece) → first ≡ take n piece → now ≡ out ++ first → out ++ take left (drop at bytes) ≡ target
    → now ++ take (left - length first) (drop (at + length first) bytes) ≡ target
read_step left at n most bytes out now first piece target is_piece is is_first is_now was =
    let few : length piece ≤ most = omega (arith, ap length is_piece, length-take most (drop at bytes)) in
    let long : length first ≡ n = ap length is_first ∙ omega (arith, length-take n piece, is) in
    let front : first ≡ take n (drop at bytes) = is_first ∙ ap (take n) is_piece ∙ take-take n most (drop at bytes) (omega (arith, is, few)) in
    ap (λ xs. xs ++ take (left - length first) (drop (at + length first) bytes)) is_now
    ∙ ap (λ k. out ++ first ++ take (left - k) (drop (at + k) bytes)) long
    ∙ ap (λ xs. out ++ first ++ take (left - n) xs) (sym (drop-drop n at bytes))
    ∙ ap (λ xs. out ++ xs ++ take (left - n) (drop n (drop at bytes))) front
    ∙ append_assoc out (take n (drop at bytes)) (take (left - n) (drop n (drop at bytes)))
    ∙ ap (λ xs. out ++ xs) (parts_taken n left (drop at bytes) (omega (arith, is)))
    ∙ was
