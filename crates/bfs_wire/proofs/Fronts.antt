-- What stands at the front of bytes that grow.
use Rattle.std.proofs.Common.{◌≡◌, ◌≤◌, ℕ, List, ◌++◌, length, take, sym, ap, ◌∙◌, arith}
use Rattle.std.proofs.lemmas.List.{take-take, length-append}
use Rattle.std.proofs.Math.Seq.{take-append_seam}

-- in front of bytes that still stand in front
pub still_in_front : (old more front new : List ℕ) → front ≡ old ++ more → take (length front) new ≡ front → take (length old) new ≡ old
still_in_front old more front new is stands =
    let longer : length old ≤ length front = rw is (omega (arith, length-append old more)) in
    sym (take-take (length old) (length front) new longer) ∙ ap (take (length old)) (stands ∙ is) ∙ take-append_seam old more
