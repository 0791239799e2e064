use Rattle.std.proofs.Common.{◌≡◌, ◌-◌, ◌+◌, ◌∷◌, [], ◌++◌, ℕ, List, length, ap, ◌∙◌, arith, append_assoc}
use Rattle.std.specs.Prelude.{replicate}
use Rattle.std.proofs.lemmas.List.{replicate_more}
use Rattle.bfs_signatures.proofs.tree.padded.Goals as goal

pub loop-missing-preserved : goal.loop-missing-preserved
loop-missing-preserved c =
    let none : List ℕ = replicate 32 0 in
    let leaves = c.args.leaves.now in
    let n = c.loop-missing._missing - length leaves in
    let more : n + 1 ≡ c.loop-missing._missing + 1 - length leaves = omega arith in
    c.in_ok-push.ensures.items
    ∙ ap (λ (l : List (List ℕ)). l ++ none ∷ []) c.loop-missing.invariant
    ∙ append_assoc leaves (replicate n none) (none ∷ [])
    ∙ ap (λ (l : List (List ℕ)). leaves ++ l) (replicate_more n none ∙ ap (λ k. replicate k none) more)
