-- A fileid is among them already, or is put last.
use Rattle.std.proofs.Common.{◌≡◌, ◌≤◌, ◌+◌, ◌++◌, ◌∷◌, [], ℕ, arith, length, take, ap, sym, subst, ◌∙◌}
use Rattle.std.proofs.lemmas.List.{length-append, take_more}
use Rattle.bfs_handover.specs.Inside.Taking.{AreOnce}
use Rattle.bfs_handover.proofs.SplitLemmas.{once_kept, once_added}
use Rattle.bfs_handover.proofs.parts.distinct.Goals.{then-not-has, else-not-has}
use Rattle.bfs_handover.proofs.parts.distinct.Goals as goal

pub loop-id-preserved : goal.loop-id-preserved
loop-id-preserved c =
    let ids = c.args.ids.now in
    let at = c.loop-id.id-index in
    let id = c.id-item.result in
    let once = c.loop-id.once in
    let seen = c.as_slice-id-items.result.now in
    let more : take at ids ++ id ∷ [] ≡ take (at + 1) ids =
    subst (λ xs. take at xs ++ id ∷ [] ≡ take (at + 1) xs) c.as_slice-id-items.ensures.value (ap (λ (x : ℕ). take at seen ++ x ∷ []) c.id-item.is ∙ sym (take_more seen at id c.loop-id-test.true)) in
    elim c.if-not-has.branch [
      | then-not-has w ↦ (
        subst (AreOnce _) more (subst (λ xs. AreOnce xs (take at ids ++ id ∷ [])) (sym (w.once-is ∙ w.and-once.ensures))
            (once_added once (take at ids) id c.loop-id.invariant.0 (sym c.has.ensures ∙ w.if-not-has.true))),
        subst (λ xs. length xs ≤ at + 1) (sym (w.once-is ∙ w.and-once.ensures)) (omega (arith, c.loop-id.invariant.1, length-append once (id ∷ []))),
      )
      | else-not-has w ↦ (
        subst (AreOnce _) more (subst (λ xs. AreOnce xs (take at ids ++ id ∷ [])) (sym w.once-is)
            (once_kept once (take at ids) id c.loop-id.invariant.0 (sym c.has.ensures ∙ w.if-not-has.false))),
        subst (λ xs. length xs ≤ at + 1) (sym w.once-is) (omega (arith, c.loop-id.invariant.1)),
      )
    ]
