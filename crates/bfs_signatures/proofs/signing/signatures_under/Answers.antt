use Rattle.std.proofs.Common.{ℕ, List, [], ◌∷◌, ◌++◌, sym, ap, ◌∙◌, arith}
use Rattle.std.specs.Prelude.{map}
use Rattle.std.specs.List.{range_with_len}
use Rattle.std.proofs.lemmas.List.{map_push}
use Rattle.std.proofs.lemmas.List.FromFn.{map-range_with_len_more}
use Rattle.bfs_signatures.specs.Signing.{signature_under}
use Rattle.bfs_signatures.proofs.signing.signatures_under.Goals as goal

pub loop-leaf-preserved : goal.loop-leaf-preserved
loop-leaf-preserved c =
    let f : ℕ → List ℕ = signature_under c.args.root_signature.now c.args.tree.now in
    let leaf = c.loop-leaf.leaf in
    ap (map (λ bytes. bytes.items)) c.in_ok-push.ensures.items
    ∙ map_push (λ bytes. bytes.items) c.loop-leaf.signatures.items c.in_ok-signature.signature
    ∙ ap (λ (l : List (List ℕ)). l ++ c.in_ok-signature.signature.items ∷ []) c.loop-leaf.invariant
    ∙ ap (λ (l : List ℕ). map f (range_with_len 0 leaf) ++ l ∷ []) c.in_ok-signature.ensures
    ∙ sym (map-range_with_len_more f 0 leaf leaf (omega arith))
