use Rattle.std.proofs.Common.{All, ap, map, subst, sym, ◌++◌, ◌∷◌, ◌∙◌, ◌≡◌, []}
use Rattle.std.proofs.lemmas.List.{append_assoc, map-append}
use Rattle.std.proofs.lemmas.List.Elements.{All-push}
use Rattle.bfs_cluster.proofs.cluster.Cluster.take_out.Goals as goal

pub loop-replica-preserved : goal.loop-replica-preserved
loop-replica-preserved c =
    let items = c.loop-replica.all.items in
    let rest = c.next.new.self.rest.items in
    let pushed : c.push.new.self.items ≡ items ++ c.new.result ∷ [] = c.in_ok-push.ensures.items in (
      ap (λ all. map (λ one. one.replica) all ++ rest) pushed
          ∙ ap (λ all. all ++ rest) (map-append (λ one. one.replica) items (c.new.result ∷ []))
          ∙ append_assoc (map (λ one. one.replica) items) (c.new.result.replica ∷ []) rest
          ∙ ap (λ replica. map (λ one. one.replica) items ++ replica ∷ rest) c.new.ensures.replica
          ∙ ap (λ more. map (λ one. one.replica) items ++ more) (sym c.in-Some.ensures.steps.0) ∙ c.loop-replica.invariant.0,
      subst (All (λ one. one.sent.items ≡ [])) (sym pushed) (All-push (λ one. one.sent.items ≡ []) items c.new.result c.loop-replica.invariant.1 c.new.ensures.sent),
    )
