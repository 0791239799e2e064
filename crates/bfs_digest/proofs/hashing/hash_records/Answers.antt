use Rattle.std.proofs.Common.{refl, sym, ap, subst, ◌∙◌}
use Rattle.std.specs.List.{All}
use Rattle.std.proofs.lemmas.List.Elements.{All-map}
use Rattle.rayon.proofs.ListFacts.{IfOk-then}
use Rattle.rayon.proofs.ToStd.{slice-map}
use Rattle.bfs_digest.specs.Inside.Hashed.{IsHashed, hashed_at}
use Rattle.bfs_digest.proofs.hashing.hash_records.Goals as goal

pub returns : goal.returns
returns g c =
    let inodes = c.args.files.now in
    let slice = ap (λ it. it.base.slice.now) c.map.ensures.base ∙ ap (λ it. it.slice.now) c.with_min_len.ensures.base ∙ c.par_iter.ensures in
    IfOk-then c.collect.result _ _ c.collect.ensures (λ v h.
    let chain = rw (c.map.ensures.f) at h.1 in
    let are = h.2 ∙ slice-map chain.0 c.args.ids.now (chain.1 ∙ slice) (λ x. hashed_at inodes x) h.0 chain.2 in
    subst (All (IsHashed inodes)) (sym are) (All-map (IsHashed inodes) (λ x. hashed_at inodes x) c.args.ids.now (λ k d below. refl)))
