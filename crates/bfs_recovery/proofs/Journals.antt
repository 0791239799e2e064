-- Of a journal that was cut a replica is recovered.
use Rattle.std.proofs.Common.{◌≡◌, ◌∙◌, ℕ, zero, suc, ◌≤◌, List, [], ◌∷◌, ◌++◌, length, map, take, refl, sym, ap, subst}
use Rattle.std.specs.Prelude.{All}
use Rattle.std.specs.List.{AllByRecursion}
use Rattle.std.proofs.lemmas.List.{length-map, map-append, take-map}
use Rattle.bfs_auth.specs.Keys.{Keys}
use Rattle.bfs_journal.specs.Laws.{FrontsAreRead, IsFront}
use Rattle.bfs_journal.specs.Records.{IsBody, Splits, journal_of}
use Rattle.bfs_node.specs.Nodes.{Node}
use Rattle.bfs_nodes_agree.specs.Nodes.Steps.{NodeStep}
use Rattle.bfs_steps.specs.Steps.{FitSteps, body_text}
use Rattle.bfs_recovery.specs.Journals.{TheNodeComesBack}

fit_first : (n : ℕ) (turns : List (List NodeStep)) → AllByRecursion FitSteps turns → AllByRecursion FitSteps (take n turns)
fit_first zero turns fit = tt
fit_first (suc n) [] fit = tt
fit_first (suc n) (steps ∷ turns) fit = (fit.0, fit_first n turns fit.1)

pub the_node_comes_back : FrontsAreRead → TheNodeComesBack
the_node_comes_back fronts keys saved synced more count bodies rest savable holder fit each reaches splits =
    let both = map-append body_text synced more in
    let front = fronts (map body_text synced) (map body_text more) count bodies rest (subst (λ (all : List (List ℕ)). All IsBody all) both each) reaches
    (subst (λ (all : List (List ℕ)). Splits (take count (journal_of all)) bodies rest) both splits) in (
      take front.n (synced ++ more),
      record {
        n = front.n;
        no_fewer = subst (λ (k : ℕ). k ≤ front.n) (length-map synced body_text) front.no_fewer;
        no_more = subst (λ (k : ℕ). front.n ≤ k) (ap length (sym both) ∙ length-map (synced ++ more) body_text) front.no_more;
        read = refl;
      },
      record {
        saved = saved;
        savable = savable;
        holder = holder;
        text_is = refl;
        turns = take front.n (synced ++ more);
        each = fit_first front.n (synced ++ more) fit;
        bodies_are = front.read ∙ ap (take front.n) (sym both) ∙ take-map body_text front.n (synced ++ more);
        node_is = refl;
      },
    )
