-- One more is taken out, or those that were come home.
use Rattle.std.proofs.Common.{◌≡◌, ◌+◌, ◌++◌, ◌∷◌, [], ℕ, List, drop, take, ap, sym, subst, ◌∙◌, rules}
use Rattle.std.proofs.lemmas.List.{take_more}
use Rattle.bfs_tree.specs.Tree.{at_home, lent}
use Rattle.bfs_tree.specs.Slots.{Slots}
use Rattle.bfs_handover.specs.Moves.{AreAtHome, AreLent, brought_home, lent_out, taken}
use Rattle.bfs_handover.specs.declared.loans.Loan.{Loan}
use Rattle.bfs_handover.proofs.BackLemmas.{comes_back, home_again, lent_again}
use Rattle.bfs_handover.proofs.MoveLemmas.{at_home_first, from_here, out_both, taken_both}
use Rattle.bfs_handover.proofs.moves.take_each.Goals as goal

pub bring_each-requires : goal.bring_each-requires
bring_each-requires c =
    let out = take c.loop-id.id-index c.args.ids.now in
    let before = c.args.tree.now in
    let same = c.in-Err.ensures.err ∙ c.loop-id.invariant.2 in
    subst (AreLent c.lend.new.self) (sym c.loop-id.invariant.1)
    (comes_back out before c.lend.new.self (at_home_first c.loop-id.id-index c.args.ids.now before c.requires.home) (ap at_home same) (ap lent same))

pub returns-in-Err-clause-home : goal.returns-in-Err-clause-home
returns-in-Err-clause-home c =
    let out = take c.loop-id.id-index c.args.ids.now in
    let before = c.args.tree.now in
    let same = c.in-Err.ensures.err ∙ c.loop-id.invariant.2 in
    ap at_home (c.bring_each.ensures ∙ ap (λ (loans : List Loan). brought_home loans c.lend.new.self) c.loop-id.invariant.1)
    ∙ home_again out before c.lend.new.self (at_home_first c.loop-id.id-index c.args.ids.now before c.requires.home) (ap at_home same) (ap lent same)

pub returns-in-Err-clause-lent : goal.returns-in-Err-clause-lent
returns-in-Err-clause-lent c =
    let out = take c.loop-id.id-index c.args.ids.now in
    let before = c.args.tree.now in
    let same = c.in-Err.ensures.err ∙ c.loop-id.invariant.2 in
    ap lent (c.bring_each.ensures ∙ ap (λ (loans : List Loan). brought_home loans c.lend.new.self) c.loop-id.invariant.1)
    ∙ lent_again out before c.lend.new.self (at_home_first c.loop-id.id-index c.args.ids.now before c.requires.home) (ap at_home same) (ap lent same)

pub loop-id-preserved : goal.loop-id-preserved
loop-id-preserved c =
    let ids = c.args.ids.now in
    let at = c.loop-id.id-index in
    let id = c.id-item.result in
    let before = c.args.tree.now in
    let more : take (at + 1) ids ≡ take at ids ++ id ∷ [] = take_more ids at id c.loop-id-test.true ∙ ap (λ (x : ℕ). take at ids ++ x ∷ []) (sym c.id-item.is) in
    let home : AreAtHome c.loop-id.tree (id ∷ drop (at + 1) ids) = subst (AreAtHome c.loop-id.tree) (from_here ids at id c.loop-id-test.true c.id-item.is) c.loop-id.invariant.0 in
    let loan : Loan = record { id = id; inode = c.in-Ok.inode } in
    let last : loan ∷ [] ≡ taken (id ∷ []) (lent_out (take at ids) before) =
    ap (λ inode. record { id = id; inode = inode } ∷ []) (c.in-Ok.ensures.value ∙ ap (λ (s : Slots). Rattle.std.specs.FinMap.get (at_home s) id) c.loop-id.invariant.2) in (
      subst (λ s. AreAtHome s (drop (at + 1) ids)) (sym c.in-Ok.ensures.lent) home.1,
      c.push_reserved.ensures.items ∙ ap (λ (loans : List Loan). loans ++ loan ∷ []) c.loop-id.invariant.1 ∙ ap (λ (loans : List Loan). taken (take at ids) before ++ loans) last
          ∙ sym (taken_both (take at ids) (id ∷ []) before) ∙ ap (λ (xs : List ℕ). taken xs before) (sym more),
      c.in-Ok.ensures.lent ∙ ap (lent_out (id ∷ [])) c.loop-id.invariant.2 ∙ sym (out_both (take at ids) (id ∷ []) before) ∙ ap (λ (xs : List ℕ). lent_out xs before) (sym more),
      search rules,
      search rules,
    )
