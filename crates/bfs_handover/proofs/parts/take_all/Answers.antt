-- One more is taken out, or those that were come home.
use Rattle.std.proofs.Common.{◌+◌, ◌++◌, ◌∷◌, [], List, take, ap, sym, subst, ◌∙◌, rules}
use Rattle.bfs_tree.specs.Tree.{at_home, lent}
use Rattle.bfs_handover.specs.Moves.{AreLent, brought_home}
use Rattle.bfs_handover.specs.Splitting.{part_with}
use Rattle.bfs_handover.specs.Inside.Taking.{all_ids}
use Rattle.bfs_handover.specs.declared.job.Job.{Job}
use Rattle.bfs_handover.specs.declared.loans.Loan.{Loan}
use Rattle.bfs_handover.proofs.BackLemmas.{comes_back, home_again, lent_again}
use Rattle.bfs_handover.proofs.SplitLemmas.{AreBegun, loans_taken, next, next_owned}
use Rattle.bfs_handover.proofs.parts.take_all.Goals as goal

pub take_one-requires-clause-owned : goal.take_one-requires-clause-owned
take_one-requires-clause-owned c =
    next_owned c.args.tree.now (part_with c.args.part.now c.args.footprints.now) c.args.numbers.now c.loop-number.number-index c.loop-number.jobs.items c.loop-number.tree c.loop-number.invariant.0 c.loop-number-test.true

pub bring_back-requires : goal.bring_back-requires
bring_back-requires c =
    let jobs = c.loop-number.jobs.items in
    let old = c.args.tree.now in
    let are = c.loop-number.invariant.0 in
    subst (AreLent c.take_one.new.tree) (sym (loans_taken (part_with c.args.part.now c.args.footprints.now) (take c.loop-number.number-index c.args.numbers.now) jobs old are.begun))
    (comes_back (all_ids jobs) old c.take_one.new.tree are.home (c.in-Err.ensures.home ∙ ap at_home are.out) (c.in-Err.ensures.lent ∙ ap lent are.out))

pub returns-in-Err-clause-home : goal.returns-in-Err-clause-home
returns-in-Err-clause-home c =
    let jobs = c.loop-number.jobs.items in
    let old = c.args.tree.now in
    let are = c.loop-number.invariant.0 in
    let loans = loans_taken (part_with c.args.part.now c.args.footprints.now) (take c.loop-number.number-index c.args.numbers.now) jobs old are.begun in
    ap at_home (c.bring_back.ensures ∙ ap (λ (xs : List Loan). brought_home xs c.take_one.new.tree) loans)
    ∙ home_again (all_ids jobs) old c.take_one.new.tree are.home (c.in-Err.ensures.home ∙ ap at_home are.out) (c.in-Err.ensures.lent ∙ ap lent are.out)

pub returns-in-Err-clause-lent : goal.returns-in-Err-clause-lent
returns-in-Err-clause-lent c =
    let jobs = c.loop-number.jobs.items in
    let old = c.args.tree.now in
    let are = c.loop-number.invariant.0 in
    let loans = loans_taken (part_with c.args.part.now c.args.footprints.now) (take c.loop-number.number-index c.args.numbers.now) jobs old are.begun in
    ap lent (c.bring_back.ensures ∙ ap (λ (xs : List Loan). brought_home xs c.take_one.new.tree) loans)
    ∙ lent_again (all_ids jobs) old c.take_one.new.tree are.home (c.in-Err.ensures.home ∙ ap at_home are.out) (c.in-Err.ensures.lent ∙ ap lent are.out)

pub loop-number-preserved : goal.loop-number-preserved
loop-number-preserved c =
    let old = c.args.tree.now in
    let part = part_with c.args.part.now c.args.footprints.now in
    let numbers = c.args.numbers.now in
    let at = c.loop-number.number-index in
    let jobs = c.loop-number.jobs.items in
    let job = c.in-Ok.job in
    let more : AreBegun old part numbers (at + 1) (jobs ++ job ∷ []) c.take_one.new.tree =
    next old part numbers at jobs c.loop-number.tree c.loop-number.invariant.0 c.loop-number-test.true job c.take_one.new.tree c.in-Ok.ensures.job c.in-Ok.ensures.out in (
      subst (λ (items : List Job). AreBegun old part numbers (at + 1) items c.take_one.new.tree) (sym c.push_reserved.ensures.items) more,
      search rules,
      search rules,
    )
