-- The next job's comes home before the rest.
use Rattle.std.proofs.Common.{ap, sym, subst, ◌∙◌, List}
use Rattle.bfs_handover.specs.Moves.{AreLent, brought_home}
use Rattle.bfs_handover.specs.Inside.Taking.{all_loans}
use Rattle.bfs_handover.specs.declared.job.Job.{Job}
use Rattle.bfs_handover.proofs.BackLemmas.{home_both, lent_both}
use Rattle.bfs_handover.proofs.parts.bring_back.Goals as goal

pub bring-requires : goal.bring-requires
bring-requires c =
    (lent_both c.in-Some.job.inodes (all_loans c.next.new.self.rest.items) c.loop-job.tree (subst (λ (jobs : List Job). AreLent c.loop-job.tree (all_loans jobs)) c.in-Some.ensures.steps.0 c.loop-job.invariant.0)).0

pub loop-job-preserved : goal.loop-job-preserved
loop-job-preserved c =
    let loans = c.in-Some.job.inodes in
    let rest = all_loans c.next.new.self.rest.items in
    let tree = c.loop-job.tree in
    let steps = c.in-Some.ensures.steps.0 in (
      subst (λ t. AreLent t rest) (sym c.bring.ensures) (lent_both loans rest tree (subst (λ (jobs : List Job). AreLent tree (all_loans jobs)) steps c.loop-job.invariant.0)).1,
      ap (brought_home rest) c.bring.ensures ∙ sym (home_both loans rest tree) ∙ ap (λ (jobs : List Job). brought_home (all_loans jobs) tree) (sym steps) ∙ c.loop-job.invariant.1,
    )
