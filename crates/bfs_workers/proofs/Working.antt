-- A worker knows what it took.
use Rattle.std.proofs.Common.{◌≡◌, ◌∙◌, ℕ, ◌-◌, ◌<◌, List, [], ◌∷◌, ◌++◌, length, sym, ap, subst, arith}
use Rattle.std.specs.List.{Contains}
use Rattle.std.proofs.lemmas.List.{length_push}
use Rattle.std.proofs.lemmas.List.Elements.{All-contains}
use Rattle.bfs_tree.specs.Slots.{Slots}
use Rattle.bfs_handover.specs.Jobs.{CanRun}
use Rattle.bfs_handover.specs.declared.job.Job.{Job}
use Rattle.bfs_handover.specs.declared.job.Done.{Done}
use Rattle.bfs_workers.specs.Results.{CanRunAll, Gives, GivesAll}
use Rattle.bfs_workers.specs.Rule.{TookOne, account}
use Rattle.bfs_workers.specs.declared.rule.Account.{Account}
use Rattle.bfs_workers.proofs.Zips.{all_zip_append}

-- what was taken can be run
pub taken_can_run : (tree : Slots) (put : List Job) (v w : Account) (job : Job) → v.put ≡ put → CanRunAll tree put → TookOne v job w → CanRun tree job
taken_can_run tree put v w job same can_run took = All-contains (CanRun tree) put job can_run.each (subst (λ jobs. Contains jobs job) same took.was_put)

-- fewer are left to take
pub fewer_left : (v w : Account) (job : Job) → TookOne v job w → length w.put - length w.taken < length v.put - length v.taken
fewer_left v w job took =
    let put = ap (λ (pass : Account). length pass.put) took.taken in
    let taken = ap (λ (pass : Account). length pass.taken) took.taken ∙ length_push v.taken job in
    let left = took.left in
    omega arith

-- but for what was taken the pass stays as it was
pub same_but_taken : (parts : ℕ) (put : List Job) (v w : Account) (job : Job) → v ≡ account parts put v.taken → TookOne v job w → w ≡ account parts put w.taken
same_but_taken parts put v w job same took =
    let parts_same : v.parts ≡ parts = ap (λ (pass : Account). pass.parts) same in
    let put_same : v.put ≡ put = ap (λ (pass : Account). pass.put) same in
    let taken : w.taken ≡ v.taken ++ job ∷ [] = ap (λ (pass : Account). pass.taken) took.taken in
    took.taken ∙ (λ i. account (parts_same i) (put_same i) (sym taken i))

pub gives_more : (ran : ℕ → List ℕ → Type 0) (tree : Slots) (v w : Account) (job : Job) (dones : List Done) (done : Done) → TookOne v job w → GivesAll ran tree v.taken dones → Gives ran tree job done
    → GivesAll ran tree w.taken (dones ++ done ∷ [])
gives_more ran tree v w job dones done took before here =
    subst (λ jobs. GivesAll ran tree jobs (dones ++ done ∷ [])) (sym (ap (λ (pass : Account). pass.taken) took.taken))
    (record { each = all_zip_append (Gives ran tree) v.taken (job ∷ []) dones (done ∷ []) before.each (here, tt) })
