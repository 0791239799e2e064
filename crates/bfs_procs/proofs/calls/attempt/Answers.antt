use Rattle.bfs_procs.proofs.calls.attempt.Goals as goal

pub returns-in-Rename-clause-done : goal.returns-in-Rename-clause-done
returns-in-Rename-clause-done g c = rw c.in-Rename.is c.rename.ensures.done
