-- What was executed, recorded and answered is the outcome, and the gate ran what is new.
use Rattle.std.proofs.Common.{Result, Ok, Err}
use Rattle.std.specs.Prelude.{IfOk, IsSome, OnOk}
use Rattle.bfs_outcome.proofs.Passing.{comes_to}
use Rattle.bfs_outcome.proofs.execution.execute_requests.Goals as goal

both : {A E : Type 0} (result : Result A E) (P Q R : A → Type 0) (S : Type 0) → ((x : A) → P x → Q x → R x × S) → IfOk result P → IfOk result Q → IfOk result R × OnOk result S
both (Ok x) P Q R S f p q = f x p q
both (Err e) P Q R S f p q = (tt, tt)

apart : {A B C : Type 0} → A × B → (A → B → C) → C
apart ab f = f ab.0 ab.1

pub returns : goal.returns
returns g c =
    apart (both c.answer_all.result _ _ _ _
    (λ executed recorded answered. comes_to g.G.Gate.ran (IsSome c.args.means.now.executor.engine) c.args.files.now c.execute.new.files c.args.table.now c.args.batch.now c.args.time c.requests-requests.result.now c.in_ok-replies.replies executed.to_record.items executed.to_answer.items c.is_live.result
    c.is_live.ensures.value c.is_live.ensures.live c.requires.time c.requests-requests.ensures.value (rw c.in_ok-news.ensures at c.in_ok-replies.ensures.done) (rw c.in_ok-news.ensures at c.in_ok-replies.ensures.ran) recorded answered)
    c.answer_all.ensures.to_record c.answer_all.ensures.to_answer)
    (λ done ran. record { done = done; ran = ran })
