-- A node goes on by steps.
use Rattle.std.proofs.Common.{◌≡◌, ◌≢◌, ◌∙◌, [], ◌∷◌, ◌++◌, Ok, Err, refl, sym, ap, subst, append-nil}
use Rattle.std.proofs.lemmas.List.Sums.{fold-append}
use Rattle.bfs_messages.specs.Messages.{Request}
use Rattle.bfs_messages.specs.declared.signed.Signed.{Signed}
use Rattle.bfs_node.specs.Nodes.{Messages, Node}
use Rattle.bfs_node.specs.declared.error.NodeError.{NodeError}
use Rattle.bfs_node.specs.declared.error.NodeError.TheVariants.{Memory}
use Rattle.bfs_nodes_agree.proofs.Public.{both_in, none_in, one_in}
use Rattle.bfs_nodes_agree.specs.Nodes.Performing.{Performs, messages_in}
use Rattle.bfs_nodes_agree.specs.Nodes.Steps.{NodeStep, Delivers, Takes, TakesRequests, TakesOffered, Proposes, Executes, Checkpoints, TimesOut, LeavesFor, ForgetsAnswered, ForgetsProposed, Adopts, Settles, outcome, still}
use Rattle.bfs_nodes_agree.specs.declared.node_calls.performing.NodeCall.{NodeCall}
use Rattle.bfs_nodes_agree.specs.declared.node_calls.performing.NodeCall.TheVariants as code
use Rattle.bfs_nodes_agree.specs.declared.node_calls.performing.Sent.{Sent}
use Rattle.bfs_model.specs.Server.Tree.{Time}
use Rattle.bfs_service.specs.Acting.{Acting, GoesOn, IsAdoption, IsAfter, IsOwn, IsOwnCall, IsTaking, after_step, after_steps}

-- One step ------------------------------------------------------------------------------------------------------------------

pub goes_nowhere : (P : NodeStep → Type 0) (acting : Acting) → GoesOn P acting acting
goes_nowhere P acting = record { steps = []; each = none_in P; after_is = refl }

pub goes_by_one : (P : NodeStep → Type 0) (before after : Acting) (step : NodeStep) → P step → after ≡ after_step before step → GoesOn P before after
goes_by_one P before after step so is = record { steps = step ∷ []; each = one_in P step so; after_is = is }

-- One call ------------------------------------------------------------------------------------------------------------------

with_sent : (acting : Acting) (step : NodeStep) (sent : Sent) (now : Node) → outcome acting.node step ≡ record { now = now; sent = messages_in sent }
    → record { node = now; sent = acting.sent ++ messages_in sent } ≡ after_step acting step
with_sent acting step sent now is = ap (λ out. record { node = out.now; sent = acting.sent ++ out.sent }) (sym is)

-- a call that is taken
pub taken : (acting : Acting) (call : NodeCall) (sent : Sent) (now : Node) → Performs acting.node call (Ok sent) now
    → IsAfter call acting (record { node = now; sent = acting.sent ++ messages_in sent })
taken acting (code.Deliver bytes) sent now is = with_sent acting (Delivers bytes.now) sent now is
taken acting (code.Take signed) sent now is = with_sent acting (Takes signed) sent now is
taken acting (code.TakeRequests messages) sent now is = with_sent acting (TakesRequests messages.now) sent now is
taken acting (code.TakeRequestsFor time messages) sent now is = with_sent acting (TakesRequests messages.now) sent now is
taken acting (code.Offer request) sent now is = with_sent acting (TakesOffered request) sent now is
taken acting (code.Propose time) sent now is = with_sent acting (Proposes time) sent now is
taken acting code.Execute sent now is = with_sent acting Executes sent now is
taken acting code.Checkpoint sent now is = with_sent acting Checkpoints sent now is
taken acting code.TimeOut sent now is = with_sent acting TimesOut sent now is
taken acting (code.LeaveFor view) sent now is = with_sent acting (LeavesFor view) sent now is
taken acting code.ForgetAnswered sent now is = with_sent acting ForgetsAnswered sent now is
taken acting code.ForgetProposed sent now is = with_sent acting ForgetsProposed sent now is
taken acting (code.Adopt text certificate) sent now is =
    let step = Adopts certificate.now is.0 is.1 in
    goes_by_one (IsAdoption certificate.now) acting (record { node = now; sent = acting.sent ++ messages_in sent }) step (is.0, is.1, refl) (with_sent acting step sent now is.3)
taken acting (code.Settle certificate) sent now is = with_sent acting (Settles certificate.now) sent now is

without_sent : (acting : Acting) (step : NodeStep) (now : Node) → now ≡ acting.node → outcome acting.node step ≡ still acting.node
    → record { node = now; sent = acting.sent } ≡ after_step acting step
without_sent acting step now same is =
    ap (λ (n : Node). record { node = n; sent = acting.sent }) same
    ∙ ap (λ sent. record { node = acting.node; sent = sent }) (sym (append-nil acting.sent))
    ∙ ap (λ out. record { node = out.now; sent = acting.sent ++ out.sent }) (sym is)

-- a call that is refused
pub refused : (acting : Acting) (call : NodeCall) (e : NodeError) (now : Node) → e ≢ Memory → Performs acting.node call (Err e) now
    → IsAfter call acting (record { node = now; sent = acting.sent })
refused acting (code.Deliver bytes) e now other is = without_sent acting (Delivers bytes.now) now (is.1 other).0 (is.1 other).1
refused acting (code.Take signed) e now other is = without_sent acting (Takes signed) now (is.1 other).0 (is.1 other).1
refused acting (code.TakeRequests messages) e now other is = without_sent acting (TakesRequests messages.now) now (is.1 other).0 (is.1 other).1
refused acting (code.TakeRequestsFor time messages) e now other is = without_sent acting (TakesRequests messages.now) now (is.1 other).0 (is.1 other).1
refused acting (code.Offer request) e now other is = without_sent acting (TakesOffered request) now (is.1 other).0 (is.1 other).1
refused acting (code.Propose time) e now other is = without_sent acting (Proposes time) now (is.1 other).0 (is.1 other).1
refused acting code.Execute e now other is = without_sent acting Executes now (is.1 other).0 (is.1 other).1
refused acting code.Checkpoint e now other is = without_sent acting Checkpoints now (is.1 other).0 (is.1 other).1
refused acting code.TimeOut e now other is = without_sent acting TimesOut now (is.1 other).0 (is.1 other).1
refused acting (code.LeaveFor view) e now other is = without_sent acting (LeavesFor view) now (is.1 other).0 (is.1 other).1
refused acting code.ForgetAnswered e now other is = without_sent acting ForgetsAnswered now (is.1 other).0 (is.1 other).1
refused acting code.ForgetProposed e now other is = without_sent acting ForgetsProposed now (is.1 other).0 (is.1 other).1
refused acting (code.Adopt text certificate) e now other is =
    subst (λ (n : Node). GoesOn (IsAdoption certificate.now) acting (record { node = n; sent = acting.sent })) (sym is) (goes_nowhere (IsAdoption certificate.now) acting)
refused acting (code.Settle certificate) e now other is = without_sent acting (Settles certificate.now) now (is.1 other).0 (is.1 other).1

pub stays : (node : Node) (call : NodeCall) (e : NodeError) (now : Node) → e ≢ Memory → Performs node call (Err e) now → now ≡ node
stays node (code.Deliver bytes) e now other is = (is.1 other).0
stays node (code.Take signed) e now other is = (is.1 other).0
stays node (code.TakeRequests messages) e now other is = (is.1 other).0
stays node (code.TakeRequestsFor time messages) e now other is = (is.1 other).0
stays node (code.Offer request) e now other is = (is.1 other).0
stays node (code.Propose time) e now other is = (is.1 other).0
stays node code.Execute e now other is = (is.1 other).0
stays node code.Checkpoint e now other is = (is.1 other).0
stays node code.TimeOut e now other is = (is.1 other).0
stays node (code.LeaveFor view) e now other is = (is.1 other).0
stays node code.ForgetAnswered e now other is = (is.1 other).0
stays node code.ForgetProposed e now other is = (is.1 other).0
stays node (code.Adopt text certificate) e now other is = is
stays node (code.Settle certificate) e now other is = (is.1 other).0

-- Calls one after another -----------------------------------------------------------------------------------------------------

pub goes_both : (P : NodeStep → Type 0) (first next last : Acting) → GoesOn P first next → GoesOn P next last → GoesOn P first last
goes_both P first next last one other = record {
  steps = one.steps ++ other.steps;
  each = both_in P one.steps other.steps one.each other.each;
  after_is = other.after_is ∙ ap (λ (a : Acting). after_steps a other.steps) one.after_is ∙ sym (fold-append after_step first one.steps other.steps);
}

pub goes_as : (P Q : NodeStep → Type 0) (first last : Acting) → ((step : NodeStep) → P step → Q step) → GoesOn P first last → GoesOn Q first last
goes_as P Q first last so goes = record { steps = goes.steps; each = λ step i. so step (goes.each step i); after_is = goes.after_is }

-- a call that it makes of itself
pub own_goes : (time : Time) (call : NodeCall) (before after : Acting) → IsOwnCall time call → IsAfter call before after → GoesOn (IsOwn time) before after
own_goes time (code.Deliver bytes) before after own is = absurd own
own_goes time (code.Take signed) before after own is = absurd own
own_goes time (code.TakeRequests messages) before after own is = absurd own
own_goes time (code.TakeRequestsFor t messages) before after own is = absurd own
own_goes time (code.Offer request) before after own is = absurd own
own_goes time (code.Propose t) before after own is = goes_by_one (IsOwn time) before after (Proposes t) own is
own_goes time code.Execute before after own is = goes_by_one (IsOwn time) before after Executes tt is
own_goes time code.Checkpoint before after own is = goes_by_one (IsOwn time) before after Checkpoints tt is
own_goes time code.TimeOut before after own is = goes_by_one (IsOwn time) before after TimesOut tt is
own_goes time (code.LeaveFor view) before after own is = goes_by_one (IsOwn time) before after (LeavesFor view) tt is
own_goes time code.ForgetAnswered before after own is = goes_by_one (IsOwn time) before after ForgetsAnswered tt is
own_goes time code.ForgetProposed before after own is = goes_by_one (IsOwn time) before after ForgetsProposed tt is
own_goes time (code.Adopt text certificate) before after own is =
    goes_as (IsAdoption certificate.now) (IsOwn time) before after (λ step adopts. subst (IsOwn time) (sym adopts.2) tt) is
own_goes time (code.Settle certificate) before after own is = goes_by_one (IsOwn time) before after (Settles certificate.now) tt is
