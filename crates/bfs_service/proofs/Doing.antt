-- A process goes on by steps that are journaled.
use Rattle.std.proofs.Common.{◌≡◌, ◌&&◌, ◌∙◌, ℕ, Bool, true, false, List, [], ◌∷◌, ◌++◌, length, take, refl, sym, ap, subst, append_assoc, append-nil}
use Rattle.std.specs.List.{AllByRecursion}
use Rattle.std.proofs.lemmas.Bool.{and_parts}
use Rattle.std.proofs.lemmas.Grind.{flat_map-append}
use Rattle.std.proofs.lemmas.List.Sums.{fold-append}
use Rattle.std.proofs.Math.Seq.{take-append_seam}
use Rattle.bfs_messages.specs.Messages.{Request}
use Rattle.bfs_messages.specs.declared.signed.Signed.{Signed}
use Rattle.bfs_model.specs.Server.Tree.{Time}
use Rattle.bfs_node.specs.Nodes.{Messages, Node}
use Rattle.bfs_nodes_agree.specs.Nodes.Steps.{NodeStep, TakesRequests, TakesOffered}
use Rattle.bfs_nodes_agree.specs.declared.node_calls.performing.NodeCall.{NodeCall}
use Rattle.bfs_nodes_agree.specs.declared.node_calls.performing.NodeCall.TheVariants as code
use Rattle.bfs_steps.specs.Replaying as nodes
use Rattle.bfs_steps.specs.Steps.{FitsStep, FitSteps, body_text, step_text, steps_of}
use Rattle.bfs_service.specs.Acting.{Acting, IsAfter, IsOwn, IsOwnCall, IsTaking}
use Rattle.bfs_service.specs.Journals.{Acts, AreSpelled, Doing, Goes, Journals, has_text}
use Rattle.bfs_service.proofs.Going as going

-- What is journaled ---------------------------------------------------------------------------------------------------------

-- nothing was done to the node
pub journals_none : (before after : Doing) → after.acting.node ≡ before.acting.node → after.body ≡ before.body → after.is_spelled ≡ before.is_spelled → Journals before after
journals_none before after node body same spelled =
    record { were = sym same ∙ spelled; steps = []; fit = tt; body_is = body ∙ sym (append-nil before.body); node_is = node }

fit_both : (xs ys : List NodeStep) → FitSteps xs → FitSteps ys → FitSteps (xs ++ ys)
fit_both [] ys p q = q
fit_both (x ∷ xs) ys p q = (p.0, fit_both xs ys p.1 q)

pub journals_both : (a b c : Doing) → Journals a b → Journals b c → Journals a c
journals_both a b c one other spelled =
    let later = other spelled in
    let first = one later.were in
    record {
      were = first.were;
      steps = first.steps ++ later.steps;
      fit = fit_both first.steps later.steps first.fit later.fit;
      body_is = later.body_is ∙ ap (λ (body : List ℕ). body ++ body_text later.steps) first.body_is
          ∙ append_assoc a.body (body_text first.steps) (body_text later.steps) ∙ ap (λ (text : List ℕ). a.body ++ text) (sym (flat_map-append step_text first.steps later.steps));
      node_is = later.node_is ∙ ap (λ (n : Node). nodes.after_steps n later.steps) first.node_is ∙ sym (fold-append nodes.after_step a.acting.node first.steps later.steps);
    }

-- One call ------------------------------------------------------------------------------------------------------------------

-- a call that has a text is its step
is_its_step : (call : NodeCall) (before after : Acting) → has_text call ≡ true → IsAfter call before after → after.node ≡ nodes.after_steps before.node (steps_of call)
is_its_step (code.Deliver bytes) before after has is = ap (λ (a : Acting). a.node) is
is_its_step (code.Take signed) before after has is = ap (λ (a : Acting). a.node) is
is_its_step (code.TakeRequests messages) before after has is = ap (λ (a : Acting). a.node) is
is_its_step (code.TakeRequestsFor time messages) before after has is = ap (λ (a : Acting). a.node) is
is_its_step (code.Offer request) before after has is = ap (λ (a : Acting). a.node) is
is_its_step (code.Propose time) before after has is = ap (λ (a : Acting). a.node) is
is_its_step code.Execute before after has is = ap (λ (a : Acting). a.node) is
is_its_step code.Checkpoint before after has is = ap (λ (a : Acting). a.node) is
is_its_step code.TimeOut before after has is = ap (λ (a : Acting). a.node) is
is_its_step (code.LeaveFor view) before after has is = ap (λ (a : Acting). a.node) is
is_its_step code.ForgetAnswered before after has is = ap (λ (a : Acting). a.node) is
is_its_step code.ForgetProposed before after has is = ap (λ (a : Acting). a.node) is
is_its_step (code.Adopt text certificate) before after has is = absurd cc
is_its_step (code.Settle certificate) before after has is = ap (λ (a : Acting). a.node) is

pub acts_taken : (call : NodeCall) (before after : Doing) → IsAfter call before.acting after.acting → FitSteps (steps_of call)
    → after.body ≡ before.body ++ body_text (steps_of call) → after.is_spelled ≡ (before.is_spelled && has_text call) → Acts call before after
acts_taken call before after is fit body spelled = record {
  after_is = is;
  journals = λ so. let both = and_parts before.is_spelled (has_text call) (sym spelled ∙ so) in
      record { were = both.0; steps = steps_of call; fit = fit; body_is = body; node_is = is_its_step call before.acting after.acting both.1 is };
}

-- its text is cut off
pub acts_refused : (call : NodeCall) (before after : Doing) → (text : List ℕ) → IsAfter call before.acting after.acting → after.acting.node ≡ before.acting.node
    → after.body ≡ take (length before.body) (before.body ++ text) → after.is_spelled ≡ before.is_spelled → Acts call before after
acts_refused call before after text is node body spelled =
    record { after_is = is; journals = journals_none before after node (body ∙ take-append_seam before.body text) spelled }

-- Calls one after another -----------------------------------------------------------------------------------------------------

pub goes_nowhere : (P : NodeStep → Type 0) (doing : Doing) → Goes P doing doing
goes_nowhere P doing = record { goes = going.goes_nowhere P doing.acting; journals = journals_none doing doing refl refl refl }

pub goes_both : (P : NodeStep → Type 0) (first next last : Doing) → Goes P first next → Goes P next last → Goes P first last
goes_both P first next last one other = record {
  goes = going.goes_both P first.acting next.acting last.acting one.goes other.goes;
  journals = journals_both first next last one.journals other.journals;
}

-- a call that it makes of itself
pub own_goes : (time : Time) (call : NodeCall) (before after : Doing) → IsOwnCall time call → Acts call before after → Goes (IsOwn time) before after
own_goes time call before after own acts =
    record { goes = going.own_goes time call before.acting after.acting own acts.after_is; journals = acts.journals }

-- a call by which REQUESTs come
abbrev IsTakingCall : NodeCall → Type 0
IsTakingCall (code.TakeRequests messages) = Unit {0}
IsTakingCall (code.TakeRequestsFor time messages) = Unit {0}
IsTakingCall (code.Offer request) = Unit {0}
IsTakingCall _ = ⊥

pub taking_goes : (call : NodeCall) (before after : Doing) → Acts call before after → IsTakingCall call → Goes IsTaking before after
taking_goes (code.Deliver bytes) before after acts taking = absurd taking
taking_goes (code.Take signed) before after acts taking = absurd taking
taking_goes (code.TakeRequests messages) before after acts taking =
    record { goes = going.goes_by_one IsTaking before.acting after.acting (TakesRequests messages.now) tt acts.after_is; journals = acts.journals }
taking_goes (code.TakeRequestsFor time messages) before after acts taking =
    record { goes = going.goes_by_one IsTaking before.acting after.acting (TakesRequests messages.now) tt acts.after_is; journals = acts.journals }
taking_goes (code.Offer request) before after acts taking =
    record { goes = going.goes_by_one IsTaking before.acting after.acting (TakesOffered request) tt acts.after_is; journals = acts.journals }
taking_goes (code.Propose time) before after acts taking = absurd taking
taking_goes code.Execute before after acts taking = absurd taking
taking_goes code.Checkpoint before after acts taking = absurd taking
taking_goes code.TimeOut before after acts taking = absurd taking
taking_goes (code.LeaveFor view) before after acts taking = absurd taking
taking_goes code.ForgetAnswered before after acts taking = absurd taking
taking_goes code.ForgetProposed before after acts taking = absurd taking
taking_goes (code.Adopt text certificate) before after acts taking = absurd taking
taking_goes (code.Settle certificate) before after acts taking = absurd taking
