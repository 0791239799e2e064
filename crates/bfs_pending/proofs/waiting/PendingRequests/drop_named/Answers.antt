-- Those stay that are still found, and the index is theirs.
use Rattle.std.proofs.Common.{◌≡◌, ◌∙◌, ap, arith, rules, sym, subst, List, []}
use Rattle.std.specs.Prelude.{not, filter}
use Rattle.std.specs.List.{list_any}
use Rattle.std.proofs.lemmas.Fn.{filter_same}
use Rattle.bfs_messages.specs.Messages.{Request}
use Rattle.bfs_messages.specs.declared.signed.Signed.{Signed}
use Rattle.bfs_pending.specs.Counts.{AreCounted}
use Rattle.bfs_pending.specs.Indexes.{IsIndex, is_found}
use Rattle.bfs_pending.specs.Passed.{HavePassed}
use Rattle.bfs_pending.specs.Requests.{is_same}
use Rattle.bfs_pending.proofs.Alike.{fewer}
use Rattle.bfs_pending.proofs.Lasts.{dropped, left_behind}
use Rattle.bfs_pending.proofs.waiting.PendingRequests.drop_named.Goals as goal

kept : (c : goal.After-retain) → c.retain.new.self.items ≡ filter (is_found c.forget.new.last) c.self.inside.requests.items
kept c = filter_same _ (is_found c.forget.new.last) _ (λ one b f' k. search rules) _ _ c.retain.ensures.filtered

left : (c : goal.After-retain) → c.retain.new.self.items ≡ filter (λ one. not (list_any (is_same one) c.args.requests.now)) c.self.inside.requests.items
left c =
    let after = c.forget.new.last in
    kept c
    ∙ left_behind c.args.requests.now c.self.inside.last after [] c.self.inside.requests.items c.self.invariant.0.lasts c.forget.ensures

pub invariant_of-self : goal.invariant_of-self
invariant_of-self c = (
  record {
    few = omega (arith, c.retain.ensures.bound, c.self.invariant.0.few);
    lasts =
        subst (λ (waiting : List (Signed Request)). IsIndex c.forget.new.last waiting) (sym (left c))
        (dropped c.args.requests.now c.self.inside.requests.items c.self.inside.last c.forget.new.last c.self.invariant.0.lasts c.forget.ensures);
    counts_are =
        subst (λ (waiting : List (Signed Request)). AreCounted c.discount_gone.new.counts waiting) (ap (filter (is_found c.forget.new.last)) c.as_slice.ensures.value ∙ sym (kept c)) c.discount_gone.ensures;
  },
  tt,
)

pub returns-clause-now : goal.returns-clause-now
returns-clause-now c = left c ∙ ap (λ (waiting : List (Signed Request)). filter (λ one. not (list_any (is_same one) c.args.requests.now)) waiting) c.self.view_is

pub returns-clause-passed : goal.returns-clause-passed
returns-clause-passed c keys passed =
    subst (λ (waiting : List (Signed Request)). HavePassed keys waiting) (sym (left c))
    (fewer keys (λ one. not (list_any (is_same one) c.args.requests.now)) c.self.inside.requests.items (subst (λ (waiting : List (Signed Request)). HavePassed keys waiting) (sym c.self.view_is) passed))
