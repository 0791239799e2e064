-- The first refusal ends it; where there is none, all events have happened.
use Rattle.std.proofs.Common.{◌≡◌, ◌+◌, ◌≤◌, List, length, get_or, drop, Result, Err, Option, ap, sym, ◌∙◌, subst, refl, arith}
use Rattle.std.specs.Prelude.{⊤}
use Rattle.std.proofs.lemmas.Result.{err_from_is_err_and}
use Rattle.std.proofs.Math.ListN.{drop_of_length-le}
use Rattle.bfs_tree.specs.Tree.{at_home}
use Rattle.bfs_overtaking.specs.declared.errors.CoreError.{CoreError}
use Rattle.bfs_overtaking.specs.declared.events.Event.{Event}
use Rattle.bfs_overtaking.specs.declared.events.Event.TheVariants.{Take}
use Rattle.bfs_overtaking.specs.Machine.{Machine, Plays, played}
use Rattle.bfs_overtaking.specs.Seen.{start_of}
use Rattle.bfs_overtaking.proofs.Playing.{Leads, all_happened, happened, next_is, refused}
use Rattle.bfs_overtaking.proofs.machine.Core.after.Goals as goal

pub loop-event-init : goal.loop-event-init
loop-event-init c =
    let a = c.args in
    let end = played a.events.now (start_of a.part.now (length a.footprints.items) (at_home a.tree)) in
    subst (λ (core : Option Machine). Leads core a.events.now end) (sym c.in_ok-core.ensures) refl

pub returns-in_err-happen : goal.returns-in_err-happen
returns-in_err-happen c =
    let a = c.args in
    let end = played a.events.now (start_of a.part.now (length a.footprints.items) (at_home a.tree)) in
    let k = c.loop-event.event-index in
    let event = get_or a.events.now k (Take 0) in
    let p = err_from_is_err_and c.from_residual-in_err-happen.result c.from_residual-in_err-happen.ensures.1 in
    let is : c.from_residual-in_err-happen.result ≡ Err c.in_err-happen.field-0.0 = p.1 ∙ ap Err p.2 in
    let leads = subst (λ (es : List Event). Leads c.loop-event.core es end) (next_is a.events.now k (Take 0) c.loop-event-test.true) c.loop-event.invariant in
    subst (λ (r : Result (Option Machine) CoreError). Plays end r) (sym is)
    (refused ⊤ c.loop-event.core c.happen.new.self event (drop (k + 1) a.events.now) end c.in_err-happen.field-0.0 leads c.in_err-happen.ensures)

pub loop-event-preserved : goal.loop-event-preserved
loop-event-preserved c =
    let a = c.args in
    let end = played a.events.now (start_of a.part.now (length a.footprints.items) (at_home a.tree)) in
    let k = c.loop-event.event-index in
    let event = get_or a.events.now k (Take 0) in
    let leads = subst (λ (es : List Event). Leads c.loop-event.core es end) (next_is a.events.now k (Take 0) c.loop-event-test.true) c.loop-event.invariant in
    happened c.loop-event.core c.happen.new.self event (drop (k + 1) a.events.now) end c.in_ok-happen.field-0 leads c.in_ok-happen.ensures

pub returns : goal.returns
returns c =
    let a = c.args in
    let end = played a.events.now (start_of a.part.now (length a.footprints.items) (at_home a.tree)) in
    let over : length a.events.now ≤ c.loop-event.event-index = omega arith in
    all_happened c.loop-event.core end (subst (λ (es : List Event). Leads c.loop-event.core es end) (drop_of_length-le a.events.now over) c.loop-event.invariant)
