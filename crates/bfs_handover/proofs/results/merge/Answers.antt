-- The results in order are refused as those that were given, and where they are not, each is out until it comes home.
use Rattle.std.proofs.Common.{◌≡◌, None, ap, sym, ◌∙◌, inl, rules}
use Rattle.bfs_handover.specs.Merging.{refusal}
use Rattle.bfs_handover.proofs.NumberLemmas.{refusal_moved}
use Rattle.bfs_handover.proofs.MergeLemmas.{are_merged, can_come_home, out_of_memory}
use Rattle.bfs_handover.proofs.results.merge.Goals as goal

pub returns-in-Some-clause-refused : goal.returns-in-Some-clause-refused
returns-in-Some-clause-refused c =
    let numbers = c.args.numbers.now in
    let order = c.in_order-order in
    inl (sym (refusal_moved numbers c.args.dones.items order.result.items order.ensures.each) ∙ ap (refusal numbers) (sym c.as_slice.ensures.value) ∙ sym c.refusal.ensures ∙ c.in-Some.is)

pub returns-in_err-room-clause-refused : goal.returns-in_err-room-clause-refused
returns-in_err-room-clause-refused c =
    let numbers = c.args.numbers.now in
    let order = c.in_order-order in
    let none : c.refusal.result ≡ None = search rules in
    let fine : refusal numbers order.result.items ≡ None = ap (refusal numbers) (sym c.as_slice.ensures.value) ∙ sym c.refusal.ensures ∙ none in
    out_of_memory c.from_residual.result _ c.from_residual.ensures.1 (sym (refusal_moved numbers c.args.dones.items order.result.items order.ensures.each) ∙ fine)

pub bring_all-requires-clause-out : goal.bring_all-requires-clause-out
bring_all-requires-clause-out c =
    let numbers = c.args.numbers.now in
    let order = c.in_order-order in
    let none : c.refusal.result ≡ None = search rules in
    let fine : refusal numbers order.result.items ≡ None = ap (refusal numbers) (sym c.as_slice.ensures.value) ∙ sym c.refusal.ensures ∙ none in
    can_come_home numbers c.args.dones.items order.result.items c.requires.rising order.ensures.sorted order.ensures.each fine c.args.tree.now c.requires.out

pub returns-clause-merged : goal.returns-clause-merged
returns-clause-merged c =
    let numbers = c.args.numbers.now in
    let order = c.in_order-order in
    let none : c.refusal.result ≡ None = search rules in
    let fine : refusal numbers order.result.items ≡ None = ap (refusal numbers) (sym c.as_slice.ensures.value) ∙ sym c.refusal.ensures ∙ none in
    are_merged numbers c.args.dones.items order.result.items c.requires.rising order.ensures.sorted order.ensures.each fine c.args.tree.now c.bring_all.new.tree c.bring_all.result.items c.requires.out c.bring_all.ensures.home
    c.bring_all.ensures.replies

pub returns-clause-complete : goal.returns-clause-complete
returns-clause-complete c =
    let numbers = c.args.numbers.now in
    let order = c.in_order-order in
    let none : c.refusal.result ≡ None = search rules in
    let fine : refusal numbers order.result.items ≡ None = ap (refusal numbers) (sym c.as_slice.ensures.value) ∙ sym c.refusal.ensures ∙ none in
    sym (refusal_moved numbers c.args.dones.items order.result.items order.ensures.each) ∙ fine
