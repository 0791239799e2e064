-- Nothing of a NEW-VIEW is passed over by who enters by it.
use Rattle.std.proofs.Common.{◌≡◌, ◌∙◌, ℕ, zero, suc, ◌+◌, ◌-◌, ◌<◌, ◌≤◌, ◌&&◌, true, List, [], ◌∷◌, Some, None, ◌⊎◌, inl, inr, refl, sym, ap, subst, arith}
use Rattle.std.specs.Prelude.{All, nat_lt, nat_le}
use Rattle.std.specs.List.{range_with_len}
use Rattle.std.proofs.lemmas.Bool.{and_parts, ltb-true}
use Rattle.std.proofs.lemmas.List.Elements.{All-head, All-tail}
use Rattle.std.proofs.lemmas.List.FromFn.{length-map-range_with_len}
use Rattle.bfs_auth.specs.Keys.{Keys}
use Rattle.bfs_votes.specs.Votes.{Header, SlotsDiffer, primary}
use Rattle.bfs_log.specs.Certificates.{StableCheckpoint, faults, is_shown}
use Rattle.bfs_log.specs.Headers.{header}
use Rattle.bfs_log.specs.Logs.{headers}
use Rattle.bfs_messages.specs.Messages as model
use Rattle.bfs_messages.specs.declared.signed.Signed.{Signed}
use Rattle.bfs_order.specs.Replica.Installing.{raised}
use Rattle.bfs_order.specs.Replica.States.{State, known}
use Rattle.bfs_order.specs.Replica.Views.{as_proposals, entered, number_of, opened}
use Rattle.bfs_order.specs.declared.error.OrderError.TheVariants.{WrongView}
use Rattle.bfs_order.proofs.Public.{entered_low, raised_same}
use Rattle.bfs_agreement.specs.Histories.{IsIn}
use Rattle.bfs_nodes_agree.proofs.Orders.Entering.{IsHanded}
use Rattle.bfs_nodes_agree.proofs.Orders.Results.{passed}
use Rattle.bfs_nodes_agree.proofs.Orders.Whole.{all_in, raised_free, raised_low}
use Rattle.bfs_view_change.specs.Changes.Choice.{Chosen, choice, chosen_for, last_number, latest_stable}
use Rattle.bfs_view_change.specs.Changes.NewViews.{latest_checkpoint}
use Rattle.bfs_view_change.specs.Changes.ViewChanges.{messages_of, stable_in}
use Rattle.bfs_view_change.specs.Inside.Near.{IsNear}
use Rattle.bfs_view_change.specs.Laws.Choices.{LatestIsOfMinS, NumbersAreChosenOnce}
use Rattle.bfs_view_change.proofs.Public.{near_short, valid_near}
use Rattle.bfs_nodes_agree.specs.Views.Changes.{proposal_of}
use Rattle.bfs_nodes_agree.specs.Views.Laws.{IsSound, NothingIsPassedOver}
use Rattle.bfs_nodes_agree.proofs.Views.Chosen.{slots_differ}
use Rattle.bfs_nodes_agree.proofs.Views.Lists.{in_map, in_range, is_in, out_of_map}
use Rattle.bfs_nodes_agree.proofs.Views.Proved.{latest_among, valid_shows}
use Rattle.bfs_model.specs.Server.Limits.{most_number}

none_later : (view : ℕ) (hs : List Header) → All (λ h. h.view ≤ view) hs → (h : Header) → IsIn h hs → h.view ≤ view
none_later view [] all h i = absurd i
none_later view (x ∷ hs) all h i = elim i [
  | inl e ↦ let le = All-head (λ (y : Header). y.view ≤ view) x hs all in let same : h.view ≡ x.view = ap (λ (y : Header). y.view) e in omega (arith, le, same)
  | inr j ↦ none_later view hs (All-tail (λ (y : Header). y.view ≤ view) x hs all) h j
]

below : (from count n : ℕ) → IsIn n (range_with_len from count) → n < from + count
below from zero n i = absurd i
below from (suc count) n i = elim i [ inl e ↦ omega (arith, e) | inr j ↦ let lt = below (from + 1) count n j in omega (arith, lt) ]

-- it has no certificate beyond the window
sound_near : (keys : Keys) (low : ℕ) (s : Signed model.ViewChange) → IsSound keys low s → IsNear s.message
sound_near keys low s sound = elim sound [ inl valid ↦ valid_near keys s valid | inr own ↦ own.0 ]

-- its stable number is shown, or there
sound_shows : (keys : Keys) (low : ℕ) (s : Signed model.ViewChange) → IsSound keys low s → (is_shown keys (faults keys) (stable_in s.message) ≡ true) ⊎ (s.message.stable ≤ low)
sound_shows keys low s sound = elim sound [
  | inl valid ↦ elim (valid_shows keys s valid) [ inl shown ↦ inl shown | inr none ↦ inr (omega (arith, none)) ]
  | inr own ↦ inr own.1
]

pub nothing_passed_over : NumbersAreChosenOnce → LatestIsOfMinS → NothingIsPassedOver
nothing_passed_over numbers latest keys s view changes handed fit later none sound proposals =
    let chs = messages_of changes in
    let stable = latest_checkpoint chs in
    let min_s = number_of stable in
    let u = raised keys s stable in
    let ms = as_proposals handed in
    let hs = headers ms in
    let chosen = (choice chs).chosen in
    let first = latest_stable chs + 1 in
    let count = last_number chs - latest_stable chs in
    let a = passed (nat_lt s.view view && (nat_le s.asked view && nat_le view most_number)) WrongView None none in
    let lt = ltb-true s.view view (and_parts (nat_lt s.view view) (nat_le s.asked view && nat_le view most_number) a.0).0 in
    let shown : (c : StableCheckpoint) → stable ≡ Some c → (is_shown keys s.f c ≡ true) ⊎ (c.number ≤ s.low) = λ c e.
    let from = latest_among changes c e in
    subst (λ (x : StableCheckpoint). (is_shown keys s.f x ≡ true) ⊎ (x.number ≤ s.low)) (sym from.2)
    (subst (λ (f : ℕ). (is_shown keys f (stable_in from.0.message) ≡ true) ⊎ (from.0.message.stable ≤ s.low)) fit (sound_shows keys s.low from.0 (sound from.0 from.1))) in
    let low : min_s ≤ u.low = raised_low keys s stable shown in
    let same_f : u.f ≡ s.f = raised_same (λ (x : State). x.f) keys s stable (λ low log. refl) in
    let is_min : min_s ≡ latest_stable chs = latest chs in
    let few : count ≤ 32 = let few_chosen = near_short changes (λ x i. sound_near keys s.low x (sound x (is_in changes x i))) in let are = length-map-range_with_len (chosen_for chs) first count in omega (arith, few_chosen, are) in
    let at : (x : Header) → IsIn x hs → (c : Chosen) × IsIn c chosen × (x ≡ proposal_of s.f view c) = λ x i. out_of_map (proposal_of s.f view) chosen x (subst (λ (l : List Header). IsIn x l) proposals i) in
    let numbered : (c : Chosen) → IsIn c chosen → IsIn c.number (range_with_len first count) = λ c i. subst (λ (l : List ℕ). IsIn c.number l) (numbers chs) (in_map (λ (x : Chosen). x.number) chosen c i) in
    let is_handed : (x : Header) → IsIn x hs → IsHanded u.f view min_s x = λ x i.
    let c = at x i in
    let of_view : x.view ≡ view = ap (λ (y : Header). y.view) c.2 in
    let number : x.number ≡ c.0.number = ap (λ (y : Header). y.number) c.2 in
    let from = in_range first count c.0.number (numbered c.0 c.1) in
    record {
      two = ap (λ (y : Header). y.tag) c.2;
      from = ap (λ (y : Header). y.sender) c.2 ∙ ap (λ (v : ℕ). primary s.f v) (sym of_view) ∙ ap (λ (f : ℕ). primary f x.view) (sym same_f);
      of_view = of_view;
      above = omega (arith, from, number, is_min);
    } in
    let high : (x : Header) → IsIn x hs → x.number ≤ u.low + 32 = λ x i.
    let c = at x i in
    let number : x.number ≡ c.0.number = ap (λ (y : Header). y.number) c.2 in
    let to = below first count c.0.number (numbered c.0 c.1) in
    omega (arith, to, number, is_min, few, low) in
    let differ : SlotsDiffer hs = subst SlotsDiffer (sym proposals) (slots_differ s.f view chosen first count (numbers chs)) in
    let free = λ (x : Header) (i : IsIn x hs).
    let so = is_handed x i in
    let two = so.two in
    let of_view = so.of_view in
    raised_free keys s stable (none_later s.view (known s) later) x two (omega (arith, of_view, lt)) in
    let same_low = entered_low keys s view stable handed in
    record {
      behind = omega (arith, low, same_low);
      taken = λ m i. subst (λ (n : ℕ). ((header m).number ≤ n) ⊎ IsIn m (entered keys s view stable handed).now.log) (sym same_low)
          (all_in keys (opened u view min_s handed) ms (omega arith) is_handed high free differ m i);
    }
