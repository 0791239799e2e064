-- What is chosen from VIEW-CHANGEs that are proved and genuine makes a valid NEW-VIEW.
use Rattle.std.proofs.Common.{◌≡◌, ℕ, zero, suc, ◌+◌, ◌*◌, ◌<◌, ◌≤◌, ◌==◌, Bool, false, ◌||◌, List, [], ◌∷◌, inl, inr, refl, sym, ap, subst, ◌∙◌, arith}
use Rattle.std.specs.Prelude.{map}
use Rattle.std.specs.List.{list_any, range_with_len}
use Rattle.std.proofs.lemmas.Bool.{cases_Bool, eqb-true}
use mathlib.Core.Path.{fun_ext}
use Rattle.sha2.specs.Sha256.{sha256}
use Rattle.bfs_votes.specs.Votes.{Header, SlotsDiffer, is_slot, Told, count_below, replicas, primary}
use Rattle.bfs_log.specs.Headers.{header}
use Rattle.bfs_log.specs.Logs.{Log, headers}
use Rattle.bfs_messages.specs.Messages as model
use Rattle.bfs_messages.specs.Batches.{batch_text}
use Rattle.bfs_messages.specs.declared.signed.Signed.{Signed}
use Rattle.bfs_order.specs.Replica.Views.{as_proposals, greatest_number}
use Rattle.bfs_agreement.specs.Histories as told
use Rattle.bfs_agreement.specs.Histories.{IsIn, World, WasSent, IsChoice, IsValidCertificate}
use Rattle.bfs_agreement.proofs.Public.{in_told}
use Rattle.bfs_nodes_agree.specs.Orders.Replicas.{new_view}
use Rattle.bfs_log.specs.Certificates.{messages_in, number_in, view_in}
use Rattle.bfs_view_change.specs.Changes.Choice.{Chosen, choice, latest_stable}
use Rattle.bfs_view_change.specs.Changes.NewViews.{is_any_from}
use Rattle.bfs_view_change.specs.Changes.ViewChanges.{messages_of}
use Rattle.bfs_view_change.specs.Laws.Choices.{StableIsPassed, NumbersAreChosenOnce, PreparedIsChosen}
use Rattle.bfs_nodes_agree.specs.Views.Changes.{told_certificate, told_change, proposal_of, HasProofs, IsGenuine}
use Rattle.bfs_nodes_agree.specs.Views.Laws.{RightNewViewsAreValid}
use Rattle.bfs_nodes_agree.proofs.Orders.Telling.{finds_none, slot_is}
use Rattle.bfs_nodes_agree.proofs.Views.Lists.{as_it_is, is_in, contains, in_map, out_of_map, in_range, told_in, passes_at}

-- Numbers -----------------------------------------------------------------------------------------------------------------

module _ (xs : List Chosen) (x : Chosen) (a m : ℕ) (e : map (λ (c : Chosen). c.number) (x ∷ xs) ≡ range_with_len a (suc m)) where
  head : x.number ≡ a
  head = cc

  rest : map (λ (c : Chosen). c.number) xs ≡ range_with_len (a + 1) m
  rest = cc

  later : (y : Chosen) → IsIn y xs → a < y.number
  later y i = let le = in_range (a + 1) m y.number (subst (λ (l : List ℕ). IsIn y.number l) rest (in_map (λ (c : Chosen). c.number) xs y i)) in omega (arith, le)

one_for : (xs : List Chosen) (a m : ℕ) → map (λ (c : Chosen). c.number) xs ≡ range_with_len a m → (c b : Chosen) → IsIn c xs → IsIn b xs → c.number ≡ b.number → c ≡ b
one_for [] a m e c b i j same = absurd i
one_for (x ∷ xs) a zero e c b i j same = absurd cc
one_for (x ∷ xs) a (suc m) e c b i j same =
    let first = head xs x a m e in
    elim i [
      | inl p ↦ elim j [
        | inl q ↦ p ∙ sym q
        | inr q ↦ let lt = later xs x a m e b q in let at : c.number ≡ x.number = ap (λ (y : Chosen). y.number) p in absurd (omega (arith, lt, at, first, same))
      ]
      | inr p ↦ elim j [
        | inl q ↦ let lt = later xs x a m e c p in let at : b.number ≡ x.number = ap (λ (y : Chosen). y.number) q in absurd (omega (arith, lt, at, first, same))
        | inr q ↦ one_for xs (a + 1) m (rest xs x a m e) c b p q same
      ]
    ]

other_number : (t k v n : ℕ) (h : Header) → (h.number ≡ n → ⊥) → is_slot t k v n h ≡ false
other_number t k v n h differ = elim (cases_Bool (is_slot t k v n h)) [
  | inl e ↦ absurd (differ (slot_is t k v n h e).number)
  | inr e ↦ e
]

pub slots_differ : (f view : ℕ) (xs : List Chosen) (a m : ℕ) → map (λ (c : Chosen). c.number) xs ≡ range_with_len a m → SlotsDiffer (map (proposal_of f view) xs)
slots_differ f view [] a m e = tt
slots_differ f view (x ∷ xs) a zero e = absurd cc
slots_differ f view (x ∷ xs) a (suc m) e = (
  finds_none (is_slot 2 (primary f view) view x.number) (map (proposal_of f view) xs) (λ h i.
      let got = out_of_map (proposal_of f view) xs h i in
      let lt = later xs x a m e got.0 got.1 in
      let first = head xs x a m e in
      let at : h.number ≡ got.0.number = ap (λ (y : Header). y.number) got.2 in
      other_number 2 (primary f view) view x.number h (λ same. absurd (omega (arith, lt, first, at, same)))),
  slots_differ f view xs (a + 1) m (rest xs x a m e),
)

below_greatest : (proposals : Log) (h : Header) → IsIn h (headers proposals) → h.number ≤ greatest_number proposals
below_greatest [] h i = absurd i
below_greatest (m ∷ ms) h i = elim i [
  | inl e ↦ let same : h.number ≡ (header m).number = ap (λ (x : Header). x.number) e in omega (arith, same)
  | inr j ↦ let le = below_greatest ms h j in omega (arith, le)
]

-- The choice --------------------------------------------------------------------------------------------------------------

module _ (passed_stable : StableIsPassed) (numbers : NumbersAreChosenOnce) (prepared : PreparedIsChosen) (f view : ℕ) (chs : List model.ViewChange) (handed : List (Signed model.PrePrepare))
    (proposals : headers (as_proposals handed) ≡ map (proposal_of f view) (choice chs).chosen)
    (whole : (change : model.ViewChange) (c : model.PreparedBatch) → IsIn change chs → IsIn c change.certificates → c.proposal.message.vote.digest ≡ sha256 (batch_text c.proposal.message.batch)) where
  abbrev hs : List Header
  hs = headers (as_proposals handed)

  chosen_at : (h : Header) → IsIn h hs → (c : Chosen) × IsIn c (choice chs).chosen × (h ≡ proposal_of f view c)
  chosen_at h i = out_of_map (proposal_of f view) (choice chs).chosen h (subst (λ (l : List Header). IsIn h l) proposals i)

  above : (c : Chosen) → IsIn c (choice chs).chosen → latest_stable chs < c.number
  above c i =
      let le = in_range (latest_stable chs + 1) _ c.number (subst (λ (l : List ℕ). IsIn c.number l) (numbers chs) (in_map (λ (x : Chosen). x.number) (choice chs).chosen c i)) in
      omega (arith, le)

  is_choice : IsChoice f (new_view view (choice chs).min_s handed (map told_change chs))
  is_choice = record {
    kinds = λ t k v n d x.
        let got = told_in hs t k v n d x in
        let c = chosen_at got.0 got.1 in
        let is = got.2 in
        (sym is.tag ∙ ap (λ (h : Header). h.tag) c.2, sym is.sender ∙ ap (λ (h : Header). h.sender) c.2, sym is.view ∙ ap (λ (h : Header). h.view) c.2);
    within = λ k v n d x.
        let got = told_in hs 2 k v n d x in
        let c = chosen_at got.0 got.1 in
        let lt = above c.0 c.1 in
        let same : got.0.number ≡ n = got.2.number in
        let at : got.0.number ≡ c.0.number = ap (λ (h : Header). h.number) c.2 in
        let le = below_greatest (as_proposals handed) got.0 got.1 in
        (omega (arith, lt, same, at), omega (arith, le, same));
    once = λ k v n d e x y.
        let one = told_in hs 2 k v n d x in
        let two = told_in hs 2 k v n e y in
        let c = chosen_at one.0 one.1 in
        let b = chosen_at two.0 two.1 in
        let n_c : c.0.number ≡ n = sym (ap (λ (h : Header). h.number) c.2) ∙ one.2.number in
        let n_b : b.0.number ≡ n = sym (ap (λ (h : Header). h.number) b.2) ∙ two.2.number in
        let same = one_for (choice chs).chosen _ _ (numbers chs) c.0 b.0 c.1 b.1 (n_c ∙ sym n_b) in
        sym one.2.digest ∙ ap (λ (h : Header). h.digest) c.2 ∙ ap (λ (z : Chosen). sha256 (batch_text z.batch)) same ∙ sym (ap (λ (h : Header). h.digest) b.2) ∙ two.2.digest;
    stable = λ m i.
        let got = out_of_map told_change chs m i in
        let le = passed_stable chs got.0 (contains chs got.0 got.1) in
        let same : m.stable ≡ got.0.stable = ap (λ (x : told.ViewChange). x.stable) got.2 in
        omega (arith, le, same);
    highest = λ m c i k lt.
        let change = out_of_map told_change chs m i in
        let cert = out_of_map told_certificate change.0.certificates c (subst (λ (x : told.ViewChange). IsIn c x.certificates) change.2 k) in
        let number : c.proposal.number ≡ number_in cert.0 = ap (λ (x : told.Certificate). x.proposal.number) cert.2 in
        let of_view : c.proposal.view ≡ view_in cert.0 = ap (λ (x : told.Certificate). x.proposal.view) cert.2 in
        let over : latest_stable chs < number_in cert.0 = subst (λ (x : ℕ). latest_stable chs < x) number lt in
        let r = prepared chs change.0 cert.0 (contains chs change.0 change.1) (contains change.0.certificates cert.0 cert.1) over in
        let by = is_in chs r.by r.among in
        let held = is_in r.by.certificates r.certificate r.held in
        let best : Chosen = record { number = number_in cert.0; batch = r.certificate.proposal.message.batch } in
        let there = in_map (proposal_of f view) (choice chs).chosen best (is_in (choice chs).chosen best r.chosen) in
        let tells = in_told hs (proposal_of f view best) (subst (λ (l : List Header). IsIn (proposal_of f view best) l) (sym proposals) there) in
        let at_number : Told hs 2 (primary f view) view c.proposal.number (sha256 (batch_text best.batch)) =
        subst (λ (n : ℕ). Told hs 2 (primary f view) view n (sha256 (batch_text best.batch))) (sym number) tells in
        let le = r.view in (
          told_change r.by,
          told_certificate r.certificate,
          in_map told_change chs r.by by,
          in_map told_certificate r.by.certificates r.certificate held,
          r.number ∙ sym number,
          omega (arith, of_view, le),
          subst (λ (d : List ℕ). Told hs 2 (primary f view) view c.proposal.number d) (sym (whole r.by r.certificate by held)) at_number,
        );
  }

-- The NEW-VIEW ------------------------------------------------------------------------------------------------------------

same_senders : (changes : List (Signed model.ViewChange)) (k : ℕ) → is_any_from changes k ≡ list_any (λ (m : told.ViewChange). m.sender == k) (map told_change (messages_of changes))
same_senders [] k = refl
same_senders (s ∷ changes) k = ap (λ (b : Bool). (s.message.sender == k) || b) (same_senders changes k)

valid_certificate : (faulty : ℕ → Bool) (w : World) (f view : ℕ) (change : model.ViewChange) (c : model.PreparedBatch) → HasProofs f view change → IsGenuine faulty w change
    → IsIn c change.certificates → IsValidCertificate f faulty w view (told_certificate c)
valid_certificate faulty w f view change c proofs genuine i = record {
  earlier = proofs.earlier c i;
  backed = proofs.proved c i;
  authentic = λ t k v n d x.
      let got = told_in (headers (messages_in c)) t k v n d x in
      let from = out_of_map header (messages_in c) got.0 got.1 in
      let sent = genuine.certificates c from.0 i from.1 in
      as_it_is (λ t k v n d. WasSent faulty w t k v n d) got.0 t k v n d got.2 (subst (λ (h : Header). WasSent faulty w h.tag h.sender h.view h.number h.digest) (sym from.2) sent);
}

pub right_valid : StableIsPassed → NumbersAreChosenOnce → PreparedIsChosen → RightNewViewsAreValid
right_valid stable numbers prepared faulty w s view changes handed right =
    let chs = messages_of changes in
    let whole = λ (change : model.ViewChange) (c : model.PreparedBatch) (i : IsIn change chs) (j : IsIn c change.certificates). (right.genuine change i).whole c j in
    let differ : SlotsDiffer (headers (as_proposals handed)) = subst (λ (l : List Header). SlotsDiffer l) (sym right.proposals) (slots_differ s.f view (choice chs).chosen _ _ (numbers chs)) in (
      differ,
      record {
        senders = subst (λ (p : ℕ → Bool). 2 * s.f + 1 ≤ count_below p (replicas s.f)) (fun_ext (same_senders changes)) right.enough;
        views = λ m i.
            let change = out_of_map told_change chs m i in
            let signed = out_of_map (λ (x : Signed model.ViewChange). x.message) changes change.0 change.1 in
            let same = passes_at (λ (x : Signed model.ViewChange). x.message.view == view) changes signed.0 right.of_view signed.1 in
            ap (λ (x : told.ViewChange). x.view) change.2 ∙ ap (λ (x : model.ViewChange). x.view) signed.2 ∙ eqb-true signed.0.message.view view same;
        sent = λ m i.
            let change = out_of_map told_change chs m i in
            subst (λ (x : told.ViewChange). faulty x.sender ≡ false → IsIn x (w x.sender).changes) (sym change.2) (right.genuine change.0 change.1).sent;
        valid = λ m c i k.
            let change = out_of_map told_change chs m i in
            let cert = out_of_map told_certificate change.0.certificates c (subst (λ (x : told.ViewChange). IsIn c x.certificates) change.2 k) in
            subst (λ (x : told.Certificate). IsValidCertificate s.f faulty w view x) (sym cert.2)
            (valid_certificate faulty w s.f view change.0 cert.0 (right.proved change.0 change.1) (right.genuine change.0 change.1) cert.1);
        choice = is_choice stable numbers prepared s.f view chs handed right.proposals whole;
      },
    )
