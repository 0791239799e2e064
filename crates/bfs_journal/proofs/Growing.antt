-- What a crash leaves while a record is added.
use Rattle.std.proofs.Common.{◌≡◌, ⊎_elim, inl, inr, ℕ, List, [], ◌∷◌, ◌++◌, length, take, Option, refl, sym, ◌∙◌, ap, subst, append-nil, arith}
use Rattle.std.proofs.lemmas.Bool.{cases_lt}
use Rattle.std.proofs.lemmas.List.{take_all}
use Rattle.std.proofs.lemmas.List.Elements.{All-append, All-cons, All-nil}
use Rattle.std.proofs.lemmas.Grind.{flat_map-append}
use Rattle.std.specs.Prelude.{All, true}
use Rattle.bfs_journal.specs.Disk.{Elapses, Follows, Grown, IsBeforeOrAfter, IsSettled, LeavesOnly, ReadsAs}
use Rattle.bfs_journal.specs.Records.{IsBody, journal_of, record_of}
use Rattle.bfs_journal.specs.Rests.{is_front_of_record}
use Rattle.bfs_journal.proofs.Fronts.{cut_is_front, front_lacks}

abbrev nothing : List ℕ
nothing = []

nothing_is_front : is_front_of_record nothing ≡ true
nothing_is_front = refl

reads_whole : (bodies : List (List ℕ)) → All IsBody bodies → ReadsAs bodies (journal_of bodies)
reads_whole bodies each = record {
  rest = nothing;
  split = record { whole = sym (append-nil (journal_of bodies)); each = each; no_more = front_lacks nothing nothing_is_front };
  cut = nothing_is_front;
}

with_body : (bodies : List (List ℕ)) (body : List ℕ) → All IsBody bodies → IsBody body → All IsBody (bodies ++ body ∷ [])
with_body bodies body each fits = All-append IsBody bodies (body ∷ []) each (All-cons IsBody body [] fits (All-nil IsBody))

journal_more : (bodies : List (List ℕ)) (body : List ℕ) → journal_of bodies ++ record_of body ≡ journal_of (bodies ++ body ∷ [])
journal_more bodies body =
    ap (λ (l : List ℕ). journal_of bodies ++ l) (sym (append-nil (record_of body)))
    ∙ sym (flat_map-append record_of bodies (body ∷ []))

-- a front of the new record stands behind the others
grown : (bodies : List (List ℕ)) (body c : List ℕ) → All IsBody bodies → IsBody body → Grown (record_of body) (journal_of bodies) c
    → IsBeforeOrAfter bodies body c
grown bodies body c each fits more = elim (cases_lt more.0 (length (record_of body))) [
  | inl short ↦
      let cut : is_front_of_record (take more.0 (record_of body)) ≡ true =
      subst (λ (l : List ℕ). is_front_of_record (take more.0 l) ≡ true) (append-nil (record_of body)) (cut_is_front body [] more.0 fits short) in
      inl (record {
        rest = take more.0 (record_of body);
        split = record { whole = more.1; each = each; no_more = front_lacks (take more.0 (record_of body)) cut };
        cut = cut;
      })
  | inr long ↦ inr (subst (ReadsAs (bodies ++ body ∷ []))
      (sym (more.1 ∙ ap (λ (l : List ℕ). journal_of bodies ++ l) (take_all more.0 (record_of body) long) ∙ journal_more bodies body))
      (reads_whole (bodies ++ body ∷ []) (with_body bodies body each fits)))
]

-- what is written is the record that was made
pub grown_by : (old new : List ℕ → Type 0) (none made given body : List ℕ) → none ≡ [] → made ≡ none ++ record_of body → given ≡ made
    → Follows (Grown given) old new → Follows (Grown (record_of body)) old new
grown_by old new none made given body empty is same follows =
    let record_is : given ≡ record_of body = same ∙ is ∙ ap (λ (l : List ℕ). l ++ record_of body) empty in
    subst (λ (l : List ℕ). Follows (Grown l) old new) record_is follows

-- The calls of a disk ------------------------------------------------------------------------------------------------------

module _ {D : Type 0} (seen : D → Option (List ℕ)) (may_leave : D → List ℕ → Type 0) (moment : D → ℕ) (left_since : D → ℕ → List ℕ → Type 0) where
  -- one call more, after which a crash leaves what has P
  goes_on : (old mid new : D) (P : List ℕ → Type 0) → LeavesOnly moment left_since old mid P
      → Elapses (moment mid) (moment new) (left_since mid) (left_since new) (may_leave new)
      → ((c : List ℕ) → may_leave new c → P c) → LeavesOnly moment left_since old new P
  goes_on old mid new P so_far time here = record {
    later = omega (arith, so_far.later, time.later);
    each = λ c left. ⊎_elim (so_far.each c) (here c) (time.nothing_else (moment old) c so_far.later left);
    before = λ t c le left. ⊎_elim (so_far.before t c le) (λ now. inr (here c now)) (time.nothing_else t c (omega (arith, le, so_far.later)) left);
  }

  -- before the first call
  pub unwritten : (old : D) (bodies : List (List ℕ)) (body : List ℕ) → ((c : List ℕ) → left_since old (moment old) c → may_leave old c)
      → IsSettled seen may_leave old bodies → LeavesOnly moment left_since old old (IsBeforeOrAfter bodies body)
  unwritten old bodies body only_now settled = record {
    later = omega arith;
    each = λ c left. inl (subst (ReadsAs bodies) (sym (settled.durable c (only_now c left))) (reads_whole bodies settled.each));
    before = λ t c le left. inl left;
  }

  -- what a crash may leave once the record is written
  written_crash : (old new : D) (bodies : List (List ℕ)) (body : List ℕ) → IsSettled seen may_leave old bodies → IsBody body
      → Follows (Grown (record_of body)) (may_leave old) (may_leave new) → (c : List ℕ) → may_leave new c → IsBeforeOrAfter bodies body c
  written_crash old new bodies body settled fits follows c left =
      let from = follows c left in
      grown bodies body c settled.each fits (subst (λ (d : List ℕ). Grown (record_of body) d c) (settled.durable from.0 from.1) from.2)

  -- behind the write
  pub written : (old new : D) (bodies : List (List ℕ)) (body : List ℕ) → ((c : List ℕ) → left_since old (moment old) c → may_leave old c)
      → IsSettled seen may_leave old bodies → IsBody body → Follows (Grown (record_of body)) (may_leave old) (may_leave new)
      → Elapses (moment old) (moment new) (left_since old) (left_since new) (may_leave new)
      → LeavesOnly moment left_since old new (IsBeforeOrAfter bodies body)
  written old new bodies body only_now settled fits follows time =
      goes_on old old new (IsBeforeOrAfter bodies body) (unwritten old bodies body only_now settled) time (written_crash old new bodies body settled fits follows)

  -- and behind the sync
  pub synced : (old mid new : D) (bodies : List (List ℕ)) (body : List ℕ) → ((c : List ℕ) → left_since old (moment old) c → may_leave old c)
      → IsSettled seen may_leave old bodies → IsBody body → Follows (Grown (record_of body)) (may_leave old) (may_leave mid)
      → Elapses (moment old) (moment mid) (left_since old) (left_since mid) (may_leave mid)
      → ((c : List ℕ) → may_leave new c → may_leave mid c)
      → Elapses (moment mid) (moment new) (left_since mid) (left_since new) (may_leave new)
      → LeavesOnly moment left_since old new (IsBeforeOrAfter bodies body)
  synced old mid new bodies body only_now settled fits follows time no_more then_time =
      goes_on old mid new (IsBeforeOrAfter bodies body) (written old mid bodies body only_now settled fits follows time) then_time
      (λ c now. written_crash old mid bodies body settled fits follows c (no_more c now))
