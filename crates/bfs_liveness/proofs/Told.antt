-- What CHECKPOINTs of one number leave of an order: they stand in its log, or the number is stable.
use Rattle.std.proofs.Common.{◌≡◌, ℕ, ◌+◌, ◌%◌, ◌<◌, ◌≤◌, ◌==◌, Bool, true, false, cond, ◌&&◌, ◌||◌, not, List, [], ◌∷◌, ◌++◌, ◌⊎◌, Option, Some, None, inl, inr, refl, sym, ap, ap₂, subst, ◌∙◌, append-nil, arith}
use Rattle.std.specs.Prelude.{bytes_eq, filter, nat_le, nat_lt}
use Rattle.std.proofs.lemmas.Bool.{and_from, cases_Bool, cases_lt, eq-eqb, le-leb, lt-ltb, or_left, or_right}
use Rattle.std.proofs.lemmas.Slice.Eq.{bytes_eq-Decides}
use Rattle.bfs_auth.specs.Keys.{Keys}
use Rattle.bfs_log.specs.Headers.{header}
use Rattle.bfs_log.specs.Logs.{Log, headers, kept_after, stays}
use Rattle.bfs_messages.specs.declared.order_messages.OrderMessage.{OrderMessage}
use Rattle.bfs_messages.specs.declared.signed.Signed.{Signed}
use Rattle.bfs_model.specs.Server.Limits.{checkpoint_interval, log_size, most_number}
use Rattle.bfs_order.specs.Replica.Accepting.{accepted, makes_stable, on_message, settled}
use Rattle.bfs_order.specs.Replica.Checkpoints.{checkpoint, checkpoint_refusal, checkpointed}
use Rattle.bfs_order.specs.Replica.Outcomes as order
use Rattle.bfs_order.specs.Replica.Refusals.{conflicts, is_authentic, is_between, is_inside, is_of_view, is_there, place_refusal, refusal}
use Rattle.bfs_order.specs.Replica.States.{State, known, with_message, with_more}
use Rattle.bfs_order.specs.declared.error.OrderError.{OrderError}
use Rattle.bfs_order.specs.declared.error.OrderError.TheVariants.{AlreadyHave, BadAuthenticator, Conflicting, NotPrimary, OutsideMarks, WrongView}
use Rattle.bfs_votes.specs.Votes.{Header, has_slot, is_slot, primary, told}
use Rattle.bfs_agreement.specs.Histories.{IsIn}
use Rattle.bfs_agreement.proofs.Public.{Is, in_told, moved}
use Rattle.bfs_progress.proofs.Public.{told_slot}
use Rattle.bfs_nodes_agree.proofs.Public.{any_both, either_in, either_way, filter_in, in_map, no_answers, right_in}

-- More CHECKPOINTs ----------------------------------------------------------------------------------------------------

-- an order has taken some of that number: its low mark stays, or rises to it
pub record HasTaken (number : ℕ) (s now : State) : Type 0 where
  pub f : now.f ≡ s.f
  pub me : now.me ≡ s.me
  pub view : now.view ≡ s.view
  pub asked : now.asked ≡ s.asked
  pub min_s : now.min_s ≡ s.min_s
  pub handed : now.handed ≡ s.handed
  pub last : now.last ≡ s.last
  pub low : (now.low ≡ s.low) ⊎ (now.low ≡ number)
  pub log : (m : Signed OrderMessage) → IsIn m now.log → IsIn m s.log ⊎ ((header m).tag ≡ 5)
  pub keeps : (k : ℕ) → has_slot (known s) 5 k 0 number ≡ true → (number ≤ now.low) ⊎ (has_slot (known now) 5 k 0 number ≡ true)

pub nothing_taken : (number : ℕ) (s : State) → HasTaken number s s
nothing_taken number s = record { f = refl; me = refl; view = refl; asked = refl; min_s = refl; handed = refl; last = refl; low = inl refl; log = λ m i. inl i; keeps = λ k slot. inr slot }

pub both_taken : (number : ℕ) (s t u : State) → HasTaken number s t → HasTaken number t u → HasTaken number s u
both_taken number s t u one other = record {
  f = other.f ∙ one.f;
  me = other.me ∙ one.me;
  view = other.view ∙ one.view;
  asked = other.asked ∙ one.asked;
  min_s = other.min_s ∙ one.min_s;
  handed = other.handed ∙ one.handed;
  last = other.last ∙ one.last;
  low = elim other.low [ inl same ↦ elim one.low [ inl before ↦ inl (same ∙ before) | inr risen ↦ inr (same ∙ risen) ] | inr risen ↦ inr risen ];
  log = λ m i. elim (other.log m i) [ inl j ↦ one.log m j | inr five ↦ inr five ];
  keeps = λ k slot. elim (one.keeps k slot) [
    | inl low ↦ inl (elim other.low [ inl same ↦ omega (arith, same, low) | inr risen ↦ omega (arith, risen) ])
    | inr there ↦ other.keeps k there
  ];
}

-- One more ------------------------------------------------------------------------------------------------------------

-- it stands there, or the number is stable
abbrev pub IsToldBy : (number : ℕ) → State → (sender : ℕ) → Type 0
IsToldBy number s k = (number ≤ s.low) ⊎ (has_slot (known s) 5 k 0 number ≡ true)

slot_there : (log : Log) (m : Signed OrderMessage) (k n : ℕ) (d : List ℕ) → IsIn m log → Is (header m) 5 k 0 n d → has_slot (headers log) 5 k 0 n ≡ true
slot_there log m k n d i is =
    told_slot (headers log) 5 k 0 n d (moved (header m) 5 k 0 n d is (λ t k v n d. told (headers log) t k v n d ≡ true) (in_told (headers log) (header m) (in_map header log m i)))

one_taken : (number : ℕ) (s : State) (more : Log) (m : Signed OrderMessage) (k : ℕ) (d : List ℕ) → Is (header m) 5 k 0 number d → IsIn m (s.log ++ more) → ((x : Signed OrderMessage) → IsIn x more → x ≡ m)
    → HasTaken number s (settled (record s { log = s.log ++ more }) (header m)) × IsToldBy number (settled (record s { log = s.log ++ more }) (header m)) k
one_taken number s more m k d is there only =
    elim (makes_stable (record s { log = s.log ++ more }) h) as
    (λ b. HasTaken number s (record s { low = cond b h.number s.low; log = cond b (kept_after h.number h.digest (s.log ++ more)) (s.log ++ more) })
    × IsToldBy number (record s { low = cond b h.number s.low; log = cond b (kept_after h.number h.digest (s.log ++ more)) (s.log ++ more) }) k) [
      | true ↦ (
        record {
          f = refl;
          me = refl;
          view = refl;
          asked = refl;
          min_s = refl;
          handed = refl;
          last = refl;
          low = inr is.number;
          log = filter_in (λ (x : Signed OrderMessage). IsIn x s.log ⊎ ((header x).tag ≡ 5)) (λ x. stays h.number h.digest (header x)) (s.log ++ more) from;
          keeps = λ k slot. let n = is.number in inl (omega (arith, n));
        },
        let n = is.number in inl (omega (arith, n)),
      )
      | false ↦ (
        record {
          f = refl;
          me = refl;
          view = refl;
          asked = refl;
          min_s = refl;
          handed = refl;
          last = refl;
          low = inl refl;
          log = from;
          keeps = λ k slot. inr (any_both (is_slot 5 k 0 number) s.log more ∙ or_left (has_slot (known s) 5 k 0 number) (has_slot (headers more) 5 k 0 number) slot);
        },
        inr (slot_there (s.log ++ more) m k number d there is),
      )
    ]
  where
    h : Header
    h = header m

    from : (x : Signed OrderMessage) → IsIn x (s.log ++ more) → IsIn x s.log ⊎ ((header x).tag ≡ 5)
    from x i = elim (either_in s.log more x i) [ inl j ↦ inl j | inr j ↦ inr (ap (λ (y : Signed OrderMessage). (header y).tag) (only x j) ∙ is.tag) ]

chain : (a b c d e : Bool) (v w x y z : OrderError) → a ≡ true → b ≡ true → c ≡ false → d ≡ false → e ≡ false
    → cond (not a) (Some v) (cond (not b) (Some w) (cond c (Some x) (cond d (Some y) (cond e (Some z) None)))) ≡ None
chain true true false false false v w x y z p q r s t = refl
chain a b c d e v w x y z p q r s t = absurd cc

-- where its place is free and has room it is taken
not_refused : (s : State) (h : Header) → h.tag ≡ 5 → s.low < h.number → h.number ≤ s.low + log_size → (h.number % checkpoint_interval) ≡ 0 → is_there s h ≡ false → place_refusal s h ≡ None
not_refused s h five above under multiple free =
    let tag : (h.tag == 5) ≡ true = eq-eqb h.tag 5 five in
    let two : (h.tag == 2) ≡ false = ap (λ (t : ℕ). t == 2) five in
    let three : (h.tag == 3) ≡ false = ap (λ (t : ℕ). t == 3) five in
    let view : is_of_view s h ≡ true = or_left (h.tag == 5) ((h.view == s.view) && nat_le s.asked s.view) tag in
    let marks : is_between s h.number ≡ true = and_from (nat_lt s.low h.number) (nat_le h.number (s.low + log_size)) (lt-ltb s.low h.number above) (le-leb h.number (s.low + log_size) under) in
    let inside : is_inside s h ≡ true = and_from (is_between s h.number) (cond (h.tag == 5) ((h.number % checkpoint_interval) == 0) (nat_lt s.min_s h.number)) marks
    (ap (λ (b : Bool). cond b ((h.number % checkpoint_interval) == 0) (nat_lt s.min_s h.number)) tag ∙ eq-eqb (h.number % checkpoint_interval) 0 multiple) in
    let leads : ((h.tag == 2) && not (h.sender == primary s.f h.view)) ≡ false = ap (λ (b : Bool). b && not (h.sender == primary s.f h.view)) two in
    let no_conflict : conflicts s h ≡ false = ap₂ (λ (a b : Bool). (a && (h.sender == primary s.f h.view)) || (b && not (told (known s) h.tag h.sender h.view h.number h.digest))) three free in
    chain (is_of_view s h) (is_inside s h) ((h.tag == 2) && not (h.sender == primary s.f h.view)) (conflicts s h) (is_there s h) WrongView OutsideMarks NotPrimary Conflicting AlreadyHave view inside leads no_conflict free

-- a CHECKPOINT that passes comes
pub takes_it : (keys : Keys) (s : State) (m : Signed OrderMessage) (number k : ℕ) (d : List ℕ) → is_authentic keys s m ≡ true → Is (header m) 5 k 0 number d → (number % checkpoint_interval) ≡ 0 → number ≤ s.low + log_size
    → HasTaken number s (on_message keys s m).now × IsToldBy number (on_message keys s m).now k
takes_it keys s m number k d passes is multiple under = elim (cases_lt s.low number) [
  | inr low ↦ (
    either_way (λ o. HasTaken number s o.now) (refusal keys s m) s (accepted keys s m) (λ _. taken.0) (nothing_taken number s),
    either_way (λ o. IsToldBy number o.now k) (refusal keys s m) s (accepted keys s m) (λ _. taken.1) (inl low),
  )
  | inl above ↦ elim (cases_Bool (is_there s h)) [
    | inl there ↦
        let slot : has_slot (known s) 5 k 0 number ≡ true = subst (λ (x : ℕ). has_slot (known s) x k 0 number ≡ true) is.tag (subst (λ (x : ℕ). has_slot (known s) h.tag x 0 number ≡ true) is.sender
        (subst (λ (x : ℕ). has_slot (known s) h.tag h.sender x number ≡ true) is.view (subst (λ (x : ℕ). has_slot (known s) h.tag h.sender h.view x ≡ true) is.number there))) in (
          either_way (λ o. HasTaken number s o.now) (refusal keys s m) s (accepted keys s m) (λ _. taken.0) (nothing_taken number s),
          either_way (λ o. IsToldBy number o.now k) (refusal keys s m) s (accepted keys s m) (λ _. taken.1) (inr slot),
        )
    | inr free ↦
        let n = is.number in
        let opened : place_refusal s h ≡ None = not_refused s h is.tag (omega (arith, n, above)) (omega (arith, n, under)) (ap (λ (x : ℕ). x % checkpoint_interval) n ∙ multiple) free in
        let none : refusal keys s m ≡ None = ap₂ (λ (a : Bool) (r : Option OrderError). cond (not a) (Some BadAuthenticator) r) passes opened in (
          subst (λ (r : Option OrderError). HasTaken number s (order.unless r s (accepted keys s m)).now) (sym none) taken.0,
          subst (λ (r : Option OrderError). IsToldBy number (order.unless r s (accepted keys s m)).now k) (sym none) taken.1,
        )
  ]
]
  where
    h : Header
    h = header m

    taken : HasTaken number s (accepted keys s m).now × IsToldBy number (accepted keys s m).now k
    taken =
        let got = one_taken number s (m ∷ []) m k d is (right_in s.log (m ∷ []) m (inl refl)) (λ x i. elim i [ inl same ↦ same | inr none ↦ absurd none ]) in
        let e : (accepted keys s m).now ≡ settled (record s { log = s.log ++ m ∷ [] }) h = ap (λ (l : Log). settled (with_more (with_message s m) l) h) (no_answers keys (with_message s m) h is.tag)
        ∙ ap (λ (l : Log). settled (record s { log = l }) h) (append-nil (s.log ++ m ∷ [])) in
        (subst (HasTaken number s) (sym e) got.0, subst (λ (x : State). IsToldBy number x k) (sym e) got.1)

-- Its own -------------------------------------------------------------------------------------------------------------

in_filter : {A : Type 0} (p : A → Bool) (xs : List A) (x : A) → p x ≡ true → IsIn x xs → IsIn x (filter p xs)
in_filter p [] x so i = absurd i
in_filter p (y ∷ ys) x so i = elim i [
  | inl same ↦ subst (λ (b : Bool). IsIn x (cond b (y ∷ filter p ys) (filter p ys))) (sym (ap p (sym same) ∙ so)) (inl same)
  | inr later ↦ let rest = in_filter p ys x so later in elim (p y) as (λ b. IsIn x (cond b (y ∷ filter p ys) (filter p ys))) [ true ↦ inr rest | false ↦ rest ]
]

-- a CHECKPOINT that makes its number stable stays
own_stays : (s : State) (log : Log) (m : Signed OrderMessage) → (header m).tag ≡ 5 → IsIn m log → IsIn m (settled (record s { log = log }) (header m)).log
own_stays s log m five i =
    let h = header m in
    let same : bytes_eq h.digest h.digest ≡ true = (bytes_eq-Decides h.digest h.digest).1 refl in
    let keep : stays h.number h.digest h ≡ true = or_right (nat_lt h.number h.number) ((h.tag == 5) && ((h.number == h.number) && bytes_eq h.digest h.digest))
    (and_from (h.tag == 5) ((h.number == h.number) && bytes_eq h.digest h.digest) (eq-eqb h.tag 5 five) (and_from (h.number == h.number) (bytes_eq h.digest h.digest) (eq-eqb h.number h.number refl) same)) in
    elim (makes_stable (record s { log = log }) h) as (λ b. IsIn m (cond b (kept_after h.number h.digest log) log)) [
      | true ↦ in_filter (λ x. stays h.number h.digest (header x)) log m keep i
      | false ↦ i
    ]

-- where it tells a checkpoint it has its CHECKPOINT in its log, now or before
pub tells_it : (keys : Keys) (s : State) (number : ℕ) (d : List ℕ) → s.low < number → number ≤ s.low + log_size → number ≤ most_number
    → HasTaken number s (order.unless (checkpoint_refusal s number) s (checkpointed keys s number d)).now
    × (has_slot (known (order.unless (checkpoint_refusal s number) s (checkpointed keys s number d)).now) 5 s.me 0 number ≡ true)
tells_it keys s number d above under most =
    let taken = one_taken number s (own ∷ []) own s.me d is_own (right_in s.log (own ∷ []) own (inl refl)) (λ x i. elim i [ inl same ↦ same | inr none ↦ absurd none ]) in
    let new : has_slot (known (checkpointed keys s number d).now) 5 s.me 0 number ≡ true =
    slot_there (checkpointed keys s number d).now.log own s.me number d (own_stays s (s.log ++ own ∷ []) own refl (right_in s.log (own ∷ []) own (inl refl))) is_own in (
      either_way (λ o. HasTaken number s o.now) (checkpoint_refusal s number) s (checkpointed keys s number d) (λ _. taken.0) (nothing_taken number s),
      elim (cases_Bool (has_slot (known s) 5 s.me 0 number)) [
        | inl there ↦ either_way (λ o. has_slot (known o.now) 5 s.me 0 number ≡ true) (checkpoint_refusal s number) s (checkpointed keys s number d) (λ _. new) there
        | inr free ↦
            let marks = and_from (is_between s number) (nat_le number most_number)
            (and_from (nat_lt s.low number) (nat_le number (s.low + log_size)) (lt-ltb s.low number above) (le-leb number (s.low + log_size) under)) (le-leb number most_number most) in
            let none : checkpoint_refusal s number ≡ None = ap₂ (λ (a b : Bool). cond (not a) (Some OutsideMarks) (cond b (Some AlreadyHave) None)) marks free in
            subst (λ (r : Option OrderError). has_slot (known (order.unless r s (checkpointed keys s number d)).now) 5 s.me 0 number ≡ true) (sym none) new
      ],
    )
  where
    own : Signed OrderMessage
    own = checkpoint keys s number d

    is_own : Is (header own) 5 s.me 0 number d
    is_own = record { tag = refl; sender = refl; view = refl; number = refl; digest = refl }
