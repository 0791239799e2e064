-- All that leaves in a life is signed, and has its origin in what came in it.
use Rattle.std.proofs.Common.{◌≡◌, ◌∙◌, ℕ, ◌+◌, ◌<◌, ◌≤◌, ◌^◌, Bool, true, false, cond, List, [], ◌∷◌, ◌++◌, length, map, take, Option, Some, None, zero, suc, inl, inr, refl, sym, ap, subst, arith}
use Rattle.std.specs.Prelude.{All, Contains, nat_le}
use Rattle.std.specs.List.{AllByRecursion, cons_option, filter_map, fold, range_with_len, slice_get}
use Rattle.std.proofs.lemmas.List.Elements.{All-append, All-cons, All-from_recursion, All-head, All-nil, All-tail, Contains-append_left, Contains-append_right, recursion_from_All}
use Rattle.std.proofs.lemmas.List.{length-map}
use Rattle.std.proofs.lemmas.List.FromFn.{length-map-range_with_len}
use Rattle.std.proofs.lemmas.Bool.{leb-true}
use Rattle.std.proofs.lemmas.Option.{slice_get_within}
use Rattle.lms.specs.Signers.{HssKey}
use Rattle.bfs_signatures.specs.Hashes.{leaf_hash}
use Rattle.bfs_signatures.specs.Laws.{SignedTextsVerify}
use Rattle.bfs_signatures.specs.Signing.{signatures_of}
use Rattle.bfs_auth.specs.Signatures.{most_signature_bytes}
use Rattle.bfs_clients.specs.Clients.{Clients}
use Rattle.bfs_codec.specs.Reading.{message_of}
use Rattle.bfs_filter.specs.Runs.{Exchange, TakesAll}
use Rattle.bfs_frames.specs.Parcels.{Told, told_by}
use Rattle.bfs_frames.specs.declared.kind.Kind.{Kind}
use Rattle.bfs_frames.specs.declared.parcels.To.{To}
use Rattle.bfs_frames.specs.declared.parcels.To.TheVariants.{Caller, Client, Operator, Replica, Replicas}
use Rattle.bfs_messages.specs.Spelling.{body_text, signed_text}
use Rattle.bfs_messages.specs.declared.message.Message.{Message}
use Rattle.bfs_messages.specs.declared.signed.Signed.{Signed}
use Rattle.bfs_relay.specs.GivenKeys.{clients_with, counter_for}
use Rattle.bfs_relay.specs.Origins.{Came, HasOrigin, HasOriginTo, IsRequest, WhatIsToldHasItsOrigin, told_in}
use Rattle.bfs_relay.specs.Relays.{Relay}
use Rattle.bfs_relay.specs.Turns.{turned}
use Rattle.bfs_relaying.proofs.Public.{told_of}
use Rattle.bfs_signing.specs.Indexes.{HasIndex, Use, is_low, low_told, next_after, uses_of, warnings}
use Rattle.bfs_signing.specs.Lives.{begun_in, turns_of, uses_from, uses_in}
use Rattle.bfs_signing.specs.Origins.{IsKey, IsSignedBy, IsSignedRequest, Leaves, WhatLeavesIsSigned}
use Rattle.bfs_signing.specs.Requests.{Replaced, most_texts, none_replaced, replaced_also, replaced_with, request_with, signed_texts, signed_told, text_in, texts_told, told_with, with_signature}
use Rattle.bfs_signing.specs.Signing.{Signing, Signs}
use Rattle.bfs_signing.proofs.Fitting.{AreFew, given_few, passes_by_key, request_spelled, signed_spelled}

-- Lists --------------------------------------------------------------------------------------------------------------------

-- the text at a place among the first ones
taken_at : {A : Type 0} (n : ℕ) (xs : List A) (i : ℕ) → i < length (take n xs) → slice_get (take n xs) i ≡ slice_get xs i
taken_at zero xs i within = absurd (omega (arith, within))
taken_at (suc n) [] i within = refl
taken_at (suc n) (x ∷ xs) zero within = refl
taken_at (suc n) (x ∷ xs) (suc i) within = taken_at n xs i (omega (arith, within))

taken_few : {A : Type 0} (n : ℕ) (xs : List A) → length (take n xs) ≤ n
taken_few zero xs = omega arith
taken_few (suc n) [] = omega arith
taken_few (suc n) (x ∷ xs) = omega (arith, taken_few n xs)

-- a place that has nothing is behind the last one
past : {A : Type 0} (xs : List A) (i : ℕ) → slice_get xs i ≡ None → length xs ≤ i
past [] i is = omega arith
past (x ∷ xs) zero is = absurd cc
past (x ∷ xs) (suc i) is = omega (arith, past xs i is)

signature_count : (key : HssKey) (index : ℕ) (texts : List (List ℕ)) → length (signatures_of key index texts) ≡ length texts
signature_count key index texts = length-map-range_with_len _ 0 (length (map leaf_hash texts)) ∙ length-map texts leaf_hash

module _ {X : Type 0} (P : X → Type 0) where
  split_all : (xs ys : List X) → AllByRecursion P (xs ++ ys) → AllByRecursion P xs × AllByRecursion P ys
  split_all [] ys all = (tt, all)
  split_all (x ∷ xs) ys all = let rest = split_all xs ys all.1 in ((all.0, rest.0), rest.1)

-- What is told in a turn -----------------------------------------------------------------------------------------------------

-- so far all that is told leaves rightly, and the next signature is that of the next text
record Holds (Right : Told → Type 0) (texts : List (List ℕ)) (rest : List (List ℕ)) (so_far : Replaced) : Type 0 where
  told : All Right so_far.told
  aligned : (i : ℕ) → so_far.used + i < length texts → slice_get texts (so_far.used + i) ≡ slice_get rest i

module _ (clients : Clients) (came : Came) (few : AreFew clients) (key : HssKey) (uses : List Use) where
  abbrev Right : Told → Type 0
  Right told = Leaves clients came key uses told

  module _ (texts signatures : List (List ℕ)) (as_many : length signatures ≡ length texts)
      (signed_by : (place : ℕ) (text signature : List ℕ) → slice_get texts place ≡ Some text → slice_get signatures place ≡ Some signature
      → IsSignedBy key uses text signature) where
    asked_with : (told : Told) (rest : List (List ℕ)) (so_far : Replaced) (origin : IsRequest clients came told.payload)
        → ((text : List ℕ) → IsSignedRequest clients came key uses text → Right (record told { payload = text }))
        → (signed : Signed Message) → signed ≡ origin.asked.signed
        → Holds Right texts (body_text signed.message ∷ rest) so_far
        → (signature : Option (List ℕ)) → slice_get signatures so_far.used ≡ signature
        → Holds Right texts rest (replaced_with (Some signed) signature told so_far)
    asked_with told rest so_far origin right signed same holds None none = record {
      told = holds.told;
      aligned = λ i within. absurd (omega (arith, within, past signatures so_far.used none, as_many));
    }
    asked_with told rest so_far origin right signed same holds (Some signature) some =
        let within : so_far.used < length texts = omega (arith, slice_get_within signatures so_far.used signature some, as_many) in
        let here : so_far.used + 0 ≡ so_far.used = omega arith in
        let text_there : slice_get texts so_far.used ≡ Some (body_text signed.message) =
        subst (λ (place : ℕ). slice_get texts place ≡ Some (body_text signed.message)) here (holds.aligned 0 (omega (arith, within))) in
        let is_signed : IsSignedBy key uses (body_text signed.message) signature = signed_by so_far.used (body_text signed.message) signature text_there some in
        let of_origin : IsSignedBy key uses (body_text origin.asked.signed.message) signature =
        subst (λ (one : Signed Message). IsSignedBy key uses (body_text one.message) signature) same is_signed in
        let next : (i : ℕ) → (so_far.used + 1) + i < length texts → slice_get texts ((so_far.used + 1) + i) ≡ slice_get rest i =
        λ i less.
        let there : so_far.used + suc i ≡ (so_far.used + 1) + i = omega arith in
        subst (λ (place : ℕ). slice_get texts place ≡ slice_get rest i) there (holds.aligned (suc i) (omega (arith, less))) in
        record {
          told = All-append Right so_far.told (request_with signed signature told) holds.told
              (subst (λ (one : Signed Message). All Right (request_with one signature told)) (sym same) (go (nat_le (length signature) most_signature_bytes) refl of_origin));
          aligned = next;
        }
      where
        go : (short : Bool) → nat_le (length signature) most_signature_bytes ≡ short → IsSignedBy key uses (body_text origin.asked.signed.message) signature
            → All Right (cond short (record told { payload = signed_text (with_signature origin.asked.signed signature) } ∷ []) [])
        go true short is =
            let payload = signed_text (with_signature origin.asked.signed signature) in
            let request : IsSignedRequest clients came key uses payload = record {
              text = told.payload;
              origin = origin;
              signature = signature;
              is_signed = is;
              is_text = refl;
              is_read = signed_spelled clients came told.payload signature few origin (leb-true (length signature) most_signature_bytes short);
              passes = passes_by_key key origin.asked.signed signature is.passes;
            } in
            All-cons Right (record told { payload = payload }) [] (right payload request) (All-nil Right)
        go false short is = All-nil Right

    asked : (told : Told) (rest : List (List ℕ)) (so_far : Replaced) (origin : IsRequest clients came told.payload)
        → ((text : List ℕ) → IsSignedRequest clients came key uses text → Right (record told { payload = text }))
        → (read : Option (Signed Message)) → message_of told.payload ≡ read
        → Holds Right texts (cons_option (text_in read) rest) so_far
        → Holds Right texts rest (replaced_with read (slice_get signatures so_far.used) told so_far)
    asked told rest so_far origin right None is holds = record { told = holds.told; aligned = holds.aligned }
    asked told rest so_far origin right (Some signed) is holds =
        let spelled = request_spelled clients came told.payload few origin in
        let same : signed ≡ origin.asked.signed = let both : Some signed ≡ Some origin.asked.signed = sym is ∙ spelled in cc in
        asked_with told rest so_far origin right signed same holds (slice_get signatures so_far.used) refl

    kept : (told : Told) (rest : List (List ℕ)) (so_far : Replaced) → Right told → Holds Right texts rest so_far
        → Holds Right texts rest (record so_far { told = so_far.told ++ told ∷ [] })
    kept told rest so_far right holds = record {
      told = All-append Right so_far.told (told ∷ []) holds.told (All-cons Right told [] right (All-nil Right));
      aligned = holds.aligned;
    }

    also : (to : To) (kind : Kind) (payload : List ℕ) (more : List Told) (so_far : Replaced) → HasOriginTo clients came to payload
        → Holds Right texts (texts_told (record { to = to; kind = kind; payload = payload } ∷ more)) so_far
        → Holds Right texts (texts_told more) (replaced_also signatures so_far (record { to = to; kind = kind; payload = payload }))
    also Replicas kind payload more so_far origin holds =
        asked (record { to = Replicas; kind = kind; payload = payload }) (texts_told more) so_far origin (λ text is. is) (message_of payload) refl holds
    also (Replica number) kind payload more so_far origin holds =
        asked (record { to = Replica number; kind = kind; payload = payload }) (texts_told more) so_far origin (λ text is. is) (message_of payload) refl holds
    also (Client number) kind payload more so_far origin holds = kept (record { to = Client number; kind = kind; payload = payload }) (texts_told more) so_far tt holds
    also Operator kind payload more so_far origin holds = kept (record { to = Operator; kind = kind; payload = payload }) (texts_told more) so_far tt holds
    also (Caller ticket) kind payload more so_far origin holds =
        kept (record { to = Caller ticket; kind = kind; payload = payload }) (texts_told more) so_far origin holds

    all_told : (told : List Told) (so_far : Replaced) → AllByRecursion (HasOrigin clients came) told → Holds Right texts (texts_told told) so_far
        → All Right (fold (replaced_also signatures) so_far told).told
    all_told [] so_far origins holds = holds.told
    all_told (one ∷ told) so_far origins holds =
        all_told told (replaced_also signatures so_far one) origins.1 (also one.to one.kind one.payload told so_far origins.0 holds)

  -- A turn ------------------------------------------------------------------------------------------------------------------

  signed_at : SignedTextsVerify → IsKey key → (index : ℕ) (texts : List (List ℕ)) → HasIndex key index texts → length texts ≤ most_texts
      → ((by : Use) → Contains (uses_of index texts) by → Contains uses by)
      → (place : ℕ) (text signature : List ℕ) → slice_get texts place ≡ Some text → slice_get (signatures_of key index texts) place ≡ Some signature
      → IsSignedBy key uses text signature
  signed_at law is_key index [] has within among place text signature text_there there = absurd cc
  signed_at law is_key index (one ∷ texts) has within among place text signature text_there there =
      let by : Use = record { index = index; texts = one ∷ texts } in
      record {
        by = by;
        used = among by (0, omega arith, refl);
        place = place;
        text_there = text_there;
        signature_there = there;
        passes = law key index (one ∷ texts) place text signature is_key.id is_key.below has within text_there there;
      }

  warned : (told low : Bool) → All Right (warnings told low)
  warned false true = All-cons Right low_told [] tt (All-nil Right)
  warned false false = All-nil Right
  warned true low = All-nil Right

  turn_leaves : SignedTextsVerify → IsKey key → (index : ℕ) (told : List Told) → HasIndex key index (signed_texts told)
      → ((by : Use) → Contains (uses_of index (signed_texts told)) by → Contains uses by)
      → AllByRecursion (HasOrigin clients came) told → All Right (signed_told key index told)
  turn_leaves law is_key index told has among origins =
      let texts = signed_texts told in
      all_told texts (signatures_of key index texts) (signature_count key index texts)
      (signed_at law is_key index texts has (taken_few most_texts (texts_told told)) among) told none_replaced origins
      (record { told = All-nil Right; aligned = λ i within. aligned i within })
    where
      aligned : (i : ℕ) → 0 + i < length (signed_texts told) → slice_get (signed_texts told) (0 + i) ≡ slice_get (texts_told told) i
      aligned i within =
          let here : i ≡ 0 + i = omega arith in
          subst (λ (place : ℕ). slice_get (signed_texts told) place ≡ slice_get (texts_told told) i) here (taken_at most_texts (texts_told told) i (omega (arith, within)))

  -- Turns -------------------------------------------------------------------------------------------------------------------

  all_leave : SignedTextsVerify → IsKey key → (old new : Signing) (exchanges : List Exchange) → TakesAll Signs old exchanges new → old.key ≡ key
      → ((by : Use) → Contains (uses_from old.relay.relay old.next (turns_of exchanges)) by → Contains uses by)
      → AllByRecursion (HasOrigin clients came) (told_in old.relay.relay (turns_of exchanges))
      → AllByRecursion (λ exchange. All (λ parcel. Right (told_by parcel)) exchange.parcels) exchanges
  all_leave law is_key old new [] taken same among origins = tt
  all_leave law is_key old new (exchange ∷ exchanges) taken same among origins =
      let next = taken.0 in
      let signs = taken.1 in
      let told = (turned exchange.turn old.relay.relay).told in
      let quiet : Relay = record (turned exchange.turn old.relay.relay) { told = [] } in
      let after = next_after old.next (signed_texts told) in
      let here = uses_of old.next (signed_texts told) in
      let later = uses_from quiet after (turns_of exchanges) in
      let parts = split_all (HasOrigin clients came) told (told_in quiet (turns_of exchanges)) origins in
      let has : HasIndex key old.next (signed_texts told) = subst (λ (k : HssKey). HasIndex k old.next (signed_texts told)) same signs.has in
      let this = turn_leaves law is_key old.next told has (λ by in_turn. among by (Contains-append_left here later by in_turn)) parts.0 in
      let all : All Right (signed_told key old.next told ++ warnings old.warned (is_low old.key next.next)) =
      All-append Right (signed_told key old.next told) (warnings old.warned (is_low old.key next.next)) this (warned old.warned (is_low old.key next.next)) in
      let is : map told_by exchange.parcels ≡ signed_told key old.next told ++ warnings old.warned (is_low old.key next.next) =
      subst (λ (k : HssKey). map told_by exchange.parcels ≡ signed_told k old.next told ++ warnings old.warned (is_low old.key next.next)) same signs.told in
      let rest_uses : (by : Use) → Contains (uses_from next.relay.relay next.next (turns_of exchanges)) by → Contains uses by =
      λ by in_rest. among by (Contains-append_right here later by
      (subst (λ (at : ℕ). Contains (uses_from quiet at (turns_of exchanges)) by) signs.next
      (subst (λ (relay : Relay). Contains (uses_from relay next.next (turns_of exchanges)) by) signs.taken.relay in_rest))) in
      let rest_origins : AllByRecursion (HasOrigin clients came) (told_in next.relay.relay (turns_of exchanges)) =
      subst (λ (relay : Relay). AllByRecursion (HasOrigin clients came) (told_in relay (turns_of exchanges))) (sym signs.taken.relay) parts.1 in (
        told_of Right exchange.parcels (signed_told key old.next told ++ warnings old.warned (is_low old.key next.next)) is all,
        all_leave law is_key next new exchanges taken.2 (signs.key ∙ same) rest_uses rest_origins,
      )

pub leaves_signed : WhatIsToldHasItsOrigin → SignedTextsVerify → WhatLeavesIsSigned
leaves_signed origin law life came is_key few lived all =
    let clients = clients_with life.f life.keys in
    let begun = begun_in life in
    all_leave clients came (given_few life.f life.keys few) life.key (uses_in life) law is_key begun life.last life.exchanges lived refl (λ by there. there)
    (recursion_from_All (HasOrigin clients came) (told_in begun.relay.relay (turns_of life.exchanges))
    (origin clients (filter_map (counter_for life.from) life.keys) came (turns_of life.exchanges) all))
