-- A message concerns the tallies at the places that stand under its name, and no others.
use Rattle.std.proofs.Common.{◌≡◌, ◌∙◌, ◌⊎◌, inl, inr, ℕ, ◌+◌, ◌<◌, ◌==◌, ◌&&◌, ◌||◌, Bool, true, false, List, [], ◌∷◌, ◌++◌, length, take, get_or, map, Option, Some, None, refl, sym, ap, ap₂, append-nil, below_more, eq-eqb, length-append, length-set, get_or-set_other, arith}
use Rattle.std.specs.Prelude.{fold, if◌then◌else◌, slice_get, slice_set}
use Rattle.std.proofs.lemmas.Bool.{eqb-false, eqb-true}
use Rattle.std.proofs.lemmas.Grind.{get_or-set_at}
use Rattle.std.proofs.lemmas.List.{ext_get_or, get_or-map, get_or_append_left, get_or_push, length-map, take_more}
use Rattle.std.proofs.lemmas.List.Elements.{filter_map-append}
use Rattle.std.proofs.lemmas.List.Sums.{fold_more}
use Rattle.std.proofs.lemmas.List.Folds.{list_any-append}
use Rattle.std.proofs.lemmas.Option.{slice_get-get_or}
use Rattle.std.specs.Global.{Vec}
use Rattle.bfs_messages.specs.Messages as model
use Rattle.bfs_messages.specs.declared.message.Message.{Message}
use Rattle.bfs_messages.specs.declared.message.Message.TheVariants.{Request, Order, ViewChange, NewView, Reply}
use Rattle.bfs_messages.specs.declared.signed.Signed.{Signed}
use Rattle.bfs_clients.specs.Clients.{Clients}
use Rattle.bfs_clients.specs.Tallies.{Tally, all_tallied, no_replies, is_signed_reply, is_wanted, tallied_as, tallied_by, with_reply}
use Rattle.bfs_clients.specs.Inside.Places.{AreFound, changed_at, changes, has_place, name_of, put_all, row_at, same_name}
use Rattle.bfs_clients.specs.declared.tallies.Name.{Name}

-- One more ---------------------------------------------------------------------------------------------------------------

or_true : (a : Bool) → (a || true) ≡ true
or_true true = refl
or_true false = refl

same_itself : (name : Name) → same_name name name ≡ true
same_itself name = rw (eq-eqb name.client name.client refl, eq-eqb name.timestamp name.timestamp refl) refl

pub pushed : (old new : List (Name × Vec ℕ)) (tallies : List Tally) (tally : Tally) (name : Name) (place : ℕ) → name ≡ name_of tally → place ≡ length tallies → AreFound old tallies
    → ((other : Name) → row_at new other ≡ row_at old other ++ (if same_name name other then place ∷ [] else [])) → AreFound new (tallies ++ tally ∷ [])
pushed old new tallies tally name place name_is place_is found put at d within =
    below_more P (length tallies) (λ at before d. rw (get_or_append_left tallies (tally ∷ []) d at before) (in_row at (get_or tallies at d) ∙ rw (found at d before) refl))
    (λ d. rw (get_or_push tallies tally d (length tallies) refl) (in_row (length tallies) tally ∙ rw (name_is, same_itself (name_of tally), eq-eqb (length tallies) place (sym place_is)) (or_true _)))
    at (omega (arith, within, length-append tallies (tally ∷ []))) d
  where
    P : ℕ → Type 0
    P at = (d : Tally) → has_place at (row_at new (name_of (get_or (tallies ++ tally ∷ []) at d))) ≡ true

    in_row : (at : ℕ) (one : Tally) → has_place at (row_at new (name_of one)) ≡ (has_place at (row_at old (name_of one)) || has_place at (if same_name name (name_of one) then place ∷ [] else []))
    in_row at one = ap (has_place at) (put (name_of one)) ∙ list_any-append (λ other. at == other) (row_at old (name_of one)) (if same_name name (name_of one) then place ∷ [] else [])

-- Changes at places ------------------------------------------------------------------------------------------------------

-- what one more place adds
more : (change : Tally → Tally) (tallies : List Tally) (places : List ℕ) (i place : ℕ) → i < length places → place ≡ get_or places i 0
    → changes change tallies (take (i + 1) places) ≡ changes change tallies (take i places) ++ changes change tallies (place ∷ [])
more change tallies places i place within is =
    ap (changes change tallies) (take_more places i 0 within ∙ ap (λ last. take i places ++ last ∷ []) (sym is))
    ∙ filter_map-append (changed_at change tallies) (take i places) (place ∷ [])

pub one_changed : (change : Tally → Tally) (tallies : List Tally) (places : List ℕ) (i place : ℕ) (tally : Tally) → i < length places → place ≡ get_or places i 0
    → slice_get tallies place ≡ Some tally → changes change tallies (take i places) ++ (place, change tally) ∷ [] ≡ changes change tallies (take (i + 1) places)
one_changed change tallies places i place tally within is found = sym (more change tallies places i place within is ∙ rw found refl)

pub none_changed : (change : Tally → Tally) (tallies : List Tally) (places : List ℕ) (i place : ℕ) → i < length places → place ≡ get_or places i 0
    → slice_get tallies place ≡ None → changes change tallies (take i places) ≡ changes change tallies (take (i + 1) places)
none_changed change tallies places i place within is none = sym (more change tallies places i place within is ∙ rw none (append-nil (changes change tallies (take i places))))

either_same : (b : Bool) (tally : Tally) → (if b then tally else tally) ≡ tally
either_same true tally = refl
either_same false tally = refl

as_long : (tallies : List Tally) (changed : List (ℕ × Tally)) → length (put_all tallies changed) ≡ length tallies
as_long tallies [] = refl
as_long tallies (one ∷ changed) = as_long (slice_set tallies one.0 one.1) changed ∙ length-set tallies one.0 one.1

-- what stands at a place, once the tallies at some are changed
at_places : (change : Tally → Tally) (tallies : List Tally) (places : List ℕ) (now : List Tally) (at : ℕ) (d : Tally) → at < length tallies → length now ≡ length tallies
    → get_or (put_all now (changes change tallies places)) at d ≡ (if has_place at places then change (get_or tallies at d) else get_or now at d)
at_places change tallies [] now at d within long = refl
at_places change tallies (place ∷ places) now at d within long = go (at == place) refl (slice_get tallies place) refl (λ before same. at_places change tallies places before at d within same)
  where
    go : (same : Bool) → (at == place) ≡ same → (one : Option Tally) → slice_get tallies place ≡ one
        → ((before : List Tally) → length before ≡ length tallies → get_or (put_all before (changes change tallies places)) at d ≡ (if has_place at places then change (get_or tallies at d) else get_or before at d))
        → get_or (put_all now (changes change tallies (place ∷ places))) at d ≡ (if same || has_place at places then change (get_or tallies at d) else get_or now at d)
    go true same one is rest =
        let here : at ≡ place = eqb-true at place same in
        let new : Tally = change (get_or tallies at d) in
        let found : slice_get tallies place ≡ Some (get_or tallies at d) = ap (slice_get tallies) (sym here) ∙ slice_get-get_or tallies at d within in
        rw found (rest (slice_set now place new) (length-set now place new ∙ long) ∙ rw (get_or-set_at now place at new d here (omega (arith, long, here, within))) (either_same (has_place at places) new))
    go false other None none rest = rw none (rest now long)
    go false other (Some tally) is rest =
        rw is (rest (slice_set now place (change tally)) (length-set now place (change tally) ∙ long) ∙ rw (get_or-set_other now place at (change tally) d (eqb-false at place other)) refl)

-- A message --------------------------------------------------------------------------------------------------------------

-- a tally stays as it is, or has one more reply, which it wanted
either_way : (message : Message) (passes : Bool) (tally : Tally)
    → (tallied_as message passes tally ≡ tally) ⊎ ((reply : model.Reply) × (message ≡ Reply reply) × (is_wanted tally reply ≡ true) × (tallied_as message passes tally ≡ with_reply tally reply))
either_way (Request request) passes tally = inl refl
either_way (Order message) passes tally = inl refl
either_way (ViewChange change) passes tally = inl refl
either_way (NewView new) passes tally = inl refl
either_way (Reply reply) passes tally = go (is_wanted tally reply) passes refl
  where
    go : (wanted passes : Bool) → is_wanted tally reply ≡ wanted
        → ((if wanted && passes then with_reply tally reply else tally) ≡ tally)
        ⊎ ((other : model.Reply) × (Reply reply ≡ Reply other) × (is_wanted tally other ≡ true) × ((if wanted && passes then with_reply tally reply else tally) ≡ with_reply tally other))
    go true true is = inr (reply, refl, is, refl)
    go true false is = inl refl
    go false passes is = inl refl

pub same_name_of : (clients : Clients) (signed : Signed Message) (tally : Tally) → name_of (tallied_by clients tally signed) ≡ name_of tally
same_name_of clients signed tally =
    elim (either_way signed.message (is_signed_reply clients signed) tally) [ inl same ↦ ap name_of same | inr counts ↦ ap name_of counts.3 ]

-- the name of the requests that a reply answers
abbrev pub answered : model.Reply → Name
answered reply = record { client = reply.client; timestamp = reply.timestamp }

both : (a b c : Bool) → (a && (b && c)) ≡ true → (a ≡ true) × (b ≡ true)
both true true c is = (refl, refl)
both true false c is = absurd (cc)
both false b c is = absurd (cc)

answers : (tally : Tally) (reply : model.Reply) → is_wanted tally reply ≡ true → answered reply ≡ name_of tally
answers tally reply wanted =
    let same = both (reply.client == tally.client) (reply.timestamp == tally.timestamp) _ wanted in
    ap₂ (λ client timestamp. record { client = client; timestamp = timestamp }) (eqb-true reply.client tally.client same.0) (eqb-true reply.timestamp tally.timestamp same.1)

-- All of them ------------------------------------------------------------------------------------------------------------

pub still_found : (clients : Clients) (signed : Signed Message) (rows : List (Name × Vec ℕ)) (tallies : List Tally) → AreFound rows tallies → AreFound rows (map (λ tally. tallied_by clients tally signed) tallies)
still_found clients signed rows tallies found at d within =
    let inside : at < length tallies = omega (arith, within, length-map tallies (λ tally. tallied_by clients tally signed)) in
    rw (get_or-map (λ tally. tallied_by clients tally signed) tallies at d d inside, same_name_of clients signed (get_or tallies at d)) (found at d inside)

-- where those that stand under the name of a reply's request are changed, all are that it changes
pub counted : (clients : Clients) (signed : Signed Message) (reply : model.Reply) (rows : List (Name × Vec ℕ)) (tallies : List Tally) (client timestamp : ℕ) (row : List ℕ)
    → signed.message ≡ Reply reply → AreFound rows tallies → client ≡ reply.client → timestamp ≡ reply.timestamp → row ≡ row_at rows (record { client = client; timestamp = timestamp })
    → put_all tallies (changes (λ tally. tallied_by clients tally signed) tallies row) ≡ map (λ tally. tallied_by clients tally signed) tallies
counted clients signed reply rows tallies client timestamp row is found client_is timestamp_is row_is =
    ext_get_or none _ _ (as_long tallies (changes change tallies row) ∙ sym (length-map tallies change))
    (λ at within.
    let inside : at < length tallies = omega (arith, within, as_long tallies (changes change tallies row)) in
    at_places change tallies row tallies at none inside refl ∙ go at inside (has_place at row) refl ∙ sym (get_or-map change tallies at none none inside))
  where
    none : Tally
    none = no_replies 0 0 0

    change : Tally → Tally
    change tally = tallied_by clients tally signed

    go : (at : ℕ) → at < length tallies → (has : Bool) → has_place at row ≡ has → (if has then change (get_or tallies at none) else get_or tallies at none) ≡ change (get_or tallies at none)
    go at within true there = refl
    go at within false absent =
        elim (either_way signed.message (is_signed_reply clients signed) (get_or tallies at none)) [
          | inl same ↦ sym same
          | inr counts ↦
              let other : reply ≡ counts.0 = cc in
              let named : record { client = client; timestamp = timestamp } ≡ name_of (get_or tallies at none) =
              ap₂ (λ c t. record { client = c; timestamp = t }) client_is timestamp_is ∙ ap answered other ∙ answers (get_or tallies at none) counts.0 counts.2 in
              let there : has_place at row ≡ true = ap (has_place at) row_is ∙ ap (λ name. has_place at (row_at rows name)) named ∙ found at none within in
              cc
        ]

pub none_counted : (clients : Clients) (signed : Signed Message) (tallies : List Tally) → ((reply : model.Reply) → signed.message ≡ Reply reply → ⊥) → tallies ≡ map (λ tally. tallied_by clients tally signed) tallies
none_counted clients signed [] none = refl
none_counted clients signed (tally ∷ tallies) none =
    ap₂ (λ first rest. first ∷ rest)
    (elim (either_way signed.message (is_signed_reply clients signed) tally) [ inl same ↦ sym same | inr counts ↦ absurd (none counts.0 counts.1) ])
    (none_counted clients signed tallies none)

-- Messages one after another ---------------------------------------------------------------------------------------------

pub one_more : (clients : Clients) (messages : List (Signed Message)) (i : ℕ) (signed : Signed Message) → i < length messages → signed ≡ get_or messages i signed → (tallies : List Tally)
    → map (λ tally. tallied_by clients tally signed) (all_tallied clients (take i messages) tallies) ≡ all_tallied clients (take (i + 1) messages) tallies
one_more clients messages i signed within is [] = refl
one_more clients messages i signed within is (tally ∷ tallies) =
    ap₂ (λ first rest. first ∷ rest)
    (ap (tallied_by clients (fold (tallied_by clients) tally (take i messages))) is ∙ sym (fold_more (tallied_by clients) tally messages i signed within))
    (one_more clients messages i signed within is tallies)
