-- The last one of a client and timestamp, in a list that changes.
use Rattle.std.proofs.Common.{◌≡◌, ℕ, Bool, true, false, ◌&&◌, cond, List, [], ◌∷◌, ◌++◌, zero, All, refl, ap, arith, subst, sym, ◌∙◌}
use Rattle.std.specs.Prelude.{◌==◌, ◌||◌, is_some, not, filter, Option, Some, None, if◌then◌else◌}
use Rattle.std.specs.Ordering.{ordering_then, nat_cmp, is_eq}
use Rattle.std.specs.declared.cmp.Ordering.{Ordering}
use Rattle.std.specs.declared.cmp.Ordering.TheVariants.{Less, Equal, Greater}
use Rattle.std.specs.Cmp.{unsigned_tied}
use Rattle.std.specs.BTreeMap as tree
use Rattle.std.specs.List.{list_any}
use Rattle.std.proofs.lemmas.Bool.{and_from, and_parts, eq-eqb, eqb-true, false≢true}
use Rattle.std.proofs.lemmas.List.{append_assoc}
use Rattle.std.proofs.lemmas.List.Elements.{All-tail}
use Rattle.std.proofs.lemmas.List.Folds.{list_any-append}
use Rattle.bfs_messages.specs.Messages.{Request}
use Rattle.bfs_messages.specs.declared.signed.Signed.{Signed}
use Rattle.bfs_pending.specs.Indexes.{Index, IsIndex, left_of}
use Rattle.bfs_pending.specs.Names.{name_cmp, name_of}
use Rattle.bfs_pending.specs.Passed.{last_same, later}
use Rattle.bfs_pending.specs.Requests.{is_same}
use Rattle.bfs_pending.specs.declared.names.Name.{Name}

tied_then : (r s : Ordering) → is_eq (ordering_then r s) ≡ (is_eq r && is_eq s)
tied_then Less s = refl
tied_then Equal s = refl
tied_then Greater s = refl

-- the names of two requests are one where they are the same
tied : (p q : Name) → tree.is_at (name_cmp p) q ≡ ((p.client == q.client) && (p.timestamp == q.timestamp))
tied p q = tied_then (nat_cmp p.client q.client) (nat_cmp p.timestamp q.timestamp) ∙ rw (unsigned_tied p.client q.client, unsigned_tied p.timestamp q.timestamp) refl

abbrev named : (client timestamp : ℕ) → Name
named client timestamp = record { client = client; timestamp = timestamp }

same_parts : (a b x y : ℕ) → a ≡ x → b ≡ y → named a b ≡ named x y
same_parts a b x y d e = rw (d, e) refl

one_name : (p q : Name) → ((p.client == q.client) && (p.timestamp == q.timestamp)) ≡ true → p ≡ q
one_name p q same =
    let parts = and_parts (p.client == q.client) (p.timestamp == q.timestamp) same in
    same_parts p.client p.timestamp q.client q.timestamp (eqb-true p.client q.client parts.0) (eqb-true p.timestamp q.timestamp parts.1)

-- One more -------------------------------------------------------------------------------------------------------------------

later_none : (found : Option (Signed Request)) → later found None ≡ found
later_none None = refl
later_none (Some one) = refl

pushed_step : (same : Bool) (s : Signed Request) (found first : Option (Signed Request)) → later (if same then Some s else found) first ≡ (if same then Some s else later found first)
pushed_step true s found first = refl
pushed_step false s found first = refl

last_pushed : (one s : Signed Request) (waiting : List (Signed Request)) → last_same one (waiting ++ s ∷ []) ≡ (if is_same s one then Some s else last_same one waiting)
last_pushed one s [] = refl
last_pushed one s (other ∷ waiting) =
    let first : Option (Signed Request) = if is_same other one then Some other else None in
    ap (λ found. later found first) (last_pushed one s waiting) ∙ pushed_step (is_same s one) s (last_same one waiting) first

pub pushed : (waiting : List (Signed Request)) (s : Signed Request) (before after : Index) → IsIndex before waiting
    → ((q : Name) → tree.get name_cmp after q ≡ cond (tree.is_at (name_cmp (name_of s)) q) (Some s) (tree.get name_cmp before q)) → IsIndex after (waiting ++ s ∷ [])
pushed waiting s before after index inserted one =
    inserted (name_of one)
    ∙ ap (λ b. cond b (Some s) (tree.get name_cmp before (name_of one))) (tied (name_of s) (name_of one))
    ∙ ap (λ found. cond (is_same s one) (Some s) found) (index one)
    ∙ sym (last_pushed one s waiting)

-- Some leave -----------------------------------------------------------------------------------------------------------------

-- among those is one of that name
abbrev among : List (Signed Request) → Name → Bool
among requests p = list_any (λ other. (p.client == other.message.client) && (p.timestamp == other.message.timestamp)) requests

abbrev stays : List (Signed Request) → Signed Request → Bool
stays requests one = not (among requests (name_of one))

same_self : (one : Signed Request) → is_same one one ≡ true
same_self one =
    let request : Request = one.message in
    and_from (request.client == request.client) (request.timestamp == request.timestamp) (eq-eqb request.client request.client refl) (eq-eqb request.timestamp request.timestamp refl)

same_flips : (one other : Signed Request) → is_same one other ≡ true → is_same other one ≡ true
same_flips one other same =
    let names : name_of one ≡ name_of other = one_name (name_of one) (name_of other) same in
    subst (λ (p : Name). ((other.message.client == p.client) && (other.message.timestamp == p.timestamp)) ≡ true) (sym names) (same_self other)

agree : (b c : Bool) → (b ≡ true → c ≡ true) → (c ≡ true → b ≡ true) → b ≡ c
agree true c there back = sym (there refl)
agree false true there back = back refl
agree false false there back = refl

same_either : (one other : Signed Request) → is_same one other ≡ is_same other one
same_either one other = agree (is_same one other) (is_same other one) (same_flips one other) (same_flips other one)

left_step : (front same : Bool) (found : Option (Signed Request)) → cond same None (if front then None else found) ≡ (if front || (same || false) then None else found)
left_step true true found = refl
left_step true false found = refl
left_step false true found = refl
left_step false false found = refl

-- one more is forgotten
pub forgot : (front : List (Signed Request)) (s one : Signed Request) (before : Option (Signed Request)) (now after : Index)
    → tree.get name_cmp now (name_of one) ≡ left_of front one before
    → ((q : Name) → tree.get name_cmp after q ≡ cond (tree.is_at (name_cmp (name_of s)) q) None (tree.get name_cmp now q))
    → tree.get name_cmp after (name_of one) ≡ left_of (front ++ s ∷ []) one before
forgot front s one before now after so_far removed =
    removed (name_of one)
    ∙ ap (λ b. cond b None (tree.get name_cmp now (name_of one))) (tied (name_of s) (name_of one) ∙ same_either s one)
    ∙ ap (λ found. cond (is_same one s) None found) so_far
    ∙ left_step (list_any (is_same one) front) (is_same one s) before
    ∙ ap (λ (b : Bool). if b then None else before) (sym (list_any-append (is_same one) front (s ∷ [])))

kept_step : (requests : List (Signed Request)) (one other : Signed Request) (found rest : Option (Signed Request)) (keep stay same : Bool) → stays requests other ≡ keep → stays requests one ≡ stay
    → is_same other one ≡ same → found ≡ (if stay then rest else None)
    → cond keep (later found (if same then Some other else None)) found ≡ (if stay then later rest (if same then Some other else None) else None)
kept_step requests one other found rest true true same k s e h = ap (λ f. later f (if same then Some other else None)) h
kept_step requests one other found rest true false true k s e h =
    absurd (false≢true (sym s ∙ ap (λ p. not (among requests p)) (sym (one_name (name_of other) (name_of one) e)) ∙ k))
kept_step requests one other found rest true false false k s e h = ap (λ f. later f None) h
kept_step requests one other found rest false true true k s e h =
    absurd (false≢true (sym k ∙ ap (λ p. not (among requests p)) (one_name (name_of other) (name_of one) e) ∙ s))
kept_step requests one other found rest false true false k s e h = h ∙ sym (later_none rest)
kept_step requests one other found rest false false same k s e h = h

last_cond : (one other : Signed Request) (more : List (Signed Request)) (keep : Bool)
    → last_same one (cond keep (other ∷ more) more) ≡ cond keep (later (last_same one more) (if is_same other one then Some other else None)) (last_same one more)
last_cond one other more true = refl
last_cond one other more false = refl

none_step : (b : Bool) → ◌≡◌ {A = Option (Signed Request)} None (if b then None else None)
none_step true = refl
none_step false = refl

last_kept : (requests : List (Signed Request)) (one : Signed Request) (waiting : List (Signed Request))
    → last_same one (filter (stays requests) waiting) ≡ (if stays requests one then last_same one waiting else None)
last_kept requests one [] = none_step (stays requests one)
last_kept requests one (other ∷ waiting) =
    last_cond one other (filter (stays requests) waiting) (stays requests other)
    ∙ kept_step requests one other (last_same one (filter (stays requests) waiting)) (last_same one waiting) (stays requests other) (stays requests one) (is_same other one) refl refl refl
    (last_kept requests one waiting)

turned : (b : Bool) (found : Option (Signed Request)) → (if b then None else found) ≡ (if not b then found else None)
turned true found = refl
turned false found = refl

-- the index without what was forgotten is that of those that are left
pub dropped : (requests waiting : List (Signed Request)) (before after : Index) → IsIndex before waiting
    → ((one : Signed Request) → tree.get name_cmp after (name_of one) ≡ left_of requests one (tree.get name_cmp before (name_of one)))
    → IsIndex after (filter (stays requests) waiting)
dropped requests waiting before after index left one =
    left one ∙ ap (left_of requests one) (index one) ∙ turned (among requests (name_of one)) (last_same one waiting) ∙ sym (last_kept requests one waiting)

found_later : (found first : Option (Signed Request)) → is_some found ≡ true → is_some (later found first) ≡ true
found_later (Some one) first is = refl
found_later None first is = absurd (false≢true is)

found_first : (found : Option (Signed Request)) (one : Signed Request) → is_some (later found (Some one)) ≡ true
found_first None one = refl
found_first (Some it) one = refl

-- one that waits is found
last_here : (one : Signed Request) (front more : List (Signed Request)) → is_some (last_same one (front ++ one ∷ more)) ≡ true
last_here one [] more =
    ap (λ (b : Bool). is_some (later (last_same one more) (if b then Some one else None))) (same_self one) ∙ found_first (last_same one more) one
last_here one (other ∷ front) more = found_later (last_same one (front ++ one ∷ more)) (if is_same other one then Some other else None) (last_here one front more)

is_left : (b : Bool) (found : Option (Signed Request)) → is_some found ≡ true → is_some (if b then None else found) ≡ not b
is_left true found is = refl
is_left false found is = is

abbrev found_in : Index → Signed Request → Bool
found_in index one = is_some (tree.get name_cmp index (name_of one))

-- of those that wait, the ones stay that are still found
pub left_behind : (requests : List (Signed Request)) (before after : Index) (front rest : List (Signed Request)) → IsIndex before (front ++ rest)
    → ((one : Signed Request) → tree.get name_cmp after (name_of one) ≡ left_of requests one (tree.get name_cmp before (name_of one)))
    → filter (found_in after) rest ≡ filter (stays requests) rest
left_behind requests before after front [] index left = refl
left_behind requests before after front (one ∷ rest) index left =
    let stay : found_in after one ≡ stays requests one =
    ap (λ (found : Option (Signed Request)). is_some found) (left one ∙ ap (left_of requests one) (index one))
    ∙ is_left (among requests (name_of one)) (last_same one (front ++ one ∷ rest)) (last_here one front rest) in
    ap (λ (kept : List (Signed Request)). cond (found_in after one) (one ∷ kept) kept)
    (left_behind requests before after (front ++ one ∷ []) rest (subst (IsIndex before) (sym (append_assoc front (one ∷ []) rest)) index) left)
    ∙ ap (λ b. cond b (one ∷ filter (stays requests) rest) (filter (stays requests) rest)) stay

-- where each is among those that leave
pub all_leave : (requests waiting : List (Signed Request)) → All (λ one. list_any (is_same one) requests ≡ true) waiting
    → filter (λ one. not (list_any (is_same one) requests)) waiting ≡ []
all_leave requests [] all = refl
all_leave requests (one ∷ waiting) all =
    let here : list_any (is_same one) requests ≡ true = all zero one (omega arith) in
    ap (λ kept. cond (stays requests one) (one ∷ kept) kept) (all_leave requests waiting (All-tail (λ one. list_any (is_same one) requests ≡ true) one waiting all))
    ∙ ap (λ (b : Bool). cond (not b) (one ∷ []) []) here
