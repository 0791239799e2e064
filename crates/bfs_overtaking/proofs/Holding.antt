-- The claims of calls tell which of them hold back a later one.
use Rattle.std.proofs.Common.{◌≡◌, ℕ, zero, suc, ◌-◌, ◌==◌, ◌&&◌, ◌||◌, Bool, true, false, cond, not, ◌+◌, ◌<◌, ◌≤◌, List, [], ◌∷◌, ◌++◌, length, map, take, set, get_or, Option, Some, None, refl, ap, sym, subst, ◌∙◌, arith}
use Rattle.std.specs.BTreeSet.{BTreeSet, contains}
use Rattle.std.specs.List.{list_any}
use Rattle.std.proofs.Math.ListN as plain
use Rattle.std.proofs.lemmas.List.{length-map, length-take, take_all, take_more}
use Rattle.bfs_model.specs.Server.Conflicts.{among, conflict, is_whole}
use Rattle.bfs_model.specs.Server.Events.{waiting, is_done}
use Rattle.bfs_model.specs.Server.Footprints.{Footprint, known, whole}
use Rattle.bfs_footprint.specs.Seen.{footprint_seen}
use Rattle.bfs_footprint.specs.declared.footprints.Footprint as declared
use Rattle.bfs_levels.specs.Marking.{names_touched, names_written}
use Rattle.bfs_levels.proofs.Public.{any_none, any_or, conflict_by_ids, or_middle}
use Rattle.bfs_overtaking.specs.Machine.{Standing, Machine, standing_at, standing_of, is_held, take_refusal, after_take, after_finish}
use Rattle.bfs_overtaking.proofs.Standings.{can_take}
use Rattle.bfs_overtaking.specs.Inside.Claims.{AreClaimed, AreSet, Sets, all_wait, any_before, any_below, claim_cmp, is_claim, is_among_claims, is_before, is_open, is_written_before, touches_claim, writes_claim}
use Rattle.bfs_overtaking.specs.declared.claims.Claims.{Claims}

-- Claims of one call -----------------------------------------------------------------------------------------------------------

or_both : (a b e : Bool) → ((a && e) || (b && e)) ≡ ((a || b) && e)
or_both true true true = refl
or_both true true false = refl
or_both true false true = refl
or_both true false false = refl
or_both false b e = refl

named : (ids : List ℕ) (place id k : ℕ) → is_among_claims ids place (Some id) k ≡ (among ids id && (place == k))
named [] place id k = refl
named (x ∷ ids) place id k = ap (λ b. ((x == id) && (place == k)) || b) (named ids place id k) ∙ or_both (x == id) (among ids id) (place == k)

none_named : (ids : List ℕ) (place k : ℕ) → is_among_claims ids place None k ≡ false
none_named [] place k = refl
none_named (x ∷ ids) place k = none_named ids place k

either : (w r e b old : Bool) → cond (w && e) b (cond (r && e) b old) ≡ cond ((r || w) && e) b old
either true true true b old = refl
either true true false b old = refl
either true false e b old = refl
either false true true b old = refl
either false true false b old = refl
either false false e b old = refl

pub writes_known : (reads writes : List ℕ) (place : ℕ) (claim : Option ℕ) (k : ℕ) (b old : Bool)
    → cond (is_among_claims writes place claim k) b old ≡ cond (writes_claim claim (known reads writes) && (place == k)) b old
writes_known reads writes place None k b old = ap (λ c. cond c b old) (none_named writes place k)
writes_known reads writes place (Some id) k b old = ap (λ c. cond c b old) (named writes place id k)

pub touches_known : (reads writes : List ℕ) (place : ℕ) (claim : Option ℕ) (k : ℕ) (b old : Bool)
    → cond (is_among_claims writes place claim k) b (cond (is_among_claims reads place claim k) b (cond (is_claim None place claim k) b old)) ≡ cond (touches_claim claim (known reads writes) && (place == k)) b old
touches_known reads writes place None k b old = λ i. cond (none_named writes place k i) b (cond (none_named reads place k i) b (cond (place == k) b old))
touches_known reads writes place (Some id) k b old =
    (λ i. cond (named writes place id k i) b (cond (named reads place id k i) b old)) ∙ either (among writes id) (among reads id) (place == k) b old

-- a call of known fileids has its claims when they are put, or taken away, one after another
pub known_set : (b : Bool) (reads writes : List ℕ) (place : ℕ) (old : Claims) (first second touchers writers : BTreeSet (Option ℕ × ℕ))
    → Sets b (is_claim None place) old.touchers first → Sets b (is_among_claims reads place) first second
    → Sets b (is_among_claims writes place) second touchers → Sets b (is_among_claims writes place) old.writers writers
    → AreSet b old (record { writers = writers; touchers = touchers }) place (known reads writes)
known_set b reads writes place old first second touchers writers one two three four = record {
  written = λ claim k. four claim k ∙ writes_known reads writes place claim k b (contains claim_cmp old.writers (claim, k));
  touched = λ claim k.
      three claim k
      ∙ ap (cond (is_among_claims writes place claim k) b) (two claim k ∙ ap (cond (is_among_claims reads place claim k) b) (one claim k))
      ∙ touches_known reads writes place claim k b (contains claim_cmp old.touchers (claim, k));
}

-- Claims of the calls ----------------------------------------------------------------------------------------------------------

apart : (c b old e : Bool) → e ≡ false → cond (c && e) b old ≡ old
apart true b old e is = ap (λ d. cond d b old) is
apart false b old e is = refl

below_suc : (k : ℕ) → (0 == suc k) ≡ false
below_suc k = grind arith

both_suc : (n k : ℕ) → (suc n == suc k) ≡ (n == k)
both_suc n k = grind arith

above_zero : (k : ℕ) → (suc k == 0) ≡ false
above_zero k = grind arith

module _ (test : Footprint → Bool) where
  open_more : (xs : List Standing) (f : Footprint) (k : ℕ) → cond (test f && (length xs == k)) true (is_open test xs k) ≡ is_open test (xs ++ record { footprint = f; slot = waiting } ∷ []) k
  open_more [] f zero = by_test (test f)
    where
      by_test : (b : Bool) → cond (b && true) true false ≡ b
      by_test true = refl
      by_test false = refl
  open_more [] f (suc k) = apart (test f) true false (0 == suc k) (below_suc k)
  open_more (x ∷ xs) f zero = apart (test f) true (is_open test (x ∷ xs) 0) (suc (length xs) == 0) (above_zero (length xs))
  open_more (x ∷ xs) f (suc k) = ap (λ e. cond (test f && e) true (is_open test xs k)) (both_suc (length xs) k) ∙ open_more xs f k

  open_done : (xs : List Standing) (place : ℕ) (y : Standing) (k : ℕ) → is_done y.slot ≡ true → cond (test (standing_at xs place).footprint && (place == k)) false (is_open test xs k) ≡ is_open test (set xs place y) k
  open_done [] place y k done = by_test (test (standing_at [] place).footprint && (place == k))
    where
      by_test : (b : Bool) → cond b false false ≡ false
      by_test true = refl
      by_test false = refl
  open_done (x ∷ xs) zero y zero done = by_test (is_done x.slot) (test x.footprint) ∙ ap (λ d. not d && test y.footprint) (sym done)
    where
      by_test : (d b : Bool) → cond (b && true) false (not d && b) ≡ false
      by_test d true = refl
      by_test true false = refl
      by_test false false = refl
  open_done (x ∷ xs) zero y (suc k) done = apart (test x.footprint) false (is_open test xs k) (0 == suc k) (below_suc k)
  open_done (x ∷ xs) (suc place) y zero done = apart (test (standing_at xs place).footprint) false (is_open test (x ∷ xs) 0) (suc place == 0) (above_zero place)
  open_done (x ∷ xs) (suc place) y (suc k) done = ap (λ e. cond (test (standing_at xs place).footprint && e) false (is_open test xs k)) (both_suc place k) ∙ open_done xs place y k done

  open_kept : (xs : List Standing) (place : ℕ) (y : Standing) (k : ℕ) → is_done y.slot ≡ is_done (standing_at xs place).slot → y.footprint ≡ (standing_at xs place).footprint → is_open test (set xs place y) k ≡ is_open test xs k
  open_kept [] place y k done same = refl
  open_kept (x ∷ xs) zero y zero done same = λ i. not (done i) && test (same i)
  open_kept (x ∷ xs) zero y (suc k) done same = refl
  open_kept (x ∷ xs) (suc place) y zero done same = refl
  open_kept (x ∷ xs) (suc place) y (suc k) done same = open_kept xs place y k done same

  none_below : (n : ℕ) → any_below (λ k. false) n ≡ false
  none_below zero = refl
  none_below (suc n) = none_below n

  open_below : (xs : List Standing) (n : ℕ) → any_below (is_open test xs) n ≡ list_any (λ s. not (is_done s.slot) && test s.footprint) (take n xs)
  open_below xs zero = refl
  open_below [] (suc n) = none_below n
  open_below (x ∷ xs) (suc n) = ap (λ b. (not (is_done x.slot) && test x.footprint) || b) (open_below xs n)

pub more_claimed : (old new : Claims) (xs : List Standing) (f : Footprint) → AreClaimed old xs → AreSet true old new (length xs) f → AreClaimed new (xs ++ record { footprint = f; slot = waiting } ∷ [])
more_claimed old new xs f are put = record {
  written = λ claim k. put.written claim k ∙ ap (cond (writes_claim claim f && (length xs == k)) true) (are.written claim k) ∙ open_more (writes_claim claim) xs f k;
  touched = λ claim k. put.touched claim k ∙ ap (cond (touches_claim claim f && (length xs == k)) true) (are.touched claim k) ∙ open_more (touches_claim claim) xs f k;
}

pub fewer_claimed : (old new : Claims) (xs : List Standing) (place : ℕ) (y : Standing) → is_done y.slot ≡ true → AreClaimed old xs → AreSet false old new place (standing_at xs place).footprint → AreClaimed new (set xs place y)
fewer_claimed old new xs place y done are gone = record {
  written = λ claim k. gone.written claim k ∙ ap (cond (writes_claim claim (standing_at xs place).footprint && (place == k)) false) (are.written claim k) ∙ open_done (writes_claim claim) xs place y k done;
  touched = λ claim k. gone.touched claim k ∙ ap (cond (touches_claim claim (standing_at xs place).footprint && (place == k)) false) (are.touched claim k) ∙ open_done (touches_claim claim) xs place y k done;
}

pub still_claimed : (claims : Claims) (xs : List Standing) (place : ℕ) (y : Standing) → is_done y.slot ≡ is_done (standing_at xs place).slot → y.footprint ≡ (standing_at xs place).footprint → AreClaimed claims xs → AreClaimed claims (set xs place y)
still_claimed claims xs place y done same are = record {
  written = λ claim k. are.written claim k ∙ sym (open_kept (writes_claim claim) xs place y k done same);
  touched = λ claim k. are.touched claim k ∙ sym (open_kept (touches_claim claim) xs place y k done same);
}

pub taken_claimed : (claims : Claims) (m : Machine) (number : ℕ) → take_refusal m number ≡ None → AreClaimed claims m.standings → AreClaimed claims (after_take m number).standings
taken_claimed claims m number none are = still_claimed claims m.standings (number - m.first) _ (sym (ap is_done (can_take m number none).waits)) refl are

pub finished_claimed : (old new : Claims) (m : Machine) (number : ℕ) → AreClaimed old m.standings → AreSet false old new (number - m.first) (standing_of m number).footprint → AreClaimed new (after_finish m number).standings
finished_claimed old new m number are gone = fewer_claimed old new m.standings (number - m.first) _ refl are gone

-- At the start ------------------------------------------------------------------------------------------------------------------

abbrev waits_all : List declared.Footprint → List Standing
waits_all fs = all_wait (map footprint_seen fs)

long : (fs : List declared.Footprint) → length (waits_all fs) ≡ length fs
long fs = length-map (map footprint_seen fs) _ ∙ length-map fs footprint_seen

pub next_claimed : (old new : Claims) (fs : List declared.Footprint) (place : ℕ) (f : declared.Footprint) → place < length fs → f ≡ get_or fs place f
    → AreClaimed old (take place (waits_all fs)) → AreSet true old new place (footprint_seen f) → AreClaimed new (take (place + 1) (waits_all fs))
next_claimed old new fs place f less is are put =
    let waits : Standing = record { footprint = footprint_seen f; slot = waiting } in
    let fits : place < length (waits_all fs) = omega (arith, long fs) in
    let many : length (take place (waits_all fs)) ≡ place = omega (arith, length-take place (waits_all fs)) in
    let there : get_or (waits_all fs) place waits ≡ waits =
    plain.get_or-map (λ (g : Footprint). record { footprint = g; slot = waiting }) (map footprint_seen fs) place (footprint_seen f)
    ∙ ap (λ (g : Footprint). record { footprint = g; slot = waiting }) (plain.get_or-map footprint_seen fs place f ∙ ap footprint_seen (sym is)) in
    subst (AreClaimed new) (sym (take_more (waits_all fs) place waits fits ∙ ap (λ y. take place (waits_all fs) ++ y ∷ []) there))
    (more_claimed old new (take place (waits_all fs)) (footprint_seen f) are (subst (λ k. AreSet true old new k (footprint_seen f)) (sym many) put))

pub all_claimed : (claims : Claims) (fs : List declared.Footprint) (place : ℕ) → length fs ≤ place → AreClaimed claims (take place (waits_all fs)) → AreClaimed claims (waits_all fs)
all_claimed claims fs place past are = subst (AreClaimed claims) (take_all place (waits_all fs) (omega (arith, long fs))) are

-- Which calls hold back a later one --------------------------------------------------------------------------------------------

-- unfinished calls that pass a test
abbrev open_in : (Footprint → Bool) → List Standing → Bool
open_in test xs = list_any (λ s. not (is_done s.slot) && test s.footprint) xs

and_any : (u : Bool) (p : ℕ → Bool) (ids : List ℕ) → (u && list_any p ids) ≡ list_any (λ id. u && p id) ids
and_any true p ids = refl
and_any false p ids = sym (any_none ids)

and_or : (u a b : Bool) → (u && (a || b)) ≡ ((u && a) || (u && b))
and_or true a b = refl
and_or false a b = refl

open_or : (p q : Footprint → Bool) (xs : List Standing) → open_in (λ f. p f || q f) xs ≡ (open_in p xs || open_in q xs)
open_or p q [] = refl
open_or p q (x ∷ xs) =
    (λ i. and_or (not (is_done x.slot)) (p x.footprint) (q x.footprint) i || open_or p q xs i)
    ∙ or_middle (not (is_done x.slot) && p x.footprint) (not (is_done x.slot) && q x.footprint) (open_in p xs) (open_in q xs)

open_any : (p : ℕ → Footprint → Bool) (ids : List ℕ) (xs : List Standing) → open_in (λ f. list_any (λ id. p id f) ids) xs ≡ list_any (λ id. open_in (p id) xs) ids
open_any p ids [] = sym (any_none ids)
open_any p ids (x ∷ xs) =
    (λ i. and_any (not (is_done x.slot)) (λ id. p id x.footprint) ids i || open_any p ids xs i)
    ∙ sym (any_or (λ id. not (is_done x.slot) && p id x.footprint) (λ id. open_in (p id) xs) ids)

or_assoc : (a b c : Bool) → ((a || b) || c) ≡ (a || (b || c))
or_assoc true b c = refl
or_assoc false b c = refl

module _ (claims : Claims) (xs : List Standing) (place : ℕ) (are : AreClaimed claims xs) where
  written_below : (claim : Option ℕ) → is_before claims.writers claim place ≡ open_in (writes_claim claim) (take place xs)
  written_below claim = ap (λ (p : ℕ → Bool). any_below p place) (λ i k. are.written claim k i) ∙ open_below (writes_claim claim) xs place

  touched_below : (claim : Option ℕ) → is_before claims.touchers claim place ≡ open_in (touches_claim claim) (take place xs)
  touched_below claim = ap (λ (p : ℕ → Bool). any_below p place) (λ i k. are.touched claim k i) ∙ open_below (touches_claim claim) xs place

  pub held_known : (reads writes : List ℕ)
      → (is_written_before claims reads place || any_before claims.touchers writes place)
      ≡ is_held (take place xs) (known reads writes)
  held_known reads writes =
      let ys = take place xs in
      let writing : Footprint → Bool = λ f. list_any (names_written f) reads in
      let touching : Footprint → Bool = λ f. list_any (names_touched f) writes in
      or_assoc (is_before claims.writers None place) (any_before claims.writers reads place) (any_before claims.touchers writes place)
      ∙ (λ i. written_below None i || (list_any (λ id. written_below (Some id) i) reads || list_any (λ id. touched_below (Some id) i) writes))
      ∙ sym (λ i. open_in is_whole ys || (open_any (λ id f. names_written f id) reads ys i || open_any (λ id f. names_touched f id) writes ys i))
      ∙ ap (λ b. open_in is_whole ys || b) (sym (open_or writing touching ys))
      ∙ sym (open_or is_whole (λ f. writing f || touching f) ys)
      ∙ sym (λ i. open_in (λ f. conflict_by_ids reads writes f i) ys)

  conflict_whole : (f : Footprint) → conflict f whole ≡ true
  conflict_whole (known reads writes) = refl
  conflict_whole whole = refl

  pub held_whole : is_before claims.touchers None place ≡ is_held (take place xs) whole
  held_whole = touched_below None ∙ sym (λ i. open_in (λ f. conflict_whole f i) (take place xs))

-- of two tests the second decides where the first fails
pub first_holds : (result a b held : Bool) → result ≡ true → result ≡ a → (a || b) ≡ held → result ≡ held
first_holds result a b held is tells told = is ∙ ap (λ c. c || b) (sym is ∙ tells) ∙ told

pub second_holds : (result a b held : Bool) → result ≡ false → result ≡ a → (a || b) ≡ held → b ≡ held
second_holds result a b held is tells told = ap (λ c. c || b) (sym is ∙ tells) ∙ told
