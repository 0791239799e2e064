-- What requests are handed is the same as all inodes where they look.
use Rattle.std.proofs.Common.{◌≡◌, ℕ, Bool, true, false, cond, ◌||◌, not, List, [], ◌∷◌, ◌++◌, map, None, refl, sym, ap, ◌∙◌, eqb}
use Rattle.std.specs.List.{AllByRecursion}
use Rattle.std.specs.FinMap.{get, get-retain_keys, nat_cmp-IsAntisymmetric}
use Rattle.std.proofs.lemmas.Bool.{cond_both, or_parts, or_from}
use Rattle.bfs_model.specs.Server.Tree.{Time, Inodes}
use Rattle.bfs_model.specs.Server.Serial.{ordinal_after, answer}
use Rattle.bfs_model.specs.Server.Footprints.{Footprint, known, whole, footprint_of}
use Rattle.bfs_model.specs.Server.Conflicts.{among, is_written, is_touched, conflict, AgreeOn, closed}
use Rattle.bfs_model.specs.Server.Groups.{footprints_at, AreDisjoint, AreSeen, all_closed}
use Rattle.bfs_model.specs.Laws.Shares.{RunsComeHome, SharesKnow, SharesHaveFootprints}
use Rattle.bfs_model.specs.Server.Shares.{moved_for, all_moved, without, share_of, is_there, footprints_on}
use Rattle.bfs_model.proofs.Footprints.Agreement.{same_inodes, get-closed}
use Rattle.bfs_model.proofs.Footprints.Apart.{AreApart, apart, turned}
use Rattle.bfs_model.proofs.Footprints.Grouped.{runs_are_merged}
use Rattle.bfs_model.proofs.Footprints.Requests.{request_footprints_agree}

none_among : (xs ys : List ℕ) (id : ℕ) → among xs id ≡ false → among ys id ≡ false → among (xs ++ ys) id ≡ false
none_among [] ys id one two = two
none_among (x ∷ xs) ys id one two = let parts = or_parts (eqb x id) (among xs id) one in or_from (eqb x id) (among (xs ++ ys) id) parts.0 (none_among xs ys id parts.1 two)

pub all_both : {X : Type 0} (P Q S : X → Type 0) → ((x : X) → P x → Q x → S x) → (xs : List X) → AllByRecursion P xs → AllByRecursion Q xs → AllByRecursion S xs
all_both P Q S f [] one two = tt
all_both P Q S f (x ∷ xs) one two = (f x one.0 two.0, all_both P Q S f xs one.1 two.1)

all_each : {X : Type 0} (P Q : X → Type 0) → ((x : X) → P x → Q x) → (xs : List X) → AllByRecursion P xs → AllByRecursion Q xs
all_each P Q f xs all = all_both P P Q (λ x one _. f x one) xs all all

-- what one looks at and does not write, the other does not move
abbrev Leaves : Footprint → Footprint → Type 0
Leaves f g = (id : ℕ) → is_touched f id ≡ true → among (moved_for f) id ≡ false → among (moved_for g) id ≡ false

pub moved_is_written : (g : Footprint) (id : ℕ) → is_written g id ≡ false → among (moved_for g) id ≡ false
moved_is_written (known reads writes) id is = is
moved_is_written whole id is = refl

leaves : (f g : Footprint) → AreApart f g → Leaves f g × Leaves g f
leaves f g away = (
  (λ id touched _. moved_is_written g id (turned (is_written g id) (is_touched f id) (away.second id) touched)),
  (λ id touched _. moved_is_written f id (turned (is_written f id) (is_touched g id) (away.first id) touched)),
)

-- each leaves what each other looks at
all_leave : (fs : List Footprint) → AreDisjoint fs → AllByRecursion (λ f. AllByRecursion (Leaves f) fs) fs
all_leave [] disjoint = tt
all_leave (f ∷ fs) disjoint =
    let itself : Leaves f f = λ id touched is. is in
    let pairs : AllByRecursion (λ g. Leaves f g × Leaves g f) fs = all_each (λ g. conflict f g ≡ false) (λ g. Leaves f g × Leaves g f) (λ g none. leaves f g (apart f g none)) fs disjoint.0 in (
      (itself, all_each (λ g. Leaves f g × Leaves g f) (Leaves f) (λ g both. both.0) fs pairs),
      all_both (λ g. Leaves g f) (λ g. AllByRecursion (Leaves g) fs) (λ g. AllByRecursion (Leaves g) (f ∷ fs)) (λ g one rest. (one, rest)) fs (all_each (λ g. Leaves f g × Leaves g f) (λ g. Leaves g f) (λ g both. both.1) fs pairs) (all_leave fs disjoint.1),
    )

not_moved : (f : Footprint) (fs : List Footprint) → AllByRecursion (Leaves f) fs → (id : ℕ) → is_touched f id ≡ true → among (moved_for f) id ≡ false → among (all_moved fs) id ≡ false
not_moved f [] all id touched is = refl
not_moved f (g ∷ fs) all id touched is = none_among (moved_for g) (all_moved fs) id (all.0 id touched is) (not_moved f fs all.1 id touched is)

pub get-without : (ids : List ℕ) (m : Inodes) (id : ℕ) → get (without ids m) id ≡ cond (not (among ids id)) (get m id) None
get-without ids m id = get-retain_keys m (λ x. not (among ids x)) id (λ x tied. ap (λ y. not (among ids y)) (sym (nat_cmp-IsAntisymmetric id x tied)))

-- a share is the same as all inodes where its call looks
pub share_agrees : (m : Inodes) (f : Footprint) (fs : List Footprint) → AllByRecursion (Leaves f) fs → AgreeOn f m (share_of m (without (all_moved fs) m) f)
share_agrees m f fs all id touched =
    get-closed f m (without (all_moved fs) m) id ∙ cond_both (is_written f id) _ _ (λ there. there ≡ get m id) (λ is. refl)
    (λ is. get-without (all_moved fs) m id ∙ ap (λ b. cond (not b) (get m id) None) (not_moved f fs all id touched (moved_is_written f id is)))

shares_agree : (m : Inodes) (fs gs : List Footprint) → AllByRecursion (λ f. AllByRecursion (Leaves f) gs) fs → AreSeen m fs (map (share_of m (without (all_moved gs) m)) fs)
shares_agree m [] gs all = tt
shares_agree m (f ∷ fs) gs all = (share_agrees m f gs all.0, shares_agree m fs gs all.1)

-- Home ---------------------------------------------------------------------------------------------------------------------

cond_same : {X : Type 0} (b : Bool) (x y z : X) → (b ≡ false → y ≡ z) → cond b x y ≡ cond b x z
cond_same true x y z same = refl
cond_same false x y z same = same refl

module _ (t : Time) where
  -- what is brought home does not depend on what was at home where it comes
  home_same : (o : ℕ) (requests : List (List ℕ)) (owns : List Inodes) (m home home_then : Inodes) → AreSeen m (footprints_at m o t requests) owns
      → ((id : ℕ) → among (all_moved (footprints_at m o t requests)) id ≡ false → get home id ≡ get home_then id)
      → all_closed o t requests (footprints_at m o t requests) owns home ≡ all_closed o t requests (footprints_at m o t requests) owns home_then
  home_same o [] [] m home home_then seen same = same_inodes home home_then (λ id. same id refl)
  home_same o [] (own ∷ owns) m home home_then seen same = absurd seen
  home_same o (request ∷ requests) [] m home home_then seen same = absurd seen
  home_same o (request ∷ requests) (own ∷ owns) m home home_then seen same =
      let f = footprint_of m o t request in
      let left = (answer own o t request).0 in
      home_same (ordinal_after o 1) requests owns m (closed f left home) (closed f left home_then) seen.1 (λ id free.
      get-closed f left home id
      ∙ cond_same (is_written f id) _ (get home id) (get home_then id) (λ is. same id (none_among (moved_for f) (all_moved (footprints_at m (ordinal_after o 1) t requests)) id (moved_is_written f id is) free))
      ∙ sym (get-closed f left home_then id))

pub runs_come_home : RunsComeHome
runs_come_home m o t requests disjoint =
    let fs = footprints_at m o t requests in
    let home = without (all_moved fs) m in
    let seen : AreSeen m fs (map (share_of m home) fs) = shares_agree m fs fs (all_leave fs disjoint) in
    let merged = runs_are_merged m o t requests (map (share_of m home) fs) disjoint seen in
    (home_same t o requests (map (share_of m home) fs) m home m seen (λ id free. get-without (all_moved fs) m id ∙ ap (λ b. cond (not b) (get m id) None) free) ∙ merged.0, merged.1)

-- What is known on shares ------------------------------------------------------------------------------------------------------

there_by : (a b : Bool) → (b ≡ false → a ≡ false) → (not a || b) ≡ true
there_by true true left = refl
there_by true false left = absurd (let wrong : true ≡ false = left refl in cc)
there_by false b left = refl

known_on : (fs : List Footprint) (f : Footprint) → AllByRecursion (Leaves f) fs → (id : ℕ) → is_touched f id ≡ true → is_there fs f id ≡ true
known_on fs f all id touched = there_by (among (all_moved fs) id) (among (moved_for f) id) (not_moved f fs all id touched)

pub shares_know : SharesKnow
shares_know fs disjoint = all_each (λ f. AllByRecursion (Leaves f) fs) (λ f. (id : ℕ) → is_touched f id ≡ true → is_there fs f id ≡ true) (known_on fs) fs (all_leave fs disjoint)

-- where what it touches is the same, a call has its footprint
seen_footprints : (m : Inodes) (o : ℕ) (t : Time) (requests : List (List ℕ)) (owns : List Inodes) → AreSeen m (footprints_at m o t requests) owns → footprints_on o t requests owns ≡ footprints_at m o t requests
seen_footprints m o t [] [] seen = refl
seen_footprints m o t [] (own ∷ owns) seen = absurd seen
seen_footprints m o t (request ∷ requests) [] seen = absurd seen
seen_footprints m o t (request ∷ requests) (own ∷ owns) seen = λ i. request_footprints_agree m own o t request seen.0 i ∷ seen_footprints m (ordinal_after o 1) t requests owns seen.1 i

pub shares_have_footprints : SharesHaveFootprints
shares_have_footprints m o t requests disjoint =
    let fs = footprints_at m o t requests in
    seen_footprints m o t requests (map (share_of m (without (all_moved fs) m)) fs) (shares_agree m fs fs (all_leave fs disjoint))
