-- Inodes by a footprint: what is put back, and maps that agree on what is touched.
use Rattle.std.proofs.Common.{◌≡◌, ℕ, Bool, true, false, cond, ◌||◌, List, [], ◌∷◌, Option, refl, sym, ap, ◌∙◌, eqb, eq-eqb, eqb-true}
use Rattle.std.specs.List.{AllByRecursion}
use Rattle.std.specs.FinMap.{get, same_map, nat_cmp-IsAntisymmetric}
use Rattle.std.specs.Cmp.{nat_cmp_total}
use Rattle.std.proofs.lemmas.Bool.{cond-true, cond_both, or_left, or_right}
use Rattle.bfs_model.specs.Server.Tree.{Inode, Inodes}
use Rattle.bfs_model.specs.Server.Procedures.{procedure}
use Rattle.bfs_model.specs.Server.Footprints.{Footprint, known, whole, footprint}
use Rattle.bfs_model.specs.Server.Conflicts.{among, is_written, is_touched, AgreeOn, set_at, put_back, closed}
use Rattle.bfs_model.specs.Laws.Footprints.{CallsKeepToFootprints}
use Rattle.bfs_model.proofs.WellFormed.Sums.{get-set_at}
use Rattle.bfs_model.proofs.Footprints.Frames.{IsOpen}
use Rattle.bfs_model.proofs.Footprints.FramedCalls.{IsSeen, IsCovered, procedure_framed}

pub same_inodes : (m n : Inodes) → ((id : ℕ) → get m id ≡ get n id) → m ≡ n
same_inodes m n same = same_map nat_cmp_total nat_cmp-IsAntisymmetric m n same

-- Lists of fileids ---------------------------------------------------------------------------------------------------------

pub all_among : (P : ℕ → Type 0) (ids : List ℕ) → ((id : ℕ) → among ids id ≡ true → P id) → AllByRecursion P ids
all_among P [] each = tt
all_among P (id ∷ ids) each = (each id (or_left (eqb id id) (among ids id) (eq-eqb id id refl)), all_among P ids (λ other is. each other (or_right (eqb id other) (among ids other) is)))

-- What is put back -----------------------------------------------------------------------------------------------------------

put_back_at : (b : Bool) (id : ℕ) (ids : List ℕ) (others home : Inodes) (x : ℕ) → eqb id x ≡ b → get (put_back ids others home) x ≡ cond (among ids x) (get others x) (get home x)
    → cond b (get others id) (get (put_back ids others home) x) ≡ cond (b || among ids x) (get others x) (get home x)
put_back_at true id ids others home x is rest = ap (get others) (eqb-true id x is)
put_back_at false id ids others home x is rest = rest

pub get-put_back : (ids : List ℕ) (others home : Inodes) (x : ℕ) → get (put_back ids others home) x ≡ cond (among ids x) (get others x) (get home x)
get-put_back [] others home x = refl
get-put_back (id ∷ ids) others home x = get-set_at (put_back ids others home) id (get others id) x ∙ put_back_at (eqb id x) id ids others home x refl (get-put_back ids others home x)

pub get-closed : (f : Footprint) (left home : Inodes) (x : ℕ) → get (closed f left home) x ≡ cond (is_written f x) (get left x) (get home x)
get-closed (known reads writes) left home x = get-put_back writes left home x
get-closed whole left home x = refl

set_through : (b c : Bool) (id x : ℕ) (ids : List ℕ) (there : Option Inode) (one other : Option Inode) → eqb id x ≡ b → among ids x ≡ c → among ids id ≡ true
    → cond b there (cond c one other) ≡ cond c (cond b there one) other
set_through true true id x ids there one other is within written = refl
set_through true false id x ids there one other is within written = absurd (let also : among ids x ≡ true = ap (among ids) (sym (eqb-true id x is)) ∙ written in cc)
set_through false c id x ids there one other is within written = refl

-- a frame of what is put back is open there
pub put_back_opens : (ids : List ℕ) (home : Inodes) (id : ℕ) → among ids id ≡ true → IsOpen (λ m. put_back ids m home) id
put_back_opens ids home id written = record {
  gets = λ m. get-put_back ids m home id ∙ cond-true (among ids id) (get m id) (get home id) written;
  sets = λ m there. same_inodes (set_at (put_back ids m home) id there) (put_back ids (set_at m id there) home) (λ x.
      get-set_at (put_back ids m home) id there x ∙ ap (cond (eqb id x) there) (get-put_back ids m home x)
      ∙ set_through (eqb id x) (among ids x) id x ids there (get m x) (get home x) refl refl written
      ∙ ap (λ one. cond (among ids x) one (get home x)) (sym (get-set_at m id there x)) ∙ sym (get-put_back ids (set_at m id there) home x));
}

-- what is the same does not change when it is put back
pub closed_same : (f : Footprint) (m home : Inodes) → ((id : ℕ) → is_written f id ≡ true → get home id ≡ get m id) → closed f m home ≡ home
closed_same f m home same =
    same_inodes _ _ (λ x. get-closed f m home x ∙ cond_both (is_written f x) (get m x) (get home x) (λ there. there ≡ get home x) (λ is. sym (same x is)) (λ is. refl))

pub written_is_touched : (f : Footprint) (id : ℕ) → is_written f id ≡ true → is_touched f id ≡ true
written_is_touched (known reads writes) id is = or_right (among reads id) (among writes id) is
written_is_touched whole id is = refl

-- Calls ------------------------------------------------------------------------------------------------------------------------

covers : (f : Footprint) (m others : Inodes) → AgreeOn f m others → closed f m others ≡ others → IsCovered (λ n. closed f n others) m f
covers (known reads writes) m others agree same = (
  all_among (IsSeen (λ n. put_back writes n others) m) reads (λ id is. ap (λ n. get n id) same ∙ agree id (or_left (among reads id) (among writes id) is)),
  all_among (IsOpen (λ n. put_back writes n others)) writes (put_back_opens writes others),
)
covers whole m others agree same = λ n. refl

pub calls_keep_to_footprints : CallsKeepToFootprints
calls_keep_to_footprints m others c call agree =
    let f = footprint m c call in
    let same : closed f m others ≡ others = closed_same f m others (λ id is. agree id (written_is_touched f id is)) in
    ap (λ n. procedure n c call) (sym same) ∙ procedure_framed (λ n. closed f n others) m c call (covers f m others agree same)
