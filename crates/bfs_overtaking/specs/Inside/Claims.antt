-- The claims by which a later call finds those that hold it back.
use Rattle.std.specs.Prelude.{◌≡◌, ℕ, zero, suc, Bool, true, false, not, ◌&&◌, ◌||◌, ◌==◌, List, [], ◌∷◌, map, Option, Some, None, nat_eq, if◌then◌else◌}
use Rattle.std.specs.BTreeSet.{BTreeSet, contains}
use Rattle.std.specs.List.{list_any}
use Rattle.std.specs.Option.{option_cmp, option_eq}
use Rattle.std.specs.Ordering.{nat_cmp, ordering_then}
use Rattle.std.specs.declared.cmp.Ordering.{Ordering}
use Rattle.bfs_model.specs.Server.Conflicts.{is_whole}
use Rattle.bfs_model.specs.Server.Events.{waiting, is_done}
use Rattle.bfs_model.specs.Server.Footprints.{Footprint}
use Rattle.bfs_levels.specs.Marking.{names_touched, names_written}
use Rattle.bfs_overtaking.specs.Machine.{Standing}
use Rattle.bfs_overtaking.specs.declared.claims.Claims.{Claims}

-- Claims ---------------------------------------------------------------------------------------------------------------

-- a claim is on the inode of a fileid, or on all inodes as one; with it stands the place of its call
abbrev pub claim_cmp : Option ℕ × ℕ → Option ℕ × ℕ → Ordering
claim_cmp claim other = ordering_then (option_cmp nat_cmp claim.0 other.0) (nat_cmp claim.1 other.1)

abbrev pub is_claim : (on : Option ℕ) (place : ℕ) → (other : Option ℕ) (k : ℕ) → Bool
is_claim on place other k = option_eq nat_eq on other && (place == k)

-- one of the claims on these fileids, of that place
abbrev pub is_among_claims : (ids : List ℕ) (place : ℕ) → (other : Option ℕ) (k : ℕ) → Bool
is_among_claims ids place other k = list_any (λ id. is_claim (Some id) place other k) ids

-- every call touches all inodes as one, and one that may touch any inode writes them so
abbrev pub touches_claim : Option ℕ → Footprint → Bool
touches_claim None footprint = true
touches_claim (Some id) footprint = names_touched footprint id

abbrev pub writes_claim : Option ℕ → Footprint → Bool
writes_claim None footprint = is_whole footprint
writes_claim (Some id) footprint = names_written footprint id

-- the claims that pass the test are put into a set, or taken out of it
abbrev pub Sets : (is_put : Bool) → (test : Option ℕ → ℕ → Bool) → (old new : BTreeSet (Option ℕ × ℕ)) → Type 0
Sets is_put test old new = (on : Option ℕ) (k : ℕ) → contains claim_cmp new (on, k) ≡ (if test on k then is_put else contains claim_cmp old (on, k))

-- and so are those of a call of that place and footprint
pub record AreSet (is_put : Bool) (old new : Claims) (place : ℕ) (footprint : Footprint) : Type 0 where
  pub written : Sets is_put (λ on k. writes_claim on footprint && (place == k)) old.writers new.writers
  pub touched : Sets is_put (λ on k. touches_claim on footprint && (place == k)) old.touchers new.touchers

-- Those of the calls ---------------------------------------------------------------------------------------------------

-- the call of a place is not finished, and passes the test
abbrev pub is_open : (Footprint → Bool) → List Standing → (place : ℕ) → Bool
is_open test [] place = false
is_open test (standing ∷ standings) zero = not (is_done standing.slot) && test standing.footprint
is_open test (standing ∷ standings) (suc place) = is_open test standings place

-- the claims are those of the calls that are not finished
pub record AreClaimed (claims : Claims) (standings : List Standing) : Type 0 where
  pub written : (on : Option ℕ) (place : ℕ) → contains claim_cmp claims.writers (on, place) ≡ is_open (writes_claim on) standings place
  pub touched : (on : Option ℕ) (place : ℕ) → contains claim_cmp claims.touchers (on, place) ≡ is_open (touches_claim on) standings place

-- calls of these footprints, before the first is taken
abbrev pub all_wait : List Footprint → List Standing
all_wait footprints = map (λ footprint. record { footprint = footprint; slot = waiting }) footprints

-- Before a place -------------------------------------------------------------------------------------------------------

-- a number below n passes the test
abbrev pub any_below : (ℕ → Bool) → (n : ℕ) → Bool
any_below test zero = false
any_below test (suc n) = test 0 || any_below (λ k. test (suc k)) n

-- a call of an earlier place has that claim
abbrev pub is_before : BTreeSet (Option ℕ × ℕ) → (on : Option ℕ) → (place : ℕ) → Bool
is_before claims on place = any_below (λ k. contains claim_cmp claims (on, k)) place

abbrev pub any_before : BTreeSet (Option ℕ × ℕ) → (ids : List ℕ) → (place : ℕ) → Bool
any_before claims ids place = list_any (λ id. is_before claims (Some id) place) ids

-- a call of an earlier place writes all inodes as one, or one of these fileids
abbrev pub is_written_before : Claims → (ids : List ℕ) → (place : ℕ) → Bool
is_written_before claims ids place = is_before claims.writers None place || any_before claims.writers ids place
