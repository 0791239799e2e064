-- What is told of all entries of a directory.
use Rattle.std.proofs.Common.{◌≡◌, ℕ, ◌<◌, ◌≤◌, leb, ltb, Bool, true, List, [], ◌∷◌, refl}
use Rattle.std.specs.List.{AllByRecursion, list_all}
use Rattle.std.proofs.lemmas.Bool.{and_parts, and_from, leb-true, le-leb, ltb-true, lt-ltb}
use Rattle.bfs_model.specs.Server.Tree.{Entry, first_ordinal}
use Rattle.bfs_digest.specs.Inside.Formation.{is_cookie}

-- a test of all of a list
pub each_from : {X : Type 0} (test : X → Bool) (P : X → Type 0) → ((x : X) → test x ≡ true → P x) → (xs : List X) → list_all test xs ≡ true → AllByRecursion P xs
each_from test P one [] all = tt
each_from test P one (x ∷ xs) all = let parts = and_parts (test x) (list_all test xs) all in (one x parts.0, each_from test P one xs parts.1)

pub all_from : {X : Type 0} (test : X → Bool) (P : X → Type 0) → ((x : X) → P x → test x ≡ true) → (xs : List X) → AllByRecursion P xs → list_all test xs ≡ true
all_from test P one [] each = refl
all_from test P one (x ∷ xs) each = and_from (test x) (list_all test xs) (one x each.0) (all_from test P one xs each.1)

abbrev IsCookie : (ordinal : ℕ) → Entry → Type 0
IsCookie ordinal entry = (first_ordinal ≤ entry.cookie) × (entry.cookie < ordinal)

pub cookies_from : (ordinal : ℕ) (es : List Entry) → list_all (is_cookie ordinal) es ≡ true → AllByRecursion (IsCookie ordinal) es
cookies_from ordinal es all = each_from (is_cookie ordinal) (IsCookie ordinal) (λ e is. let within = and_parts (leb first_ordinal e.cookie) (ltb e.cookie ordinal) is in (leb-true first_ordinal e.cookie within.0, ltb-true e.cookie ordinal within.1)) es all

pub cookies_of : (ordinal : ℕ) (es : List Entry) → AllByRecursion (IsCookie ordinal) es → list_all (is_cookie ordinal) es ≡ true
cookies_of ordinal es all = all_from (is_cookie ordinal) (IsCookie ordinal) (λ e within. and_from (leb first_ordinal e.cookie) (ltb e.cookie ordinal) (le-leb first_ordinal e.cookie within.0) (lt-ltb e.cookie ordinal within.1)) es all
