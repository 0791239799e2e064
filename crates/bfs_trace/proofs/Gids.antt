-- Callers, one after another, and the groups of one.
use Rattle.std.proofs.Common.{◌≡◌, ℕ, ◌+◌, ◌<◌, ◌≤◌, cond, true, false, nat_lt, List, [], ◌∷◌, ◌++◌, length, length-append, Option, Some, None, option_map, refl, sym, ap, ◌∙◌, append_assoc, append-nil, add-one, arith}
use Rattle.bfs_model.specs.Bytes.Call.{◌>>=◌}
use Rattle.bfs_trace.specs.Callers.{first_caller, first_callers, gids_in, gids_spelled, most_gids}
use Rattle.bfs_trace.specs.Operands.{most_number}
use Rattle.bfs_trace.specs.Words.{number_spelled}

-- First callers ----------------------------------------------------------------------------------------------------------

pub no_callers : first_callers 0 ≡ []
unfolding first_callers
no_callers = refl

pub one_more_caller : (clients : ℕ) → first_callers (clients + 1) ≡ first_callers clients ++ first_caller clients ∷ []
unfolding first_callers
one_more_caller clients = rw add-one refl

pub ruleset first_steps = (no_callers, one_more_caller)

-- Groups -----------------------------------------------------------------------------------------------------------------

-- groups that were read, with those that the words which are left spell
unfoldable pub gids_after : (front : List ℕ) → List (List ℕ) → Option (List ℕ)
gids_after front words = option_map (λ more. front ++ more) (gids_spelled words)

pub begun : (words : List (List ℕ)) → gids_after [] words ≡ gids_spelled words
unfolding gids_after
begun words = same (gids_spelled words)
  where
    same : (o : Option (List ℕ)) → option_map (λ more. [] ++ more) o ≡ o
    same None = refl
    same (Some more) = refl

pub went_on : (front : List ℕ) (word : List ℕ) (words : List (List ℕ)) (gid : ℕ) → number_spelled most_number word ≡ Some gid
    → gids_after (front ++ gid ∷ []) words ≡ gids_after front (word ∷ words)
unfolding gids_after gids_spelled
went_on front word words gid is = rw is (moved (gids_spelled words))
  where
    moved : (o : Option (List ℕ)) → option_map (λ more. (front ++ gid ∷ []) ++ more) o ≡ option_map (λ more. front ++ more) (o >>= (λ more. Some (gid ∷ more)))
    moved None = refl
    moved (Some more) = ap (λ gids. Some gids) (append_assoc front (gid ∷ []) more)

-- one more is read
pub preserved : (all left words : List (List ℕ)) (front more : List ℕ) (word : List ℕ) (gid : ℕ) → gids_after front left ≡ gids_spelled all → left ≡ word ∷ words
    → number_spelled most_number word ≡ Some gid → more ≡ front ++ gid ∷ [] → length front < most_gids → (gids_after more words ≡ gids_spelled all) × (length more ≤ most_gids)
preserved all left words front more word gid is at number pushed room =
    (rw pushed (went_on front word words gid number ∙ ap (gids_after front) (sym at) ∙ is), rw pushed (omega (arith, length-append front (gid ∷ []), room)))

-- all are read
pub ended : (front : List ℕ) (all : List (List ℕ)) → gids_after front [] ≡ gids_spelled all → length front ≤ most_gids → gids_in all ≡ Some front
unfolding gids_after gids_spelled
ended front all is le = rw (← is, append-nil front, fits) refl
  where
    fits : nat_lt most_gids (length front) ≡ false
    fits = grind (arith, le)

-- a word is no number
pub stopped : (front : List ℕ) (word : List ℕ) (words all : List (List ℕ)) → gids_after front (word ∷ words) ≡ gids_spelled all → number_spelled most_number word ≡ None
    → gids_in all ≡ None
unfolding gids_after gids_spelled
stopped front word words all is none = rw (← is, none) refl

-- one more than there may be
pub too_many : (front : List ℕ) (word : List ℕ) (words all : List (List ℕ)) (gid : ℕ) → gids_after front (word ∷ words) ≡ gids_spelled all → number_spelled most_number word ≡ Some gid
    → length front ≡ most_gids → gids_in all ≡ None
unfolding gids_after gids_spelled
too_many front word words all gid is number full = rw (← is, number) (none (gids_spelled words))
  where
    above : (more : List ℕ) → nat_lt most_gids (length (front ++ gid ∷ more)) ≡ true
    above more = grind (arith, length-append front (gid ∷ more), full)

    none : (o : Option (List ℕ)) → (option_map (λ more. front ++ more) (o >>= (λ more. Some (gid ∷ more))) >>= (λ gids. cond (nat_lt most_gids (length gids)) None (Some gids))) ≡ None
    none None = refl
    none (Some more) = rw (above more) refl

pub ruleset gids_steps = (begun, went_on, ended, stopped, too_many)
