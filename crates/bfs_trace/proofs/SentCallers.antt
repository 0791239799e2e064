-- What lines name as callers fits a credential.
use Rattle.std.proofs.Common.{◌≡◌, ℕ, zero, suc, ◌≤◌, Bool, cond, true, false, nat_lt, List, [], ◌∷◌, length, Some, None, IfSome, refl, subst, arith}
use Rattle.std.specs.Prelude.{All}
use Rattle.bfs_model.specs.Server.Stored.{IsWord}
use Rattle.bfs_trace.specs.Callers.{credential_spelled, gids_in, gids_spelled, most_gids}
use Rattle.bfs_trace.specs.Laws.SentCalls.{CallersFit, FitsCredential}
use Rattle.bfs_trace.specs.Operands.{most_number, number_in}
use Rattle.bfs_trace.specs.Words.{number_spelled}
use Rattle.bfs_trace.proofs.SpelledCalls.{WordFirst, bound, digits_fit, number_in_fits}

none_fit : All IsWord []
none_fit k d lt = absurd (omega (arith, lt))

one_more : (gid : ℕ) (gids : List ℕ) → IsWord gid → All IsWord gids → All IsWord (gid ∷ gids)
one_more gid gids is are zero d lt = is
one_more gid gids is are (suc k) d lt = are k d (omega (arith, lt))

gids_fit : (words : List (List ℕ)) → IfSome (gids_spelled words) (All IsWord)
unfolding gids_spelled
gids_fit [] = none_fit
gids_fit (word ∷ words) =
    bound (λ n. n ≤ most_number) (All IsWord) (number_spelled most_number word) _ (digits_fit 10 most_number word) (λ gid le.
    bound (All IsWord) (All IsWord) (gids_spelled words) _ (gids_fit words) (λ more are. one_more gid more (omega (arith, le)) are))

abbrev AreFewWords : List ℕ → Type 0
AreFewWords gids = All IsWord gids × (length gids ≤ most_gids)

few_or_none : (many : Bool) (gids : List ℕ) → nat_lt most_gids (length gids) ≡ many → All IsWord gids → IfSome (cond many None (Some gids)) AreFewWords
few_or_none true gids is are = tt
few_or_none false gids is are = (are, grind (arith, is))

gids_in_fit : (words : List (List ℕ)) → IfSome (gids_in words) AreFewWords
gids_in_fit words =
    bound (All IsWord) AreFewWords (gids_spelled words) _ (gids_fit words) (λ gids are. few_or_none (nat_lt most_gids (length gids)) gids refl are)

credential_fits : (words : List (List ℕ)) → IfSome (credential_spelled words) (λ caller. FitsCredential caller)
credential_fits words =
    bound WordFirst (λ caller. FitsCredential caller) (number_in words) _ (number_in_fits words) (λ uid uid_is.
    bound WordFirst (λ caller. FitsCredential caller) (number_in uid.1) _ (number_in_fits uid.1) (λ gid gid_is.
    bound AreFewWords (λ caller. FitsCredential caller) (gids_in gid.1) _ (gids_in_fit gid.1) (λ gids are.
    record { storable = record { uid = uid_is; gid = gid_is; gids = are.0 }; few = are.1 })))

pub callers_fit : CallersFit
callers_fit = record {
  first = λ client lt. record { storable = record { uid = omega (arith, lt); gid = omega arith; gids = none_fit }; few = omega arith };
  spelled = λ words caller is. subst (λ o. IfSome o (λ one. FitsCredential one)) is (credential_fits words);
}
