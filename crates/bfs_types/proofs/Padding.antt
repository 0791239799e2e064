-- The further groups of a caller, one more behind them.
use Rattle.std.proofs.Common.{◌≡◌, ℕ, zero, suc, ◌+◌, ◌-◌, ◌<◌, ◌≤◌, List, [], ◌∷◌, ◌++◌, length, take, drop, set, replicate, refl, sym, ap, ◌∙◌, arith, add-one}
use Rattle.std.proofs.lemmas.List.{drop-set-lt, length-set, length-take-le}
use Rattle.std.proofs.Math.Seq.{drop-cons}
use Rattle.bfs_types.specs.Gids.{IsPadded}

behind_zero : (rest : List ℕ) (n first : ℕ) (ids : List ℕ) → drop n ids ≡ first ∷ rest → drop n ids ≡ replicate (16 - n) 0 → n < 16 → rest ≡ replicate (16 - suc n) 0
behind_zero rest n first ids is zeros less =
    let e : 16 - n ≡ suc (16 - suc n) = omega arith in
    let front : replicate {A = ℕ} (16 - n) 0 ≡ 0 ∷ replicate (16 - suc n) 0 = rw e refl in
    cc

pub pushed : (ids : List ℕ) (n gid : ℕ) → IsPadded ids n → length (take n ids) < 16 → IsPadded (set ids n gid) (n + 1)
pushed ids n gid padded room =
    let less : n < 16 = omega (arith, length-take-le n ids (omega arith)) in
    record {
      all = length-set ids n gid ∙ padded.all;
      few = omega arith;
      zeros = rw add-one (drop-set-lt (suc n) ids n gid (omega arith) ∙ behind_zero (drop (suc n) ids) n _ ids (drop-cons ids n 0 (omega arith)) padded.zeros less);
    }
