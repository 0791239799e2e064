-- The further groups of a caller in 16 places: so many, and zeros behind them.
use Rattle.std.proofs.Common.{◌≡◌, ℕ, ◌+◌, ◌-◌, ◌<◌, ◌≤◌, List, [], ◌∷◌, ◌++◌, length, take, drop, replicate, refl, sym, ap, ◌∙◌, arith}
use Rattle.std.proofs.lemmas.List.{take-append-drop, length-take-le}
use Rattle.bfs_types.specs.declared.gids.Gids.TheInside.{Inside}

pub record IsPadded (ids : List ℕ) (count : ℕ) : Type 0 where
  pub all : length ids ≡ 16
  pub few : count ≤ 16
  pub zeros : drop count ids ≡ replicate (16 - count) 0

abbrev pub padded : List ℕ → Inside
padded gids = record { ids = gids ++ replicate (16 - length gids) 0; count = length gids }

-- what is padded is again what it was made of
pub padded_again : (gids : Inside) → IsPadded gids.ids gids.count → padded (take gids.count gids.ids) ≡ gids
padded_again gids is =
    let n : ℕ = gids.count in
    let counted : length (take n gids.ids) ≡ n = length-take-le n gids.ids (omega arith) in
    let same : take n gids.ids ++ replicate (16 - n) 0 ≡ gids.ids = rw (← is.zeros) (take-append-drop n gids.ids) in
    rw counted (ap (λ (ids : List ℕ). record { ids = ids; count = n }) same)
