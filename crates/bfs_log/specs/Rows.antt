-- Who says what at one place.
use Rattle.std.specs.Prelude.{◌≡◌, ℕ, ◌==◌, Bool, false, ◌&&◌, List, [], ◌∷◌, bytes_eq}
use Rattle.std.specs.List.{list_any}
use Rattle.bfs_log.specs.Batches.{Said}

abbrev pub is_from : (sender : ℕ) → Said → Bool
is_from sender said = said.sender == sender

-- a sender tells that digest
abbrev pub tells : List Said → List ℕ → (sender : ℕ) → Bool
tells row digest sender = list_any (λ said. is_from sender said && bytes_eq said.digest digest) row

-- no two are of one sender
abbrev pub SendersDiffer : List Said → Type 0
SendersDiffer [] = Unit {0}
SendersDiffer (said ∷ row) = (list_any (is_from said.sender) row ≡ false) × SendersDiffer row
