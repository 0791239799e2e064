-- Requests of bytes, and one more.
use Rattle.std.proofs.Common.{ℕ, List, [], ◌∷◌, ◌++◌, All}
use Rattle.std.proofs.lemmas.List.Elements.{All-push}
use Rattle.bfs_model.specs.Server.Stored.{AreBytes}

pub and_one_more : (requests : List (List ℕ)) (request : List ℕ) → All AreBytes requests → AreBytes request → All AreBytes (requests ++ request ∷ [])
and_one_more = All-push AreBytes
