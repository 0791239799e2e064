-- What was appended to stands in front.
use Rattle.std.proofs.Common.{◌≡◌, ℕ, List, ◌++◌, length, take, drop, Result, Ok, Err, sym, ap, ◌∙◌, append_assoc}
use Rattle.std.proofs.Math.Seq.{take-append_seam, take-length}
use Rattle.std.proofs.lemmas.List.{take-append-drop}
use Rattle.std.specs.Prelude.{OnErr}
use Rattle.bfs_xdr.specs.Sinks.{BeginsWith}

pub begins : (front more bytes : List ℕ) → bytes ≡ front ++ more → BeginsWith front bytes
begins front more bytes is = ap (take (length front)) is ∙ take-append_seam front more

pub begins_itself : (bytes : List ℕ) → BeginsWith bytes bytes
begins_itself bytes = take-length bytes

front_and_rest : (front bytes : List ℕ) → BeginsWith front bytes → bytes ≡ front ++ drop (length front) bytes
front_and_rest front bytes h = sym (take-append-drop (length front) bytes) ∙ ap (λ xs. xs ++ drop (length front) bytes) h

-- what begins with bytes begins with what these begin with
pub begins_through : (front middle bytes : List ℕ) → BeginsWith front middle → BeginsWith middle bytes → BeginsWith front bytes
begins_through front middle bytes h k =
    begins front (drop (length front) middle ++ drop (length middle) bytes) bytes
    (front_and_rest middle bytes k ∙ ap (λ xs. xs ++ drop (length middle) bytes) (front_and_rest front middle h) ∙ append_assoc front (drop (length front) middle) (drop (length middle) bytes))

-- something was appended, and then perhaps more
pub begins_still : (front more middle bytes : List ℕ) → middle ≡ front ++ more → BeginsWith middle bytes → BeginsWith front bytes
begins_still front more middle bytes is h = begins_through front middle bytes (begins front more middle is) h

-- likewise where that was refused
pub still_refused : {A E : Type 0} (result : Result A E) (front more middle bytes : List ℕ) → middle ≡ front ++ more → OnErr result (BeginsWith middle bytes) → OnErr result (BeginsWith front bytes)
still_refused (Ok x) front more middle bytes is refused = tt
still_refused (Err e) front more middle bytes is refused = begins_still front more middle bytes is refused

pub still_begins : {A E : Type 0} (result : Result A E) (front more middle bytes : List ℕ) → middle ≡ front ++ more → BeginsWith middle bytes → OnErr result (BeginsWith front bytes)
still_begins (Ok x) front more middle bytes is h = tt
still_begins (Err e) front more middle bytes is h = begins_still front more middle bytes is h
