-- A text only grows: where a request has no room for its front, it has none for it.
use Rattle.std.proofs.Common.{ℕ, ◌<◌, Bool, true, false, cond, List, [], ◌∷◌, ◌++◌, length, length-append, Option, Some, None, arith}
use Rattle.std.specs.Prelude.{IfSome}
use Rattle.bfs_model.specs.Bytes.Call.{◌>>=◌}
use Rattle.bfs_model.specs.Server.Limits.{most_request_bytes}
use Rattle.bfs_trace.specs.Texts.{are_printable, escape_spelled, text_after, text_in_parts}

abbrev pub IsTooLong : List ℕ → Type 0
IsTooLong text = most_request_bytes < length text

-- whatever parts follow
pub front_too_long : (text : List ℕ) (parts : List (List ℕ)) → IsTooLong text → IfSome (text_after text parts) IsTooLong
unfolding text_after
front_too_long text [] long = long
front_too_long text (part ∷ parts) long = go (escape_spelled part) (λ more. front_too_long (text ++ more) parts (omega (arith, long, length-append text more)))
  where
    go : (bytes : Option (List ℕ)) → ((more : List ℕ) → IfSome (text_after (text ++ more) parts) IsTooLong) → IfSome (bytes >>= λ more. text_after (text ++ more) parts) IsTooLong
    go None all = tt
    go (Some more) all = all more

-- with one part more
pub part_too_long : (text part : List ℕ) (parts : List (List ℕ)) → IfSome (escape_spelled part) (λ more. IsTooLong (text ++ more)) → IfSome (text_after text (part ∷ parts)) IsTooLong
unfolding text_after
part_too_long text part parts long = go (escape_spelled part) long
  where
    go : (bytes : Option (List ℕ)) → IfSome bytes (λ more. IsTooLong (text ++ more)) → IfSome (bytes >>= λ more. text_after (text ++ more) parts) IsTooLong
    go None long = tt
    go (Some more) long = front_too_long (text ++ more) parts long

-- with the first part
pub begun_too_long : (plain : List ℕ) (parts : List (List ℕ)) → IsTooLong plain → IfSome (text_in_parts (plain ∷ parts)) IsTooLong
begun_too_long plain parts long = go (are_printable plain)
  where
    go : (printable : Bool) → IfSome (cond printable (text_after plain parts) None) IsTooLong
    go true = front_too_long plain parts long
    go false = tt
