-- Whether a request has room for bytes.
use Rattle.std.proofs.Common.{◌≡◌, ℕ, ◌+◌, List, ◌++◌, length, length-append}

pub length_of_both : (front back : List ℕ) → length (front ++ back) ≡ length front + length back
length_of_both front back = length-append front back
