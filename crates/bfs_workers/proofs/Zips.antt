-- Two lists, of which the elements at each place go together.
use Rattle.std.proofs.Common.{List, [], ◌∷◌, ◌++◌}
use Rattle.std.specs.List.{AllZip}

pub all_zip_append : {A B : Type 0} (R : A → B → Type 0) (xs us : List A) (ys vs : List B) → AllZip R xs ys → AllZip R us vs → AllZip R (xs ++ us) (ys ++ vs)
all_zip_append R [] us [] vs first second = second
all_zip_append R [] us (y ∷ ys) vs first second = absurd first
all_zip_append R (x ∷ xs) us [] vs first second = absurd first
all_zip_append R (x ∷ xs) us (y ∷ ys) vs first second = (first.0, all_zip_append R xs us ys vs first.1 second)
