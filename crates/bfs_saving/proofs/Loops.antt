-- Loops that read so many things, and items whose length is known.
use Rattle.std.proofs.Common.{◌≡◌, ℕ, suc, ◌+◌, ◌<◌, true, List, take, length, get_or, Some, None, Ok, ap, subst, ◌∙◌}
use Rattle.std.specs.List.{AllByRecursion}
use Rattle.std.proofs.lemmas.List.Elements.{All-more, All-from_recursion, recursion_from_All}
use Rattle.bfs_model.specs.Bytes.Call.{◌>>=◌}
use Rattle.bfs_model.specs.Bytes.Formats.{Reading, as_from, items_from, then_from}
use Rattle.bfs_model.specs.Bytes.Items.{fixed_at}
use Rattle.bfs_model.proofs.Public.{fixed_written, turn_none, with_front}
use Rattle.bfs_codec.specs.Codes.{Fails}
use Rattle.bfs_codec.specs.declared.error.DecodeError.{DecodeError}
use Rattle.bfs_codec.specs.declared.error.DecodeError.TheVariants.{Malformed, Memory}

pub fails : {A : Type 0} (from : List ℕ → Reading A) (e : DecodeError) (n m : ℕ) (bytes : List ℕ) (front : List A) (all : Reading (List A)) → n ≡ suc m → Fails e (from bytes)
    → with_front front (items_from from n bytes) ≡ all → Fails e all
fails from Malformed n m bytes front all is none so_far = turn_none from n m bytes front all is none so_far
fails from Memory n m bytes front all is none so_far = tt

pub fixed_long : (count : ℕ) (bytes item rest : List ℕ) → fixed_at true count bytes ≡ Ok (item, rest) → length item ≡ count
fixed_long count bytes item rest e = (fixed_written count bytes item rest e).1

-- one more of them
pub all_taken : {A : Type 0} (P : A → Type 0) (xs : List A) (i : ℕ) (x : A) → i < length xs → x ≡ get_or xs i x → AllByRecursion P (take i xs) → P x → AllByRecursion P (take (i + 1) xs)
all_taken P xs i x lt is h p = recursion_from_All P (take (i + 1) xs) (All-more P xs i x lt (All-from_recursion P (take i xs) h) (subst P is p))

-- three things are read, and the last one is not
pub last_fails : {A B C D E : Type 0} (to : ((A × B) × C) × D → E) (first : List ℕ → Reading A) (second : List ℕ → Reading B) (third : List ℕ → Reading C) (last : List ℕ → Reading D)
    (bytes m1 m2 m3 : List ℕ) (a : A) (b : B) (c : C) (e : DecodeError) → first bytes ≡ Some (a, m1) → second m1 ≡ Some (b, m2) → third m2 ≡ Some (c, m3) → Fails e (last m3)
    → Fails e (as_from to (then_from (then_from (then_from first second) third) last) bytes)
last_fails to first second third last bytes m1 m2 m3 a b c Malformed one two three none =
    let both : then_from first second bytes ≡ Some ((a, b), m2) =
    ap (λ o. o >>= λ x. second x.1 >>= λ y. Some ((x.0, y.0), y.1)) one ∙ ap (λ o. o >>= λ y. Some ((a, y.0), y.1)) two in
    let all : then_from (then_from first second) third bytes ≡ Some (((a, b), c), m3) =
    ap (λ o. o >>= λ x. third x.1 >>= λ y. Some ((x.0, y.0), y.1)) both ∙ ap (λ o. o >>= λ y. Some (((a, b), y.0), y.1)) three in
    let last_one : then_from (then_from (then_from first second) third) last bytes ≡ None =
    ap (λ o. o >>= λ x. last x.1 >>= λ y. Some ((x.0, y.0), y.1)) all ∙ ap (λ o. o >>= λ y. Some ((((a, b), c), y.0), y.1)) none in
    ap (λ o. o >>= λ read. Some (to read.0, read.1)) last_one
last_fails to first second third last bytes m1 m2 m3 a b c Memory one two three none = tt
