-- What is read of data behind their length is no longer than allowed.
use Rattle.std.proofs.Common.{◌≡◌, ℕ, ◌≤◌, Bool, cond, not, ◌&&◌, ltb, List, length, take, drop, Result, Ok, Err, ap, arith}
use Rattle.std.proofs.lemmas.Bool.{ltb-false}
use Rattle.std.proofs.lemmas.List.{length-take}
use Rattle.bfs_model.specs.Bytes.Items.{Fault, short, too_long, bad_padding, ◌>>=◌, padding_of, are_zeros, word_at, bytes_at, fixed_at, opaque_at}
use Rattle.bfs_model.proofs.Public.{bind_ok, guard_then}

abbrev read_as : List ℕ × List ℕ → Result (List ℕ × List ℕ) Fault
read_as x = Ok x

items_same : (x y : List ℕ × List ℕ) → read_as x ≡ read_as y → x.0 ≡ y.0
items_same x y e = let same : x ≡ y = cc in ap (λ (r : List ℕ × List ℕ). r.0) same

bytes_within : (count : ℕ) (bytes item rest : List ℕ) → bytes_at count bytes ≡ Ok (item, rest) → length item ≤ count
unfolding bytes_at
bytes_within count bytes item rest e =
    let test = guard_then (ltb (length bytes) count) short (Ok (take count bytes, drop count bytes)) (item, rest) e in
    rw (← items_same (take count bytes, drop count bytes) (item, rest) test.1) (omega (arith, length-take count bytes))

fixed_within : (strict : Bool) (count : ℕ) (bytes item rest : List ℕ) → fixed_at strict count bytes ≡ Ok (item, rest) → length item ≤ count
unfolding fixed_at
fixed_within strict count bytes item rest e =
    let front = bind_ok (bytes_at count bytes) (λ read. bytes_at (padding_of count) read.1 >>= λ padding. cond (strict && not (are_zeros padding.0)) (Err bad_padding) (Ok (read.0, padding.1))) (item, rest) e in
    let back = bind_ok (bytes_at (padding_of count) front.0.1) (λ padding. cond (strict && not (are_zeros padding.0)) (Err bad_padding) (Ok (front.0.0, padding.1))) (item, rest) front.2 in
    let test = guard_then (strict && not (are_zeros back.0.0)) bad_padding (Ok (front.0.0, back.0.1)) (item, rest) back.2 in
    rw (← items_same (front.0.0, back.0.1) (item, rest) test.1) (bytes_within count bytes front.0.0 front.0.1 front.1)

pub opaque_within : (strict : Bool) (max : ℕ) (bytes item rest : List ℕ) → opaque_at strict max bytes ≡ Ok (item, rest) → length item ≤ max
unfolding opaque_at
opaque_within strict max bytes item rest e =
    let front = bind_ok (word_at bytes) (λ count. cond (ltb max count.0) (Err too_long) (fixed_at strict count.0 count.1)) (item, rest) e in
    let test = guard_then (ltb max front.0.0) too_long (fixed_at strict front.0.0 front.0.1) (item, rest) front.2 in
    let most : front.0.0 ≤ max = ltb-false _ _ test.0 in
    let within = fixed_within strict front.0.0 front.0.1 item rest test.1 in
    omega arith
