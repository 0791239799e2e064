-- What is written is read again, and what is read was written so.
use Rattle.std.proofs.Common.{◌≡◌, ℕ, zero, suc, ◌^◌, ◌<◌, ◌≤◌, Bool, true, false, cond, not, ◌&&◌, ltb, eqb, List, [], ◌∷◌, ◌++◌, length, get_or, take, drop, replicate, Result, Ok, Err, refl, sym, ap, subst, ◌∙◌, append_assoc, arith, inl, inr}
use Rattle.std.specs.Int.{Width, w32, w64, byte_len, from_be_bytes, to_be_bytes}
use Rattle.std.proofs.lemmas.Bool.{and_parts, not-false, cases_lt, ltb-false, le-ltb, eqb-true}
use Rattle.std.proofs.lemmas.List.{take_at, drop_at, take-append-drop, length-append, length-take, length-replicate, get_or-take, get_or_past}
use Rattle.std.proofs.lemmas.List.Elements.{All-get_or}
use Rattle.std.proofs.lemmas.Nat.{be_bytes_4, be_bytes_8, from_be_bytes-to_be_bytes_4, from_be_bytes-to_be_bytes_8}
use Rattle.bfs_model.specs.Bytes.Items.{Fault, short, too_long, bad_boolean, bad_padding, ◌>>=◌, padding_of, are_zeros, word_at, hyper_at, boolean_at, bytes_at, fixed_at, opaque_at, word, hyper, boolean, fixed, counted}
use Rattle.bfs_model.specs.Server.Stored.{AreBytes}
use Rattle.bfs_model.specs.Laws.Spelling.{WordIsReadAgain, HyperIsReadAgain, BooleanIsReadAgain, FixedIsReadAgain, OpaqueIsReadAgain, WordWasWritten, HyperWasWritten, BooleanWasWritten, FixedWasWritten, OpaqueWasWritten}

-- Tools -----------------------------------------------------------------------------------------------------------

-- the value of a step that did not fail
pub bind_ok : {A B : Type 0} (r : Result A Fault) (f : A → Result B Fault) (y : B) → (r >>= f) ≡ Ok y → (x : A) × (r ≡ Ok x) × (f x ≡ Ok y)
bind_ok (Ok x) f y e = (x, refl, e)
bind_ok (Err d) f y e = absurd cc

-- a test that did not fail
guard_ok : {A : Type 0} (b : Bool) (d : Fault) (x y : A) → cond b (Err d) (Ok x) ≡ Ok y → (b ≡ false) × (x ≡ y)
guard_ok true d x y e = absurd cc
guard_ok false d x y e = (refl, cc)

abbrev done : {A : Type 0} → A → Result A Fault
done x = Ok x

ok_is : {A : Type 0} (x y : A) → done x ≡ done y → x ≡ y
ok_is x y e = cc

-- every byte of a list is below 256, and so is the 0 that stands for what is past its end
AreBelow : List ℕ → Type 0
AreBelow bytes = (i : ℕ) → get_or bytes i 0 < 256

are_below : (bytes : List ℕ) → AreBytes bytes → AreBelow bytes
unfolding AreBelow
are_below bytes h i =
    elim (cases_lt i (length bytes)) [
      | inl lt ↦ All-get_or (λ byte. byte < 256) bytes i 0 lt h
      | inr le ↦ rw (get_or_past bytes i 0 le) (omega arith)
    ]

take_below : (n : ℕ) (bytes : List ℕ) → AreBelow bytes → AreBelow (take n bytes)
unfolding AreBelow
take_below n bytes h i =
    elim (cases_lt i n) [
      | inl lt ↦ rw (get_or-take n bytes i 0 lt) (h i)
      | inr le ↦ rw (get_or_past (take n bytes) i 0 (omega (arith, length-take n bytes))) (omega arith)
    ]

-- Numbers of a fixed width ------------------------------------------------------------------------------------------

record IsWide (w : Width) (limit : ℕ) : Type 0 where
  len : (n : ℕ) → length (to_be_bytes w n) ≡ byte_len w
  back : (bytes : List ℕ) → length bytes ≡ byte_len w → AreBelow bytes → to_be_bytes w (from_be_bytes w bytes) ≡ bytes
  again : (n : ℕ) → n < limit → from_be_bytes w (to_be_bytes w n) ≡ n
  below : (bytes : List ℕ) → AreBelow bytes → from_be_bytes w bytes < limit

wide32 : IsWide w32 (2 ^ 32)
unfolding AreBelow
wide32 = record {
  len = λ n. refl;
  back = λ bytes len fits. be_bytes_4 bytes _ len fits refl;
  again = λ n lt. from_be_bytes-to_be_bytes_4 n lt;
  below = λ bytes fits. omega (arith, fits 0, fits 1, fits 2, fits 3);
}

wide64 : IsWide w64 (2 ^ 64)
unfolding AreBelow
wide64 = record {
  len = λ n. refl;
  back = λ bytes len fits. be_bytes_8 bytes _ len fits refl;
  again = λ n lt. from_be_bytes-to_be_bytes_8 n lt;
  below = λ bytes fits. omega (arith, fits 0, fits 1, fits 2, fits 3, fits 4, fits 5, fits 6, fits 7);
}

abbrev number_at : Width → List ℕ → Result (ℕ × List ℕ) Fault
number_at w bytes = cond (ltb (length bytes) (byte_len w)) (Err short) (Ok (from_be_bytes w (take (byte_len w) bytes), drop (byte_len w) bytes))

number_again : (w : Width) (limit : ℕ) (wide : IsWide w limit) (n : ℕ) (rest : List ℕ) → n < limit → number_at w (to_be_bytes w n ++ rest) ≡ Ok (n, rest)
number_again w limit wide n rest lt =
    let len = wide.len n in
    let long : ltb (length (to_be_bytes w n ++ rest)) (byte_len w) ≡ false = le-ltb _ _ (omega (arith, length-append (to_be_bytes w n) rest)) in
    rw (long, take_at (to_be_bytes w n) rest (byte_len w) len, drop_at (to_be_bytes w n) rest (byte_len w) len, wide.again n lt) refl

number_written : (w : Width) (limit : ℕ) (wide : IsWide w limit) (bytes : List ℕ) (n : ℕ) (rest : List ℕ) → AreBelow bytes → number_at w bytes ≡ Ok (n, rest) → (bytes ≡ to_be_bytes w n ++ rest) × (n < limit)
number_written w limit wide bytes n rest fits e =
    let g = guard_ok (ltb (length bytes) (byte_len w)) short (from_be_bytes w (take (byte_len w) bytes), drop (byte_len w) bytes) (n, rest) e in
    let long : byte_len w ≤ length bytes = ltb-false _ _ g.0 in
    let n-is : from_be_bytes w (take (byte_len w) bytes) ≡ n = ap (λ (p : ℕ × List ℕ). p.0) g.1 in
    let rest-is : drop (byte_len w) bytes ≡ rest = ap (λ (p : ℕ × List ℕ). p.1) g.1 in
    let front : to_be_bytes w n ≡ take (byte_len w) bytes = rw (← n-is) (wide.back (take (byte_len w) bytes) (omega (arith, length-take (byte_len w) bytes)) (take_below (byte_len w) bytes fits)) in
    (rw (front, ← rest-is) (sym (take-append-drop (byte_len w) bytes)), rw (← n-is) (wide.below (take (byte_len w) bytes) (take_below (byte_len w) bytes fits)))

pub word_again : WordIsReadAgain
unfolding word_at word
word_again n rest lt = number_again w32 (2 ^ 32) wide32 n rest lt

-- bytes read as a word are one
pub word_below : (bytes : List ℕ) → AreBytes bytes → from_be_bytes w32 bytes < 2 ^ 32
word_below bytes fits = wide32.below bytes (are_below bytes fits)

pub word_written : WordWasWritten
unfolding word_at word
word_written bytes n rest fits e = number_written w32 (2 ^ 32) wide32 bytes n rest (are_below bytes fits) e

pub hyper_again : HyperIsReadAgain
unfolding hyper_at hyper
hyper_again n rest lt = number_again w64 (2 ^ 64) wide64 n rest lt

pub hyper_written : HyperWasWritten
unfolding hyper_at hyper
hyper_written bytes n rest fits e = number_written w64 (2 ^ 64) wide64 bytes n rest (are_below bytes fits) e

-- Booleans ----------------------------------------------------------------------------------------------------------

pub boolean_again : BooleanIsReadAgain
unfolding boolean_at boolean
boolean_again true rest = rw (word_again 1 rest (omega arith)) refl
boolean_again false rest = rw (word_again 0 rest (omega arith)) refl

-- what the two tests of a word give
abbrev boolean_from : (is_zero is_one : Bool) → List ℕ → Result (Bool × List ℕ) Fault
boolean_from is_zero is_one after = cond is_zero (Ok (false, after)) (cond is_one (Ok (true, after)) (Err bad_boolean))

-- which of the two was passed
passed : (is_zero is_one b : Bool) (after rest : List ℕ) → boolean_from is_zero is_one after ≡ Ok (b, rest) → (cond b is_one is_zero ≡ true) × (after ≡ rest)
passed true one true after rest e = absurd (cc (ap (λ (p : Bool × List ℕ). p.0) (ok_is (false, after) (true, rest) e)))
passed true one false after rest e = (refl, ap (λ (p : Bool × List ℕ). p.1) (ok_is (false, after) (false, rest) e))
passed false true true after rest e = (refl, ap (λ (p : Bool × List ℕ). p.1) (ok_is (true, after) (true, rest) e))
passed false true false after rest e = absurd (cc (ap (λ (p : Bool × List ℕ). p.0) (ok_is (true, after) (false, rest) e)))
passed false false b after rest e = absurd cc

boolean_is : (n : ℕ) (b : Bool) → cond b (eqb n 1) (eqb n 0) ≡ true → n ≡ cond b 1 0
boolean_is n true e = eqb-true n 1 e
boolean_is n false e = eqb-true n 0 e

pub boolean_written : BooleanWasWritten
unfolding boolean_at boolean
boolean_written bytes b rest fits e =
    let read = bind_ok (word_at bytes) (λ w. boolean_from (eqb w.0 0) (eqb w.0 1) w.1) (b, rest) e in
    let n = read.0.0 in
    let after = read.0.1 in
    let written = word_written bytes n after fits read.1 in
    let tests = passed (eqb n 0) (eqb n 1) b after rest read.2 in
    written.0 ∙ ap (λ k. word k ++ after) (boolean_is n b tests.0) ∙ ap (λ r. word (cond b 1 0) ++ r) tests.1

-- Opaque data -------------------------------------------------------------------------------------------------------

are_zeros-replicate : (n : ℕ) → are_zeros (replicate n 0) ≡ true
are_zeros-replicate zero = refl
are_zeros-replicate (suc n) = are_zeros-replicate n

zeros_are : (bytes : List ℕ) → are_zeros bytes ≡ true → bytes ≡ replicate (length bytes) 0
zeros_are [] e = refl
zeros_are (b ∷ bytes) e =
    let parts = and_parts (eqb b 0) (are_zeros bytes) e in
    ap (λ x. x ∷ bytes) (eqb-true b 0 parts.0) ∙ ap (λ xs. 0 ∷ xs) (zeros_are bytes parts.1)

bytes_again : (n : ℕ) (item rest : List ℕ) → length item ≡ n → bytes_at n (item ++ rest) ≡ Ok (item, rest)
unfolding bytes_at
bytes_again n item rest len =
    let long : ltb (length (item ++ rest)) n ≡ false = le-ltb _ _ (omega (arith, length-append item rest)) in
    rw (long, take_at item rest n len, drop_at item rest n len) refl

bytes_written : (n : ℕ) (bytes item rest : List ℕ) → bytes_at n bytes ≡ Ok (item, rest) → (bytes ≡ item ++ rest) × (length item ≡ n)
unfolding bytes_at
bytes_written n bytes item rest e =
    let g = guard_ok (ltb (length bytes) n) short (take n bytes, drop n bytes) (item, rest) e in
    let long : n ≤ length bytes = ltb-false _ _ g.0 in
    let item-is : take n bytes ≡ item = ap (λ (p : List ℕ × List ℕ). p.0) g.1 in
    let rest-is : drop n bytes ≡ rest = ap (λ (p : List ℕ × List ℕ). p.1) g.1 in
    (rw (← item-is, ← rest-is) (sym (take-append-drop n bytes)), rw (← item-is) (omega (arith, length-take n bytes)))

-- padding of zeros is never refused
accepted : (strict : Bool) (zeros : List ℕ) (x : List ℕ × List ℕ) → are_zeros zeros ≡ true → cond (strict && not (are_zeros zeros)) (Err bad_padding) (Ok x) ≡ Ok x
accepted true zeros x e = rw e refl
accepted false zeros x e = refl

pub fixed_again : FixedIsReadAgain
unfolding fixed_at fixed
fixed_again strict item rest =
    let n = padding_of (length item) in
    let zeros : List ℕ = replicate n 0 in
    rw (append_assoc item zeros rest, bytes_again (length item) item (zeros ++ rest) refl, bytes_again n zeros rest (length-replicate n 0)) (accepted strict zeros (item, rest) (are_zeros-replicate n))

pub fixed_written : FixedWasWritten
unfolding fixed_at fixed
fixed_written count bytes item rest e =
    let a = bind_ok (bytes_at count bytes) (λ front. bytes_at (padding_of count) front.1 >>= λ padding. cond (not (are_zeros padding.0)) (Err bad_padding) (Ok (front.0, padding.1))) (item, rest) e in
    let b = bind_ok (bytes_at (padding_of count) a.0.1) (λ padding. cond (not (are_zeros padding.0)) (Err bad_padding) (Ok (a.0.0, padding.1))) (item, rest) a.2 in
    let g = guard_ok (not (are_zeros b.0.0)) bad_padding (a.0.0, b.0.1) (item, rest) b.2 in
    let front = bytes_written count bytes a.0.0 a.0.1 a.1 in
    let padding = bytes_written (padding_of count) a.0.1 b.0.0 b.0.1 b.1 in
    let zeros : b.0.0 ≡ replicate (padding_of (length a.0.0)) 0 = zeros_are b.0.0 (not-false _ g.0) ∙ ap (λ k. replicate k 0) (padding.1 ∙ ap padding_of (sym front.1)) in
    let whole : bytes ≡ fixed a.0.0 ++ b.0.1 = front.0 ∙ ap (λ t. a.0.0 ++ t) (padding.0 ∙ ap (λ z. z ++ b.0.1) zeros) ∙ sym (append_assoc a.0.0 (replicate (padding_of (length a.0.0)) 0) b.0.1) in
    subst (λ (p : List ℕ × List ℕ). (bytes ≡ fixed p.0 ++ p.1) × (length p.0 ≡ count)) g.1 (whole, front.1)

-- a test that did not fail, before a step
pub guard_then : {A : Type 0} (b : Bool) (d : Fault) (r : Result A Fault) (y : A) → cond b (Err d) r ≡ Ok y → (b ≡ false) × (r ≡ Ok y)
guard_then true d r y e = absurd cc
guard_then false d r y e = (refl, e)

pub opaque_again : OpaqueIsReadAgain
unfolding opaque_at counted
opaque_again strict max item rest most lt =
    let allowed : ltb max (length item) ≡ false = le-ltb _ _ most in
    rw (append_assoc (word (length item)) (fixed item) rest, word_again (length item) (fixed item ++ rest) lt, allowed) (fixed_again strict item rest)

pub opaque_written : OpaqueWasWritten
unfolding opaque_at counted
opaque_written max bytes item rest fits e =
    let read = bind_ok (word_at bytes) (λ count. cond (ltb max count.0) (Err too_long) (fixed_at true count.0 count.1)) (item, rest) e in
    let n = read.0.0 in
    let after = read.0.1 in
    let front = word_written bytes n after fits read.1 in
    let g = guard_then (ltb max n) too_long (fixed_at true n after) (item, rest) read.2 in
    let back = fixed_written n after item rest g.1 in
    let most : n ≤ max = ltb-false _ _ g.0 in
    (front.0 ∙ ap (λ r. word n ++ r) back.0 ∙ ap (λ k. word k ++ (fixed item ++ rest)) (sym back.1) ∙ sym (append_assoc (word (length item)) (fixed item) rest), omega (arith, back.1))
