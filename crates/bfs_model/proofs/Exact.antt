-- Readings that go both ways: what is written is read again, and what is read was written.
use Rattle.std.proofs.Common.{◌≡◌, ℕ, zero, suc, ◌<◌, ◌≤◌, ◌^◌, true, cond, ltb, List, [], ◌∷◌, ◌++◌, length, drop, Option, Some, None, Result, Ok, Err, refl, sym, ap, subst, ◌∙◌, append_assoc, replicate, arith}
use Rattle.std.specs.List.{flat_map, slice_index, AllByRecursion}
use Rattle.std.specs.Result.{result_ok}
use Rattle.std.proofs.lemmas.Bool.{ltb-false}
use Rattle.std.proofs.lemmas.Grind.{get_or_default_zero}
use Rattle.std.proofs.lemmas.List.{drop_at, take_at}
use Rattle.std.proofs.lemmas.List.Elements.{All-drop, All-take}
use Rattle.bfs_model.specs.Bytes.Call.{◌>>=◌}
use Rattle.bfs_model.specs.Bytes.Formats.{Reading, word_from, hyper_from, boolean_from, bytes_from, items_from}
use Rattle.bfs_model.specs.Bytes.Items.{too_long, fixed_at, word, hyper, boolean, counted, fixed, padding_of, word_at, hyper_at, boolean_at, opaque_at}
use Rattle.bfs_model.specs.Server.Stored.{IsWord, IsDouble, IsByte, AreBytes}
use Rattle.bfs_model.proofs.Laws.{word_again, word_written, hyper_again, hyper_written, boolean_again, boolean_written, opaque_again, opaque_written, fixed_written, bind_ok, guard_then}

-- Tools --------------------------------------------------------------------------------------------------------------

pub ok_some : {A F : Type 0} (r : Result A F) (x : A) → result_ok r ≡ Some x → r ≡ Ok x
ok_some (Ok y) x e = cc
ok_some (Err f) x e = absurd cc

pub some_is : {A : Type 0} (x y : A) → ◌≡◌ {A = Option A} (Some x) (Some y) → x ≡ y
some_is x y e = cc

pub behind : (front rest bytes : List ℕ) → AreBytes bytes → bytes ≡ front ++ rest → AreBytes rest
behind front rest bytes fits e = subst AreBytes (ap (drop (length front)) e ∙ drop_at front rest (length front) refl) (All-drop IsByte (length front) bytes fits)

-- what a slice of bytes holds
pub bytes_are : (bytes : List ℕ) → ((k : ℕ) → slice_index bytes k < 256) → AreBytes bytes
bytes_are bytes small k d inside = subst (λ (n : ℕ). n < 256) (sym (get_or_default_zero bytes k d inside)) (small k)

-- Exactness ----------------------------------------------------------------------------------------------------------

pub record IsExact {A : Type 0} (text : A → List ℕ) (Fits : A → Type 0) (from : List ℕ → Reading A) : Type 0 where
  pub again : (x : A) (rest : List ℕ) → Fits x → from (text x ++ rest) ≡ Some (x, rest)
  pub written : (bytes : List ℕ) (x : A) (rest : List ℕ) → AreBytes bytes → from bytes ≡ Some (x, rest) → (bytes ≡ text x ++ rest) × Fits x × AreBytes rest

-- a reading that goes on behind what was written
pub go_on : {A B : Type 0} {text : A → List ℕ} {Fits : A → Type 0} {from : List ℕ → Reading A} → IsExact text Fits from → (f : A × List ℕ → Option B) (x : A) (rest : List ℕ) → Fits x
    → (from (text x ++ rest) >>= f) ≡ f (x, rest)
go_on exact f x rest fits = ap (λ o. o >>= f) (exact.again x rest fits)

-- what a reading that went on had read
pub went_on : {A B : Type 0} {text : A → List ℕ} {Fits : A → Type 0} {from : List ℕ → Reading A} → IsExact text Fits from → {Goal : Type 0} (f : A × List ℕ → Option B) (y : B) (bytes : List ℕ) → AreBytes bytes
    → (from bytes >>= f) ≡ Some y → ((x : A) (rest : List ℕ) → bytes ≡ text x ++ rest → Fits x → AreBytes rest → f (x, rest) ≡ Some y → Goal) → Goal
went_on {from = from} exact {Goal} f y bytes fits e k = go (from bytes) refl e
  where
    go : (o : Option (_ × List ℕ)) → from bytes ≡ o → (o >>= f) ≡ Some y → Goal
    go (Some p) is next = let h = exact.written bytes p.0 p.1 fits is in k p.0 p.1 h.0 h.1 h.2 next
    go None is next = absurd cc

-- what was read where a test did not refuse
pub chosen : {A B : Type 0} {Goal : Type 0} (o : Option A) (f : A → Option B) (y : B) → (o >>= f) ≡ Some y → ((x : A) → o ≡ Some x → f x ≡ Some y → Goal) → Goal
chosen (Some x) f y e k = k x refl e
chosen None f y e k = absurd cc

-- Items --------------------------------------------------------------------------------------------------------------

pub word_exact : IsExact word IsWord word_from
word_exact = record {
  again = λ n rest lt. ap result_ok (word_again n rest lt);
  written = λ bytes n rest fits e.
      let h = word_written bytes n rest fits (ok_some (word_at bytes) (n, rest) e) in
      (h.0, h.1, behind (word n) rest bytes fits h.0);
}

pub hyper_exact : IsExact hyper IsDouble hyper_from
hyper_exact = record {
  again = λ n rest lt. ap result_ok (hyper_again n rest lt);
  written = λ bytes n rest fits e.
      let h = hyper_written bytes n rest fits (ok_some (hyper_at bytes) (n, rest) e) in
      (h.0, h.1, behind (hyper n) rest bytes fits h.0);
}

pub boolean_exact : IsExact boolean (λ b. Unit {0}) boolean_from
boolean_exact = record {
  again = λ b rest fits. ap result_ok (boolean_again b rest);
  written = λ bytes b rest fits e.
      let h = boolean_written bytes b rest fits (ok_some (boolean_at bytes) (b, rest) e) in
      (h, tt, behind (boolean b) rest bytes fits h);
}

abbrev pub IsShort : ℕ → List ℕ → Type 0
IsShort most bytes = length bytes ≤ most

pub short_exact : (most : ℕ) → most < 2 ^ 32 → IsExact counted (IsShort most) (bytes_from most)
short_exact most small = record {
  again = λ item rest short. ap result_ok (opaque_again true most item rest short (omega arith));
  written = λ bytes item rest fits e.
      let h = opaque_written most bytes item rest fits (ok_some (opaque_at true most bytes) (item, rest) e) in
      (h.0, h.1, behind (counted item) rest bytes fits h.0);
}

abbrev pub AreFew : ℕ → List ℕ → Type 0
AreFew most bytes = AreBytes bytes × IsShort most bytes

front : (item rest : List ℕ) → AreBytes (item ++ rest) → AreBytes item
front item rest fits = subst AreBytes (take_at item rest (length item) refl) (All-take IsByte (length item) (item ++ rest) fits)

-- counted data are bytes where their spelling is
bytes_in : (item rest bytes : List ℕ) → AreBytes bytes → bytes ≡ counted item ++ rest → AreBytes item
unfolding counted fixed
bytes_in item rest bytes fits e =
    let padding = replicate (padding_of (length item)) 0 in
    let all : bytes ≡ word (length item) ++ (item ++ (padding ++ rest)) = e ∙ simp append_assoc in
    front item (padding ++ rest) (behind (word (length item)) (item ++ (padding ++ rest)) bytes fits all)

pub bytes_exact : (most : ℕ) → most < 2 ^ 32 → IsExact counted (AreFew most) (bytes_from most)
bytes_exact most small = record {
  again = λ item rest few. (short_exact most small).again item rest few.1;
  written = λ bytes item rest fits e.
      let h = (short_exact most small).written bytes item rest fits e in
      (h.0, (bytes_in item rest bytes fits h.0, h.1), h.2);
}

-- what is read is no longer than it may be
pub short_bytes : (most : ℕ) (bytes item rest : List ℕ) → opaque_at true most bytes ≡ Ok (item, rest) → length item ≤ most
unfolding opaque_at
short_bytes most bytes item rest e =
    let count = bind_ok (word_at bytes) (λ count. cond (ltb most count.0) (Err too_long) (fixed_at true count.0 count.1)) (item, rest) e in
    let read = guard_then (ltb most count.0.0) too_long (fixed_at true count.0.0 count.0.1) (item, rest) count.2 in
    let le : count.0.0 ≤ most = ltb-false most count.0.0 read.0 in
    omega (arith, (fixed_written count.0.0 count.0.1 item rest read.1).1, le)

-- So many things -----------------------------------------------------------------------------------------------------

pub items_again : {A : Type 0} {text : A → List ℕ} {Fits : A → Type 0} {from : List ℕ → Reading A} → IsExact text Fits from → (xs : List A) (rest : List ℕ) → AllByRecursion Fits xs
    → items_from from (length xs) (flat_map text xs ++ rest) ≡ Some (xs, rest)
unfolding items_from
items_again exact [] rest fits = refl
items_again {text = text} {from = from} exact (x ∷ xs) rest fits =
    ap (items_from from (suc (length xs))) (append_assoc (text x) (flat_map text xs) rest)
    ∙ go_on exact _ x (flat_map text xs ++ rest) fits.0
    ∙ ap (λ o. o >>= λ ys. Some (x ∷ ys.0, ys.1)) (items_again exact xs rest fits.1)

abbrev pub ItemsWritten : {A : Type 0} → (A → List ℕ) → (A → Type 0) → (count : ℕ) → List ℕ → List A → List ℕ → Type 0
ItemsWritten text Fits count bytes xs rest = (bytes ≡ flat_map text xs ++ rest) × (length xs ≡ count) × AllByRecursion Fits xs × AreBytes rest

pub items_written : {A : Type 0} {text : A → List ℕ} {Fits : A → Type 0} {from : List ℕ → Reading A} → IsExact text Fits from → (count : ℕ) (bytes : List ℕ) (xs : List A) (rest : List ℕ) → AreBytes bytes
    → items_from from count bytes ≡ Some (xs, rest) → ItemsWritten text Fits count bytes xs rest
unfolding items_from
items_written {A} {text} {Fits} exact zero bytes xs rest fits e =
    subst (λ (p : List A × List ℕ). ItemsWritten text Fits zero bytes p.0 p.1) (some_is ([], bytes) (xs, rest) e) (refl, refl, tt, fits)
items_written {A} {text} {Fits} {from} exact (suc count) bytes xs rest fits e =
    went_on exact _ (xs, rest) bytes fits e (λ x r1 e1 f1 b1 n1.
    chosen (items_from from count r1) _ (xs, rest) n1 (λ more is n2.
    let h = items_written exact count r1 more.0 more.1 b1 is in
    let whole : bytes ≡ (text x ++ flat_map text more.0) ++ more.1 = e1 ∙ ap (λ r. text x ++ r) h.0 ∙ sym (append_assoc (text x) (flat_map text more.0) more.1) in
    subst (λ (p : List A × List ℕ). ItemsWritten text Fits (suc count) bytes p.0 p.1) (some_is (x ∷ more.0, more.1) (xs, rest) n2) (whole, ap suc h.1, (f1, h.2), h.3)))
