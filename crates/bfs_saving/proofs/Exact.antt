-- Items are read just where they were written.
use Rattle.std.proofs.Common.{◌≡◌, ℕ, ◌<◌, ◌≤◌, ◌^◌, Bool, true, false, cond, ltb, List, [], ◌++◌, length, take, drop, Option, Some, None, refl, sym, ap, subst, ◌∙◌, append_assoc, length-append, arith}
use Rattle.std.specs.List.{flat_map, AllByRecursion}
use Rattle.std.proofs.lemmas.Bool.{ltb-false, le-ltb}
use Rattle.std.proofs.lemmas.List.{drop_at, length-take-le, take_at, take-append-drop}
use Rattle.std.proofs.lemmas.List.Elements.{All-drop, All-take}
use Rattle.bfs_model.specs.Bytes.Call.{◌>>=◌}
use Rattle.bfs_model.specs.Bytes.Formats.{Reading, as_from, hyper_from, items_from}
use Rattle.bfs_model.specs.Bytes.Items.{boolean, hyper}
use Rattle.bfs_model.specs.Server.Stored.{AreBytes, IsByte, IsDouble}
use Rattle.bfs_model.proofs.Public.{IsExact, as_exact, boolean_exact, chosen, go_on, hyper_exact, items_again, items_written, some_is, went_on}
use Rattle.bfs_saving.specs.Items.{FitMany, FitsOptional, long_from, long_text, made_from, many_from, many_text, optional_from, optional_text}

-- Bytes --------------------------------------------------------------------------------------------------------------

pub long_again : (bytes rest : List ℕ) → IsDouble (length bytes) → long_from (long_text bytes ++ rest) ≡ Some (bytes, rest)
unfolding long_from
long_again bytes rest fits =
    let le : length bytes ≤ length (bytes ++ rest) = omega (arith, length-append bytes rest) in
    ap long_from (append_assoc (hyper (length bytes)) bytes rest)
    ∙ go_on hyper_exact _ (length bytes) (bytes ++ rest) fits
    ∙ ap (λ b. cond b None (Some (take (length bytes) (bytes ++ rest), drop (length bytes) (bytes ++ rest)))) (le-ltb (length (bytes ++ rest)) (length bytes) le)
    ∙ ap (λ t. Some (t, drop (length bytes) (bytes ++ rest))) (take_at bytes rest (length bytes) refl)
    ∙ ap (λ t. Some (bytes, t)) (drop_at bytes rest (length bytes) refl)

pub record WasLong (bytes item rest : List ℕ) : Type 0 where
  pub spelled : bytes ≡ long_text item ++ rest
  pub double : IsDouble (length item)
  pub item_bytes : AreBytes item
  pub rest_bytes : AreBytes rest

taken : (b : Bool) (x y : List ℕ × List ℕ) → cond b None (Some x) ≡ Some y → (b ≡ false) × (x ≡ y)
taken true x y e = absurd cc
taken false x y e = (refl, cc)

pub long_written : (bytes item rest : List ℕ) → AreBytes bytes → long_from bytes ≡ Some (item, rest) → WasLong bytes item rest
unfolding long_from
long_written bytes item rest fits e =
    went_on hyper_exact _ (item, rest) bytes fits e (λ count r1 e1 f1 b1 n1.
    let g = taken (ltb (length r1) count) (take count r1, drop count r1) (item, rest) n1 in
    let le : count ≤ length r1 = ltb-false (length r1) count g.0 in
    let same : length (take count r1) ≡ count = length-take-le count r1 le in
    let whole : bytes ≡ long_text (take count r1) ++ drop count r1 =
    e1 ∙ ap (λ r. hyper count ++ r) (sym (take-append-drop count r1))
    ∙ ap (λ n. hyper n ++ (take count r1 ++ drop count r1)) (sym same)
    ∙ sym (append_assoc (hyper (length (take count r1))) (take count r1) (drop count r1)) in
    subst (λ (p : List ℕ × List ℕ). WasLong bytes p.0 p.1) g.1
    (record { spelled = whole; double = subst IsDouble (sym same) f1; item_bytes = All-take IsByte count r1 b1; rest_bytes = All-drop IsByte count r1 b1 }))

-- bytes, of which more is not known
pub bytes_exact : IsExact long_text (λ bytes. IsDouble (length bytes) × AreBytes bytes) long_from
bytes_exact = record {
  again = λ bytes rest fits. long_again bytes rest fits.0;
  written = λ bytes item rest fits e. let h = long_written bytes item rest fits e in (h.spelled, (h.double, h.item_bytes), h.rest_bytes);
}

-- Lists --------------------------------------------------------------------------------------------------------------

pub many_exact : {A : Type 0} {text : A → List ℕ} {Fits : A → Type 0} {from : List ℕ → Reading A} → IsExact text Fits from → IsExact (many_text text) (FitMany Fits) (many_from from)
unfolding many_from
many_exact {A} {text} {Fits} {from} exact = record {
  again = λ xs rest fits.
      ap (λ t. hyper_from t >>= λ n. items_from from n.0 n.1) (append_assoc (hyper (length xs)) (flat_map text xs) rest)
      ∙ go_on hyper_exact (λ n. items_from from n.0 n.1) (length xs) (flat_map text xs ++ rest) fits.0
      ∙ items_again exact xs rest fits.1;
  written = λ bytes xs rest fits e.
      went_on hyper_exact (λ n. items_from from n.0 n.1) (xs, rest) bytes fits e (λ n r1 e1 f1 b1 n1.
      let h = items_written exact n r1 xs rest b1 n1 in
      let whole : bytes ≡ (hyper (length xs) ++ flat_map text xs) ++ rest = e1 ∙ ap (λ r. hyper n ++ r) h.0 ∙ ap (λ k. hyper k ++ (flat_map text xs ++ rest)) (sym h.1) ∙ sym (append_assoc (hyper (length xs)) (flat_map text xs) rest) in
      (whole, (subst IsDouble (sym h.1) f1, h.2), h.3));
}

-- One or none --------------------------------------------------------------------------------------------------------

pub optional_exact : {A : Type 0} {text : A → List ℕ} {Fits : A → Type 0} {from : List ℕ → Reading A} → IsExact text Fits from → IsExact (optional_text text) (FitsOptional Fits) (optional_from from)
unfolding optional_from
optional_exact {A} {text} {Fits} {from} exact = record { again = again; written = written }
  where
    some : List ℕ → Reading (Option A)
    some bytes = as_from (λ item. Some item) from bytes

    again : (o : Option A) (rest : List ℕ) → FitsOptional Fits o → optional_from from (optional_text text o ++ rest) ≡ Some (o, rest)
    again None rest fits = go_on boolean_exact _ false rest tt
    again (Some x) rest fits =
        ap (λ t. optional_from from t) (append_assoc (boolean true) (text x) rest)
        ∙ go_on boolean_exact _ true (text x ++ rest) tt
        ∙ go_on exact _ x rest fits

    by : (there : Bool) (bytes r1 : List ℕ) (o : Option A) (rest : List ℕ) → bytes ≡ boolean there ++ r1 → AreBytes r1 → cond there (some r1) (Some (None, r1)) ≡ Some (o, rest)
        → (bytes ≡ optional_text text o ++ rest) × FitsOptional Fits o × AreBytes rest
    by true bytes r1 o rest e1 b1 n1 =
        went_on exact _ (o, rest) r1 b1 n1 (λ x r2 e2 f2 b2 n2.
        let whole : bytes ≡ (boolean true ++ text x) ++ r2 = e1 ∙ ap (λ r. boolean true ++ r) e2 ∙ sym (append_assoc (boolean true) (text x) r2) in
        subst (λ (p : Option A × List ℕ). (bytes ≡ optional_text text p.0 ++ p.1) × FitsOptional Fits p.0 × AreBytes p.1) (some_is (Some x, r2) (o, rest) n2) (whole, f2, b2))
    by false bytes r1 o rest e1 b1 n1 =
        subst (λ (p : Option A × List ℕ). (bytes ≡ optional_text text p.0 ++ p.1) × FitsOptional Fits p.0 × AreBytes p.1) (some_is (None, r1) (o, rest) n1) (e1, tt, b1)

    written : (bytes : List ℕ) (o : Option A) (rest : List ℕ) → AreBytes bytes → optional_from from bytes ≡ Some (o, rest) → (bytes ≡ optional_text text o ++ rest) × FitsOptional Fits o × AreBytes rest
    written bytes o rest fits e = went_on boolean_exact _ (o, rest) bytes fits e (λ there r1 e1 f1 b1 n1. by there bytes r1 o rest e1 b1 n1)

-- What is made of what was read --------------------------------------------------------------------------------------

-- of one thing each
pub made_exact : {A B : Type 0} {text : A → List ℕ} {Fits : A → Type 0} {from : List ℕ → Reading A} (to : A → Option B) (back : B → A)
    → ((b : B) → to (back b) ≡ Some b) → ((a : A) (b : B) → to a ≡ Some b → a ≡ back b) → IsExact text Fits from
    → IsExact (λ b. text (back b)) (λ b. Fits (back b)) (made_from to from)
made_exact {A} {B} {text} {Fits} to back there only exact = record {
  again = λ b rest fits. go_on exact _ (back b) rest fits ∙ ap (λ o. o >>= λ made. Some (made, rest)) (there b);
  written = λ bytes b rest fits e.
      went_on exact _ (b, rest) bytes fits e (λ a r1 e1 f1 b1 n1.
      chosen (to a) _ (b, rest) n1 (λ made is n2.
      subst (λ (p : B × List ℕ). (bytes ≡ text (back p.0) ++ p.1) × Fits (back p.0) × AreBytes p.1) (some_is (made, r1) (b, rest) n2)
      (e1 ∙ ap (λ x. text x ++ r1) (only a made is), subst Fits (only a made is) f1, b1)));
}
