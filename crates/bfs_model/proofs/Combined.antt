-- Readings that are made of others go both ways where those do.
use Rattle.std.proofs.Common.{◌≡◌, ℕ, ◌<◌, ◌≤◌, ◌^◌, Bool, true, false, cond, ltb, List, [], ◌++◌, length, Option, Some, None, refl, sym, ap, subst, ◌∙◌, append_assoc, arith}
use Rattle.std.specs.List.{flat_map}
use Rattle.std.specs.Result.{result_ok}
use Rattle.std.proofs.lemmas.Bool.{ltb-false, le-ltb}
use Rattle.std.proofs.lemmas.List.{append-nil, nil_from_length}
use Rattle.bfs_model.specs.Bytes.Call.{◌>>=◌}
use Rattle.bfs_model.specs.Bytes.Formats.{Reading, word_from, fixed_from, as_from, where_from, with_from, then_from, items_from, list_text, FitsList, list_from, whole_from}
use Rattle.bfs_model.specs.Bytes.Items.{word, fixed, fixed_at}
use Rattle.bfs_model.specs.Server.Stored.{AreBytes}
use Rattle.bfs_model.proofs.Laws.{fixed_again, fixed_written}
use Rattle.bfs_model.proofs.Exact.{IsExact, behind, go_on, items_again, items_written, ok_some, some_is, went_on, word_exact}

passed : {A : Type 0} (b : Bool) (x y : A) → cond b (Some x) None ≡ Some y → (b ≡ true) × (x ≡ y)
passed true x y e = (refl, cc)
passed false x y e = absurd cc

refused_not : {A : Type 0} (b : Bool) (r : Option A) (y : A) → cond b None r ≡ Some y → (b ≡ false) × (r ≡ Some y)
refused_not true r y e = absurd cc
refused_not false r y e = (refl, e)

pub fixed_exact : (count : ℕ) → IsExact fixed (λ bytes. length bytes ≡ count) (fixed_from count)
fixed_exact count = record {
  again = λ item rest len. subst (λ (n : ℕ). result_ok (fixed_at true n (fixed item ++ rest)) ≡ Some (item, rest)) len (ap result_ok (fixed_again true item rest));
  written = λ bytes item rest fits e.
      let h = fixed_written count bytes item rest (ok_some (fixed_at true count bytes) (item, rest) e) in
      (h.0, h.1, behind (fixed item) rest bytes fits h.0);
}

-- One thing and then another -----------------------------------------------------------------------------------------

pub with_exact : {A B : Type 0} {ta : A → List ℕ} {Fa : A → Type 0} {from : List ℕ → Reading A} {tb : B → List ℕ} {Fb : A → B → Type 0} {second : A → List ℕ → Reading B}
    → IsExact ta Fa from → ((a : A) → Fa a → IsExact tb (Fb a) (second a))
    → IsExact (λ (p : A × B). ta p.0 ++ tb p.1) (λ (p : A × B). Fa p.0 × Fb p.0 p.1) (with_from from second)
with_exact {A} {B} {ta} {Fa} {from} {tb} {Fb} {second} one two = record {
  again = λ p rest fits.
      ap (with_from from second) (append_assoc (ta p.0) (tb p.1) rest)
      ∙ go_on one (λ x. second x.0 x.1 >>= λ y. Some ((x.0, y.0), y.1)) p.0 (tb p.1 ++ rest) fits.0
      ∙ go_on (two p.0 fits.0) (λ y. Some ((p.0, y.0), y.1)) p.1 rest fits.1;
  written = λ bytes p rest fits e.
      went_on one (λ x. second x.0 x.1 >>= λ y. Some ((x.0, y.0), y.1)) (p, rest) bytes fits e (λ a r1 e1 f1 b1 n1.
      went_on (two a f1) (λ y. Some ((a, y.0), y.1)) (p, rest) r1 b1 n1 (λ b r2 e2 f2 b2 n2.
      let whole : bytes ≡ (ta a ++ tb b) ++ r2 = e1 ∙ ap (λ r. ta a ++ r) e2 ∙ sym (append_assoc (ta a) (tb b) r2) in
      subst (λ (q : (A × B) × List ℕ). (bytes ≡ (ta q.0.0 ++ tb q.0.1) ++ q.1) × (Fa q.0.0 × Fb q.0.0 q.0.1) × AreBytes q.1) (some_is ((a, b), r2) (p, rest) n2) (whole, (f1, f2), b2)));
}

pub then_exact : {A B : Type 0} {ta : A → List ℕ} {Fa : A → Type 0} {first : List ℕ → Reading A} {tb : B → List ℕ} {Fb : B → Type 0} {second : List ℕ → Reading B} → IsExact ta Fa first → IsExact tb Fb second
    → IsExact (λ (p : A × B). ta p.0 ++ tb p.1) (λ (p : A × B). Fa p.0 × Fb p.1) (then_from first second)
then_exact {A} {Fb = Fb} one two = with_exact {Fb = λ (_ : A). Fb} one (λ a h. two)

pub where_exact : {A : Type 0} {text : A → List ℕ} {Fits : A → Type 0} {from : List ℕ → Reading A} → (test : A → Bool) → IsExact text Fits from
    → IsExact text (λ x. Fits x × (test x ≡ true)) (where_from test from)
where_exact {A} {text} {Fits} {from} test exact = record {
  again = λ x rest fits. go_on exact (λ y. cond (test y.0) (Some y) None) x rest fits.0 ∙ ap (λ b. cond b (Some (x, rest)) None) fits.1;
  written = λ bytes x rest fits e.
      went_on exact (λ y. cond (test y.0) (Some y) None) (x, rest) bytes fits e (λ a r1 e1 f1 b1 n1.
      let g = passed (test a) (a, r1) (x, rest) n1 in
      subst (λ (q : A × List ℕ). (bytes ≡ text q.0 ++ q.1) × (Fits q.0 × (test q.0 ≡ true)) × AreBytes q.1) g.1 (e1, (f1, g.0), b1));
}

-- what is made of what was read
pub as_exact : {A B : Type 0} {ta : A → List ℕ} {Fa : A → Type 0} {from : List ℕ → Reading A} {tb : B → List ℕ} {Fb : B → Type 0} → (to : A → B) → IsExact ta Fa from
    → ((a : A) → Fa a → (tb (to a) ≡ ta a) × Fb (to a)) → ((b : B) → Fb b → (a : A) × (b ≡ to a) × Fa a) → IsExact tb Fb (as_from to from)
as_exact {A} {B} {ta} {Fa} {from} {tb} {Fb} to exact there back = record {
  again = λ b rest fits.
      let a = back b fits in
      let same : tb b ≡ ta a.0 = ap tb a.1 ∙ (there a.0 a.2).0 in
      ap (λ (t : List ℕ). as_from to from (t ++ rest)) same ∙ go_on exact (λ x. Some (to x.0, x.1)) a.0 rest a.2 ∙ ap (λ (c : B). Some (c, rest)) (sym a.1);
  written = λ bytes b rest fits e.
      went_on exact (λ x. Some (to x.0, x.1)) (b, rest) bytes fits e (λ a r1 e1 f1 b1 n1.
      let h = there a f1 in
      subst (λ (q : B × List ℕ). (bytes ≡ tb q.0 ++ q.1) × Fb q.0 × AreBytes q.1) (some_is (to a, r1) (b, rest) n1) (e1 ∙ ap (λ (t : List ℕ). t ++ r1) (sym h.0), h.1, b1));
}

-- the same, said otherwise
pub spelled_exact : {A : Type 0} {text spelling : A → List ℕ} {Fits : A → Type 0} {from : List ℕ → Reading A} → ((x : A) → spelling x ≡ text x) → IsExact text Fits from → IsExact spelling Fits from
spelled_exact {from = from} same exact = record {
  again = λ x rest fits. ap (λ (t : List ℕ). from (t ++ rest)) (same x) ∙ exact.again x rest fits;
  written = λ bytes x rest fits e. let h = exact.written bytes x rest fits e in (h.0 ∙ ap (λ (t : List ℕ). t ++ rest) (sym (same x)), h.1, h.2);
}

pub fits_exact : {A : Type 0} {text : A → List ℕ} {Fits Limits : A → Type 0} {from : List ℕ → Reading A} → ((x : A) → Fits x → Limits x) → ((x : A) → Limits x → Fits x) → IsExact text Fits from → IsExact text Limits from
fits_exact there back exact = record {
  again = λ x rest within. exact.again x rest (back x within);
  written = λ bytes x rest fits e. let h = exact.written bytes x rest fits e in (h.0, there x h.1, h.2);
}

-- Lists --------------------------------------------------------------------------------------------------------------

pub list_exact : {A : Type 0} {text : A → List ℕ} {Fits : A → Type 0} {from : List ℕ → Reading A} → (most : ℕ) → most < 2 ^ 32 → IsExact text Fits from → IsExact (list_text text) (FitsList most Fits) (list_from most from)
unfolding list_from
list_exact {A} {text} {Fits} {from} most small exact = record {
  again = λ xs rest fits.
      ap (list_from most from) (append_assoc (word (length xs)) (flat_map text xs) rest)
      ∙ go_on word_exact (λ n. cond (ltb most n.0) None (items_from from n.0 n.1)) (length xs) (flat_map text xs ++ rest) (omega (arith, fits.0))
      ∙ ap (λ b. cond b None (items_from from (length xs) (flat_map text xs ++ rest))) (le-ltb most (length xs) fits.0)
      ∙ items_again exact xs rest fits.1;
  written = λ bytes xs rest fits e.
      went_on word_exact (λ n. cond (ltb most n.0) None (items_from from n.0 n.1)) (xs, rest) bytes fits e (λ n r1 e1 f1 b1 n1.
      let g = refused_not (ltb most n) (items_from from n r1) (xs, rest) n1 in
      let h = items_written exact n r1 xs rest b1 g.1 in
      let le : n ≤ most = ltb-false most n g.0 in
      let whole : bytes ≡ (word (length xs) ++ flat_map text xs) ++ rest = e1 ∙ ap (λ r. word n ++ r) h.0 ∙ ap (λ k. word k ++ (flat_map text xs ++ rest)) (sym h.1) ∙ sym (append_assoc (word (length xs)) (flat_map text xs) rest) in
      (whole, (omega (arith, h.1, le), h.2), h.3));
}

-- One of several -----------------------------------------------------------------------------------------------------

pub if_exact : {A : Type 0} {text : A → List ℕ} {Fits : A → Type 0} (b : Bool) (x y : List ℕ → Reading A) → (b ≡ true → IsExact text Fits x) → (b ≡ false → IsExact text Fits y) → IsExact text Fits (λ bytes. cond b (x bytes) (y bytes))
if_exact true x y first second = first refl
if_exact false x y first second = second refl

pub none_exact : {A : Type 0} {text : A → List ℕ} {Fits : A → Type 0} → ((x : A) → Fits x → ⊥) → IsExact text Fits (λ bytes. None)
none_exact never = record { again = λ x rest fits. absurd (never x fits); written = λ bytes x rest fits e. absurd cc }

-- behind a word that says which it is
pub tagged_exact : {A : Type 0} {text : A → List ℕ} {Fits : A → Type 0} {from : ℕ → List ℕ → Reading A} → (tag : A → ℕ) → ((x : A) → tag x < 2 ^ 32) → ((k : ℕ) → IsExact text (λ x. (tag x ≡ k) × Fits x) (from k))
    → IsExact (λ x. word (tag x) ++ text x) Fits (λ bytes. word_from bytes >>= λ n. from n.0 n.1)
tagged_exact {A} {text} {Fits} {from} tag small exact = record {
  again = λ x rest fits.
      ap (λ t. word_from t >>= λ n. from n.0 n.1) (append_assoc (word (tag x)) (text x) rest)
      ∙ go_on word_exact (λ n. from n.0 n.1) (tag x) (text x ++ rest) (small x)
      ∙ (exact (tag x)).again x rest (refl, fits);
  written = λ bytes x rest fits e.
      went_on word_exact (λ n. from n.0 n.1) (x, rest) bytes fits e (λ n r1 e1 f1 b1 n1.
      let h = (exact n).written r1 x rest b1 n1 in
      (e1 ∙ ap (λ r. word n ++ r) h.0 ∙ ap (λ k. word k ++ (text x ++ rest)) (sym h.1.0) ∙ sym (append_assoc (word (tag x)) (text x) rest), h.1.1, h.2));
}

-- Whole texts --------------------------------------------------------------------------------------------------------

pub whole_again : {A : Type 0} {text : A → List ℕ} {Fits : A → Type 0} {from : List ℕ → Reading A} → IsExact text Fits from → (x : A) → Fits x → whole_from from (text x) ≡ Some x
whole_again {text = text} {from = from} exact x fits =
    let whole : from (text x) ≡ Some (x, []) = ap from (sym (append-nil (text x))) ∙ exact.again x [] fits in
    ap (λ o. o >>= λ y. cond (ltb 0 (length y.1)) None (Some y.0)) whole

pub whole_written : {A : Type 0} {text : A → List ℕ} {Fits : A → Type 0} {from : List ℕ → Reading A} → IsExact text Fits from → (bytes : List ℕ) (x : A) → AreBytes bytes → whole_from from bytes ≡ Some x → (bytes ≡ text x) × Fits x
whole_written {A} {text} {Fits} exact bytes x fits e =
    went_on exact (λ y. cond (ltb 0 (length y.1)) None (Some y.0)) x bytes fits e (λ a r1 e1 f1 b1 n1.
    let g = refused_not (ltb 0 (length r1)) (Some a) x n1 in
    let le : length r1 ≤ 0 = ltb-false 0 (length r1) g.0 in
    let none : r1 ≡ [] = nil_from_length r1 (omega (arith, le)) in
    subst (λ (y : A). (bytes ≡ text y) × Fits y) (some_is a x g.1) (e1 ∙ ap (λ (r : List ℕ). text a ++ r) none ∙ append-nil (text a), f1))
