-- Items read one after another, whose numbers rise: entries by cookie, and records by fileid.
use Rattle.std.proofs.Common.{◌≡◌, ℕ, suc, ◌+◌, ◌<◌, ◌≤◌, cond, ltb, List, [], ◌∷◌, Option, Some, None, refl, sym, ap, ◌∙◌}
use Rattle.std.specs.Option.{option_map}
use Rattle.std.proofs.lemmas.Bool.{ltb-false, le-ltb, lt-ltb}
use Rattle.bfs_model.specs.Bytes.Call.{◌>>=◌}
use Rattle.bfs_model.specs.Bytes.Formats.{Reading}
use Rattle.bfs_digest.specs.Inside.RecordReading.{entry_from, entries_from, record_from}
use Rattle.bfs_digest.specs.Inside.TextReading.{records_from}
use Rattle.bfs_model.proofs.Public.{some_is, chosen}
use Rattle.bfs_digest.proofs.Tests.{refused_not}

-- how a list of items is read
pub record ReadsRising {A : Type 0} (from : List ℕ → Reading A) (number : A → ℕ) (list : (count least : ℕ) → List ℕ → Reading (List A)) : Type 0 where
  pub none : (least : ℕ) (bytes : List ℕ) → list 0 least bytes ≡ Some ([], bytes)
  pub more : (n least : ℕ) (bytes : List ℕ) → list (suc n) least bytes ≡ (from bytes >>= (λ item. (cond (ltb (number item.0) least) None (list n (number item.0 + 1) item.1)) >>= (λ items. Some (item.0 ∷ items.0, items.1))))

pub entries_rise : ReadsRising entry_from (λ entry. entry.cookie) entries_from
unfolding entries_from
entries_rise = record { none = λ least bytes. refl; more = λ n least bytes. refl }

pub records_rise : (version : ℕ) → ReadsRising (record_from version) (λ inode. inode.0) (records_from version)
unfolding records_from
records_rise version = record { none = λ least bytes. refl; more = λ n least bytes. refl }

-- what is left behind what is read
abbrev pub left : {A : Type 0} → Reading A → Option (List ℕ)
left reading = option_map (λ read. read.1) reading

module _ {A : Type 0} {from : List ℕ → Reading A} {number : A → ℕ} {list : (count least : ℕ) → List ℕ → Reading (List A)} (R : ReadsRising from number list) where
  left_of_more : (x : A) (o : Reading (List A)) → left (o >>= (λ items. Some (x ∷ items.0, items.1))) ≡ left o
  left_of_more x None = refl
  left_of_more x (Some items) = refl

  abbrev step : (n least : ℕ) → A × List ℕ → Reading (List A)
  step n least item = (cond (ltb (number item.0) least) None (list n (number item.0 + 1) item.1)) >>= (λ items. Some (item.0 ∷ items.0, items.1))

  skip_by : (n least key : ℕ) (rest : List ℕ) (o : Reading A) → option_map {U = ℕ × List ℕ} (λ read. (number read.0, read.1)) o ≡ Some (key, rest) → least ≤ key → left (o >>= step n least) ≡ left (list n (key + 1) rest)
  skip_by n least key rest None is le = absurd cc
  skip_by n least key rest (Some item) is le =
      let pair = some_is {A = ℕ × List ℕ} (number item.0, item.1) (key, rest) is in
      let same : number item.0 ≡ key = ap (λ p. p.0) pair in
      let behind : item.1 ≡ rest = ap (λ p. p.1) pair in
      rw (same, behind, le-ltb key least le) (left_of_more item.0 (list n (key + 1) rest))

  -- an item whose number is high enough is passed over
  pub skip_more : (n least key : ℕ) (bytes rest : List ℕ) → option_map {U = ℕ × List ℕ} (λ read. (number read.0, read.1)) (from bytes) ≡ Some (key, rest) → least ≤ key → left (list (suc n) least bytes) ≡ left (list n (key + 1) rest)
  skip_more n least key bytes rest is le = ap left (R.more n least bytes) ∙ skip_by n least key rest (from bytes) is le

  low_by : (n least key : ℕ) (rest : List ℕ) (o : Reading A) → option_map {U = ℕ × List ℕ} (λ read. (number read.0, read.1)) o ≡ Some (key, rest) → key < least → (o >>= step n least) ≡ None
  low_by n least key rest None is lt = absurd cc
  low_by n least key rest (Some item) is lt =
      let same : number item.0 ≡ key = ap (λ p. p.0) (some_is {A = ℕ × List ℕ} (number item.0, item.1) (key, rest) is) in
      rw (same, lt-ltb key least lt) refl

  -- one with a lower number ends it
  pub skip_low : (n least key : ℕ) (bytes rest : List ℕ) → option_map {U = ℕ × List ℕ} (λ read. (number read.0, read.1)) (from bytes) ≡ Some (key, rest) → key < least → list (suc n) least bytes ≡ None
  skip_low n least key bytes rest is lt = R.more n least bytes ∙ low_by n least key rest (from bytes) is lt

  -- and so does what is none
  pub skip_none : (n least : ℕ) (bytes : List ℕ) → from bytes ≡ None → list (suc n) least bytes ≡ None
  skip_none n least bytes is = R.more n least bytes ∙ ap (λ (o : Reading A). o >>= step n least) is

  -- The first of items that were read
  pub record First (n least : ℕ) (bytes : List ℕ) (all : List A) (rest : List ℕ) : Type 0 where
    pub item : A
    pub next : List ℕ
    pub others : List A
    pub read : from bytes ≡ Some (item, next)
    pub le : least ≤ number item
    pub behind : list n (number item + 1) next ≡ Some (others, rest)
    pub whole : item ∷ others ≡ all

  pub first_of : (n least : ℕ) (bytes : List ℕ) (all : List A) (rest : List ℕ) → list (suc n) least bytes ≡ Some (all, rest) → First n least bytes all rest
  first_of n least bytes all rest is =
      chosen (from bytes) (step n least) (all, rest) (sym (R.more n least bytes) ∙ is) (λ item read e.
      chosen (cond (ltb (number item.0) least) None (list n (number item.0 + 1) item.1)) _ (all, rest) e (λ items inner end.
      let g = refused_not (ltb (number item.0) least) (list n (number item.0 + 1) item.1) items inner in
      let pair = some_is (item.0 ∷ items.0, items.1) (all, rest) end in
      let same : items.1 ≡ rest = ap (λ p. p.1) pair in
      record {
        item = item.0;
        next = item.1;
        others = items.0;
        read = read;
        le = ltb-false (number item.0) least g.0;
        behind = g.1 ∙ ap (λ r. Some (items.0, r)) same;
        whole = ap (λ p. p.0) pair;
      }))
