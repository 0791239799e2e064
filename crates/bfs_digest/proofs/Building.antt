-- The loops that build what is read: what was built, and what is left to read.
use Rattle.std.proofs.Common.{◌≡◌, ℕ, suc, ◌+◌, ◌<◌, ◌≤◌, Bool, true, false, List, [], ◌∷◌, ◌++◌, Some, None, refl, sym, ap, subst, ◌∙◌, append_assoc, append-nil, arith}
use Rattle.std.specs.List.{AllByRecursion}
use Rattle.std.specs.Ordering.{nat_cmp, eq_by_cmp}
use Rattle.std.specs.FinMap.{find, empty, from_entries, insert, from_entries_push, nat_cmp-IsAntisymmetric}
use Rattle.std.proofs.lemmas.Cmp.{nat_cmp_total}
use Rattle.std.proofs.lemmas.Map.Views.{tells_apart}
use Rattle.bfs_model.specs.Server.Tree.{Inode, Inodes, root_id}
use Rattle.bfs_model.specs.Server.WellFormed.{IsLimited}
use Rattle.bfs_model.specs.Bytes.Formats.{Reading}
use Rattle.bfs_digest.specs.Text.{latest_version}
use Rattle.bfs_digest.specs.Inside.RecordReading.{record_from}
use Rattle.bfs_digest.specs.Inside.TextReading.{records_from}
use Rattle.bfs_digest.proofs.Rising.{ReadsRising, First, first_of, records_rise}
use Rattle.bfs_model.proofs.Public.{some_is}

-- All that is read is what was built and what is left
pub record IsLeft {A : Type 0} (list : (count least : ℕ) → List ℕ → Reading (List A)) (number : A → ℕ) (n : ℕ) (bytes : List ℕ) (done all : List A) (rest : List ℕ) : Type 0 where
  pub least : ℕ
  pub others : List A
  pub behind : list n least bytes ≡ Some (others, rest)
  pub whole : done ++ others ≡ all
  pub low : AllByRecursion (λ item. number item < least) done

abbrev pub AreLeft : {A : Type 0} (list : (count least : ℕ) → List ℕ → Reading (List A)) (number : A → ℕ) (reading : Reading (List A)) (n : ℕ) (bytes : List ℕ) (done : List A) → Type 0
AreLeft {A} list number reading n bytes done = (all : List A) (rest : List ℕ) → reading ≡ Some (all, rest) → IsLeft list number n bytes done all rest

pub none_built : {A : Type 0} (list : (count least : ℕ) → List ℕ → Reading (List A)) (number : A → ℕ) (n least : ℕ) (bytes : List ℕ) → AreLeft list number (list n least bytes) n bytes []
none_built list number n least bytes all rest is = record { least = least; others = all; behind = is; whole = refl; low = tt }

lower : {A : Type 0} (number : A → ℕ) (k l : ℕ) (items : List A) → k ≤ l → AllByRecursion (λ item. number item < k) items → AllByRecursion (λ item. number item < l) items
lower number k l [] le low = tt
lower number k l (item ∷ items) le low = let lt : number item < k = low.0 in (omega arith, lower number k l items le low.1)

low_pushed : {A : Type 0} (number : A → ℕ) (k : ℕ) (items : List A) (last : A) → AllByRecursion (λ item. number item < k) items → number last < k → AllByRecursion (λ item. number item < k) (items ++ last ∷ [])
low_pushed number k [] last low lt = (lt, tt)
low_pushed number k (item ∷ items) last low lt = (low.0, low_pushed number k items last low.1 lt)

-- what the next item is, where all can be read
pub next_of : {A : Type 0} {from : List ℕ → Reading A} {number : A → ℕ} {list : (count least : ℕ) → List ℕ → Reading (List A)} (R : ReadsRising from number list) (n m : ℕ) (bytes : List ℕ) (done all : List A) (rest : List ℕ)
    → n ≡ suc m → (h : IsLeft list number n bytes done all rest) → First R m h.least bytes h.others rest
next_of {list = list} R n m bytes done all rest is h = first_of R m h.least bytes h.others rest (ap (λ k. list k h.least bytes) (sym is) ∙ h.behind)

pub begins : {A : Type 0} (list : (count least : ℕ) → List ℕ → Reading (List A)) (number : A → ℕ) (count n least : ℕ) (bytes : List ℕ) (done : List A) → n ≡ count → done ≡ [] → AreLeft list number (list count least bytes) n bytes done
begins list number count n least bytes done is none all rest read =
    subst (λ items. IsLeft list number n bytes items all rest) (sym none) (subst (λ k. IsLeft list number k bytes [] all rest) (sym is) (none_built list number count least bytes all rest read))

-- what was read is built, and what is behind it is left
pub built_by : {A : Type 0} (reading : Reading A) (x z : A) (next : List ℕ) → reading ≡ Some (z, next) → x ≡ z → (y : A) (r : List ℕ) → reading ≡ Some (y, r) → (x ≡ y) × (next ≡ r)
built_by reading x z next is same y r read =
    let pair = some_is (z, next) (y, r) (sym is ∙ read) in
    (same ∙ ap (λ p. p.0) pair, ap (λ p. p.1) pair)

-- the next item was built
pub left_more : {A : Type 0} {from : List ℕ → Reading A} {number : A → ℕ} {list : (count least : ℕ) → List ℕ → Reading (List A)} (R : ReadsRising from number list) (n m : ℕ) (bytes next : List ℕ) (done all : List A) (rest : List ℕ) (x : A)
    → n ≡ suc m → ((y : A) (r : List ℕ) → from bytes ≡ Some (y, r) → (x ≡ y) × (next ≡ r)) → IsLeft list number n bytes done all rest → IsLeft list number m next (done ++ x ∷ []) all rest
left_more {A} {number = number} {list = list} R n m bytes next done all rest x is built h =
    let f = next_of R n m bytes done all rest is h in
    let b = built f.item f.next f.read in
    let le : h.least ≤ number f.item = f.le in
    let key : number x ≡ number f.item = ap number b.0 in
    record {
      least = number f.item + 1;
      others = f.others;
      behind = ap (list m (number f.item + 1)) b.1 ∙ f.behind;
      whole = append_assoc done (x ∷ []) f.others ∙ ap (λ (y : A). done ++ y ∷ f.others) b.0 ∙ ap (λ items. done ++ items) f.whole ∙ h.whole;
      low = low_pushed number (number f.item + 1) done x (lower number h.least (number f.item + 1) done (omega arith) h.low) (omega arith);
    }

pub one_built : {A : Type 0} {from : List ℕ → Reading A} {number : A → ℕ} {list : (count least : ℕ) → List ℕ → Reading (List A)} (R : ReadsRising from number list) (reading : Reading (List A)) (n m : ℕ) (bytes next : List ℕ) (done : List A) (x : A)
    → n ≡ suc m → ((y : A) (r : List ℕ) → from bytes ≡ Some (y, r) → (x ≡ y) × (next ≡ r)) → AreLeft list number reading n bytes done → AreLeft list number reading m next (done ++ x ∷ [])
one_built R reading n m bytes next done x is built so_far all rest read = left_more R n m bytes next done all rest x is built (so_far all rest read)

-- at the end all were built
pub all_left : {A : Type 0} {from : List ℕ → Reading A} {number : A → ℕ} {list : (count least : ℕ) → List ℕ → Reading (List A)} (R : ReadsRising from number list) (n : ℕ) (bytes : List ℕ) (done all : List A) (rest : List ℕ)
    → n ≡ 0 → IsLeft list number n bytes done all rest → (done ≡ all) × (bytes ≡ rest)
all_left {A} {list = list} R n bytes done all rest is h =
    let end = some_is ([], bytes) (h.others, rest) (sym (R.none h.least bytes) ∙ ap (λ k. list k h.least bytes) (sym is) ∙ h.behind) in
    let none : [] ≡ h.others = ap (λ p. p.0) end in
    (sym (append-nil done) ∙ ap (λ items. done ++ items) none ∙ h.whole, ap (λ p. p.1) end)

pub all_built : {A : Type 0} {from : List ℕ → Reading A} {number : A → ℕ} {list : (count least : ℕ) → List ℕ → Reading (List A)} (R : ReadsRising from number list) (reading : Reading (List A)) (n : ℕ) (bytes : List ℕ) (done all : List A) (rest : List ℕ)
    → n ≡ 0 → AreLeft list number reading n bytes done → reading ≡ Some (all, rest) → (done ≡ all) × (bytes ≡ rest)
all_built R reading n bytes done all rest is so_far read = all_left R n bytes done all rest is (so_far all rest read)

-- Inodes in a map ------------------------------------------------------------------------------------------------------

differs : (k q : ℕ) (b : Bool) → eq_by_cmp nat_cmp k q ≡ b → q < k → b ≡ false
differs k q true tied lt = let same : k ≡ q = tells_apart nat_cmp-IsAntisymmetric k q tied in absurd (omega arith)
differs k q false tied lt = refl

absent : (k : ℕ) (inodes : List (ℕ × Inode)) → AllByRecursion (λ (inode : ℕ × Inode). inode.0 < k) inodes → find nat_cmp k inodes ≡ None
absent k [] low = refl
absent k (inode ∷ inodes) low = rw (differs k inode.0 (eq_by_cmp nat_cmp k inode.0) refl low.0) (absent k inodes low.1)

lower_still : (k l : ℕ) (inodes : List (ℕ × Inode)) → k ≤ l → AllByRecursion (λ (inode : ℕ × Inode). inode.0 < k) inodes → AllByRecursion (λ (inode : ℕ × Inode). inode.0 < l) inodes
lower_still k l inodes le low = lower (λ (inode : ℕ × Inode). inode.0) k l inodes le low

-- the map with an inode whose fileid is above all others
pub put_last : (m : Inodes) (done : List (ℕ × Inode)) (id : ℕ) (x : Inode) (least : ℕ) → m ≡ from_entries done → AllByRecursion (λ (inode : ℕ × Inode). inode.0 < least) done → least ≤ id → insert m id x ≡ from_entries (done ++ (id, x) ∷ [])
put_last m done id x least is low le =
    ap (λ t. insert t id x) is ∙ sym (from_entries_push nat_cmp_total nat_cmp-IsAntisymmetric done id x (absent id done (lower_still least id done le low)))

-- A tree of what was built ---------------------------------------------------------------------------------------------

abbrev fileid : ℕ × Inode → ℕ
fileid inode = inode.0

pub record TreeLeft (n : ℕ) (bytes : List ℕ) (tree : Inodes) (all : List (ℕ × Inode)) (rest : List ℕ) : Type 0 where
  pub done : List (ℕ × Inode)
  pub behind : IsLeft (records_from latest_version) fileid n bytes done all rest
  pub is : tree ≡ from_entries done

abbrev pub TreesLeft : (count : ℕ) (records : List ℕ) (n : ℕ) (bytes : List ℕ) (tree : Inodes) → Type 0
TreesLeft count records n bytes tree = (all : List (ℕ × Inode)) (rest : List ℕ) → records_from latest_version count root_id records ≡ Some (all, rest) → TreeLeft n bytes tree all rest

pub tree_begins : (count n : ℕ) (records bytes : List ℕ) (tree : Inodes) → n ≡ count → bytes ≡ records → tree ≡ empty → TreesLeft count records n bytes tree
tree_begins count n records bytes tree is same none all rest read = record {
  done = [];
  behind = subst (λ k. IsLeft (records_from latest_version) fileid k bytes [] all rest) (sym is) (subst (λ b. IsLeft (records_from latest_version) fileid count b [] all rest) (sym same) (none_built (records_from latest_version) fileid count root_id records all rest read));
  is = none;
}

pub tree_more : (count n m : ℕ) (records bytes next : List ℕ) (tree more : Inodes) (x : ℕ × Inode) → n ≡ suc m → ((y : ℕ × Inode) (r : List ℕ) → record_from latest_version bytes ≡ Some (y, r) → (x ≡ y) × (next ≡ r)) → more ≡ insert tree x.0 x.1
    → TreesLeft count records n bytes tree → TreesLeft count records m next more
tree_more count n m records bytes next tree more x is built put so_far all rest read =
    let t = so_far all rest read in
    let f = next_of (records_rise latest_version) n m bytes t.done all rest is t.behind in
    let b = built f.item f.next f.read in
    let key : x.0 ≡ f.item.0 = ap fileid b.0 in
    let le : t.behind.least ≤ f.item.0 = f.le in
    record {
      done = t.done ++ x ∷ [];
      behind = left_more (records_rise latest_version) n m bytes next t.done all rest x is built t.behind;
      is = put ∙ put_last tree t.done x.0 x.1 t.behind.least t.is t.behind.low (omega arith);
    }

pub tree_ends : (count n : ℕ) (records bytes : List ℕ) (tree : Inodes) → n ≡ 0 → TreesLeft count records n bytes tree → (all : List (ℕ × Inode)) (rest : List ℕ) → records_from latest_version count root_id records ≡ Some (all, rest) → tree ≡ from_entries all
tree_ends count n records bytes tree is so_far all rest read =
    let t = so_far all rest read in
    t.is ∙ ap from_entries (all_left (records_rise latest_version) n bytes t.done all rest is t.behind).0

of_all : (P : ℕ × Inode → Type 0) (done others : List (ℕ × Inode)) (x : ℕ × Inode) → AllByRecursion P (done ++ x ∷ others) → P x
of_all P [] others x all = all.0
of_all P (y ∷ done) others x all = of_all P done others x all.1

pub tree_refused : (count n m : ℕ) (records bytes : List ℕ) (tree : Inodes) → n ≡ suc m → ((y : ℕ × Inode) (r : List ℕ) → record_from latest_version bytes ≡ Some (y, r) → IsLimited y.1 → ⊥) → TreesLeft count records n bytes tree
    → (all : List (ℕ × Inode)) (rest : List ℕ) → records_from latest_version count root_id records ≡ Some (all, rest) → AllByRecursion (λ inode. IsLimited inode.1) all → ⊥
tree_refused count n m records bytes tree is refused so_far all rest read limited =
    let t = so_far all rest read in
    let f = next_of (records_rise latest_version) n m bytes t.done all rest is t.behind in
    let whole : t.done ++ f.item ∷ f.others ≡ all = ap (λ items. t.done ++ items) f.whole ∙ t.behind.whole in
    refused f.item f.next f.read (of_all (λ inode. IsLimited inode.1) t.done f.others f.item (subst (AllByRecursion (λ inode. IsLimited inode.1)) (sym whole) limited))

-- What is none ----------------------------------------------------------------------------------------------------------

-- where no item can be read none of the lists can
pub none_read : {A : Type 0} {from : List ℕ → Reading A} {number : A → ℕ} {list : (count least : ℕ) → List ℕ → Reading (List A)} (R : ReadsRising from number list) (reading : Reading (List A)) (n m : ℕ) (bytes : List ℕ) (done : List A)
    → n ≡ suc m → from bytes ≡ None → AreLeft list number reading n bytes done → (all : List A) (rest : List ℕ) → reading ≡ Some (all, rest) → ⊥
none_read R reading n m bytes done is none so_far all rest read =
    let f = next_of R n m bytes done all rest is (so_far all rest read) in
    let there = f.read in
    absurd cc
