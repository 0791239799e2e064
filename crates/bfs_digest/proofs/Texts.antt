-- The text of a file system: what is written is read again, and what is read was written so.
use Rattle.std.proofs.Common.{◌≡◌, ℕ, zero, suc, ◌+◌, ◌^◌, ◌<◌, ◌≤◌, Bool, true, false, ◌||◌, ◌&&◌, ltb, T, List, [], ◌∷◌, ◌++◌, length, Some, refl, sym, ap, subst, ◌∙◌, append_assoc, append-nil, arith}
use Rattle.std.specs.List.{AllByRecursion}
use Rattle.std.specs.Ordering.{nat_cmp, is_lt}
use Rattle.std.specs.declared.cmp.Ordering.{Ordering}
use Rattle.std.specs.declared.cmp.Ordering.TheVariants.{Less, Equal, Greater}
use Rattle.std.specs.Cmp.{ranked, nat_cmp_is}
use Rattle.std.specs.FinMap.{get, entries, len, len-entries, entries_sorted, is_sorted, from_entries, from_sorted, entries-from_sorted, get-from_entries, get-from_sorted, same_map, same_entries_map, nat_cmp-IsAntisymmetric}
use Rattle.std.specs.FinMap.Entries.{below_all}
use Rattle.std.proofs.lemmas.Cmp.{nat_cmp_total}
use Rattle.std.proofs.lemmas.Bool.{ltb-false, le-ltb, eqb-true}
use Rattle.bfs_model.specs.Bytes.Items.{word, hyper}
use Rattle.bfs_model.specs.Server.Stored.{IsWord, AreBytes, IsTime}
use Rattle.bfs_model.specs.Server.Tree.{Inode, Inodes, FileSystem, root_id, first_ordinal, spent_ordinal}
use Rattle.bfs_tree.proofs.Public.{each_of_all, all_of_each}
use Rattle.bfs_digest.specs.Records.{IsRecordable}
use Rattle.bfs_digest.specs.Text.{Header, header_of, numbers_text, records_text, IsSpellable}
use Rattle.bfs_digest.specs.Inside.TextReading.{records_from, numbers_from, is_nothing, files_from}
use Rattle.bfs_model.proofs.Public.{some_is, IsExact, hyper_exact, word_exact, go_on, went_on, chosen}
use Rattle.bfs_digest.proofs.Tests.{passed, refused_not, unrefused, or_parts}
use Rattle.bfs_digest.proofs.Records.{time_text, time_exact, record_of, Recordable, record_exact}

-- Inodes by rising fileids -------------------------------------------------------------------------------------------

-- from the least on
abbrev pub AreRising : (version least : ℕ) → List (ℕ × Inode) → Type 0
AreRising version least [] = Unit {0}
AreRising version least (inode ∷ inodes) = (least ≤ inode.0) × Recordable version inode × AreRising version (inode.0 + 1) inodes

split : (a b : Bool) → T (a && b) → T a × T b
split true b h = (tt, h)
split false b h = absurd h

pub both : (a b : Bool) → T a → T b → T (a && b)
both true b p q = q
both false b p q = p

less : (r : Ordering) → T (is_lt r) → r ≡ Less
less Less h = refl
less Equal h = absurd h
less Greater h = absurd h

lt_of : (x y : ℕ) → T (is_lt (nat_cmp x y)) → x < y
lt_of x y h = ranked x y Less (sym (less (nat_cmp x y) h))

pub of_lt : (x y : ℕ) → x < y → T (is_lt (nat_cmp x y))
of_lt x y lt = subst (λ r. T (is_lt r)) (nat_cmp_is x y Less lt) tt

below : (version k least : ℕ) (inodes : List (ℕ × Inode)) → k < least → AreRising version least inodes → T (below_all nat_cmp k inodes)
below version k least [] lt h = tt
below version k least (inode ∷ inodes) lt h =
    let le : least ≤ inode.0 = h.0 in
    both _ _ (of_lt k inode.0 (omega arith)) (below version k (inode.0 + 1) inodes (omega arith) h.2)

pub rising_sorted : (version least : ℕ) (inodes : List (ℕ × Inode)) → AreRising version least inodes → T (is_sorted nat_cmp inodes)
rising_sorted version least [] h = tt
rising_sorted version least (inode ∷ inodes) h = both _ _ (below version inode.0 (inode.0 + 1) inodes (omega arith) h.2) (rising_sorted version (inode.0 + 1) inodes h.2)

above : (k : ℕ) (inodes : List (ℕ × Inode)) → T (below_all nat_cmp k inodes) → AllByRecursion (λ (inode : ℕ × Inode). k + 1 ≤ inode.0) inodes
above k [] h = tt
above k (inode ∷ inodes) h =
    let parts = split (is_lt (nat_cmp k inode.0)) (below_all nat_cmp k inodes) h in
    let lt : k < inode.0 = lt_of k inode.0 parts.0 in
    (omega arith, above k inodes parts.1)

rising : (version least : ℕ) (inodes : List (ℕ × Inode)) → T (is_sorted nat_cmp inodes) → AllByRecursion (λ (inode : ℕ × Inode). least ≤ inode.0) inodes → AllByRecursion (Recordable version) inodes → AreRising version least inodes
rising version least [] sorted least_is all = tt
rising version least (inode ∷ inodes) sorted least_is all =
    let parts = split (below_all nat_cmp inode.0 inodes) (is_sorted nat_cmp inodes) sorted in
    (least_is.0, all.0, rising version (inode.0 + 1) inodes parts.1 (above inode.0 inodes parts.0) all.1)

from_root : (version : ℕ) (inodes : List (ℕ × Inode)) → AllByRecursion (Recordable version) inodes → AllByRecursion (λ (inode : ℕ × Inode). root_id ≤ inode.0) inodes
from_root version [] all = tt
from_root version (inode ∷ inodes) all = (all.0.fileid.0, from_root version inodes all.1)

pub all_recordable : (version least : ℕ) (inodes : List (ℕ × Inode)) → AreRising version least inodes → AllByRecursion (Recordable version) inodes
all_recordable version least [] h = tt
all_recordable version least (inode ∷ inodes) h = (h.1, all_recordable version (inode.0 + 1) inodes h.2)

pub tree_rises : (version : ℕ) (m : Inodes) → ((id : ℕ) (inode : Inode) → get m id ≡ Some inode → IsRecordable version id inode) → AreRising version root_id (entries m)
tree_rises version m each =
    let all = all_of_each (Recordable version) m each in
    rising version root_id (entries m) (entries_sorted m) (from_root version (entries m) all) all

-- there are fewer than fileids
pub few : (version least : ℕ) (inodes : List (ℕ × Inode)) → least ≤ 2 ^ 32 → AreRising version least inodes → least + length inodes ≤ 2 ^ 32
few version least [] le h = omega arith
few version least (inode ∷ inodes) le h =
    let first : least ≤ inode.0 = h.0 in
    let small : inode.0 < 2 ^ 32 = h.1.fileid.1 in
    let more = few version (inode.0 + 1) inodes (omega arith) h.2 in
    omega arith

-- The map of inodes that rise has them as its entries, and a map is that of its entries
pub entries_from : (inodes : List (ℕ × Inode)) → T (is_sorted nat_cmp inodes) → entries (from_entries {R = nat_cmp} inodes) ≡ inodes
entries_from inodes sorted =
    ap entries (same_map nat_cmp_total nat_cmp-IsAntisymmetric (from_entries inodes) (from_sorted inodes) (λ q. get-from_entries nat_cmp_total inodes q ∙ sym (get-from_sorted nat_cmp inodes q sorted)))
    ∙ entries-from_sorted nat_cmp inodes sorted

pub from_own_entries : (m : Inodes) → from_entries (entries m) ≡ m
from_own_entries m = same_entries_map (from_entries (entries m)) m (entries_from (entries m) (entries_sorted m))

-- Records ------------------------------------------------------------------------------------------------------------

pub records_again : (version least : ℕ) (inodes : List (ℕ × Inode)) (rest : List ℕ) → AreRising version least inodes → records_from version (length inodes) least (records_text inodes ++ rest) ≡ Some (inodes, rest)
unfolding records_from
records_again version least [] rest h = refl
records_again version least (inode ∷ inodes) rest h =
    rw (append_assoc (record_of inode) (records_text inodes) rest)
    (go_on (record_exact version) _ inode (records_text inodes ++ rest) h.1
    ∙ rw (le-ltb inode.0 least h.0, records_again version (inode.0 + 1) inodes rest h.2) refl)

abbrev pub RecordsWritten : (version count least : ℕ) → List ℕ → List (ℕ × Inode) → List ℕ → Type 0
RecordsWritten version count least bytes inodes rest = (bytes ≡ records_text inodes ++ rest) × (length inodes ≡ count) × AreRising version least inodes × AreBytes rest

pub records_written : (version count least : ℕ) (bytes : List ℕ) (inodes : List (ℕ × Inode)) (rest : List ℕ) → AreBytes bytes → records_from version count least bytes ≡ Some (inodes, rest) → RecordsWritten version count least bytes inodes rest
unfolding records_from
records_written version zero least bytes inodes rest fits e =
    subst (λ (p : List (ℕ × Inode) × List ℕ). RecordsWritten version zero least bytes p.0 p.1) (some_is ([], bytes) (inodes, rest) e) (refl, refl, tt, fits)
records_written version (suc count) least bytes inodes rest fits e =
    went_on (record_exact version) _ (inodes, rest) bytes fits e (λ inode r1 e1 f1 b1 n1.
    chosen _ _ (inodes, rest) n1 (λ more is n2.
    let g = refused_not (ltb inode.0 least) (records_from version count (inode.0 + 1) r1) more is in
    let h = records_written version count (inode.0 + 1) r1 more.0 more.1 b1 g.1 in
    let whole : bytes ≡ (record_of inode ++ records_text more.0) ++ more.1 = e1 ∙ ap (λ r. record_of inode ++ r) h.0 ∙ sym (append_assoc (record_of inode) (records_text more.0) more.1) in
    subst (λ (p : List (ℕ × Inode) × List ℕ). RecordsWritten version (suc count) least bytes p.0 p.1) (some_is (inode ∷ more.0, more.1) (inodes, rest) n2)
    (whole, ap suc h.1, (ltb-false inode.0 least g.0, f1, h.2), h.3)))

-- Numbers ------------------------------------------------------------------------------------------------------------

pub record AreNumbers (numbers : Header) : Type 0 where
  pub ordinal : (first_ordinal ≤ numbers.next_ordinal) × (numbers.next_ordinal ≤ spent_ordinal)
  pub last_time : IsTime numbers.last_time
  pub count : IsWord numbers.count

numbers_again : (numbers : Header) (rest : List ℕ) → AreNumbers numbers → numbers_from (numbers_text numbers ++ rest) ≡ Some (numbers, rest)
unfolding numbers_from
numbers_again numbers rest h =
    let least : first_ordinal ≤ numbers.next_ordinal = h.ordinal.0 in
    let most : numbers.next_ordinal ≤ spent_ordinal = h.ordinal.1 in
    let inside : (ltb numbers.next_ordinal first_ordinal || ltb spent_ordinal numbers.next_ordinal) ≡ false = rw (le-ltb numbers.next_ordinal first_ordinal least, le-ltb spent_ordinal numbers.next_ordinal most) refl in
    let count = word numbers.count ++ rest in
    let time = time_text numbers.last_time ++ count in
    let spelled : numbers_text numbers ++ rest ≡ hyper numbers.next_ordinal ++ time = simp append_assoc in
    ap numbers_from spelled
    ∙ go_on hyper_exact _ numbers.next_ordinal time (omega arith)
    ∙ go_on time_exact _ numbers.last_time count h.last_time
    ∙ go_on word_exact _ numbers.count rest h.count
    ∙ unrefused _ _ inside

numbers_written : (bytes : List ℕ) (numbers : Header) (rest : List ℕ) → AreBytes bytes → numbers_from bytes ≡ Some (numbers, rest) → (bytes ≡ numbers_text numbers ++ rest) × AreNumbers numbers × AreBytes rest
unfolding numbers_from
numbers_written bytes numbers rest fits e =
    let y : Header × List ℕ = (numbers, rest) in
    went_on hyper_exact _ y bytes fits e (λ ordinal r1 e1 f1 b1 n1.
    went_on time_exact _ y r1 b1 n1 (λ time r2 e2 f2 b2 n2.
    went_on word_exact _ y r2 b2 n2 (λ count r3 e3 f3 b3 n3.
    let read : Header = record { next_ordinal = ordinal; last_time = time; count = count } in
    let g = refused_not (ltb ordinal first_ordinal || ltb spent_ordinal ordinal) (Some (read, r3)) y n3 in
    let tests = or_parts (ltb ordinal first_ordinal) (ltb spent_ordinal ordinal) g.0 in
    let whole : bytes ≡ numbers_text read ++ r3 = (e1 ∙ ap (λ r. hyper ordinal ++ r) (e2 ∙ ap (λ r. time_text time ++ r) e3)) ∙ simp append_assoc in
    let held : AreNumbers read = record { ordinal = (ltb-false ordinal first_ordinal tests.0, ltb-false spent_ordinal ordinal tests.1); last_time = f2; count = f3 } in
    subst (λ (p : Header × List ℕ). (bytes ≡ numbers_text p.0 ++ p.1) × AreNumbers p.0 × AreBytes p.1) (some_is (read, r3) y g.1) (whole, held, b3))))

pub numbers_exact : IsExact numbers_text AreNumbers numbers_from
numbers_exact = record { again = numbers_again; written = numbers_written }

-- File systems -------------------------------------------------------------------------------------------------------

abbrev pub behind_version : FileSystem → List ℕ
behind_version files = numbers_text (header_of files) ++ records_text (entries files.tree)

numbers_are : (version : ℕ) (files : FileSystem) → IsSpellable version files → AreNumbers (header_of files)
numbers_are version files h =
    let count = few version root_id (entries files.tree) (omega arith) (tree_rises version files.tree h.inodes) in
    record { ordinal = h.ordinal; last_time = h.last_time; count = omega (arith, len-entries files.tree) }

pub nothing : (bytes : List ℕ) → is_nothing bytes ≡ true → bytes ≡ []
nothing [] e = refl
nothing (byte ∷ bytes) e = let none = eqb-true (length (byte ∷ bytes)) 0 e in absurd (omega arith)

pub files_again : (version : ℕ) (files : FileSystem) → IsSpellable version files → files_from version (behind_version files) ≡ Some files
unfolding files_from
files_again version files h =
    let inodes = records_text (entries files.tree) in
    let read : records_from version (len files.tree) root_id inodes ≡ Some (entries files.tree, []) =
    ap (λ n. records_from version n root_id inodes) (len-entries files.tree) ∙ ap (records_from version (length (entries files.tree)) root_id) (sym (append-nil inodes)) ∙ records_again version root_id (entries files.tree) [] (tree_rises version files.tree h.inodes) in
    go_on numbers_exact _ (header_of files) inodes (numbers_are version files h)
    ∙ rw read (ap (λ m. Some (record files { tree = m })) (from_own_entries files.tree))

pub record WasWritten (version : ℕ) (bytes : List ℕ) (files : FileSystem) : Type 0 where
  pub spelled : bytes ≡ behind_version files
  pub spellable : IsSpellable version files

pub files_written : (version : ℕ) (bytes : List ℕ) (files : FileSystem) → AreBytes bytes → files_from version bytes ≡ Some files → WasWritten version bytes files
unfolding files_from
files_written version bytes files fits e =
    went_on numbers_exact _ files bytes fits e (λ numbers r1 e1 f1 b1 n1.
    chosen (records_from version numbers.count root_id r1) _ files n1 (λ inodes is n2.
    let h = records_written version numbers.count root_id r1 inodes.0 inodes.1 b1 is in
    let read : FileSystem = record { tree = from_entries inodes.0; next_ordinal = numbers.next_ordinal; last_time = numbers.last_time } in
    let g = passed (is_nothing inodes.1) read files n2 in
    let own : entries read.tree ≡ inodes.0 = entries_from inodes.0 (rising_sorted version root_id inodes.0 h.2) in
    let count : numbers.count ≡ len read.tree = sym h.1 ∙ ap length (sym own) ∙ sym (len-entries read.tree) in
    let all : AllByRecursion (Recordable version) (entries read.tree) = subst (AllByRecursion (Recordable version)) (sym own) (all_recordable version root_id inodes.0 h.2) in
    let end : r1 ≡ records_text (entries read.tree) = h.0 ∙ ap (λ r. records_text inodes.0 ++ r) (nothing inodes.1 g.0) ∙ append-nil (records_text inodes.0) ∙ ap records_text (sym own) in
    let whole : bytes ≡ behind_version read = e1 ∙ ap (λ r. numbers_text numbers ++ r) end ∙ ap (λ n. numbers_text (record numbers { count = n }) ++ records_text (entries read.tree)) count in
    let held : IsSpellable version read = record { inodes = each_of_all (Recordable version) read.tree all; ordinal = f1.ordinal; last_time = f1.last_time } in
    subst (WasWritten version bytes) g.1 (record { spelled = whole; spellable = held })))
