-- What bytes spell, told by what was read of them.
use Rattle.std.proofs.Common.{◌≡◌, ℕ, ◌+◌, ◌≤◌, leb, eqb, true, false, true≢false, List, [], ◌∷◌, ◌++◌, Option, Some, None, refl, sym, ap, subst, ◌∙◌, append_assoc, arith, eqb-true}
use Rattle.std.proofs.lemmas.Bool.{and_parts, leb-true}
use Rattle.std.specs.List.{AllByRecursion}
use Rattle.std.specs.FinMap.{from_entries}
use Rattle.bfs_model.specs.Bytes.Items.{word}
use Rattle.bfs_model.specs.Server.Stored.{IsWord, AreBytes, IsLive}
use Rattle.bfs_model.specs.Server.Tree.{Inode, FileSystem, root_id}
use Rattle.bfs_model.specs.Server.WellFormed.{IsLimited, IsWellFormed}
use Rattle.bfs_tree.specs.Slots.{Slots}
use Rattle.bfs_serial.specs.Parts.{file_system_of}
use Rattle.bfs_tree.proofs.Public.{each_of_all, all_of_each}
use Rattle.bfs_digest.specs.Text.{Header, magic, latest_version, is_taken, records_text, IsSpellable, SpellsIn, Spells}
use Rattle.bfs_digest.specs.Inside.TextReading.{records_from, version_from, files_with, files_from}
use Rattle.bfs_digest.specs.Outcomes.{HasOtherVersion, IsMalformed, SpellsIllFormed, IsRestored}
use Rattle.bfs_digest.specs.Inside.Taking.{AreSpelled, AreRecords, IsText, BuildsTree, BuildsFiles}
use Rattle.bfs_model.proofs.Public.{some_is, word_exact, go_on, went_on}
use Rattle.bfs_digest.proofs.Tests.{passed}
use Rattle.bfs_digest.proofs.Records.{Recordable, later_recordable}
use Rattle.bfs_digest.proofs.Texts.{AreRising, behind_version, numbers_exact, records_again, records_written, rising_sorted, entries_from, all_recordable, files_again, files_written}
use Rattle.bfs_digest.proofs.Live.{beginning, text_split, spelled_is_live}

-- The version --------------------------------------------------------------------------------------------------------

version_again : (n : ℕ) (rest : List ℕ) → IsWord n → version_from (word magic ++ (word n ++ rest)) ≡ Some (n, rest)
unfolding version_from
version_again n rest small = go_on word_exact _ magic (word n ++ rest) (omega arith) ∙ go_on word_exact _ n rest small

pub version_written : (bytes : List ℕ) (n : ℕ) (rest : List ℕ) → AreBytes bytes → version_from bytes ≡ Some (n, rest) → (bytes ≡ word magic ++ (word n ++ rest)) × IsWord n × AreBytes rest
unfolding version_from
version_written bytes n rest fits e =
    went_on word_exact _ (n, rest) bytes fits e (λ first r1 e1 f1 b1 n1.
    went_on word_exact _ (n, rest) r1 b1 n1 (λ number r2 e2 f2 b2 n2.
    let g = passed (eqb first magic) (number, r2) (n, rest) n2 in
    let whole : bytes ≡ word magic ++ (word number ++ r2) = e1 ∙ ap (λ r. word first ++ r) e2 ∙ ap (λ k. word k ++ (word number ++ r2)) (eqb-true first magic g.0) in
    subst (λ (p : ℕ × List ℕ). (bytes ≡ word magic ++ (word p.0 ++ p.1)) × IsWord p.0 × AreBytes p.1) g.1 (whole, f2, b2)))

other_read : (oldest : ℕ) (bytes : List ℕ) (other : HasOtherVersion oldest bytes) → version_from bytes ≡ Some (other.number, other.rest)
other_read oldest bytes other = ap version_from other.spelled ∙ version_again other.number other.rest other.small

-- a version that is taken is a word
taken_word : (oldest version : ℕ) → is_taken oldest version ≡ true → IsWord version
taken_word oldest version taken =
    let most : version ≤ latest_version = leb-true version latest_version (and_parts (leb oldest version) (leb version latest_version) taken).1 in
    omega (arith, most)

text_read : (oldest : ℕ) (bytes : List ℕ) (files : FileSystem) (spells : Spells oldest bytes files) → version_from bytes ≡ Some (spells.version, behind_version files)
text_read oldest bytes files spells =
    let version = spells.version in
    ap version_from (spells.text.spelled ∙ text_split version files ∙ append_assoc (word magic) (word version) (behind_version files)) ∙ version_again version (behind_version files) (taken_word oldest version spells.taken)

-- Malformed ----------------------------------------------------------------------------------------------------------

pub unread_is_malformed : (oldest : ℕ) (bytes : List ℕ) → version_from bytes ≡ None → IsMalformed oldest bytes
unread_is_malformed oldest bytes none = (
  λ other. let read = other_read oldest bytes other in absurd cc,
  λ files spells. let read = text_read oldest bytes files spells in absurd cc,
)

pub no_other_version : (oldest version : ℕ) (bytes rest : List ℕ) → is_taken oldest version ≡ true → version_from bytes ≡ Some (version, rest) → HasOtherVersion oldest bytes → ⊥
no_other_version oldest version bytes rest taken read other =
    let pair = some_is (version, rest) (other.number, other.rest) (sym read ∙ other_read oldest bytes other) in
    true≢false (sym taken ∙ ap (λ (p : ℕ × List ℕ). is_taken oldest p.0) pair ∙ other.other)

pub spelled_has_no_other_version : (oldest : ℕ) (bytes : List ℕ) (files : FileSystem) → Spells oldest bytes files → HasOtherVersion oldest bytes → ⊥
spelled_has_no_other_version oldest bytes files spells = no_other_version oldest spells.version bytes (behind_version files) spells.taken (text_read oldest bytes files spells)

pub unspelled_is_malformed : (oldest version : ℕ) (bytes rest : List ℕ) → is_taken oldest version ≡ true → version_from bytes ≡ Some (version, rest) → files_from version rest ≡ None → IsMalformed oldest bytes
unspelled_is_malformed oldest version bytes rest taken read none = (
  no_other_version oldest version bytes rest taken read,
  λ files spells.
      let pair = some_is (version, rest) (spells.version, behind_version files) (sym read ∙ text_read oldest bytes files spells) in
      let again : files_from version rest ≡ Some files = ap (λ (p : ℕ × List ℕ). files_from p.0 p.1) pair ∙ files_again spells.version files spells.text.spellable in
      absurd cc,
)

pub other_version : (oldest : ℕ) (bytes : List ℕ) (n : ℕ) (rest : List ℕ) → AreBytes bytes → version_from bytes ≡ Some (n, rest) → is_taken oldest n ≡ false → HasOtherVersion oldest bytes
other_version oldest bytes n rest fits read other =
    let h = version_written bytes n rest fits read in
    record { number = n; rest = rest; spelled = h.0; small = h.1; other = other }

-- One text, one file system ------------------------------------------------------------------------------------------

pub one_file_system : (oldest others : ℕ) (bytes : List ℕ) (one other : FileSystem) → (a : Spells oldest bytes one) (b : Spells others bytes other) → (one ≡ other) × (a.version ≡ b.version)
one_file_system oldest others bytes one other a b =
    let pair = some_is (a.version, behind_version one) (b.version, behind_version other) (sym (text_read oldest bytes one a) ∙ text_read others bytes other b) in (
      some_is one other (sym (files_again a.version one a.text.spellable) ∙ ap (λ (p : ℕ × List ℕ). files_from p.0 p.1) pair ∙ files_again b.version other b.text.spellable),
      ap (λ (p : ℕ × List ℕ). p.0) pair,
    )

-- The latest version alone --------------------------------------------------------------------------------------------

pub spells_latest : (bytes : List ℕ) (files : FileSystem) → SpellsIn latest_version bytes files → Spells latest_version bytes files
spells_latest bytes files text = record { version = latest_version; taken = refl; text = text }

pub spelled_latest : (bytes : List ℕ) (files : FileSystem) → Spells latest_version bytes files → SpellsIn latest_version bytes files
spelled_latest bytes files spells =
    let tests = and_parts (leb latest_version spells.version) (leb spells.version latest_version) spells.taken in
    let least : latest_version ≤ spells.version = leb-true latest_version spells.version tests.0 in
    let most : spells.version ≤ latest_version = leb-true spells.version latest_version tests.1 in
    let same : spells.version ≡ latest_version = omega (arith, least, most) in
    subst (λ version. SpellsIn version bytes files) same spells.text

-- Spelled ------------------------------------------------------------------------------------------------------------

pub files_read : (version : ℕ) (rest : List ℕ) (header : Header) (records : List ℕ) (spelled : AreSpelled version rest header records) → files_from version rest ≡ Some (files_with header spelled.inodes)
unfolding files_from
files_read version rest header records spelled = rw (spelled.numbers, spelled.read) refl

-- the bytes are the text of this file system
pub text_spells : (oldest : ℕ) (bytes : List ℕ) (header : Header) (records : List ℕ) → AreBytes bytes → (text : IsText oldest bytes header records) → Spells oldest bytes (files_with header text.spelled.inodes)
text_spells oldest bytes header records fits text =
    let version = text.version in
    let h = version_written bytes version text.rest fits text.begun in
    let files = files_with header text.spelled.inodes in
    let w = files_written version text.rest files h.2 (files_read version text.rest header records text.spelled) in
    record {
      version = version;
      taken = text.taken;
      text = record {
        spellable = w.spellable;
        spelled = h.0 ∙ sym (append_assoc (word magic) (word version) text.rest) ∙ ap (λ r. beginning version ++ r) w.spelled ∙ sym (text_split version files);
      };
    }

later_rising : (version least : ℕ) (inodes : List (ℕ × Inode)) → AreRising version least inodes → AreRising latest_version least inodes
later_rising version least [] h = tt
later_rising version least (inode ∷ inodes) h = (h.0, later_recordable version inode.0 inode.1 h.1, later_rising version (inode.0 + 1) inodes h.2)

-- records of an older version are read as those of the latest
later_read : (version count : ℕ) (records : List ℕ) (inodes : List (ℕ × Inode)) → AreBytes records → records_from version count root_id records ≡ Some (inodes, []) → records_from latest_version count root_id records ≡ Some (inodes, [])
later_read version count records inodes fits read =
    let h = records_written version count root_id records inodes [] fits read in
    ap (records_from latest_version count root_id) h.0 ∙ ap (λ n. records_from latest_version n root_id (records_text inodes ++ [])) (sym h.1) ∙ records_again latest_version root_id inodes [] (later_rising version root_id inodes h.2)

pub text_records : (oldest : ℕ) (bytes : List ℕ) (header : Header) (records : List ℕ) → AreBytes bytes → IsText oldest bytes header records → AreRecords header records
text_records oldest bytes header records fits text =
    let h = version_written bytes text.version text.rest fits text.begun in
    let n = numbers_exact.written text.rest header records h.2 text.spelled.numbers in
    record { ordinal = n.1.ordinal; last_time = n.1.last_time; bytes = n.2; inodes = text.spelled.inodes; read = later_read text.version header.count records text.spelled.inodes n.2 text.spelled.read }

pub not_malformed : (oldest : ℕ) (bytes : List ℕ) (header : Header) (records : List ℕ) → AreBytes bytes → IsText oldest bytes header records → IsMalformed oldest bytes → ⊥
not_malformed oldest bytes header records fits text malformed = malformed.1 (files_with header text.spelled.inodes) (text_spells oldest bytes header records fits text)

-- What is built of records ----------------------------------------------------------------------------------------------

-- they spell it
pub records_spell : (header : Header) (records : List ℕ) (are : AreRecords header records) → IsSpellable latest_version (files_with header are.inodes)
records_spell header records are =
    let h = records_written latest_version header.count root_id records are.inodes [] are.bytes are.read in
    let own = entries_from are.inodes (rising_sorted latest_version root_id are.inodes h.2) in
    record {
      inodes = each_of_all (Recordable latest_version) (from_entries are.inodes) (subst (AllByRecursion (Recordable latest_version)) (sym own) (all_recordable latest_version root_id are.inodes h.2));
      ordinal = are.ordinal;
      last_time = are.last_time;
    }

same_inodes : (header : Header) (records : List ℕ) (are : AreRecords header records) (inodes : List (ℕ × Inode)) (rest : List ℕ) → records_from latest_version header.count root_id records ≡ Some (inodes, rest) → are.inodes ≡ inodes
same_inodes header records are inodes rest read = ap (λ p. p.0) (some_is (are.inodes, []) (inodes, rest) (sym are.read ∙ read))

-- what is well formed is within the limits
pub all_limited : (header : Header) (records : List ℕ) (are : AreRecords header records) → IsWellFormed (files_with header are.inodes) → AllByRecursion (λ inode. IsLimited inode.1) are.inodes
all_limited header records are formed =
    let h = records_written latest_version header.count root_id records are.inodes [] are.bytes are.read in
    let own = entries_from are.inodes (rising_sorted latest_version root_id are.inodes h.2) in
    subst (AllByRecursion (λ inode. IsLimited inode.1)) own (all_of_each (λ inode. IsLimited inode.1) (from_entries are.inodes) formed.tree.limited)

-- What was built, against what the records spell -----------------------------------------------------------------------

pub ill_limited : (header : Header) (records : List ℕ) → AreRecords header records → BuildsTree None (records_from latest_version header.count root_id records) → BuildsFiles None header records
ill_limited header records are refused inodes rest read formed =
    let same = same_inodes header records are inodes rest read in
    let limited = all_limited header records are (subst (λ (x : List (ℕ × Inode)). IsWellFormed (files_with header x)) (sym same) formed) in
    refused inodes rest read (subst (AllByRecursion (λ (inode : ℕ × Inode). IsLimited inode.1)) same limited)

-- the file system of the tree, the ordinal and the time
pub built_files : (header : Header) (records : List ℕ) (tree : Slots) (inodes : List (ℕ × Inode)) (rest : List ℕ) → BuildsTree (Some tree) (records_from latest_version header.count root_id records) → records_from latest_version header.count root_id records ≡ Some (inodes, rest)
    → file_system_of tree header.next_ordinal header.last_time ≡ files_with header inodes
built_files header records tree inodes rest built read = ap (λ m. record { tree = m; next_ordinal = header.next_ordinal; last_time = header.last_time }) (built inodes rest read).0

pub ill_formed : (header : Header) (records : List ℕ) (tree : Slots) → BuildsTree (Some tree) (records_from latest_version header.count root_id records) → (IsWellFormed (file_system_of tree header.next_ordinal header.last_time) → ⊥) → BuildsFiles None header records
ill_formed header records tree built fails inodes rest read formed = fails (subst IsWellFormed (sym (built_files header records tree inodes rest built read)) formed)

-- where that is well formed it is live
pub held_is_live : (header : Header) (records : List ℕ) (are : AreRecords header records) (tree : Slots) → BuildsTree (Some tree) (records_from latest_version header.count root_id records) → IsWellFormed (file_system_of tree header.next_ordinal header.last_time)
    → IsLive (file_system_of tree header.next_ordinal header.last_time)
held_is_live header records are tree built formed =
    let same = built_files header records tree are.inodes [] built are.read in
    subst IsLive (sym same) (spelled_is_live (files_with header are.inodes) (records_spell header records are) (subst IsWellFormed same formed))

-- What is told of the bytes ---------------------------------------------------------------------------------------------

pub restored : (oldest : ℕ) (bytes : List ℕ) (header : Header) (records : List ℕ) (files : Option FileSystem) → AreBytes bytes → IsText oldest bytes header records → BuildsFiles (Some files) header records → IsRestored oldest bytes files
unfolding text_records
restored oldest bytes header records None fits text built = absurd built
restored oldest bytes header records (Some files) fits text built =
    let are = text_records oldest bytes header records fits text in
    (subst (Spells oldest bytes) (sym (built.0 are.inodes [] are.read)) (text_spells oldest bytes header records fits text), built.1)

pub spells_ill_formed : (oldest : ℕ) (bytes : List ℕ) (header : Header) (records : List ℕ) → AreBytes bytes → IsText oldest bytes header records → BuildsFiles None header records → SpellsIllFormed oldest bytes
unfolding text_records
spells_ill_formed oldest bytes header records fits text built =
    let are = text_records oldest bytes header records fits text in
    record {
      files = files_with header text.spelled.inodes;
      spells = text_spells oldest bytes header records fits text;
      ill_formed = built are.inodes [] are.read;
    }
