-- A table's text in front: what stands behind it is told by what stands there.
use Rattle.std.proofs.Common.{◌≡◌, ℕ, List, ◌++◌, length, Option, Some, None, refl, sym, ap, subst, ◌∙◌}
use Rattle.bfs_model.specs.Bytes.Formats.{Reading}
use Rattle.bfs_model.specs.Server.Stored.{AreBytes}
use Rattle.bfs_model.specs.Server.Tree.{FileSystem}
use Rattle.bfs_model.proofs.Public.{some_is}
use Rattle.bfs_digest.specs.Outcomes.{HasOtherVersion, IsMalformed, IsRestored, SpellsIllFormed}
use Rattle.bfs_digest.specs.Text.{Spells, latest_version, snapshot_text}
use Rattle.bfs_digest.proofs.Public.{spelled_latest, spells_latest}
use Rattle.bfs_replies.specs.Tables.{Table, IsKept}
use Rattle.bfs_replies.specs.Texts.{table_text}
use Rattle.bfs_replies.specs.TextReading.{passed, table_from}
use Rattle.bfs_replies.proofs.Public.{tables_again, tables_written}
use Rattle.bfs_checkpoints.specs.Texts.{SpellsNode, node_text}
use Rattle.bfs_checkpoints.specs.Outcomes.{IsRead, NodeHasOtherVersion, NodeIsMalformed, SpellsIllFormedNode}

-- the bytes begin with the text of a table, and the rest is behind it
pub record Stands (clients : ℕ) (bytes : List ℕ) (table : Table) (rest : List ℕ) : Type 0 where
  pub table_is : table_from bytes ≡ Some (table, rest)
  pub spelled : bytes ≡ table_text table ++ rest
  pub kept : IsKept table
  pub clients_are : length table ≡ clients

-- what a table's text is passed over for
pub stands : (bytes : List ℕ) (clients : ℕ) (rest : List ℕ) → AreBytes bytes → Some (clients, rest) ≡ passed (table_from bytes) → (table : Table) × Stands clients bytes table rest
stands bytes clients rest fits told = by (table_from bytes) refl told
  where
    by : (reading : Reading Table) → table_from bytes ≡ reading → Some (clients, rest) ≡ passed reading → (table : Table) × Stands clients bytes table rest
    by None is e = absurd cc
    by (Some read) is e =
        let same = sym (some_is {A = ℕ × List ℕ} (clients, rest) (length read.0, read.1) e) in
        let with_table : ℕ × List ℕ → Reading Table = λ p. Some (read.0, p.1) in
        let found : table_from bytes ≡ Some (read.0, rest) = is ∙ ap with_table same in
        let written = tables_written bytes read.0 rest fits found in
        (read.0, record { table_is = found; spelled = written.0; kept = written.1; clients_are = ap (λ (p : ℕ × List ℕ). p.0) same })

module _ (clients : ℕ) (bytes : List ℕ) (table : Table) (rest : List ℕ) (there : Stands clients bytes table rest) where
  -- no other table stands there
  same : (other : Table) (behind : List ℕ) → IsKept other → bytes ≡ table_text other ++ behind → (other ≡ table) × (behind ≡ rest)
  same other behind kept spelled =
      let e = some_is {A = Table × List ℕ} (other, behind) (table, rest) (sym (tables_again other behind kept) ∙ ap table_from (sym spelled) ∙ there.table_is) in
      (ap (λ (p : Table × List ℕ). p.0) e, ap (λ (p : Table × List ℕ). p.1) e)

  pub spells_node : (files : FileSystem) → Spells latest_version rest files → SpellsNode clients bytes files table
  unfolding node_text
  spells_node files spells =
      let text = spelled_latest rest files spells in
      record {
        clients_are = there.clients_are;
        kept = there.kept;
        spellable = text.spellable;
        spelled = there.spelled ∙ ap (λ behind. table_text table ++ behind) text.spelled;
      }

  pub spells_rest : (files : FileSystem) (other : Table) (number : ℕ) → SpellsNode number bytes files other → Spells latest_version rest files × (other ≡ table)
  unfolding node_text
  spells_rest files other number spells =
      let e = same other (snapshot_text files) spells.kept spells.spelled in
      (spells_latest rest files (record { spellable = spells.spellable; spelled = sym e.1 }), e.0)

  pub other_node : HasOtherVersion latest_version rest → NodeHasOtherVersion clients bytes
  other_node other = record { table = table; rest = rest; clients_are = there.clients_are; kept = there.kept; spelled = there.spelled; other = other }

  pub other_rest : (number : ℕ) → NodeHasOtherVersion number bytes → HasOtherVersion latest_version rest
  other_rest number node = subst (HasOtherVersion latest_version) (same node.table node.rest node.kept node.spelled).1 node.other

  pub malformed_node : IsMalformed latest_version rest → NodeIsMalformed clients bytes
  malformed_node malformed = (λ other. malformed.0 (other_rest clients other), λ files read spells. malformed.1 files (spells_rest files read clients spells).0)

  pub malformed_rest : NodeIsMalformed clients bytes → IsMalformed latest_version rest
  malformed_rest malformed = (λ other. malformed.0 (other_node other), λ files spells. malformed.1 files table (spells_node files spells))

  pub ill_formed_node : SpellsIllFormed latest_version rest → SpellsIllFormedNode clients bytes
  ill_formed_node ill = record { files = ill.files; table = table; spells = spells_node ill.files ill.spells; ill_formed = ill.ill_formed }

  pub is_read : (files : Option FileSystem) (read : Table) (behind : List ℕ) → table_from bytes ≡ Some (read, behind) → IsRestored latest_version rest files → IsRead clients bytes files read
  is_read None read behind found restored = restored
  is_read (Some files) read behind found restored =
      let e = some_is {A = Table × List ℕ} (table, rest) (read, behind) (sym there.table_is ∙ found) in
      (subst (SpellsNode clients bytes files) (ap (λ (p : Table × List ℕ). p.0) e) (spells_node files restored.0), restored.1)

  -- so there is none of another number of clients
  pub other_number : (number : ℕ) → (clients ≡ number → ⊥) → NodeIsMalformed number bytes
  other_number number differ = (
    λ other. differ (sym there.clients_are ∙ ap length (sym (same other.table other.rest other.kept other.spelled).0) ∙ other.clients_are),
    λ files read spells. differ (sym there.clients_are ∙ ap length (sym (spells_rest files read number spells).1) ∙ spells.clients_are),
  )

pub none_stands : (clients : ℕ) (bytes : List ℕ) → None ≡ passed (table_from bytes) → NodeIsMalformed clients bytes
unfolding node_text
none_stands clients bytes none = (
  λ other. no other.table other.rest other.kept other.spelled,
  λ files table spells. no table (snapshot_text files) spells.kept spells.spelled,
)
  where
    no : (table : Table) (rest : List ℕ) → IsKept table → bytes ≡ table_text table ++ rest → ⊥
    no table rest kept spelled =
        let found : table_from bytes ≡ Some (table, rest) = ap table_from spelled ∙ tables_again table rest kept in
        let both : passed (table_from bytes) ≡ Some (length table, rest) = ap passed found in
        absurd cc
