-- A text spells one replica, and the text of a live one can be read.
use Rattle.std.proofs.Common.{ℕ, List, length, refl, sym, ap, subst, ◌∙◌}
use Rattle.bfs_model.specs.Server.Stored.{IsLive}
use Rattle.bfs_model.specs.Server.Tree.{FileSystem}
use Rattle.bfs_model.specs.Server.WellFormed.{IsWellFormed}
use Rattle.bfs_digest.proofs.Public.{live_is_spellable, one_file_system, spelled_has_no_other_version}
use Rattle.bfs_digest.specs.Text.{latest_version, snapshot_text}
use Rattle.bfs_replies.specs.Tables.{Table, IsKept}
use Rattle.bfs_replies.specs.TextReading.{table_from}
use Rattle.bfs_replies.proofs.Public.{tables_again}
use Rattle.bfs_checkpoints.specs.Laws.{ANodeHasOneText, ATextSpellsOneNode, IsReadable, LiveNodesAreReadAgain}
use Rattle.bfs_checkpoints.specs.Texts.{SpellsNode, node_text}
use Rattle.bfs_checkpoints.proofs.Standing.{Stands, other_rest, spells_rest}

pub one_text : ANodeHasOneText
one_text clients others files table one other a b = a.spelled ∙ sym b.spelled

-- its table's text stands in front
there : (clients : ℕ) (bytes : List ℕ) (files : FileSystem) (table : Table) → SpellsNode clients bytes files table → Stands clients bytes table (snapshot_text files)
unfolding node_text
there clients bytes files table spells = record {
  table_is = ap table_from spells.spelled ∙ tables_again table (snapshot_text files) spells.kept;
  spelled = spells.spelled;
  kept = spells.kept;
  clients_are = spells.clients_are;
}

pub one_node : ATextSpellsOneNode
one_node clients others bytes files found table read a b =
    let stands = there clients bytes files table a in
    let first = spells_rest clients bytes table (snapshot_text files) stands files table clients a in
    let second = spells_rest clients bytes table (snapshot_text files) stands found read others b in
    ((one_file_system latest_version latest_version _ found files second.0 first.0).0, second.1)

live_is_spelled : (files : FileSystem) (table : Table) → IsLive files → IsKept table → SpellsNode (length table) (node_text files table) files table
live_is_spelled files table live kept = record { clients_are = refl; kept = kept; spellable = live_is_spellable files live; spelled = refl }

live_is_readable : (files : FileSystem) (table : Table) → IsLive files → IsKept table → IsReadable (length table) (node_text files table)
live_is_readable files table live kept =
    let bytes = node_text files table in
    let spells = live_is_spelled files table live kept in
    let stands = there (length table) bytes files table spells in
    let own = spells_rest (length table) bytes table (snapshot_text files) stands files table (length table) spells in
    record {
      not_malformed = λ malformed. malformed.1 files table spells;
      not_other = λ other. spelled_has_no_other_version latest_version _ files own.0 (other_rest (length table) bytes table (snapshot_text files) stands (length table) other);
      not_ill_formed = λ ill. ill.ill_formed (subst IsWellFormed (sym (one_node (length table) (length table) bytes files ill.files table ill.table spells ill.spells).0) live.formed);
    }

pub read_again : LiveNodesAreReadAgain
read_again files table live kept = (live_is_spelled files table live kept, live_is_readable files table live kept)
