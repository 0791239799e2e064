-- The file system of the records is live where its tree was found well formed.
use Rattle.std.proofs.Common.{ℕ, [], true≢false, sym, subst, ◌∙◌}
use Rattle.bfs_model.specs.Server.Stored.{IsLive}
use Rattle.bfs_model.specs.Server.Tree.{root_id}
use Rattle.bfs_model.specs.Server.WellFormed.{IsWellFormed}
use Rattle.bfs_serial.specs.Parts.{file_system_of}
use Rattle.bfs_digest.specs.Text.{Header, latest_version}
use Rattle.bfs_digest.specs.Inside.TextReading.{records_from}
use Rattle.bfs_digest.specs.Inside.Taking.{BuildsTree}
use Rattle.bfs_digest.proofs.Restoring.{ill_limited, ill_formed, held_is_live}
use Rattle.bfs_digest.proofs.restoration.files_of.Goals as goal

pub returns-in_default : goal.returns-in_default
returns-in_default c =
    let built = subst (λ (h : Header). BuildsTree c.in_ok-tree.field-0 (records_from latest_version h.count root_id c.args.records.now)) c.header.view_is c.in_ok-tree.ensures in
    ill_limited c.args.header.now c.args.records.now c.requires (rw c.in_default.is at built)

pub is_well_formed-requires-clause-whole : goal.is_well_formed-requires-clause-whole
is_well_formed-requires-clause-whole c =
    let built = subst (λ (h : Header). BuildsTree c.in_ok-tree.field-0 (records_from latest_version h.count root_id c.args.records.now)) c.header.view_is c.in_ok-tree.ensures in
    ((rw c.in-Some.is at built) c.requires.inodes [] c.requires.read).1

pub returns-then-not-branch : goal.returns-then-not-branch
returns-then-not-branch c =
    let built = subst (λ (h : Header). BuildsTree c.in_ok-tree.field-0 (records_from latest_version h.count root_id c.args.records.now)) c.header.view_is c.in_ok-tree.ensures in
    ill_formed c.args.header.now c.args.records.now c.in-Some.tree (rw c.in-Some.is at built)
    (subst (λ (h : Header). IsWellFormed (file_system_of c.in-Some.tree h.next_ordinal h.last_time) → ⊥) c.header.view_is (λ formed. true≢false (sym ((c.in_ok-is_well_formed.ensures c.header.inside.last_time).1 formed) ∙ c.if-not-branch.true)))

pub from_parts-requires-clause-whole : goal.from_parts-requires-clause-whole
from_parts-requires-clause-whole c =
    let built = subst (λ (h : Header). BuildsTree c.in_ok-tree.field-0 (records_from latest_version h.count root_id c.args.records.now)) c.header.view_is c.in_ok-tree.ensures in
    ((rw c.in-Some.is at built) c.requires.inodes [] c.requires.read).1

pub from_parts-requires-clause-live : goal.from_parts-requires-clause-live
from_parts-requires-clause-live c =
    let built = subst (λ (h : Header). BuildsTree c.in_ok-tree.field-0 (records_from latest_version h.count root_id c.args.records.now)) c.header.view_is c.in_ok-tree.ensures in
    let formed = subst (λ (h : Header). IsWellFormed (file_system_of c.in-Some.tree h.next_ordinal h.last_time)) c.header.view_is ((c.in_ok-is_well_formed.ensures c.header.inside.last_time).0 c.if-not-branch.false) in
    let live = held_is_live c.args.header.now c.args.records.now c.requires c.in-Some.tree (rw c.in-Some.is at built) formed in
    subst (λ (n : ℕ). IsLive (file_system_of c.in-Some.tree n c.header.inside.last_time)) (sym c.ordinal_of-ordinal.ensures) (subst (λ (h : Header). IsLive (file_system_of c.in-Some.tree h.next_ordinal h.last_time)) (sym c.header.view_is) live)
