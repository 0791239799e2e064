use Rattle.std.proofs.Common.{◌≡◌, ◌∙◌, ℕ, true, List, Option, Some, None, length, refl, sym, ap, ap₂, subst}
use Rattle.bfs_model.specs.Server.Stored.{IsLive}
use Rattle.bfs_checkpoints.specs.Laws.{ATextSpellsOneNode, IsReadable, LiveNodesAreReadAgain}
use Rattle.std.proofs.lemmas.Option.{same_Some}
use Rattle.bfs_model.specs.Server.Tree.{FileSystem}
use Rattle.bfs_checkpoints.specs.Adoption.{HasDigest}
use Rattle.bfs_checkpoints.specs.Outcomes.{IsRead}
use Rattle.bfs_checkpoints.specs.Snapshots.{Snapshot, snapshot_of}
use Rattle.bfs_checkpoints.specs.Texts.{SpellsNode, node_digest, node_text}
use Rattle.bfs_log.specs.Certificates.{StableCheckpoint}
use Rattle.bfs_replies.specs.Tables.{Table}
use Rattle.bfs_node.specs.Adopting.{Adopts, IsAdoptionRefusal, IsRefusalIf, IsTextRefusal, holding, may_adopt}
use Rattle.bfs_node.specs.declared.error.NodeError.{NodeError}
use Rattle.bfs_node.specs.declared.error.NodeError.TheVariants as error
use Rattle.bfs_node.specs.Nodes.{Node}
use Rattle.bfs_node.proofs.node.Node.adopt.Goals as goal

read_is_adopted : (node : Node) (clients : ℕ) (text digest : List ℕ) (checkpoint : StableCheckpoint) (files : Option FileSystem) (table : Table) (snapshot : Snapshot) (now : Node)
    → may_adopt node checkpoint ≡ true → clients ≡ length node.table → digest ≡ checkpoint.digest → IsRead clients text files table → HasDigest files table digest
    → snapshot ≡ record { text = text; digest = digest } → now ≡ holding node checkpoint files table snapshot → Adopts node text checkpoint now
read_is_adopted node clients text digest checkpoint None table snapshot now may all told read hashed taken is = absurd read
read_is_adopted node clients text digest checkpoint (Some live) table snapshot now may all told read hashed taken is =
    let same : node_digest live table ≡ digest = same_Some _ _ hashed in
    let spelled : snapshot ≡ snapshot_of live table = taken ∙ ap₂ (λ (t d : List ℕ). record { text = t; digest = d }) read.0.spelled (sym same) in
    record {
      may = may;
      files = live;
      table = table;
      spells = subst (λ (n : ℕ). SpellsNode n text live table) all read.0;
      live = read.1;
      digest = same ∙ told;
      now_is = is ∙ ap (holding node checkpoint (Some live) table) spelled;
    }

-- what is read again is not refused
module _ (again : LiveNodesAreReadAgain) (one : ATextSpellsOneNode) (clients : ℕ) (text digest : List ℕ) (files : FileSystem) (table : Table) (spells : SpellsNode clients text files table) (live : IsLive files)
    (told : node_digest files table ≡ digest) where
  readable : IsReadable clients text
  readable = subst (λ bytes. IsReadable clients bytes) (sym spells.spelled) (subst (λ n. IsReadable n (node_text files table)) spells.clients_are (again files table live spells.kept).1)

  same_digest : (found : FileSystem) (read : Table) → (found ≡ files) × (read ≡ table) → node_digest found read ≡ node_digest files table
  same_digest found read same = rw (same.0, same.1) refl

  not_refused : (e : NodeError) → IsTextRefusal clients text digest e → ⊥
  not_refused error.BatchFull refused = refused
  not_refused error.MalformedText refused = refused.1 files table spells
  not_refused error.NotWellFormed refused = readable.not_ill_formed refused
  not_refused error.WrongVersion refused = readable.not_other refused
  not_refused error.Malformed refused = refused
  not_refused error.BadAuthenticator refused = refused
  not_refused error.WrongView refused = refused
  not_refused error.OutsideMarks refused = refused
  not_refused error.Conflicting refused = refused
  not_refused error.NotPrimary refused = refused
  not_refused error.AlreadyHave refused = refused
  not_refused error.TooFew refused = refused
  not_refused error.BadCertificate refused = refused
  not_refused error.WrongChoice refused = refused
  not_refused error.NoCertificate refused = refused
  not_refused error.DigestDiffers refused = refused.other (same_digest refused.files refused.table (one clients clients text files refused.files table refused.table spells refused.spells) ∙ told)
  not_refused error.WrongKind refused = refused
  not_refused error.Memory refused = refused
  not_refused error.Failed refused = refused

never_refused : LiveNodesAreReadAgain → ATextSpellsOneNode → (node : Node) (text : List ℕ) (checkpoint : StableCheckpoint) (now : Node) → Adopts node text checkpoint now → (e : NodeError) → IsAdoptionRefusal node text checkpoint e → ⊥
never_refused again one node text checkpoint now adopts e refused =
    not_refused again one (length node.table) text checkpoint.digest adopts.files adopts.table adopts.spells adopts.live adopts.digest e
    (subst (λ may. IsRefusalIf may (length node.table) text checkpoint.digest e) adopts.may refused)

pub returns-clause-now : goal.returns-clause-now
returns-clause-now g c =
    read_is_adopted c.args.self.now c.clients.result c.args.text.now c.digest.result.now c.args.checkpoint.now c.in_ok-adopted.adopted.files c.in_ok-adopted.adopted.table
    c.in_ok-adopted.adopted.snapshot c.hold.new.self (sym c.may_adopt.ensures ∙ c.if-not-may_adopt.false) (c.clients.ensures.value ∙ ap (λ (node : Node). length node.table) c.self.view_is)
    c.digest.ensures c.in_ok-adopted.ensures.read c.in_ok-adopted.ensures.digest c.in_ok-adopted.ensures.snapshot c.in_ok-hold.ensures.now

pub returns-clause-taken : goal.returns-clause-taken
returns-clause-taken g c = never_refused c.live_nodes_are_read_again.ensures c.a_text_spells_one_node.ensures c.args.self.now c.args.text.now c.args.checkpoint.now c.hold.new.self (returns-clause-now g c)
