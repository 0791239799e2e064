use Rattle.std.proofs.Common.{◌≡◌, ◌∙◌, ℕ, List, Option, Some, None, Err, length, refl, sym, ap, subst}
use Rattle.bfs_auth.specs.Keys.{Keys}
use Rattle.bfs_checkpoints.specs.Adoption.{refusal_of}
use Rattle.bfs_checkpoints.specs.Outcomes.{IsRead}
use Rattle.bfs_checkpoints.specs.Texts.{SpellsNode}
use Rattle.bfs_digest.specs.declared.errors.RestoreError.{RestoreError}
use Rattle.bfs_digest.specs.declared.errors.RestoreError.TheVariants as restoring
use Rattle.bfs_model.specs.Server.Tree.{FileSystem}
use Rattle.bfs_replies.specs.Tables.{Table}
use Rattle.bfs_node.specs.Errors.{of_adopting}
use Rattle.bfs_node.specs.Nodes.{BeginsWith, Node, beginning_with}
use Rattle.bfs_node.specs.declared.error.NodeError.TheVariants as error
use Rattle.bfs_node.proofs.node.Node.from_text.Goals as goal

begins_with : (keys : Keys) (text : List ℕ) (clients : ℕ) (files : Option FileSystem) (table : Table) (made : Node) → clients ≡ length keys.clients → IsRead clients text files table
    → ((live : FileSystem) → files ≡ Some live → made ≡ beginning_with keys live table) → BeginsWith keys text made
begins_with keys text clients None table made is read begun = absurd read
begins_with keys text clients (Some live) table made is read begun = record {
  files = live;
  table = table;
  spells = subst (λ n. SpellsNode n text live table) is read.0;
  live = read.1;
  node_is = begun live refl;
}

not_well_formed : (e : RestoreError) → of_adopting (refusal_of e) ≡ error.NotWellFormed → e ≡ restoring.NotWellFormed
not_well_formed restoring.NotWellFormed is = refl
not_well_formed restoring.Malformed is = absurd cc
not_well_formed restoring.WrongVersion is = absurd cc
not_well_formed restoring.Memory is = absurd cc

pub returns-in_ok-with_state-in-Ok-clause-ok : goal.returns-in_ok-with_state-in-Ok-clause-ok
returns-in_ok-with_state-in-Ok-clause-ok c =
    begins_with c.args.keys c.args.text.now c.clients.result c.in-Ok.files c.in-Ok.table c.in_ok-with_state-in-Ok.field-0 c.clients.ensures c.in-Ok.ensures.ok c.in_ok-with_state-in-Ok.ensures

pub returns-in-Err-clause-ill_formed : goal.returns-in-Err-clause-ill_formed
returns-in-Err-clause-ill_formed c is =
    let same : c.from-in-Err.result ≡ error.NotWellFormed = cc in
    rw c.clients.ensures at (c.in-Err.ensures.ill_formed (ap Err (not_well_formed c.in-Err.error (ap of_adopting (sym c.from.ensures) ∙ sym c.from-in-Err.ensures ∙ same))))

malformed_only : (e : RestoreError) → of_adopting (refusal_of e) ≡ error.MalformedText → e ≡ restoring.Malformed
malformed_only restoring.Malformed is = refl
malformed_only restoring.NotWellFormed is = absurd cc
malformed_only restoring.WrongVersion is = absurd cc
malformed_only restoring.Memory is = absurd cc

version_only : (e : RestoreError) → of_adopting (refusal_of e) ≡ error.WrongVersion → e ≡ restoring.WrongVersion
version_only restoring.WrongVersion is = refl
version_only restoring.Malformed is = absurd cc
version_only restoring.NotWellFormed is = absurd cc
version_only restoring.Memory is = absurd cc

pub returns-in-Err-clause-malformed : goal.returns-in-Err-clause-malformed
returns-in-Err-clause-malformed c =
    let of : c.from-in-Err.result ≡ of_adopting (refusal_of c.in-Err.error) = c.from-in-Err.ensures ∙ ap of_adopting c.from.ensures in (
      (λ is.
          let same : c.from-in-Err.result ≡ error.MalformedText = cc in
          rw c.clients.ensures at (c.in-Err.ensures.malformed.0 (ap Err (malformed_only c.in-Err.error (sym of ∙ same))))),
      (λ none.
          let told = c.in-Err.ensures.malformed.1 (rw (sym c.clients.ensures) at none) in
          let same : c.in-Err.error ≡ restoring.Malformed = cc in
          ap Err (of ∙ ap (λ (e : RestoreError). of_adopting (refusal_of e)) same)),
    )

pub returns-in-Err-clause-wrong_version : goal.returns-in-Err-clause-wrong_version
returns-in-Err-clause-wrong_version c =
    let of : c.from-in-Err.result ≡ of_adopting (refusal_of c.in-Err.error) = c.from-in-Err.ensures ∙ ap of_adopting c.from.ensures in (
      (λ is.
          let same : c.from-in-Err.result ≡ error.WrongVersion = cc in
          rw c.clients.ensures at (c.in-Err.ensures.wrong_version.0 (ap Err (version_only c.in-Err.error (sym of ∙ same))))),
      (λ other.
          let told = c.in-Err.ensures.wrong_version.1 (rw (sym c.clients.ensures) at other) in
          let same : c.in-Err.error ≡ restoring.WrongVersion = cc in
          ap Err (of ∙ ap (λ (e : RestoreError). of_adopting (refusal_of e)) same)),
    )
