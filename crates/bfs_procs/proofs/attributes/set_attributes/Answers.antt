use Rattle.std.proofs.Common.{◌≡◌, Bool, List, Ok, Err, Some, sym, ap, ◌∙◌, arith}
use Rattle.std.proofs.lemmas.Grind.{common_steps}
use Rattle.std.specs.FinMap.{get}
use Rattle.bfs_model.specs.Bytes.Arguments.{Settings}
use Rattle.bfs_model.specs.Bytes.Replies.{Status}
use Rattle.bfs_model.specs.Server.Context.{Context}
use Rattle.bfs_model.specs.Server.Procedures.Attributes.{setting_refusals, size_refusals}
use Rattle.bfs_model.specs.Server.Refusals.{checked}
use Rattle.bfs_wire.specs.Replies.{status_seen}
use Rattle.bfs_tree.proofs.Public.{insert_same}
use Rattle.bfs_procs.specs.declared.not_done.NotDone.TheVariants.{Refused}
use Rattle.bfs_procs.proofs.Checks.{refused_first, passed_first, not_set}
use Rattle.bfs_procs.proofs.attributes.set_attributes.Goals as goal

pub returns-in_err-takes_settings-clause-done : goal.returns-in_err-takes_settings-clause-done
returns-in_err-takes_settings-clause-done g c =
    let led : c.args.file ≡ Some c.in_ok-id.id = grind (arith, common_steps) in
    let there : get (g.S.Store.inodes c.args.store.now) c.in_ok-id.id ≡ Some c.in-Some.inode.now = grind (arith, common_steps) in
    let caller_is : c.context.inside.caller ≡ c.args.context.now.caller = ap (λ (x : Context). x.caller) c.context.view_is in
    let tests : List (Bool × Status) = setting_refusals c.args.context.now.caller c.in-Some.inode.now c.args.settings.now in
    let more : List (Bool × Status) = size_refusals c.args.context.now.caller c.in-Some.inode.now c.args.settings.now.size c.in-Some.inode.now.body in
    let status : Status = status_seen c.in_err-takes_settings.field-0.0 in
    let refused : checked tests ≡ Err status =
    ap (λ caller. checked (setting_refusals caller c.in-Some.inode.now c.args.settings.now)) (sym caller_is) ∙ sym c.in_err-takes_settings.ensures in
    let given : c.from_residual-in_err-takes_settings.result ≡ Err (Refused c.in_err-takes_settings.field-0.0) = grind (arith, common_steps) in
    let same : g.S.Store.inodes (c.get_mut.follows.lender c.in-Some.inode.now) ≡ g.S.Store.inodes c.args.store.now = grind (arith, common_steps, insert_same) in
    rw given (not_set (g.S.Store.inodes c.args.store.now) c.args.context.now c.args.file c.args.settings.now c.in_ok-id.id c.in-Some.inode.now status led there (refused_first tests more status refused), same)

pub returns-in_err-takes_size-clause-done : goal.returns-in_err-takes_size-clause-done
returns-in_err-takes_size-clause-done g c =
    let led : c.args.file ≡ Some c.in_ok-id.id = grind (arith, common_steps) in
    let there : get (g.S.Store.inodes c.args.store.now) c.in_ok-id.id ≡ Some c.in-Some.inode.now = grind (arith, common_steps) in
    let caller_is : c.context.inside.caller ≡ c.args.context.now.caller = ap (λ (x : Context). x.caller) c.context.view_is in
    let tests : List (Bool × Status) = setting_refusals c.args.context.now.caller c.in-Some.inode.now c.args.settings.now in
    let more : List (Bool × Status) = size_refusals c.args.context.now.caller c.in-Some.inode.now c.args.settings.now.size c.in-Some.inode.now.body in
    let status : Status = status_seen c.in_err-takes_size.field-0.0 in
    let passed : checked tests ≡ Ok tt =
    ap (λ caller. checked (setting_refusals caller c.in-Some.inode.now c.args.settings.now)) (sym caller_is) ∙ sym c.in_ok-takes_settings.ensures in
    let size_is : c.settings.inside.size ≡ c.args.settings.now.size = ap (λ (x : Settings). x.size) c.settings.view_is in
    let refused : checked more ≡ Err status =
    ap (λ caller. checked (size_refusals caller c.in-Some.inode.now c.args.settings.now.size c.in-Some.inode.now.body)) (sym caller_is)
    ∙ ap (λ size. checked (size_refusals c.context.inside.caller c.in-Some.inode.now size c.in-Some.inode.now.body)) (sym size_is)
    ∙ sym c.in_err-takes_size.ensures in
    let given : c.from_residual-in_err-takes_size.result ≡ Err (Refused c.in_err-takes_size.field-0.0) = grind (arith, common_steps) in
    let same : g.S.Store.inodes (c.get_mut.follows.lender c.in-Some.inode.now) ≡ g.S.Store.inodes c.args.store.now = grind (arith, common_steps, insert_same) in
    rw given (not_set (g.S.Store.inodes c.args.store.now) c.args.context.now c.args.file c.args.settings.now c.in_ok-id.id c.in-Some.inode.now status led there (passed_first tests more passed ∙ refused), same)
