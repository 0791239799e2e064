use Rattle.std.proofs.Common.{◌∙◌, [], ◌∷◌, ◌++◌, ap, sym, take}
use Rattle.bfs_messages.specs.Messages.{Request}
use Rattle.bfs_messages.specs.declared.signed.Signed.{Signed}
use Rattle.std.proofs.lemmas.List.{take_more}
use Rattle.std.specs.BTreeMap.{get}
use Rattle.bfs_pending.specs.Indexes.{left_of}
use Rattle.bfs_pending.specs.Names.{name_cmp, name_of}
use Rattle.bfs_pending.proofs.Lasts.{forgot}
use Rattle.bfs_pending.proofs.waiting.forget.Goals as goal

pub loop-signed-preserved : goal.loop-signed-preserved
loop-signed-preserved c one =
    let i = c.loop-signed.signed-index in
    forgot (take i c.args.requests.now) c.signed-item.result one (get name_cmp c.args.last.now (name_of one)) c.loop-signed.last c.remove.new.self (c.loop-signed.invariant one)
    (rw c.name_of.ensures at c.remove.ensures.updates.0)
    ∙ ap (λ requests. left_of requests one (get name_cmp c.args.last.now (name_of one)))
    (sym (take_more c.args.requests.now i c.signed-item.result c.loop-signed-test.true ∙ ap (λ (x : Signed Request). take i c.args.requests.now ++ x ∷ []) (sym c.signed-item.is)))
