-- The words in front, and then what the inode holds.
use Rattle.std.proofs.Common.{◌++◌, Result, Ok, Err, ap, ◌∙◌, append_assoc}
use Rattle.std.specs.Prelude.{OnOk}
use Rattle.bfs_model.specs.Bytes.Items.{words}
use Rattle.bfs_model.specs.Server.Tree.{Body}
use Rattle.bfs_inode.specs.Inodes.{body_seen}
use Rattle.bfs_inode.specs.Records.{body_text, head_words, record_text}
use Rattle.bfs_digest.proofs.Fronts.{still_refused}
use Rattle.bfs_digest.proofs.writers.put_record.Goals as goal

on_ok : {A E : Type 0} {P Q : Type 0} (r : Result A E) → (P → Q) → OnOk r P → OnOk r Q
on_ok (Ok x) follows h = follows h
on_ok (Err e) follows h = tt

pub returns-clause-ok : goal.returns-clause-ok
unfolding record_text
returns-clause-ok c =
    let out = c.args.out.now.items in
    let front = words (head_words c.args.id c.args.inode.now) in
    let held = body_text (body_seen c.body.result.now) in
    on_ok c.put_body.result (λ put.
    put ∙ ap (λ bytes. bytes ++ held) (c.in_ok-put_words.ensures.ok ∙ ap (λ numbers. out ++ words numbers) c.head_words.ensures)
    ∙ append_assoc out front held
    ∙ ap (λ (body : Body). out ++ (front ++ body_text body)) c.body.ensures) c.put_body.ensures.ok

pub returns-clause-err : goal.returns-clause-err
returns-clause-err c = still_refused c.put_body.result c.args.out.now.items _ _ c.put_body.new.out.items c.in_ok-put_words.ensures.ok c.put_body.ensures.err
