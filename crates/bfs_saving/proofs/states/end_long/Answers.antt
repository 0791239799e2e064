-- The room is filled with the length of what stands behind it.
use Rattle.std.proofs.Common.{◌∙◌, ◌++◌, ◌+◌, ℕ, List, length, take, drop, sym, ap}
use Rattle.bfs_model.specs.Bytes.Items.{hyper}
use Rattle.bfs_saving.proofs.Sealed.{all_of, as_long, ended, eight_bytes}
use Rattle.bfs_saving.proofs.states.end_long.Goals as goal

pub returns : goal.returns
returns c = λ before text place is.
    let whole = c.args.out.now.items in
    let now = c.put_at.new.bytes in
    let part = c.to_be_bytes.result in
    let value = c.deref_mut.ensures.value in
    let put = c.put_at.ensures.front ∙ ap (λ (w : List ℕ). take c.args.start w ++ part) value in
    let stays = c.put_at.ensures.behind ∙ ap (λ (w : List ℕ). drop (c.args.start + length part) w) value in
    let done = ended before text whole c.split_at.result.1.now part now c.args.start place is (c.split_at.ensures.back ∙ ap (drop (c.args.start + 8)) c.deref.ensures.value) (c.are_bytes.ensures.double, c.are_bytes.ensures.bytes) (c.to_be_bytes.ensures ∙ eight_bytes (length c.split_at.result.1.now)) put stays in
    let long = as_long before text now whole done.0 is ∙ sym (ap length value) ∙ c.deref_mut.ensures.len in
    (all_of now whole c.args.out.now.len long ∙ done.0, done.1)
