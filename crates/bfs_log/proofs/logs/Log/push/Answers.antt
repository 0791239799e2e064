use Rattle.bfs_log.specs.Places.{row_at}
use Rattle.bfs_log.proofs.Keeping.{pushed, unchanged}
use Rattle.bfs_log.proofs.Maps.{undone}
use Rattle.bfs_log.proofs.logs.Log.push.Goals as goal

pub invariant_of-self-in-Ok : goal.invariant_of-self-in-Ok
invariant_of-self-in-Ok c =
    let log = c.self.inside.messages.items in
    rw c.in-Ok.ensures.items (pushed log c.args.signed c.self.inside.places c.put_at.new.places c.self.invariant
    (rw (← c.self.view_is) at c.requires.free) c.requires.sender
    (rw (c.place_of-place.ensures, c.in_ok-said.ensures) at c.in_ok-put_at.ensures.ok))

pub invariant_of-self-in-Err : goal.invariant_of-self-in-Err
invariant_of-self-in-Err c =
    let before = c.self.inside.places in
    rw c.in-Err.ensures.items (unchanged c.self.inside.messages.items before c.pop_at.new.places c.self.invariant
    (undone c.put_at.new.places c.pop_at.new.places (row_at before) c.place_of-place.result c.in_ok-said.said c.in_ok-put_at.ensures.ok c.pop_at.ensures.last c.pop_at.ensures.others))
