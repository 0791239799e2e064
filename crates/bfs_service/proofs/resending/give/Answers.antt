-- What is put behind is what the node gives again, to that replica.
use Rattle.std.proofs.Common.{◌≡◌, ◌++◌, ◌∙◌, map, ap}
use Rattle.std.proofs.lemmas.List.{map-append}
use Rattle.bfs_frames.specs.Parcels.{told_by}
use Rattle.bfs_node.specs.Resending.{resent}
use Rattle.bfs_service.specs.Telling.{message_given}
use Rattle.bfs_service.proofs.Resent.{given_to_one}
use Rattle.bfs_service.proofs.resending.give.Goals as goal

pub returns : goal.returns
returns c =
    let old = c.args.parcels.now.items in
    let more = c.in_ok-given.given.items in
    let is : map told_by more ≡ map (message_given c.args.number) (resent c.args.node.now c.args.lag) = cc (c.in_ok-given.ensures, c.deref.ensures.value, c.in_ok-resent.ensures) in
    let behind : map told_by c.append.new.self.items ≡ map told_by old ++ map told_by more = cc (c.in_ok-append.ensures.items, map-append told_by old more) in
    given_to_one c.args.node.now c.args.number c.args.lag (map told_by old) (map told_by more) (map told_by c.append.new.self.items) is behind
