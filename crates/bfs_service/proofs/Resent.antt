-- What a node gives again is told behind what was sent.
use Rattle.std.proofs.Common.{◌≡◌, ◌∙◌, ℕ, List, [], ◌++◌, map, sym, ap, append_assoc, append-nil}
use Rattle.bfs_frames.specs.Parcels.{Told}
use Rattle.bfs_node.specs.Nodes.{Node}
use Rattle.bfs_node.specs.Resending.{resent}
use Rattle.bfs_order.specs.declared.resending.Lag.{Lag}
use Rattle.bfs_nodes_agree.proofs.Public.{both_in, none_in, out_of_map}
use Rattle.bfs_service.specs.Acting.{Acting}
use Rattle.bfs_service.specs.Telling.{HasGiven, HasNotes, IsGiven, Tells, message_given, message_told}

pub nothing_given : (node : Node) (told : List Told) → HasGiven node told told
nothing_given node told = record { given = []; each = none_in (IsGiven node); told_is = sym (append-nil told) }

pub more_given : (node : Node) (first next last : List Told) → HasGiven node first next → HasGiven node next last → HasGiven node first last
more_given node first next last one other = record {
  given = one.given ++ other.given;
  each = both_in (IsGiven node) one.given other.given one.each other.each;
  told_is = other.told_is ∙ ap (λ told. told ++ other.given) one.told_is ∙ append_assoc first one.given other.given;
}

pub given_to_one : (node : Node) (number : ℕ) (lag : Lag) (before given after : List Told) → given ≡ map (message_given number) (resent node lag) → after ≡ before ++ given
    → HasGiven node before after
given_to_one node number lag before given after is behind = record {
  given = map (message_given number) (resent node lag);
  each = λ t i. let from = out_of_map (message_given number) (resent node lag) t i in (number, lag, from.0, from.1, from.2);
  told_is = behind ∙ ap (λ told. before ++ told) is;
}

pub all_told : (acting : Acting) (first next last : List Told) → first ≡ map message_told acting.sent → HasGiven acting.node first next → HasNotes next last → Tells acting last
all_told acting first next last is given noted = record {
  given = given.given;
  notes = noted.notes;
  each = given.each;
  none_is_a_message = noted.none_is_a_message;
  told_is = noted.told_is ∙ ap (λ told. told ++ noted.notes) (given.told_is ∙ ap (λ told. told ++ given.given) is)
      ∙ append_assoc (map message_told acting.sent) given.given noted.notes;
}
