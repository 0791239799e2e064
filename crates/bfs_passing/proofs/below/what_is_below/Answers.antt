use Rattle.bfs_passing.proofs.below.what_is_below.Goals as goal

pub returns : goal.returns
returns c = record {
  same = c.a_replica_stays_itself.ensures;
  views = c.views_are_entered.ensures.kept;
  windows = c.numbers_lie_in_the_window.ensures.kept;
  written = c.message_was_written.ensures;
  one = c.batches_with_one_text.ensures;
  moved = c.deeds_are_moves.ensures;
  made = c.made_tells_what_is_prepared.ensures;
  valid = c.right_new_views_are_valid.ensures;
}
