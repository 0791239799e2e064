use Rattle.bfs_recovery.proofs.Saying.{lives_say_one_text}
use Rattle.bfs_recovery.proofs.laws.lives_say_one_text.Goals as goal

pub returns : goal.returns
returns c = lives_say_one_text c.lives_agree.ensures c.one_text_of_each_place.ensures c.one_text_of_each_index.ensures
