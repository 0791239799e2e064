-- What repeated requests do.
use Rattle.std.proofs.Common.{refl}
use Rattle.bfs_outcome.specs.Outcome.{outcome}
use Rattle.bfs_one_server.specs.Examples.{LaterFirst, OneTimestampTwice, SentTwice}

pub sent_twice : SentTwice
unfolding outcome
sent_twice files time call = (refl, refl)

pub later_first : LaterFirst
unfolding outcome
later_first files time earlier later = (refl, refl)

pub one_timestamp_twice : OneTimestampTwice
unfolding outcome
one_timestamp_twice files time call other = (refl, refl)
