-- What is proved of runs without a crash holds over all lives.
use Rattle.bfs_places.specs.Laws.{OneTextOfEachIndex, OneTextOfEachPlace}
use Rattle.bfs_recovery.specs.Lives.{LivesAgree}
use Rattle.bfs_recovery.specs.Saying.{LivesSayOneText}

pub lives_say_one_text : LivesAgree → OneTextOfEachPlace → OneTextOfEachIndex → LivesSayOneText
lives_say_one_text agree texts indexes f keys start events before after new of have =
    let got = agree f keys start events before after new of have in
    let agreed = got.3 in (
      got.0,
      got.1,
      agreed.0,
      agreed.1,
      λ faulty positive shared comes. (
        agreed.3 faulty positive shared comes,
        λ k correct.
            (texts f keys start faulty agreed.0 shared comes k correct, λ key. indexes key f keys start faulty agreed.0 shared comes k correct),
      ),
    )
