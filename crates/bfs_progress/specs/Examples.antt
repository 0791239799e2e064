-- Runs of four replicas of which one lies or is silent: messages were lost, and an exchange commits number 1 at the other three; and these ask for
-- different views, and come to ask for one.
use Rattle.std.specs.Prelude.{◌≡◌, ℕ, ◌==◌, Bool, true, List, [], ◌∷◌, ◌++◌, nat_lt, if◌then◌else◌}
use Rattle.bfs_votes.specs.Votes.{Told, replicas, committed}
use Rattle.bfs_votes.specs.Tags.{pre_prepare_tag}
use Rattle.bfs_agreement.specs.Calls.{Orders, Receives, TimesOut, HeaderTurn}
use Rattle.bfs_agreement.specs.Examples.{digest, saying, silent, of}
use Rattle.bfs_progress.specs.Premises.{IsARun, reached}
use Rattle.bfs_progress.specs.Members.{AreTogether, HasRoom, AllIsHeard, HaveAsked, MayMeet}
use Rattle.bfs_progress.specs.Exchanges.{exchange, all_time_out}
use Rattle.bfs_progress.specs.Following.{follows, AskedIsHeard, SomeHaveAsked}

-- those of four that are not silent
abbrev pub present : ℕ → Bool
present k = nat_lt k 3

-- of what was said to others the PRE-PREPARE alone came, and only to replica 1
abbrev pub lossy : List HeaderTurn
lossy = of 0 (Orders digest) ∷ of 1 (Receives (saying pre_prepare_tag 0 0)) ∷ []

-- and then the present ones hear one another
abbrev pub then_heard : List HeaderTurn
then_heard = lossy ++ exchange 1 present 0 1 digest

-- number 1 is committed at each of them
abbrev pub GoesOn : Type 0
GoesOn = (committed 1 0 (reached 1 [] then_heard 0).now.log 0 1 digest ≡ true)
    × (committed 1 1 (reached 1 [] then_heard 1).now.log 0 1 digest ≡ true)
    × (committed 1 2 (reached 1 [] then_heard 2).now.log 0 1 digest ≡ true)

-- Following -----------------------------------------------------------------------------------------------------------

-- one asks for view 1, two for view 2
abbrev pub scattered : List HeaderTurn
scattered = of 0 TimesOut ∷ of 1 TimesOut ∷ of 1 TimesOut ∷ of 2 TimesOut ∷ of 2 TimesOut ∷ []

-- and the liar is heard to ask for view 9
abbrev pub claimed : (who from : ℕ) → ℕ
claimed who from = if from == 3 then 9 else (reached 1 [] scattered from).now.asked

abbrev pub then_followed : List HeaderTurn
then_followed = scattered ++ all_time_out present (reached 1 [] scattered) (follows 1 claimed) (replicas 1)

-- all three ask for view 2
abbrev pub Follows : Type 0
Follows = ((reached 1 [] then_followed 0).now.asked ≡ 2) × ((reached 1 [] then_followed 1).now.asked ≡ 2) × ((reached 1 [] then_followed 2).now.asked ≡ 2)

-- The premises --------------------------------------------------------------------------------------------------------

-- of the laws in a view: the few turns are a run, the primary's PRE-PREPARE is there, and the present ones are together in view 0, with room for number 1;
-- behind the exchange nothing is unheard
abbrev pub HoldInAView : Type 0
HoldInAView = IsARun 1 [] silent lossy
    × AreTogether 1 silent present (reached 1 [] lossy) 0 × HasRoom present (reached 1 [] lossy) 1
    × Told (reached 1 [] lossy 0).now.log pre_prepare_tag 0 0 1 digest
    × AllIsHeard present (reached 1 [] then_heard) 0 1

-- and between views: they may meet in view 2, two of them have asked for it, and after following all have
abbrev pub HoldBetweenViews : Type 0
HoldBetweenViews = IsARun 1 [] silent scattered
    × MayMeet 1 silent present (reached 1 [] scattered) 2
    × AskedIsHeard present (reached 1 [] scattered) claimed × SomeHaveAsked 1 present (reached 1 [] scattered) 2
    × HaveAsked 1 silent present (reached 1 [] then_followed) 2
