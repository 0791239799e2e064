-- What a replica's folder was given to keep.
use Rattle.std.specs.Prelude.{ℕ, List, [], ◌∷◌}
use Rattle.bfs_recovery.specs.Holding.{Held}

-- the text that was saved, if one was
abbrev pub text_in : List (List ℕ) → List ℕ
text_in [] = []
text_in (text ∷ texts) = text

-- that text, and the bodies that were put behind it
abbrev pub held : (texts bodies : List (List ℕ)) → Held
held texts bodies = record { text = text_in texts; bodies = bodies }
