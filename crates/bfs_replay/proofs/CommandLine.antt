-- What the words ask for, by what clap finds in them.
use Rattle.std.proofs.Common.{◌≡◌, ◌≢◌, List, [], ◌∷◌, Option, None, refl, sym, ap, ap₂}
use Rattle.clap.specs.Words.{Kinds, Row, Text, fault_of, first_of, first_value, matches_of, one_of, one_text, rows_of}
use Rattle.clap.specs.declared.parser.matches.Found.{Found}
use Rattle.clap.proofs.WalkLemmas.{first_value-rows, one_text-rows}
use Rattle.bfs_replay.specs.CommandLine.{Asked, asked_among, asked_by, replay_app, unless_faulty}

-- the first value under a name, by the rows
pub value_in_rows : (found : Found) (id : Text) → first_value found id ≡ first_of id (rows_of found)
value_in_rows found id = first_value-rows found id

-- the text under a name that is read as a number, by the rows
pub text_in_rows : (found : Found) (id : Text) → one_text found id ≡ one_of id (rows_of found)
text_in_rows found id = one_text-rows found id

pub asked_where_taken : (words : List Text) (rows : List Row) → rows ≡ matches_of replay_app words → fault_of replay_app words ≡ []
    → asked_by words ≡ asked_among rows
unfolding asked_by
asked_where_taken words rows found taken = ap₂ unless_faulty taken (ap asked_among (sym found))

unless_faulty-refused : (kinds : Kinds) (asked : Option Asked) → kinds ≢ [] → unless_faulty kinds asked ≡ None
unless_faulty-refused [] asked refused = absurd (refused refl)
unless_faulty-refused (kind ∷ kinds) asked refused = refl

pub none_where_refused : (words : List Text) → fault_of replay_app words ≢ [] → asked_by words ≡ None
unfolding asked_by
none_where_refused words refused = unless_faulty-refused (fault_of replay_app words) _ refused
