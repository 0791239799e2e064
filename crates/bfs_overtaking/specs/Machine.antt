-- Calls of a group that overtake each other: what each event makes of them, and why one is refused.
use Rattle.std.specs.Prelude.{◌≡◌, ◌⊎◌, IsTrue, is_ok, ℕ, ◌-◌, Bool, true, false, not, ◌&&◌, nat_le, nat_lt, List, [], ◌∷◌, length, map, take, get_or, slice_set, Option, Some, None, Result, Ok, Err, if◌then◌else◌}
use Rattle.std.specs.List.{list_any, list_all}
use Rattle.std.specs.Option.{IsSomeAnd}
use Rattle.std.specs.FinMap.{empty}
use Rattle.bfs_model.specs.Server.Tree.{Time, Inodes}
use Rattle.bfs_model.specs.Server.Footprints.{Footprint, known}
use Rattle.bfs_model.specs.Server.Conflicts.{conflict, put_back, closed}
use Rattle.bfs_model.specs.Server.Groups.{footprints_at}
use Rattle.bfs_model.specs.Server.Shares.{moved_for, without}
use Rattle.bfs_model.specs.Server.Events.{Slot, waiting, taken, finished, is_done, moved}
use Rattle.bfs_model.specs.Laws.Overtaking.{answered, asked_at}
use Rattle.bfs_overtaking.specs.declared.errors.CoreError.{CoreError}
use Rattle.bfs_overtaking.specs.declared.errors.CoreError.TheVariants as error
use Rattle.bfs_overtaking.specs.declared.events.Event.{Event}
use Rattle.bfs_overtaking.specs.declared.events.Event.TheVariants.{Take, Finish}

-- how a call of a group stands: what it touches, and whether it waits, is under way, or has its reply
pub record Standing : Type 0 where
  pub footprint : Footprint
  pub slot : Slot (List ℕ)

-- the calls of a group, of which the first has that number in the batch and that ordinal, and the inodes at home
pub record Machine : Type 0 where
  pub first : ℕ
  pub ordinal : ℕ
  pub time : Time
  pub requests : List (List ℕ)
  pub home : Inodes
  pub standings : List Standing

-- all wait
abbrev pub at_start : (first ordinal : ℕ) → Time → (requests : List (List ℕ)) → Inodes → Machine
at_start first ordinal time requests inodes = record {
  first = first;
  ordinal = ordinal;
  time = time;
  requests = requests;
  home = inodes;
  standings = map (λ footprint. record { footprint = footprint; slot = waiting }) (footprints_at inodes ordinal time requests);
}

-- The call of a number ------------------------------------------------------------------------------------------------

abbrev pub has_call : Machine → (number : ℕ) → Bool
has_call machine number = nat_le machine.first number && nat_lt (number - machine.first) (length machine.standings)

abbrev pub standing_at : List Standing → (place : ℕ) → Standing
standing_at standings place = get_or standings place (record { footprint = known [] []; slot = waiting })

abbrev pub standing_of : Machine → (number : ℕ) → Standing
standing_of machine number = standing_at machine.standings (number - machine.first)

abbrev pub is_waiting : Slot (List ℕ) → Bool
is_waiting waiting = true
is_waiting (taken away) = false
is_waiting (finished reply) = false

abbrev pub is_taken : Slot (List ℕ) → Bool
is_taken waiting = false
is_taken (taken away) = true
is_taken (finished reply) = false

-- the inodes that are away for a call
abbrev pub away_in : Slot (List ℕ) → Inodes
away_in waiting = empty
away_in (taken away) = away
away_in (finished reply) = empty

abbrev pub reply_in : Slot (List ℕ) → Option (List ℕ)
reply_in waiting = None
reply_in (taken away) = None
reply_in (finished reply) = Some reply

-- the reply to the call of a number, once it is finished
abbrev pub reply_to : Machine → (number : ℕ) → Option (List ℕ)
reply_to machine number = if has_call machine number then reply_in (standing_of machine number).slot else None

-- every call has its reply
abbrev pub is_complete : Machine → Bool
is_complete machine = list_all (λ standing. is_done standing.slot) machine.standings

-- Refusals ------------------------------------------------------------------------------------------------------------

-- a call that is not finished conflicts with that footprint
abbrev pub holds_back : Standing → Footprint → Bool
holds_back standing footprint = not (is_done standing.slot) && conflict standing.footprint footprint

abbrev pub is_held : (earlier : List Standing) → Footprint → Bool
is_held earlier footprint = list_any (λ standing. holds_back standing footprint) earlier

abbrev pub take_refusal : Machine → (number : ℕ) → Option CoreError
take_refusal machine number =
    if not (has_call machine number) then Some error.NoSuchCall else (
    if not (is_waiting (standing_of machine number).slot) then Some error.Taken else (
    if is_held (take (number - machine.first) machine.standings) (standing_of machine number).footprint then Some error.NotReady else None))

abbrev pub finish_refusal : Machine → (number : ℕ) → Option CoreError
finish_refusal machine number =
    if not (has_call machine number) then Some error.NoSuchCall else (
    if not (is_taken (standing_of machine number).slot) then Some error.NotTaken else None)

-- Events --------------------------------------------------------------------------------------------------------------

abbrev pub with_slot : Machine → (number : ℕ) → Slot (List ℕ) → (home : Inodes) → Machine
with_slot machine number slot home =
    record machine { home = home; standings = slice_set machine.standings (number - machine.first) (record { footprint = (standing_of machine number).footprint; slot = slot }) }

-- the inodes that the call writes leave home
abbrev pub after_take : Machine → (number : ℕ) → Machine
after_take machine number =
    let ids = moved_for (standing_of machine number).footprint in with_slot machine number (taken (moved ids machine.home)) (without ids machine.home)

-- what the call leaves and replies, carried out on the inodes at home with its own put back
abbrev pub outcome_of : Machine → (number : ℕ) → Inodes × List ℕ
outcome_of machine number =
    answered (asked_at machine.ordinal machine.time machine.requests (number - machine.first))
    (put_back (moved_for (standing_of machine number).footprint) (away_in (standing_of machine number).slot) machine.home)

-- the inodes that the call writes come home as it left them
abbrev pub after_finish : Machine → (number : ℕ) → Machine
after_finish machine number =
    let outcome = outcome_of machine number in with_slot machine number (finished outcome.1) (closed (standing_of machine number).footprint outcome.0 machine.home)

abbrev pub unless : {A : Type 0} → Option CoreError → A → Result A CoreError
unless None after = Ok after
unless (Some refused) after = Err refused

-- what an event makes of the calls, or why it is refused
abbrev pub stepped : Machine → Event → Result Machine CoreError
stepped machine (Take number) = unless (take_refusal machine number) (after_take machine number)
stepped machine (Finish number) = unless (finish_refusal machine number) (after_finish machine number)

abbrev pub on_ok : (Machine → Result Machine CoreError) → Result Machine CoreError → Result Machine CoreError
on_ok go (Ok machine) = go machine
on_ok go (Err refused) = Err refused

-- events one after another: the first refusal ends them
abbrev pub played : List Event → Machine → Result Machine CoreError
played [] machine = Ok machine
played (event ∷ events) machine = on_ok (played events) (stepped machine event)

-- of a core that may have failed
abbrev pub after_event : Option Machine → Event → Result Machine CoreError
after_event None event = Err error.Failed
after_event (Some machine) event = stepped machine event

-- the event happened; or it was refused, and nothing has changed; or memory ran out, and the core has failed
abbrev pub Happens : {A : Type 0} → (old : Option Machine) → Event → Result A CoreError → (new : Option Machine) → Type 0
Happens old event (Ok done) new = IsSomeAnd new (λ next. after_event old event ≡ Ok next)
Happens old event (Err refused) new = ((after_event old event ≡ Err refused) × (new ≡ old)) ⊎ ((refused ≡ error.Memory) × IsTrue (is_ok (after_event old event)) × (new ≡ None))

-- a core in which all events have happened; or the first refusal, or memory ran out
abbrev pub Plays : Result Machine CoreError → Result (Option Machine) CoreError → Type 0
Plays end (Ok core) = IsSomeAnd core (λ last. end ≡ Ok last)
Plays end (Err refused) = (end ≡ Err refused) ⊎ (refused ≡ error.Memory)
