-- Turns that are served one after another.
use Rattle.std.proofs.Common.{◌≡◌, ℕ, List, [], ◌∷◌, ◌++◌, Option, Some, None, refl, sym, ap, subst, ◌∙◌, append-nil}
use Rattle.std.specs.List.{AllByRecursion}
use Rattle.std.specs.Io.KnownBytes.{Appends, Consumes, IsAtEnd}
use Rattle.std.proofs.KnownBytes.{Appends-nil, Appends-trans, Consumes-nil, Consumes-trans}
use Rattle.std.proofs.lemmas.List.Concat.{flat_map-append}
use Rattle.bfs_frames.specs.Frames.{ReadsTurn, turn_text}
use Rattle.bfs_frames.specs.Parcels.{answer_text}
use Rattle.bfs_frames.specs.declared.frames.Turn.{Turn}
use Rattle.bfs_frames.specs.declared.limits.Limits.{Limits}
use Rattle.bfs_frames.specs.declared.parcels.Parcel.{Parcel}
use Rattle.bfs_filter.specs.Errors.{refusal}
use Rattle.bfs_filter.specs.declared.error.TurnError.{TurnError}
use Rattle.bfs_filter.specs.declared.error.TurnError.TheVariants as turn_error
use Rattle.bfs_filter.specs.Runs.{Exchange, Fails, IsFiltered, IsUntaken, Serves, Standing, Stops, TakesAll, input_text, output_text}
use Rattle.bfs_filter.specs.declared.error.ServeError.{ServeError}

module _ {M : Type 0} (takes : M → Turn → List Parcel → M → Type 0) (limits : Limits) where
  takes_more : (old mid new : M) (xs ys : List Exchange) → TakesAll takes old xs mid → TakesAll takes mid ys new → TakesAll takes old (xs ++ ys) new
  takes_more old mid new [] ys p q = subst (λ (m : M). TakesAll takes m ys new) (sym p) q
  takes_more old mid new (x ∷ xs) ys p q = (p.0, p.1, takes_more p.0 mid new xs ys p.2 q)

  all_more : (xs ys : List Exchange) → AllByRecursion (IsFiltered limits) xs → AllByRecursion (IsFiltered limits) ys
      → AllByRecursion (IsFiltered limits) (xs ++ ys)
  all_more [] ys p q = q
  all_more (x ∷ xs) ys p q = (p.0, all_more xs ys p.1 q)

  -- none yet
  pub served_none : (at : Standing M) → Serves takes limits at at
  served_none at = record { exchanges = []; each = tt; taken = refl; consumed = Consumes-nil at.input; written = Appends-nil at.output }

  -- some turns, and then others
  pub served_more : (old mid new : Standing M) → Serves takes limits old mid → Serves takes limits mid new → Serves takes limits old new
  served_more old mid new first second = record {
    exchanges = first.exchanges ++ second.exchanges;
    each = all_more first.exchanges second.exchanges first.each second.each;
    taken = takes_more old.machine mid.machine new.machine first.exchanges second.exchanges first.taken second.taken;
    consumed = subst (Consumes old.input new.input)
        (sym (flat_map-append (λ (e : Exchange). turn_text e.turn.time e.came) first.exchanges second.exchanges))
        (Consumes-trans old.input mid.input new.input (input_text first.exchanges) (input_text second.exchanges) first.consumed second.consumed);
    written = subst (Appends old.output new.output)
        (sym (flat_map-append (λ (e : Exchange). answer_text e.parcels) first.exchanges second.exchanges))
        (Appends-trans old.output mid.output new.output (output_text first.exchanges) (output_text second.exchanges) first.written second.written);
  }

  -- one turn
  pub served_one : (old new : Standing M) (turn : Turn) (parcels : List Parcel) → ReadsTurn limits old.input new.input turn
      → takes old.machine turn parcels new.machine → Appends old.output new.output (answer_text parcels) → Serves takes limits old new
  served_one old new turn parcels came taken written = record {
    exchanges = record { came = came.all; turn = turn; parcels = parcels } ∷ [];
    each = (record { fits = came.fits; passed = came.passed }, tt);
    taken = (new.machine, taken, refl);
    consumed = subst (Consumes old.input new.input) (sym (append-nil (turn_text turn.time came.all))) came.consumed;
    written = subst (Appends old.output new.output) (sym (append-nil (answer_text parcels))) written;
  }

  -- the turn behind some fails
  pub stops_more : (error : ServeError) (old mid new : Standing M) → Serves takes limits old mid → Stops takes limits error mid new
      → Stops takes limits error old new
  stops_more error old mid new first stops = record { last = stops.last; served = served_more old mid stops.last first stops.served; failed = stops.failed }

  pub stops_at : (error : ServeError) (old new : Standing M) → Fails takes limits error old new → Stops takes limits error old new
  stops_at error old new fails = record { last = old; served = served_none old; failed = fails }

-- a machine's error
pub refused : {M : Type 0} (takes : M → Turn → List Parcel → M → Type 0) (limits : Limits) (error : TurnError) (old new : Standing M)
    → IsUntaken limits old new → Fails takes limits (refusal error) old new
refused takes limits turn_error.Memory old new untaken = untaken
refused takes limits (turn_error.Storage error) old new untaken = untaken
refused takes limits turn_error.Spent old new untaken = untaken

to_end : (a b : Option (List ℕ)) (xs : List ℕ) → Consumes a b xs → IsAtEnd b → Consumes a (Some []) xs
to_end None b xs c end = tt
to_end (Some l) None xs c end = absurd c
to_end (Some l) (Some r) xs c end = c ∙ ap (λ (t : List ℕ). xs ++ t) end

-- nothing is left behind some
pub served_all : {M : Type 0} (takes : M → Turn → List Parcel → M → Type 0) (limits : Limits) (old mid new : Standing M)
    → Serves takes limits old mid → new.machine ≡ mid.machine → new.output ≡ mid.output → IsAtEnd mid.input
    → Serves takes limits old (record { machine = new.machine; input = Some []; output = new.output })
served_all {M} takes limits old mid new first machine output end = record {
  exchanges = first.exchanges;
  each = first.each;
  taken = subst (TakesAll takes old.machine first.exchanges) (sym machine) first.taken;
  consumed = to_end old.input mid.input (input_text first.exchanges) first.consumed end;
  written = subst (λ (held : Option (List ℕ)). Appends old.output held (output_text first.exchanges)) (sym output) first.written;
}
