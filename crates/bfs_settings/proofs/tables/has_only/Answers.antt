use Rattle.std.proofs.Common.{◌≡◌, arith, sym, ◌∙◌, string_bytes, inl, inr}
use Rattle.std.proofs.lemmas.Bool.{cases_Bool}
use Rattle.std.proofs.lemmas.Grind.{common_steps}
use Rattle.std.proofs.lemmas.List.Folds.{list_all_at}
use Rattle.std.proofs.lemmas.List.Sums.{list_all-from_AllPass}
use Rattle.std.specs.List.{AllPass, list_all}
use Rattle.std.specs.Map.{keys_of}
use Rattle.bfs_settings.proofs.Documents.{has_only-view, is_among}
use Rattle.bfs_settings.proofs.tables.has_only.Goals as goal

pub returns : goal.returns
returns c =
    let entries = c.args.table.now.entries in
    let names = c.args.keys.now in
    let all : c.all.result ≡ list_all (λ key. is_among names (string_bytes key)) (keys_of entries) =
    elim (cases_Bool c.all.result) [
      | inl holds ↦
          let runs = rw holds at c.all.ensures.runs in
          let each : AllPass (λ key. is_among names (string_bytes key)) (keys_of entries) = grind (arith, common_steps, runs) in
          holds ∙ sym (list_all-from_AllPass _ _ each)
      | inr fails ↦
          let runs = rw fails at c.all.ensures.runs in
          fails ∙ sym (grind (arith, list_all_at, runs))
    ] in
    all ∙ sym (has_only-view names entries)
