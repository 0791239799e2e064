-- Results that are written out, and how they are printed.
use Rattle.std.proofs.Common.{◌≡◌, [], ◌∷◌, Some, None, codes, refl}
use Rattle.std.specs.Fmt.{digits}
use Rattle.hex.proofs.OnLiterals.{hex_on_literals}
use Rattle.bfs_replay.specs.Output.{behind_line, result_line, view_line}

pub row-result : result_line 15 7 (Some (0 ∷ 255 ∷ [])) ≡ codes "c15 t7 00ff\n"
unfolding hex_on_literals digits result_line
row-result = refl

pub row-no_bytes : result_line 0 1 (Some []) ≡ codes "c0 t1 -\n"
unfolding hex_on_literals digits result_line
row-no_bytes = refl

pub row-none : result_line 0 1 None ≡ codes "c0 t1 none\n"
unfolding hex_on_literals digits result_line
row-none = refl

pub row-behind : behind_line 3 16 ≡ codes "behind 3 16\n"
unfolding hex_on_literals digits behind_line
row-behind = refl

pub row-view : view_line 12 ≡ codes "view 12\n"
unfolding digits view_line
row-view = refl
