-- What a frozen inode holds, as a text has it.
use Rattle.std.specs.Prelude.{ℕ, List}
use Rattle.bfs_model.specs.Bytes.Items.{counted}
use Rattle.bfs_inode.specs.declared.frozen.FrozenBody.{FrozenBody}
use Rattle.bfs_inode.specs.declared.frozen.FrozenBody.TheVariants.{File, Text}

abbrev pub frozen_text : FrozenBody → List ℕ
frozen_text (File bytes) = counted bytes
frozen_text (Text text) = text.items
