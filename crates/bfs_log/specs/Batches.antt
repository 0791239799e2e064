-- A batch at its place in the order, and what is said of places.
use Rattle.std.specs.Prelude.{ℕ, List, Option}
use Rattle.bfs_messages.specs.Messages.{Batch}
use Rattle.bfs_messages.specs.declared.signed.Signed.{Signed}
use Rattle.bfs_messages.specs.declared.order_messages.OrderMessage.{OrderMessage}

-- the batch that is executed as a number
pub record Committed : Type 0 where
  pub number : ℕ
  pub batch : Batch

-- what one message says at its place
pub record Said : Type 0 where
  pub signed : Signed OrderMessage
  pub sender : ℕ
  pub digest : List ℕ
  pub batch : Option Committed
