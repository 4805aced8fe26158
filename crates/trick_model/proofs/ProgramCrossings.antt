-- A program may cross threads: it is `Send` and `Sync`, since its parts are. The check knows this by
-- itself of a type that does not reach the ring of `Expr`, and of the ring (`knot`) from what it holds.
use denote.Param.Send.{IsSend, IsSync, sendable}
use Rattle.std.proofs.Crossing as heap
use Rattle.std.proofs.option.Option.TheSendSync as option
use Rattle.trick_base.proofs.items.Items.TheSendSync as items
use Rattle.trick_lang.proofs.bound.Bound.TheSendSync as bound
use Rattle.trick_lang.proofs.job.Job.TheSendSync as job
use Rattle.trick_lang.proofs.method.Method.TheSendSync as method
use Rattle.trick_lang.proofs.object.Object.TheSendSync as object
use Rattle.trick_lang.proofs.operator.Arithmetic.TheSendSync as arithmetic
use Rattle.trick_lang.proofs.operator.Operator.TheSendSync as operator
use Rattle.trick_lang.proofs.operator.Prefix.TheSendSync as prefix
use Rattle.trick_lang.proofs.scalar.Scalar.TheSendSync as scalar
use Rattle.trick_lang.proofs.tree.Expr.TheLaws.TheKnot as knot
use Rattle.trick_lang.proofs.variable.EnumItem.TheSendSync as enum_item
use Rattle.trick_lang.proofs.variable.Variable.TheSendSync as variable
use Rattle.trick_lang.specs.contracts.program.Program as Program
use Rattle.trick_lang.specs.contracts.tree.Block as Block
use Rattle.trick_lang.specs.contracts.tree.Change as Change
use Rattle.trick_lang.specs.contracts.tree.Expr as Expr
use Rattle.trick_lang.specs.contracts.tree.Place as Place
use Rattle.trick_lang.specs.contracts.tree.Stmt as Stmt

expr_field_send : IsSend (Expr.the_field).row
expr_field_send = search (
  knot.send-Expr,
  heap.Box-send,
  heap.Vec-send,
  prefix.the_field_send,
  operator.the_field_send,
  sendable,
) depth 20

pub expr_send : IsSend Expr.the_row
expr_send = search (expr_field_send, sendable) depth 20

place_field_send : IsSend (Place.the_field).row
place_field_send = search (
  knot.send-Place,
  heap.Box-send,
  heap.Vec-send,
  prefix.the_field_send,
  operator.the_field_send,
  sendable,
) depth 20

change_field_send : IsSend (Change.the_field).row
change_field_send = search (expr_field_send, arithmetic.the_field_send, sendable) depth 20

stmt_send : IsSend Stmt.the_row
stmt_send = search (
  expr_send,
  expr_field_send,
  place_field_send,
  change_field_send,
  scalar.the_field_send,
  bound.the_field_send,
  option.the_field_send,
  heap.Vec-send,
  sendable,
) depth 20

block_send : IsSend Block.the_row
block_send = search (stmt_send, items.the_send, sendable) depth 20

pub program_field_send : IsSend (Program.the_field).row
program_field_send = search (
  variable.the_send,
  enum_item.the_send,
  object.the_send,
  block_send,
  method.the_send,
  job.the_send,
  items.the_send,
  sendable,
) depth 20

pub program_send : IsSend Program.the_row
program_send = search (program_field_send, sendable) depth 20

expr_field_sync : IsSync (Expr.the_field).row
expr_field_sync = search (
  knot.sync-Expr,
  heap.Box-sync,
  heap.Vec-sync,
  prefix.the_field_sync,
  operator.the_field_sync,
  sendable,
) depth 20

pub expr_sync : IsSync Expr.the_row
expr_sync = search (expr_field_sync, sendable) depth 20

place_field_sync : IsSync (Place.the_field).row
place_field_sync = search (
  knot.sync-Place,
  heap.Box-sync,
  heap.Vec-sync,
  prefix.the_field_sync,
  operator.the_field_sync,
  sendable,
) depth 20

change_field_sync : IsSync (Change.the_field).row
change_field_sync = search (expr_field_sync, arithmetic.the_field_sync, sendable) depth 20

stmt_sync : IsSync Stmt.the_row
stmt_sync = search (
  expr_sync,
  expr_field_sync,
  place_field_sync,
  change_field_sync,
  scalar.the_field_sync,
  bound.the_field_sync,
  option.the_field_sync,
  heap.Vec-sync,
  sendable,
) depth 20

block_sync : IsSync Block.the_row
block_sync = search (stmt_sync, items.the_sync, sendable) depth 20

pub program_field_sync : IsSync (Program.the_field).row
program_field_sync = search (
  variable.the_sync,
  enum_item.the_sync,
  object.the_sync,
  block_sync,
  method.the_sync,
  job.the_sync,
  items.the_sync,
  sendable,
) depth 20

pub program_sync : IsSync Program.the_row
program_sync = search (program_field_sync, sendable) depth 20
