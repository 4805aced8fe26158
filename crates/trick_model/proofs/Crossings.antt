-- A plan may cross threads, alone and accepted, and so may an `Arc` of one that is accepted.
use mathlib.Core.List.{[], ◌∷◌}
use denote.Builtin.{i64, u8}
use denote.Param.Send.{IsSend, plain_send, recorded_send, sendable, struct_send}
use denote.Param.Send.{IsSync, plain_sync, recorded_sync, struct_sync}
use denote.Struct.Declared.{shape}
use denote.Struct.Tuple.{Tuple, tuple_field, tuple_type}
use Rattle.std.proofs.Crossing.{Arc-send, Arc-sync}
use Rattle.std.proofs.option.Option.TheSendSync as option
use Rattle.std.specs.contracts.alloc.Global as Global
use Rattle.std.specs.contracts.impls.GlobalAllocator.TheImpl.{ghosts}
use Rattle.std.specs.contracts.sync.Arc as Arc
use Rattle.trick_access.proofs.cells.Access.TheSendSync as access
use Rattle.trick_base.proofs.items.Items.TheSendSync as items
use Rattle.trick_base.specs.contracts.items.Items as Items
use Rattle.trick_lang.proofs.cells.Cell.TheSendSync as cell
use Rattle.trick_lang.proofs.job.JobId.TheSendSync as job_id
use Rattle.trick_lang.specs.contracts.cells.Cell as Cell
use Rattle.trick_model.proofs.ProgramCrossings as program
use Rattle.trick_model.proofs.deed.Deed.TheSendSync as deed
use Rattle.trick_model.proofs.depends.Depends.TheSendSync as depends
use Rattle.trick_model.proofs.flags.Flags.TheSendSync as flags
use Rattle.trick_model.proofs.group.Group.TheSendSync as group
use Rattle.trick_model.proofs.read_at.ReadAt.TheSendSync as read_at
use Rattle.trick_model.proofs.thread.Thread.TheSendSync as thread
use Rattle.trick_model.specs.contracts.accepted.Accepted as Accepted
use Rattle.trick_model.specs.contracts.deed.Deed as Deed
use Rattle.trick_model.specs.contracts.event.Event as Event
use Rattle.trick_model.specs.contracts.plan.Plan as Plan

deeds_send : IsSend (Tuple (u8 ∷ Items.the_row Deed.the_row ∷ []))
deeds_send = recorded_send (tuple_field (u8 ∷ Items.the_row Deed.the_row ∷ [])).row _ _ (tuple_type (u8 ∷
    Items.the_row Deed.the_row ∷ [])).to_one (struct_send (shape (tuple_type (u8 ∷ Items.the_row Deed.the_row
    ∷ []))) (plain_send _ _ _ _ _, (items.the_send Deed.the_row deed.the_send, tt)))

event_send : IsSend Event.the_row
event_send = search (program.expr_send, deeds_send, option.the_field_send, items.the_send, sendable) depth 20

assign_send : IsSend (Tuple (Cell.the_row ∷ i64 ∷ []))
assign_send = recorded_send (tuple_field (Cell.the_row ∷ i64 ∷ [])).row _ _ (tuple_type (Cell.the_row ∷ i64 ∷
    [])).to_one (struct_send (shape (tuple_type (Cell.the_row ∷ i64 ∷ []))) (
      cell.the_send,
      (
        plain_send _ _ _ _ _,
        tt,
      ),
    ))

plan_field_send : IsSend (Plan.the_field).row
plan_field_send = search (
  program.program_field_send,
  thread.the_send,
  job_id.the_send,
  depends.the_send,
  group.the_send,
  event_send,
  read_at.the_send,
  assign_send,
  flags.the_field_send,
  items.the_send,
  sendable,
)
    depth 30

pub plan_send : IsSend Plan.the_row
plan_send = search (plan_field_send, sendable) depth 20

pub accepted_send : IsSend Accepted.the_row
accepted_send = search (plan_field_send, access.the_send, items.the_send, sendable) depth 20

deeds_sync : IsSync (Tuple (u8 ∷ Items.the_row Deed.the_row ∷ []))
deeds_sync = recorded_sync (tuple_field (u8 ∷ Items.the_row Deed.the_row ∷ [])).row _ _ (tuple_type (u8 ∷
    Items.the_row Deed.the_row ∷ [])).to_one (struct_sync (shape (tuple_type (u8 ∷ Items.the_row Deed.the_row
    ∷ []))) (plain_sync _ _ _ _ _, (items.the_sync Deed.the_row deed.the_sync, tt)))

event_sync : IsSync Event.the_row
event_sync = search (program.expr_sync, deeds_sync, option.the_field_sync, items.the_sync, sendable) depth 20

assign_sync : IsSync (Tuple (Cell.the_row ∷ i64 ∷ []))
assign_sync = recorded_sync (tuple_field (Cell.the_row ∷ i64 ∷ [])).row _ _ (tuple_type (Cell.the_row ∷ i64 ∷
    [])).to_one (struct_sync (shape (tuple_type (Cell.the_row ∷ i64 ∷ []))) (
      cell.the_sync,
      (
        plain_sync _ _ _ _ _,
        tt,
      ),
    ))

plan_field_sync : IsSync (Plan.the_field).row
plan_field_sync = search (
  program.program_field_sync,
  thread.the_sync,
  job_id.the_sync,
  depends.the_sync,
  group.the_sync,
  event_sync,
  read_at.the_sync,
  assign_sync,
  flags.the_field_sync,
  items.the_sync,
  sendable,
)
    depth 30

pub plan_sync : IsSync Plan.the_row
plan_sync = search (plan_field_sync, sendable) depth 20

pub accepted_sync : IsSync Accepted.the_row
accepted_sync = search (plan_field_sync, access.the_sync, items.the_sync, sendable) depth 20

pub shared_send : IsSend (Arc.the_row Accepted.the_row Global.the_row ghosts)
shared_send = Arc-send Accepted.the_row accepted_send accepted_sync

pub shared_sync : IsSync (Arc.the_row Accepted.the_row Global.the_row ghosts)
shared_sync = Arc-sync Accepted.the_row accepted_send accepted_sync
