-- The fields of a fault, as a reader in code gives them.
use Rattle.std.proofs.Common.{Bor}
use Rattle.std.specs.Prelude.{◌≡◌, ℕ, List, Option, Some, None, Ok, Err}
use Rattle.trick_chkpt_lines.specs.Faults.{Fields}
use Rattle.trick_chkpt.specs.declared.fault_kind.FaultFields.{FaultFields}
use Rattle.trick_codes.specs.Code.{Told}

-- the bytes of the fields
abbrev pub fields_seen : FaultFields → Fields
fields_seen f = record {
  tic = f.tic.now;
  job = f.job.now;
  instance = f.instance.now;
  kind = f.kind.now;
  line = f.line.now;
}

abbrev pub fields_where : Option FaultFields → Option Fields
fields_where None = None
fields_where (Some f) = Some (fields_seen f)

-- a field and what stands after it are given where they are told
abbrev pub field_seen : Option (Bor (List ℕ) × Bor (List ℕ)) → Told (List ℕ) → Type 0
field_seen (Some x) (Ok y) = (x.0.now ≡ y.0) × (x.1.now ≡ y.1)
field_seen (Some x) (Err e) = ⊥
field_seen None (Ok y) = ⊥
field_seen None (Err e) = Unit {0}
