-- The parts of a file are such as a program asks.
use Rattle.std.proofs.Common.{◌≡◌, ℕ, ◌<◌, true, List, length, ap, sym, ◌∙◌, subst}
use Rattle.trick_base.specs.Capped.{capped}
use Rattle.trick_check_blocks.specs.Kept.{is_one_of}
use Rattle.trick_check_cells.specs.Cells.{all_groups, memory_cells}
use Rattle.trick_check_cells.specs.Counts.{counts, names_count}
use Rattle.trick_check.proofs.Lists.{has_is}
use Rattle.trick_check.proofs.Calls.{calls_many}
use Rattle.trick_check.proofs.Placed.{same_count}
use Rattle.trick_check.specs.Draft.{IsDraft, IsJoined}
use Rattle.trick_check.specs.Named.{IsNamed}
use Rattle.trick_check.specs.Parts.{calls_at, parts_at}
use Rattle.trick_check.specs.Refused.{JobsAreRight, cells_in}
use Rattle.trick_check.specs.Walk.{sizes_of}
use Rattle.trick_check.specs.declared.draft.ProgramDraft.{ProgramDraft}
use Rattle.trick_check_blocks.specs.Held.{bodies_of}
use Rattle.trick_check_bodies.specs.Classes.{Made}
use Rattle.trick_lang.specs.SyntaxTree.{SDefine}
use Rattle.trick_lang.specs.declared.program.Program.{Program}
use Rattle.trick_check_names.specs.declared.layout.Layout.{Layout}
use Rattle.trick_check_names.specs.Places.{members_at}
use Rattle.trick_check_names.specs.Tables.{tables_of}
use Rattle.trick_check_order.specs.Calls.{IsOrderOf}

-- an order of the parts of a class has the number of each
pub order_takes : (ds : SDefine) (class : ℕ) (order : List ℕ) → IsOrderOf (calls_at ds class) order → (k : ℕ) → k < length (parts_at ds class) → is_one_of order k ≡ true
order_takes ds class order is k low =
    sym (has_is order k) ∙ is.1 k (subst (λ n. k < n) (sym (calls_many (parts_at ds class) (members_at (tables_of ds).groups class))) low)

-- how many cells a file has, by the counts of each struct and class
pub count_is : (ds : SDefine) → ((tables : _) → capped (names_count (counts (all_groups tables)) tables.names) ≡ capped (length (memory_cells tables))) → JobsAreRight ds → names_count (sizes_of ds) (tables_of ds).names ≡ cells_in ds
count_is ds law right = same_count (names_count (sizes_of ds) (tables_of ds).names) (cells_in ds) (law (tables_of ds)) right.0.1

pub named : (ds : SDefine) (d : ProgramDraft) (p : Program) → IsDraft ds d → IsJoined d p → IsNamed ds p
named ds d p draft joined =
    record {
      right = draft.right;
      cells = joined.cells ∙ draft.cells;
      items = joined.items ∙ draft.items;
      sizes = joined.sizes ∙ ap (λ (q : Layout). q.sizes) draft.layout;
      objects = joined.objects ∙ draft.objects;
      blocks = ap bodies_of joined.blocks ∙ ap (λ (m : Made). m.progress.bodies) draft.bodies;
      methods = joined.methods ∙ ap (λ (m : Made). m.methods) draft.bodies;
      slots = joined.slots ∙ ap (λ (m : Made). m.progress.scope.slots) draft.bodies;
      jobs = joined.jobs ∙ draft.jobs;
    }
