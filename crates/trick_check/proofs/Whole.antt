-- The parts of each file are whole.
use Rattle.std.proofs.Common.{◌≡◌, ℕ, ◌≤◌, true, IsTrue, List, length, ap, sym, ◌∙◌, subst, arith}
use Rattle.trick_base.specs.Capped.{capped}
use Rattle.trick_check_bodies.specs.Classes.{AreWhole, Made, made}
use Rattle.trick_check_cells.specs.Cells.{all_groups, memory_cells, objects_cells}
use Rattle.trick_check_cells.specs.Counts.{counts, names_count}
use Rattle.trick_check_cells.specs.Tables.{taken}
use Rattle.trick_check_cells.specs.Unfolding.{Unfolds}
use Rattle.trick_check_cells.specs.Waits.{IsDone}
use Rattle.trick_check.proofs.Joining.{count_is}
use Rattle.trick_check.proofs.Placed.{jobs_many, numbers_apart, objects_fit}
use Rattle.trick_check.proofs.Walked.{first_layout}
use Rattle.trick_check.specs.Draft.{IsDraft, IsWhole}
use Rattle.trick_check.specs.Refused.{JobsAreRight, cells_in}
use Rattle.trick_check.specs.Walk.{all_made, file_layout, objects_of, sizes_of}
use Rattle.trick_check.specs.declared.draft.ProgramDraft.{ProgramDraft}
use Rattle.trick_lang.specs.Names.{are_apart, of_one_number}
use Rattle.trick_lang.specs.SyntaxTree.{SDefine}
use Rattle.trick_lang.specs.Valid.{are_short, objects_stand}
use Rattle.trick_lang.specs.declared.object.Object.{Object}
use Rattle.trick_lang.specs.declared.variable.Variable.{Variable}
use Rattle.trick_check_names.specs.declared.layout.Layout.{Layout}
use Rattle.trick_check_names.specs.Tables.{tables_of}
use Rattle.trick_check_names.specs.declared.tables.Tables.{Tables}

abbrev CountsCells : Type 0
CountsCells = (tables : Tables) → capped (names_count (counts (all_groups tables)) tables.names) ≡ capped (length (memory_cells tables))

-- the cells that are written are those of the file
pub cells_are : (ds : SDefine) (t : Tables) (sizes : List ℕ) (cells : List Variable) → t ≡ tables_of ds → sizes ≡ sizes_of ds → Unfolds (tables_of ds).groups (all_groups (tables_of ds)) → ((done : List (List Variable)) → IsDone t.groups sizes done → cells ≡ objects_cells done t.names) → cells ≡ memory_cells (tables_of ds)
cells_are ds t sizes cells e f unfolds told =
    let of_file = subst (λ (q : Tables). (done : List (List Variable)) → IsDone q.groups sizes done → cells ≡ objects_cells done q.names) e told in
    of_file (all_groups (tables_of ds)) (unfolds, f)

-- where the variables lie that the bodies see
pub layout_is : (ds : SDefine) (m : Made) → m ≡ all_made ds → m.progress.scope.layout ≡ file_layout ds
layout_is ds m is = ap (λ (q : Made). q.progress.scope.layout) is ∙ first_layout ds (objects_of ds) (length ds)

-- the memory has the cells of the file
layout_cells : (ds : SDefine) → CountsCells → JobsAreRight ds → (file_layout ds).cells ≡ cells_in ds
layout_cells ds law right =
    let count = count_is ds law right in
    let low = right.0.1 in
    omega (arith, count, low)

pub draft_whole : (ds : SDefine) (d : ProgramDraft) → CountsCells → JobsAreRight ds → IsDraft ds d → AreWhole (made d.bodies) → IsTrue (are_short d.bodies.blocks.items d.bodies.methods d.jobs) → IsWhole d
draft_whole ds d law right draft whole short =
    let many : length d.cells ≡ cells_in ds = ap length draft.cells in
    let low : cells_in ds ≤ 65536 = right.0.1 in
    let count : names_count (sizes_of ds) (tables_of ds).names ≡ cells_in ds = count_is ds law right in
    let fit : objects_stand (cells_in ds) (taken (sizes_of ds)) (objects_of ds) ≡ true = objects_fit (sizes_of ds) (tables_of ds).names (cells_in ds) (omega (arith, count)) low in
    let sizes : d.bodies.scope.layout.sizes ≡ taken (sizes_of ds) = ap (λ (q : Layout). q.sizes) draft.layout in
    let jobs : length d.jobs ≤ 512 = subst (λ n. n ≤ 512) (sym (ap length draft.jobs ∙ jobs_many ds (all_made ds).numbers 0 (objects_of ds))) right.1 in
    record {
      bodies = whole;
      cells = ap (λ (q : Layout). q.cells) draft.layout ∙ (layout_cells ds law right ∙ sym many);
      cell_limit = omega (arith, many, low);
      object_cells =
          ap (λ n. objects_stand n d.bodies.scope.layout.sizes d.objects) many
          ∙ (ap (λ q. objects_stand (cells_in ds) q d.objects) sizes ∙ (ap (λ (q : List Object). objects_stand (cells_in ds) (taken (sizes_of ds)) q) draft.objects ∙ fit));
      job_numbers = ap (are_apart of_one_number) draft.jobs ∙ numbers_apart ds (all_made ds).numbers 0 (objects_of ds);
      job_limit = jobs;
      short = short;
    }
