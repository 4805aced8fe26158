-- The parts that a file names are proper, by what the reader knows of the file.
use Rattle.std.proofs.Common.{◌≡◌, ◌≤◌, nat_le, ap, sym, ◌∙◌, subst}
use Rattle.trick_check_bodies.specs.Classes.{Made}
use Rattle.trick_check.proofs.Cells.{cells_apart}
use Rattle.trick_check.proofs.Declared.{text_tables}
use Rattle.trick_check.proofs.FewInstances.{instances_right}
use Rattle.trick_check.proofs.Instances.{instances_apart}
use Rattle.trick_check.proofs.Jobs.{jobs_pass, line_times}
use Rattle.trick_check.proofs.Names.{cells_plain, names_plain, names_short}
use Rattle.trick_check.proofs.Placed.{jobs_many}
use Rattle.trick_check.proofs.Stands.{jobs_have_methods}
use Rattle.trick_check.specs.Draft.{IsDraft, IsProper}
use Rattle.trick_check.specs.Walk.{all_made, objects_of}
use Rattle.trick_check.specs.declared.draft.ProgramDraft.{ProgramDraft}
use Rattle.trick_lang.specs.Facts.{has_right_times}
use Rattle.trick_lang.specs.Names.{are_apart, are_plain_cells, are_plain_names, are_short_names, of_one_instance, of_one_name}
use Rattle.trick_lang.specs.SDefineOf.{sdefine_of}
use Rattle.trick_lang.specs.Valid as valid
use Rattle.trick_lang.specs.Valid.{have_right_instances, have_right_threads, have_right_times, jobs_stand}
use Rattle.trick_lang.specs.declared.syntax.definition.SDefine.{SDefine}
use Rattle.trick_check_names.specs.Tables.{tables_of}

pub proper : (s : SDefine) (d : ProgramDraft) → IsDraft (sdefine_of s) d → IsProper d
proper s d draft =
    let ds = sdefine_of s in
    let right = draft.right.0 in
    let tables = text_tables ds s.spelled_names s.right_lengths in
    let numbers = (all_made ds).numbers in
    let methods : d.bodies.methods ≡ (all_made ds).methods = ap (λ (m : Made). m.methods) draft.bodies in
    record {
      cell_names = ap (are_apart of_one_name) draft.cells ∙ cells_apart (tables_of ds) tables.0 tables.1;
      short_names =
          ap (λ os. are_short_names os d.bodies.methods d.items) draft.objects
          ∙ (ap (λ ms. are_short_names (objects_of ds) ms d.items) methods
          ∙ (ap (are_short_names (objects_of ds) (all_made ds).methods) draft.items ∙ names_short ds s.short_names));
      plain_cells = ap are_plain_cells draft.cells ∙ cells_plain ds s.spelled_names;
      plain_names =
          ap (λ os. are_plain_names os d.bodies.methods) draft.objects
          ∙ (ap (are_plain_names (objects_of ds)) methods ∙ names_plain ds s.spelled_names);
      job_parts =
          ap (λ os. jobs_stand os d.bodies.methods d.jobs) draft.objects
          ∙ (ap (λ ms. jobs_stand (objects_of ds) ms d.jobs) methods
          ∙ (ap (jobs_stand (objects_of ds) (all_made ds).methods) draft.jobs ∙ jobs_have_methods ds right.0.0.0));
      job_names =
          ap (λ os. are_apart (of_one_instance os d.bodies.methods) d.jobs) draft.objects
          ∙ (ap (λ ms. are_apart (of_one_instance (objects_of ds) ms) d.jobs) methods
          ∙ (ap (are_apart (of_one_instance (objects_of ds) (all_made ds).methods)) draft.jobs
          ∙ instances_apart ds right.0.0.0 tables.0));
      right_instances =
          ap have_right_instances draft.jobs
          ∙ instances_right ds numbers 0 (objects_of ds) (subst (λ n. n ≤ 512) (sym (jobs_many ds numbers 0 (objects_of ds))) right.1);
      right_times =
          ap have_right_times draft.jobs
          ∙ jobs_pass (λ j. has_right_times j.class j) (λ job. valid.has_right_times job.class job) line_times ds numbers 0 (objects_of ds) s.right_times;
      right_threads =
          ap have_right_threads draft.jobs
          ∙ jobs_pass (λ j. nat_le j.thread 15) (λ job. nat_le job.thread 15) (λ object numbers before line h. h) ds numbers 0 (objects_of ds) s.right_threads;
    }
