use Rattle.trick_top_alone.proofs.TopLemmas as alone
use Rattle.trick_top.proofs.HeadlineLemmas.{keeps}
use Rattle.trick_top.proofs.StandLemmas.{stands}
use Rattle.trick_top.proofs.TopLemmas as top
use Rattle.trick_top.proofs.top.tricks.Goals as goal

pub returns-clause-alone : goal.returns-clause-alone
returns-clause-alone g c =
    top.answered_alone c.one_command.ensures c.texts_have_one_meaning.ensures g.met.F.Shelf.called_none g.met.F.Shelf.called_join c.answer_shared.ensures

pub returns-clause-door : goal.returns-clause-door
returns-clause-door g c =
    top.door_alone c.one_command.ensures c.texts_have_one_meaning.ensures g.met.F.Shelf.called_none g.met.F.Shelf.called_join c.answer_shared.ensures

pub returns-clause-spawner : goal.returns-clause-spawner
returns-clause-spawner g c =
    top.spawner_alone c.one_command.ensures c.texts_have_one_meaning.ensures g.met.F.Shelf.called_none g.met.F.Shelf.called_join c.answer_shared.ensures

pub returns-clause-row : goal.returns-clause-row
returns-clause-row g c =
    top.row_of_run c.one_command.ensures c.texts_have_one_meaning.ensures g.met.F.Shelf.called_none g.met.F.Shelf.called_join c.answer_shared.ensures

pub returns-clause-headline : goal.returns-clause-headline
returns-clause-headline g c = λ command asks ends.
    let row = top.row_of_run c.one_command.ensures c.texts_have_one_meaning.ensures g.met.F.Shelf.called_none g.met.F.Shelf.called_join c.answer_shared.ensures command asks in
    keeps c.served_runs_keep_the_headline.ensures c.runs_of_nobody_are_alone.ensures c.runs_start_valid.ensures c.plans_are_sound.ensures g.met.F.Shelf.called_none g.met.F.Shelf.called_join row ends

pub returns-clause-stopped : goal.returns-clause-stopped
returns-clause-stopped g c = λ command asks.
    let row = top.row_of_run c.one_command.ensures c.texts_have_one_meaning.ensures g.met.F.Shelf.called_none g.met.F.Shelf.called_join c.answer_shared.ensures command asks in
    stands c.fronts_are_sent.ensures g.met.F.Shelf.called_none g.met.F.Shelf.called_join row

pub returns-clause-stopped_alone : goal.returns-clause-stopped_alone
returns-clause-stopped_alone g c = λ never.
    let row = top.answered_alone c.one_command.ensures c.texts_have_one_meaning.ensures g.met.F.Shelf.called_none g.met.F.Shelf.called_join c.answer_shared.ensures never in
    alone.stopped c.one_command.ensures c.texts_have_one_meaning.ensures row

pub returns-clause-done : goal.returns-clause-done
returns-clause-done g c = λ never is.
    let row = top.answered_alone c.one_command.ensures c.texts_have_one_meaning.ensures g.met.F.Shelf.called_none g.met.F.Shelf.called_join c.answer_shared.ensures never in
    alone.done c.one_command.ensures c.texts_have_one_meaning.ensures row is

pub returns-clause-faults : goal.returns-clause-faults
returns-clause-faults g c = λ never is.
    let row = top.answered_alone c.one_command.ensures c.texts_have_one_meaning.ensures g.met.F.Shelf.called_none g.met.F.Shelf.called_join c.answer_shared.ensures never in
    alone.ended_with_faults c.one_command.ensures c.texts_have_one_meaning.ensures row is

pub returns-clause-called : goal.returns-clause-called
returns-clause-called g c =
    top.called c.one_command.ensures c.texts_have_one_meaning.ensures g.met.F.Shelf.called_none g.met.F.Shelf.called_join c.answer_shared.ensures

pub returns-clause-usage : goal.returns-clause-usage
returns-clause-usage g c =
    top.usage c.one_command.ensures c.texts_have_one_meaning.ensures g.met.F.Shelf.called_none g.met.F.Shelf.called_join c.answer_shared.ensures

pub returns-clause-text_refused : goal.returns-clause-text_refused
returns-clause-text_refused g c =
    top.text_refused c.one_command.ensures c.texts_have_one_meaning.ensures g.met.F.Shelf.called_none g.met.F.Shelf.called_join c.answer_shared.ensures

pub returns-clause-plan_refused : goal.returns-clause-plan_refused
returns-clause-plan_refused g c =
    top.plan_refused c.one_command.ensures c.texts_have_one_meaning.ensures g.met.F.Shelf.called_none g.met.F.Shelf.called_join c.answer_shared.ensures

pub returns-clause-shelf_fault : goal.returns-clause-shelf_fault
returns-clause-shelf_fault g c =
    top.shelf_fault c.one_command.ensures c.texts_have_one_meaning.ensures g.met.F.Shelf.called_none g.met.F.Shelf.called_join c.answer_shared.ensures

pub returns-clause-journal_length : goal.returns-clause-journal_length
returns-clause-journal_length g c =
    top.journal_length c.one_command.ensures c.texts_have_one_meaning.ensures g.met.F.Shelf.called_none g.met.F.Shelf.called_join c.answer_shared.ensures

pub returns-clause-sink_fault : goal.returns-clause-sink_fault
returns-clause-sink_fault g c =
    top.sink_fault c.one_command.ensures c.texts_have_one_meaning.ensures g.met.F.Shelf.called_none g.met.F.Shelf.called_join c.answer_shared.ensures

pub returns-clause-no_file : goal.returns-clause-no_file
returns-clause-no_file g c =
    top.no_file c.one_command.ensures c.texts_have_one_meaning.ensures g.met.F.Shelf.called_none g.met.F.Shelf.called_join c.answer_shared.ensures

pub returns-clause-refused_same : goal.returns-clause-refused_same
returns-clause-refused_same g c =
    top.refused_same c.one_command.ensures c.texts_have_one_meaning.ensures g.met.F.Shelf.called_none g.met.F.Shelf.called_join c.answer_shared.ensures

pub returns-clause-refused_generated : goal.returns-clause-refused_generated
returns-clause-refused_generated g c =
    top.refused_generated c.one_command.ensures c.texts_have_one_meaning.ensures g.met.F.Shelf.called_none g.met.F.Shelf.called_join c.answer_shared.ensures

pub returns-clause-usage_all : goal.returns-clause-usage_all
returns-clause-usage_all g c =
    top.usage_all c.one_command.ensures c.texts_have_one_meaning.ensures g.met.F.Shelf.called_none g.met.F.Shelf.called_join c.answer_shared.ensures

pub returns-clause-no_file_all : goal.returns-clause-no_file_all
returns-clause-no_file_all g c =
    top.no_file_all c.one_command.ensures c.texts_have_one_meaning.ensures g.met.F.Shelf.called_none g.met.F.Shelf.called_join c.answer_shared.ensures

pub returns-clause-text_refused_all : goal.returns-clause-text_refused_all
returns-clause-text_refused_all g c =
    top.text_refused_all c.one_command.ensures c.texts_have_one_meaning.ensures g.met.F.Shelf.called_none g.met.F.Shelf.called_join c.answer_shared.ensures

pub returns-clause-plan_refused_all : goal.returns-clause-plan_refused_all
returns-clause-plan_refused_all g c =
    top.plan_refused_all c.one_command.ensures c.texts_have_one_meaning.ensures g.met.F.Shelf.called_none g.met.F.Shelf.called_join c.answer_shared.ensures

pub returns-clause-journal_length_all : goal.returns-clause-journal_length_all
returns-clause-journal_length_all g c =
    top.journal_length_all c.one_command.ensures c.texts_have_one_meaning.ensures g.met.F.Shelf.called_none g.met.F.Shelf.called_join c.answer_shared.ensures

pub returns-clause-complete : goal.returns-clause-complete
returns-clause-complete g c =
    top.complete c.one_command.ensures c.texts_have_one_meaning.ensures g.met.F.Shelf.called_none g.met.F.Shelf.called_join c.answer_shared.ensures
