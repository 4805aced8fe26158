use Rattle.trick_top_alone.proofs.TopLemmas as top
use Rattle.trick_top_alone.proofs.alone.tricks_alone.Goals as goal

pub returns-clause-called : goal.returns-clause-called
returns-clause-called g c = top.called c.one_command.ensures c.texts_have_one_meaning.ensures c.answer.ensures

pub returns-clause-done : goal.returns-clause-done
returns-clause-done g c = top.done c.one_command.ensures c.texts_have_one_meaning.ensures c.answer.ensures

pub returns-clause-usage : goal.returns-clause-usage
returns-clause-usage g c = top.usage c.one_command.ensures c.texts_have_one_meaning.ensures c.answer.ensures

pub returns-clause-text_refused : goal.returns-clause-text_refused
returns-clause-text_refused g c = top.text_refused c.one_command.ensures c.texts_have_one_meaning.ensures c.answer.ensures

pub returns-clause-plan_refused : goal.returns-clause-plan_refused
returns-clause-plan_refused g c = top.plan_refused c.one_command.ensures c.texts_have_one_meaning.ensures c.answer.ensures

pub returns-clause-faults : goal.returns-clause-faults
returns-clause-faults g c = top.ended_with_faults c.one_command.ensures c.texts_have_one_meaning.ensures c.answer.ensures

pub returns-clause-shelf_fault : goal.returns-clause-shelf_fault
returns-clause-shelf_fault g c = top.shelf_fault c.one_command.ensures c.texts_have_one_meaning.ensures c.answer.ensures

pub returns-clause-journal_length : goal.returns-clause-journal_length
returns-clause-journal_length g c = top.journal_length c.one_command.ensures c.texts_have_one_meaning.ensures c.answer.ensures

pub returns-clause-sink_fault : goal.returns-clause-sink_fault
returns-clause-sink_fault g c = top.sink_fault c.one_command.ensures c.texts_have_one_meaning.ensures c.answer.ensures

pub returns-clause-no_file : goal.returns-clause-no_file
returns-clause-no_file g c = top.no_file c.one_command.ensures c.texts_have_one_meaning.ensures c.answer.ensures

pub returns-clause-refused_same : goal.returns-clause-refused_same
returns-clause-refused_same g c = top.refused_same c.one_command.ensures c.texts_have_one_meaning.ensures c.answer.ensures

pub returns-clause-refused_generated : goal.returns-clause-refused_generated
returns-clause-refused_generated g c = top.refused_generated c.one_command.ensures c.texts_have_one_meaning.ensures c.answer.ensures

pub returns-clause-stopped : goal.returns-clause-stopped
returns-clause-stopped g c = top.stopped c.one_command.ensures c.texts_have_one_meaning.ensures c.answer.ensures

pub returns-clause-usage_all : goal.returns-clause-usage_all
returns-clause-usage_all g c = top.usage_all c.one_command.ensures c.texts_have_one_meaning.ensures c.answer.ensures

pub returns-clause-no_file_all : goal.returns-clause-no_file_all
returns-clause-no_file_all g c = top.no_file_all c.one_command.ensures c.texts_have_one_meaning.ensures c.answer.ensures

pub returns-clause-text_refused_all : goal.returns-clause-text_refused_all
returns-clause-text_refused_all g c = top.text_refused_all c.one_command.ensures c.texts_have_one_meaning.ensures c.answer.ensures

pub returns-clause-plan_refused_all : goal.returns-clause-plan_refused_all
returns-clause-plan_refused_all g c = top.plan_refused_all c.one_command.ensures c.texts_have_one_meaning.ensures c.answer.ensures

pub returns-clause-journal_length_all : goal.returns-clause-journal_length_all
returns-clause-journal_length_all g c = top.journal_length_all c.one_command.ensures c.texts_have_one_meaning.ensures c.answer.ensures

pub returns-clause-complete : goal.returns-clause-complete
returns-clause-complete g c = top.complete c.one_command.ensures c.texts_have_one_meaning.ensures c.answer.ensures
