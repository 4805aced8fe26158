use Rattle.std.proofs.Common.{◌≡◌, ◌∙◌, List, [], ap, sym}
use Rattle.trick_exec_files.proofs.notes.note.Goals as goal
use Rattle.trick_model.specs.Files.{note}
use Rattle.trick_model.specs.declared.entry.Entry.{Entry}
use Rattle.trick_outside.proofs.DoesLemmas.{does_idle, does_none}
use Rattle.trick_exec_tic.proofs.NoneBefore.{none_of}
use Rattle.trick_exec_tic.specs.Steps.{steps_of}

pub returns-then-is_empty : goal.returns-then-is_empty
returns-then-is_empty g c =
    let none : c.args.entries.now ≡ [] = none_of c.args.entries.now (sym c.is_empty.ensures ∙ c.if-is_empty.true) in
    does_idle _ _ _ (g.met.F.Shelf.called_none _) (λ f. cc) (ap (λ (entries : List Entry). steps_of (note c.args.turn entries)) none)

pub returns-in_default : goal.returns-in_default
returns-in_default g c = does_none _ _ _ (g.met.F.Shelf.called_none _) (λ d. cc) (λ f. cc)

pub returns-in_default-entry_text : goal.returns-in_default-entry_text
returns-in_default-entry_text g c = does_none _ _ _ (g.met.F.Shelf.called_none _) (λ d. cc) (λ f. cc)
