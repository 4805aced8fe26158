-- The headline of a run.
use Rattle.std.proofs.Common.{◌∙◌, List, subst, sym}
use Rattle.std.specs.FinMap.{get}
use Rattle.trick_serve_headline.proofs.All.{all_same}
use Rattle.trick_serve_headline.specs.Clients.{ServesClients}
use Rattle.trick_serve_headline.specs.Continued.{RunsWriteRemainders}
use Rattle.trick_serve_headline.specs.Headline.{RunsKeepHeadline}
use Rattle.trick_exec_own_journal.specs.Rules.{chosen}
use Rattle.trick_exec_own_journal.specs.Written.{TurnsAreCounted, WrittenJournals, written_text}
use Rattle.trick_model.specs.Files.{journal_name}
use Rattle.trick_model.specs.PlanOf.{plan_of}
use Rattle.trick_model.specs.declared.entry.Entry.{Entry}
use Rattle.trick_outside.specs.declared.shelf.Shelf.{Ghosts}
use Rattle.trick_exec_alone.specs.Replay.{lists_for}
use Rattle.trick_exec_laws.specs.Noting.{NotedDoSame}
use Rattle.trick_serve_seats.specs.Taking.{Hosts}

pub keep : {F D I O S : Type 0} → NotedDoSame → WrittenJournals → TurnsAreCounted → RunsWriteRemainders → (shelf : Ghosts F) (h : Hosts D I O S) → RunsKeepHeadline shelf h
keep noted journals counted rests shelf h plan s lists old new door now spawner after accepted begins ends ran =
    let p = plan_of plan in
    let most = counted.counted p s lists begins ends in
    let wrote = journals plan s lists ∣ accepted ∣₁ ran.fits most (chosen ran.chosen.0 ran.chosen.1 ran.rules ran.chosen.2) in record {
      text = written_text p s lists;
      journal = wrote.journal;
      is = wrote.is;
      fits = wrote.fits;
      files = λ before told.
          let left = ran.files before told in (
            left.0,
            left.1,
            left.2 journal_name ∙ wrote.held (get before journal_name),
            λ name. left.2 name ∙ sym (wrote.same name (get before name)),
          );
      remainder = λ first entries end later within fits same applies. rests plan first entries end s.turn (lists_for wrote.journal s) later within fits applies;
      clients =
          subst (λ (ls : List (List Entry)). ServesClients h p s ls door now spawner after) (sym wrote.gives)
          (all_same noted h p s lists door now spawner after ran.clients);
    }
