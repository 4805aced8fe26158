-- A client of a run under what its turns noted.
use Rattle.std.proofs.Common.{◌≡◌, ◌∙◌, ℕ, List, [], ◌∷◌, ◌++◌, ap, append-nil, refl, subst, sym}
use Rattle.std.specs.Prelude.{IsTrue}
use Rattle.trick_serve_headline.proofs.Entries.{own_of_turn}
use Rattle.trick_serve_headline.proofs.Same.{own_same}
use Rattle.trick_serve_headline.specs.Noted.{ClientsAreServedAsNoted, noted_of}
use Rattle.trick_model.specs.Files.{messages_to, session_text}
use Rattle.trick_model.specs.Plan.{Plan}
use Rattle.trick_model.specs.Run.{after_turns, opened}
use Rattle.trick_model.specs.State.{State, World}
use Rattle.trick_model.specs.Turn.{turn}
use Rattle.trick_model.specs.declared.entry.Entry.{Entry}
use Rattle.trick_exec_laws.specs.Left.{in_note_order, journal_lists}
use Rattle.trick_exec_laws.specs.Noting.{NotedDoSame}
use Rattle.trick_serve_hearing.specs.Life.{is_idle}
use Rattle.trick_serve_facts.specs.HangUps.{HangsUpIn}
use Rattle.trick_serve_facts.specs.LastTurns.{AreOfLastTurn}

pub noted_append : (p : Plan) (w : World) (early late : List (List Entry)) → journal_lists p w (early ++ late) ≡ journal_lists p w early ++ journal_lists p (after_turns p w early) late
noted_append p w [] late = refl
noted_append p w (entries ∷ early) late =
    ap (λ (ls : List (List Entry)). in_note_order (turn p w entries).noted ∷ ls) (noted_append p (turn p w entries).world early late)

-- it hangs up in the same turn
hangs_up_same : NotedDoSame → (p : Plan) (w : World) (lists : List (List Entry)) (n : ℕ) → HangsUpIn p w lists n → HangsUpIn p w (journal_lists p w lists) n
hangs_up_same law p w lists n hangs =
    let there = after_turns p w hangs.early in record {
      early = journal_lists p w hangs.early;
      entries = in_note_order (turn p there hangs.entries).noted;
      late = journal_lists p (turn p there hangs.entries).world hangs.late;
      lists_are = ap (journal_lists p w) hangs.lists_are ∙ noted_append p w hangs.early (hangs.entries ∷ hangs.late);
      alone = own_of_turn p there n hangs.entries ∙ hangs.alone;
      idle = subst (λ (v : World). IsTrue (is_idle n v.sessions)) (sym (law p w hangs.early).worlds) hangs.idle;
    }

-- ---- what was left out

said_same : NotedDoSame → (p : Plan) (w : World) (entries : List Entry) → (turn p w (in_note_order (turn p w entries).noted)).said ≡ (turn p w entries).said
said_same law p w entries =
    sym (append-nil (turn p w (in_note_order (turn p w entries).noted)).said) ∙ (law p w (entries ∷ [])).said ∙ append-nil (turn p w entries).said

text_same : NotedDoSame → (p : Plan) (s : State) (lists : List (List Entry)) (n : ℕ) → session_text p s (noted_of p s lists) n ≡ session_text p s lists n
text_same law p s lists n = ap (messages_to n) (law p (opened s) lists).said

last_same : NotedDoSame → (p : Plan) (s : State) (lists : List (List Entry)) (n : ℕ) (dropped : List (List ℕ)) → AreOfLastTurn p s lists n dropped
    → AreOfLastTurn p s (noted_of p s lists) n dropped
last_same law p s lists n dropped last =
    let there = after_turns p (opened s) last.early in
    let noted = in_note_order (turn p there last.entries).noted in record {
      early = noted_of p s last.early;
      entries = noted;
      late = journal_lists p (turn p there last.entries).world last.late;
      lists_are = ap (noted_of p s) last.lists_are ∙ noted_append p (opened s) last.early (last.entries ∷ last.late);
      kept = last.kept;
      of_turn =
          ap (λ (w : World). messages_to n (turn p w noted).said) (law p (opened s) last.early).worlds
          ∙ ap (messages_to n) (said_same law p there last.entries) ∙ last.of_turn;
      none_later =
          text_same law p s lists n ∙ last.none_later ∙ sym (text_same law p s (last.early ++ last.entries ∷ []) n)
          ∙ ap (λ (ls : List (List Entry)). session_text p s ls n) (noted_append p (opened s) last.early (last.entries ∷ []));
    }

-- ---- one client

pub served_as_noted : NotedDoSame → ClientsAreServedAsNoted
served_as_noted law p s lists n queues tale run = record {
  served = record {
    lines = run.lines;
    leave = run.leave;
    entries_are = own_same p (opened s) n lists ∙ run.entries_are;
    asks = run.asks;
    heard = run.heard;
    kept = run.kept;
    dropped = run.dropped;
    text_is = ap (messages_to n) (law p (opened s) lists).said ∙ run.text_is;
    sent = run.sent;
    link_fault = run.link_fault;
    slow = run.slow;
    full = run.full;
    last_turn = λ some. last_same law p s lists n run.dropped (run.last_turn some);
    no_thread = run.no_thread;
    hung_up = λ left. hangs_up_same law p (opened s) lists n (run.hung_up left);
  };
  lines = refl;
  leave = refl;
  dropped = refl;
}
