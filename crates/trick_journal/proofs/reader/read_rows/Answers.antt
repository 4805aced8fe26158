use Rattle.std.proofs.Common.{◌≡◌, ◌≢◌, ◌≤◌, ◌+◌, ◌++◌, [], ℕ, List, length, ap, sym, subst, refl, ◌∙◌}
use Rattle.std.proofs.lemmas.Result.{err_from_is_err_and}
use Rattle.trick_codes.specs.Lines.{first_line}
use Rattle.trick_journal.proofs.Answering.{bad_line, broken, finished, front_more, no_bytes, no_end, published_more, right_of, room_more, some_bytes}
use Rattle.trick_journal.proofs.Behind.{line_some}
use Rattle.trick_journal.proofs.reader.read_rows.Goals as goal
use Rattle.trick_journal.specs.Fronts.{front_text, going}
use Rattle.trick_journal.specs.Rows.{Says, finish, note}
use Rattle.trick_journal.specs.Rules.{Breaks}
use Rattle.trick_journal.specs.Told.{SaysNone, entry_in}
use Rattle.trick_model.specs.Journal.{Noted}
use Rattle.trick_model.specs.PlanOf.{plan_of}

pub returns-in_err-take-in-Some-Note : goal.returns-in_err-take-in-Some-Note
returns-in_err-take-in-Some-Note c = λ start early low.
    let p = plan_of c.args.plan.now in
    let inv = c.loop-here.invariant in
    let here = c.loop-here.here.now in
    let rows = c.loop-here.rows in
    let e : Noted = (c.in-Some-Note.turn, entry_in c.in-Some-Note.entry) in
    let error = c.in_err-take-in-Some-Note.field-0.0 in
    let right = right_of p start c.args.from rows inv.keeps inv.from inv.published early low in
    let said : Says c.next_line.result.0.now (note e) = (rw c.in-Some-Note.field-0-is at c.in-Some-Note.ensures) in
    let says : Says (first_line here) (note e) = subst (λ (l : List ℕ). Says l (note e)) c.next_line.ensures.line said in
    let breaks : Breaks p c.args.from rows.entries (note e) error =
    subst (λ (n : ℕ). Breaks p n rows.entries (note e) error) inv.from c.in_err-take-in-Some-Note.ensures.breaks in
    let q = err_from_is_err_and c.from_residual.result c.from_residual.ensures.1 in
    rw (q.1, q.2)
    (broken p start (front_text (going c.args.from []) ++ c.args.text.now) c.args.from rows.entries here inv.text right error e
    (some_bytes here c.in-len1-up.len_at_least) says breaks)

pub returns-in-Some-End : goal.returns-in-Some-End
returns-in-Some-End c = λ start early low.
    let p = plan_of c.args.plan.now in
    let inv = c.loop-here.invariant in
    let here = c.loop-here.here.now in
    let rows = c.loop-here.rows in
    let rest = c.next_line.result.1.now in
    let end = c.in-Some-End.turn in
    let right = right_of p start c.args.from rows inv.keeps inv.from inv.published early low in
    let said : Says c.next_line.result.0.now (finish end) = (rw c.in-Some-End.field-0-is at c.in-Some-End.ensures) in
    let says : Says (first_line here) (finish end) = subst (λ (l : List ℕ). Says l (finish end)) c.next_line.ensures.line said in
    let all : here ≡ first_line here ++ rest = subst (λ (l : List ℕ). here ≡ l ++ rest) c.next_line.ensures.line c.next_line.ensures.all in
    finished p start (front_text (going c.args.from []) ++ c.args.text.now) c.args.from rows.entries here inv.text right rows end rest c.finish.result
    inv.from refl (some_bytes here c.in-len1-up.len_at_least) all says c.finish.ensures

pub returns-in-None : goal.returns-in-None
returns-in-None c = λ start early low.
    let p = plan_of c.args.plan.now in
    let inv = c.loop-here.invariant in
    let here = c.loop-here.here.now in
    let rows = c.loop-here.rows in
    let right = right_of p start c.args.from rows inv.keeps inv.from inv.published early low in
    let none : SaysNone (first_line here) = subst SaysNone c.next_line.ensures.line c.in-None.ensures in
    bad_line p start (front_text (going c.args.from []) ++ c.args.text.now) c.args.from rows.entries here inv.text right (c.len.result + 3)
    (some_bytes here c.in-len1-up.len_at_least) (ap (λ (k : ℕ). k + 3) c.len.ensures) none

pub loop-here-preserved : goal.loop-here-preserved
loop-here-preserved c =
    let p = plan_of c.args.plan.now in
    let inv = c.loop-here.invariant in
    let here = c.loop-here.here.now in
    let rows = c.loop-here.rows in
    let line = c.next_line.result.0.now in
    let rest = c.next_line.result.1.now in
    let e : Noted = (c.in-Some-Note.turn, entry_in c.in-Some-Note.entry) in
    let took = c.in_ok-take-in-Some-Note.ensures in
    let ts = front_text (going c.args.from []) ++ c.args.text.now in
    let said : Says line (note e) = (rw c.in-Some-Note.field-0-is at c.in-Some-Note.ensures) in
    let some : 1 ≤ length line = subst (λ (l : List ℕ). 1 ≤ length l) (sym c.next_line.ensures.line) (line_some here c.in-len1-up.len_at_least) in
    record {
      keeps = took.keeps;
      from = took.from ∙ inv.from;
      published = published_more p rows.entries c.take.new.self.entries e inv.published took.published took.entries;
      room = room_more rows.entries c.take.new.self.entries e here line rest (length c.args.text.now) took.entries c.next_line.ensures.all some inv.room;
      text = subst (λ (es : List Noted). ts ≡ front_text (going c.args.from es) ++ rest) (sym took.entries)
          (front_more ts c.args.from rows.entries here line rest e inv.text c.next_line.ensures.all said.text);
    }

pub returns : goal.returns
returns c = λ start early low.
    let p = plan_of c.args.plan.now in
    let inv = c.loop-here.invariant in
    let here = c.loop-here.here.now in
    let rows = c.loop-here.rows in
    let right = right_of p start c.args.from rows inv.keeps inv.from inv.published early low in
    no_end p start (front_text (going c.args.from []) ++ c.args.text.now) c.args.from rows.entries here inv.text right (c.len-2.result + 3)
    (no_bytes here c.in_default.len_below) (ap (λ (k : ℕ). k + 3) c.len-2.ensures)
