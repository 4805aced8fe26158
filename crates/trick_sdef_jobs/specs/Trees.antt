-- The trees that values of the readers of jobs hold.
use Rattle.trick_lang.specs.SyntaxTree as tree
use Rattle.trick_lang.specs.declared.syntax.definition.JobLine.{JobLine}
use Rattle.trick_sdef_jobs.specs.Jobs as grammar
use Rattle.trick_sdef_jobs.specs.declared.jobs.Times.{Times}

abbrev pub times_of : Times → grammar.Times
times_of t = record { class = t.class; start = t.start; cycle = t.cycle; stop = t.stop }

abbrev pub job_line_of : JobLine → tree.JobLine
job_line_of j = record {
  class = j.class;
  thread = j.thread;
  phase = j.phase;
  start = j.start;
  cycle = j.cycle;
  stop = j.stop;
  line = j.line;
  method = j.method;
}
