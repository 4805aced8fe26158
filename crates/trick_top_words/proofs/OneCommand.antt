-- Words ask for one command at most: it is made of the kind and of the values.
use Rattle.std.proofs.Common.{◌≡◌, ◌∙◌, ap, sym, refl, ℕ, List, Option, Some, None, option_map}
use Rattle.std.specs.Str.Parse.{digits_value}
use Rattle.trick_top_words.specs.CommandLine.{Text}
use Rattle.trick_top_words.specs.Command.{Asks, HasRest, HasTexts, Holds, IsCount, IsPort, kind_of, kind_of_task}
use Rattle.trick_top_words.specs.Reads.{Values, values_in}
use Rattle.trick_top_words.specs.declared.Kind.{Kind}
use Rattle.trick_top_words.specs.declared.Kind.TheVariants as kind
use Rattle.trick_top_words.specs.declared.command.Command.{Command}
use Rattle.trick_top_words.specs.declared.command.Command.TheVariants as command
use Rattle.trick_top_words.specs.declared.command.Task.{Task}
use Rattle.trick_top_words.specs.declared.command.Task.TheVariants as task
use Rattle.trick_top_words.proofs.Unique.{one_line}

abbrev if_both : Option Text → Option Text → (Text → Text → Command) → Option Command
if_both None second make = None
if_both (Some s_define) None make = None
if_both (Some s_define) (Some input) make = Some (make s_define input)

abbrev made_with : Values → Option Text → Task → Option Command
made_with v from t = if_both v.s_define v.input (λ s i. command.Texts (record { task = t; s_define = s; input = i; from = from }))

abbrev made : Kind → Values → Option Command
made kind.Serial v = made_with v v.from task.Serial
made kind.Run v = made_with v v.from (task.Run (option_map (digits_value 10) v.port))
made kind.Replay v = if_journal v.journal
  where
    if_journal : Option Text → Option Command
    if_journal None = None
    if_journal (Some journal) = made_with v v.from (task.Replay journal)
made kind.Check v = made_with v None task.Check
made kind.List v = made_with v None task.List
made kind.Gen v = option_map (λ digits. command.Gen (digits_value 10 digits)) v.count

port_is : (given : Option Text) (port : Option ℕ) → IsPort given port → option_map (digits_value 10) given ≡ port
port_is None port none = sym none
port_is (Some digits) port (number, is, told) = ap Some (sym told.value) ∙ sym is

count_is : (given : Option Text) (count : ℕ) → IsCount given count
    → option_map (λ digits. command.Gen (digits_value 10 digits)) given ≡ Some (command.Gen count)
count_is None count never = absurd never
count_is (Some digits) count told = ap (λ (n : ℕ). Some (command.Gen n)) (sym told.value)

texts_made : (v : Values) (s i : Text) (f : Option Text) (t : Task) → HasTexts v s i → HasRest v f t
    → made (kind_of_task t) v ≡ Some (command.Texts (record { task = t; s_define = s; input = i; from = f }))
texts_made v s i f task.Serial texts from = rw (texts.0, texts.1, from) refl
texts_made v s i f (task.Run p) texts (from, port) = rw (texts.0, texts.1, from, port_is v.port p port) refl
texts_made v s i f (task.Replay j) texts (from, journal) = rw (texts.0, texts.1, journal, from) refl
texts_made v s i f task.Check texts none = rw (texts.0, texts.1, none) refl
texts_made v s i f task.List texts none = rw (texts.0, texts.1, none) refl

is_made : (v : Values) (asked : Command) → Holds v asked → made (kind_of asked) v ≡ Some asked
is_made v (command.Texts about) (texts, rest) = texts_made v about.s_define about.input about.from about.task texts rest
is_made v (command.Gen n) count = count_is v.count n count

pub one_command : (words : List Text) (first second : Command) → Asks words first → Asks words second → first ≡ second
one_command words first second one two =
    let (kinds, given) = one_line words (kind_of first) (kind_of second) one.given two.given one.line two.line in
    some_same first second (sym (is_made (values_in one.given) first one.holds)
    ∙ ap (λ (k : Kind). made k (values_in one.given)) kinds
    ∙ ap (λ (v : Values). made (kind_of second) v) (ap values_in given)
    ∙ is_made (values_in two.given) second two.holds)
  where
    some_same : (a b : Command) → Some a ≡ Some b → a ≡ b
    some_same a b e = cc e
