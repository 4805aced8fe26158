-- The worked conflicts are those that are named.
use Rattle.std.proofs.Common.{refl}
use Rattle.trick_sdef_grammar.specs.Named.{AreNamed}
use Rattle.trick_sdef_jobs.specs.Jobs.{other_class_body, scheduled_class_body, time_body, timed_body}
use Rattle.trick_sdef_classes.specs.Members.{declarator_body, free_name_body, length_body, lengths_body}

pub are_named : AreNamed
unfolding other_class_body scheduled_class_body time_body timed_body declarator_body free_name_body length_body lengths_body
are_named = record {
  two_names = refl;
  two_classes = refl;
  index_behind_lengths = refl;
  many_times = refl;
  else_behind_else = refl;
  begins_otherwise = refl;
  goes_on_otherwise = refl;
  bars_otherwise = refl;
  wrongly_empty = refl;
  empty_items = refl;
  empty_first = refl;
  nothing_behind = refl;
  inside_a_hint = refl;
  inside_a_scope = refl;
  behind_a_name = refl;
  none = refl;
}
