-- Parts of the grammars of bodies and simulation definitions, put together so that the next token does not decide:
-- the first conflict, with a class that the rule round it begins with, why it is one, and a class.
use Rattle.std.specs.Prelude.{◌≡◌, true, [], ◌∷◌, Option, Some, None}
use Rattle.trick_body_symbols.specs.Expressions.{Of, names}
use Rattle.trick_body_symbols.specs.Symbols.{Token, number_of}
use Rattle.trick_body_symbols.specs.declared.symbol.Symbol.{Symbol}
use Rattle.trick_body_symbols.specs.declared.symbol.Symbol.TheVariants as the
use Rattle.trick_grammar.specs.Conflicts.{Why, first_conflict, both_begin, would_go_on, is_barred, not_in_first, not_in_more, not_in_barred, wrong_outline, empty_part, no_text}
use Rattle.trick_grammar.specs.Grammar.{Link, Outline, last, act, alone, after, hint, nearest, nothing, one, outline, refuse, repetition, rule, scope, token, ◌⨾◌, ◌∣◌}
use Rattle.trick_grammar.specs.declared.refusal.Refusal.TheVariants.{BadHeader, Expected, NotInProfile}
use Rattle.trick_sdef_jobs.specs.Jobs.{other_class, scheduled_class, span, time}
use Rattle.trick_sdef_classes.specs.Members.{declarator, free_name, lengths}

-- the first conflict of a grammar of tokens
abbrev pub conflict : {A : Type 0} → Of A → Option (Option Symbol × Why × Option Symbol)
conflict g = first_conflict number_of g

-- "else" and a semicolon, after an `if` that takes each `else`
abbrev pub else_link : Of (Link Token Token)
else_link = act (λ v. last v.1) (one the.Else ⨾ one the.Semicolon)

-- an outline of what begins with `[`, may be empty, and goes on with no class
abbrev pub bracket_outline : Outline Symbol
bracket_outline = record { nullable = true; inhabited = true; first = the.OpenBracket ∷ []; more = []; barred = [] }

pub record AreNamed : Type 0 where
  -- a NAME, or a NAME that is not `trick`
  pub two_names : conflict (token names ∣ free_name) ≡ Some (None, both_begin, Some the.Name)
  -- both kinds of classes, where the string decides, and each refuses the other's
  pub two_classes : conflict (scheduled_class ∣ other_class) ≡ Some (None, both_begin, Some the.Scheduled)
  -- an index after the lengths of an array
  pub index_behind_lengths : conflict (lengths ⨾ one the.OpenBracket) ≡ Some (None, would_go_on, Some the.OpenBracket)
  -- a time after a cycle's start and stop
  pub many_times : conflict (repetition 4 (time ⨾ span)) ≡ Some (None, would_go_on, Some the.Huge)
  -- an `else` after an `if` that takes each
  pub else_behind_else : conflict (nearest else_link ⨾ one the.Else) ≡ Some (None, is_barred, Some the.Else)
  -- outlines that leave out a class
  pub begins_otherwise : conflict (rule (outline (the.Text ∷ []) [] []) (one the.KnownFile))
      ≡ Some (Some the.Text, not_in_first, Some the.KnownFile)
  pub goes_on_otherwise : conflict (rule bracket_outline lengths)
      ≡ Some (Some the.OpenBracket, not_in_more, Some the.OpenBracket)
  pub bars_otherwise : conflict (rule (record {
    nullable = true;
    inhabited = true;
    first = the.Else ∷ [];
    more = [];
    barred = [];
  }) (nearest else_link)) ≡ Some (Some the.Else, not_in_barred, Some the.Else)
  -- an outline that says of a part without the empty text that it has it
  pub wrongly_empty : conflict (rule bracket_outline (one the.OpenBracket))
      ≡ Some (Some the.OpenBracket, wrong_outline, None)
  -- any number of parts that may be empty
  pub empty_items : conflict (repetition 4 lengths) ≡ Some (None, empty_part, None)
  pub empty_first : conflict (lengths ∣ nothing []) ≡ Some (None, empty_part, None)
  -- what no text goes on with
  pub nothing_behind : conflict (one the.Hash ⨾ refuse {A = Token} NotInProfile (the.Text ∷ []))
      ≡ Some (None, no_text, None)
  -- conflicts inside other parts
  pub inside_a_hint : conflict (hint BadHeader (token names ∣ free_name)) ≡ Some (None, both_begin, Some the.Name)
  pub inside_a_scope : conflict (scope Expected names (token names ∣ free_name))
      ≡ Some (None, both_begin, Some the.Name)
  pub behind_a_name : conflict (after Expected names (λ e t. true) (one the.Hash) (alone (token names ∣ free_name)))
      ≡ Some (None, both_begin, Some the.Name)
  -- and a part without one
  pub none : conflict (declarator []) ≡ None
