-- What the texts of lines read as.
use Rattle.std.specs.Prelude.{◌≡◌, ℕ, List, Option, None, option_map, ◌⊎◌}
use Rattle.trick_body.specs.Answers.{condition}
use Rattle.trick_body_symbols.specs.Lexemes.{lexemes_of}
use Rattle.trick_body_symbols.specs.Symbols.{number_of}
use Rattle.trick_plan_variables.specs.Grammar.{Declares, declaration_in, read_or_none}
use Rattle.trick_plan_variables.specs.declared.declaration.Declaration.{Declaration}
use Rattle.trick_grammar.specs.Gives.{class_of}
use Rattle.trick_grammar.specs.Text.{read_all}
use Rattle.trick_input.specs.declared.call.Form.{Form}
use Rattle.trick_input.specs.declared.call.Form.TheVariants as form
use Rattle.trick_input.specs.declared.call.TextForm.TheVariants as text_form
use Rattle.trick_lang.specs.Syntax.{expression_of}
use Rattle.trick_lang.specs.SyntaxTree.{Expression}
use Rattle.trick_plan_lines.specs.declared.texts.ReadTexts.{ReadTexts}
use Rattle.trick_text.specs.Tokens.{AreAllTokens}
use Rattle.trick_text.specs.declared.token.Style.TheVariants.{Command}
use Rattle.trick_text.specs.declared.token.Token.{Token}

-- the condition that these are all the tokens of
abbrev pub condition_of : List ℕ → List Token → Option Expression
condition_of text ts = read_or_none (read_all number_of class_of (condition text) (lexemes_of text ts))

-- What condition a text is: what its tokens are the condition of, where it has tokens. It is cut in the
-- style of commands.
abbrev pub IsConditionOf : List ℕ → Option Expression → Type 0
IsConditionOf text read =
    ((ts : List Token) × AreAllTokens Command text ts × (read ≡ condition_of text ts))
    ⊎ (((ts : List Token) → AreAllTokens Command text ts → ⊥) × (read ≡ None))

-- the declaration and the condition of a line, where they read
pub record Texts : Type 0 where
  pub declaration : Option Declaration
  pub condition : Option Expression

-- these are what the text of a line reads as
abbrev pub AreTexts : Form → Texts → Type 0
AreTexts (form.Declare text) texts = Declares text texts.declaration
AreTexts (form.Text (text_form.SetCondition variable text)) texts = IsConditionOf text texts.condition
AreTexts other texts = Unit {0}

-- texts of the code
abbrev pub texts_in : ReadTexts → Texts
texts_in texts = record { declaration = declaration_in texts.declaration; condition = option_map expression_of texts.condition }
