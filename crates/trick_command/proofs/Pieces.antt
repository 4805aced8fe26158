-- What pieces read, one after the other, and the actions of parts.
use Rattle.std.proofs.Common.{◌≡◌, ℕ, ◌+◌, ◌-◌, ◌≤◌, ◌<◌, ◌++◌, List, [], ◌∷◌, length, take, drop, Option, Some, None, refl, sym, ap, ◌∙◌, subst, arith, append_assoc, length-drop}
use Rattle.std.proofs.lemmas.List.{drop-drop, length-take, take_all}
use Rattle.std.specs.Prelude.{option_map}
use Rattle.trick_command.specs.Answers.{actions_of_words}
use Rattle.trick_command.specs.Parts.{parts_from}
use Rattle.trick_command.specs.Seen.{lexemes_in}
use Rattle.trick_command.specs.declared.lexeme.CommandLexeme as code
use Rattle.trick_model.specs.Commands.{action_of, all_actions, parts_of}
use Rattle.trick_model.specs.Forms.{Piece, Read, Value, read_piece, read_pieces}
use Rattle.trick_model.specs.Words.{Lexeme}
use Rattle.trick_model.specs.declared.action.Action.{Action}

twice : {A : Type 0} (old more : List A) (o : Option (List A)) → option_map (λ x. old ++ x) (option_map (λ x. more ++ x) o) ≡ option_map (λ x. (old ++ more) ++ x) o
twice old more None = refl
twice old more (Some x) = ap (λ xs. Some xs) (sym (append_assoc old more x))

-- one piece more
pub read_on : (old new : List Value) (p : Piece) (ps : List Piece) (ws : List Lexeme) (r : Read) (total : Option (List Value)) → Some r ≡ read_piece p ws → new ≡ old ++ r.values
    → option_map (λ o. old ++ o) (read_pieces (p ∷ ps) ws) ≡ total → option_map (λ o. new ++ o) (read_pieces ps r.behind) ≡ total
read_on old new p ps ws r total e n h = rw n (sym (twice old r.values (read_pieces ps r.behind))) ∙ sym step ∙ h
  where
    step : option_map (λ o. old ++ o) (read_pieces (p ∷ ps) ws) ≡ option_map (λ o. old ++ o) (option_map (λ o. r.values ++ o) (read_pieces ps r.behind))
    step = rw (sym e, option_map) refl

pub stopped : (old : List Value) (p : Piece) (ps : List Piece) (ws : List Lexeme) (total : Option (List Value)) → None ≡ read_piece p ws
    → option_map (λ o. old ++ o) (read_pieces (p ∷ ps) ws) ≡ total → total ≡ None
stopped old p ps ws total e h = sym h ∙ step
  where
    step : option_map (λ o. old ++ o) (read_pieces (p ∷ ps) ws) ≡ None
    step = rw (sym e, option_map) refl

-- one part more
pub act_on : (old new : List Action) (part : List Lexeme) (parts : List (List Lexeme)) (a : Action) (total : Option (List Action)) → Some a ≡ action_of part → new ≡ old ++ a ∷ []
    → option_map (λ o. old ++ o) (all_actions (part ∷ parts)) ≡ total → option_map (λ o. new ++ o) (all_actions parts) ≡ total
act_on old new part parts a total e n h = rw n (sym (twice old (a ∷ []) (all_actions parts))) ∙ sym step ∙ h
  where
    step : option_map (λ o. old ++ o) (all_actions (part ∷ parts)) ≡ option_map (λ o. old ++ o) (option_map (λ o. (a ∷ []) ++ o) (all_actions parts))
    step = rw (sym e, option_map) refl

pub no_act : (old : List Action) (part : List Lexeme) (parts : List (List Lexeme)) (total : Option (List Action)) → None ≡ action_of part
    → option_map (λ o. old ++ o) (all_actions (part ∷ parts)) ≡ total → total ≡ None
no_act old part parts total e h = sym h ∙ step
  where
    step : option_map (λ o. old ++ o) (all_actions (part ∷ parts)) ≡ None
    step = rw (sym e, option_map) refl

-- ---- parts

-- one part more, by its length
pub part_done : (found more : List Action) (rest part behind : List code.CommandLexeme) (n : ℕ) (a : Action) (total : Option (List Action))
    → parts_of [] (lexemes_in rest) ≡ lexemes_in (take n rest) ∷ parts_from (drop n rest) → part ≡ take n rest → behind ≡ drop n rest → Some a ≡ action_of (lexemes_in part)
    → more ≡ found ++ a ∷ [] → option_map (λ o. found ++ o) (actions_of_words (lexemes_in rest)) ≡ total → option_map (λ o. more ++ o) (all_actions (parts_from behind)) ≡ total
part_done found more rest part behind n a total cut p b e m h =
    act_on found more (lexemes_in part) (parts_from behind) a total e m (ap (λ ps. option_map (λ o. found ++ o) (all_actions ps)) (sym same) ∙ h)
  where
    same : parts_of [] (lexemes_in rest) ≡ lexemes_in part ∷ parts_from behind
    same = rw (p, b) cut

pub parts_behind : (behind : List code.CommandLexeme) → 1 ≤ length behind → parts_from behind ≡ parts_of [] (lexemes_in (drop 1 behind))
parts_behind [] le = absurd (omega (arith, le))
parts_behind (word ∷ words) le = refl

-- the words after the `;`
pub part_next : (found more : List Action) (rest part : List code.CommandLexeme) (m n : ℕ) (a : Action) (total : Option (List Action))
    → parts_of [] (lexemes_in rest) ≡ lexemes_in (take n rest) ∷ parts_from (drop n rest) → part ≡ take n rest → Some a ≡ action_of (lexemes_in part)
    → more ≡ found ++ a ∷ [] → option_map (λ o. found ++ o) (actions_of_words (lexemes_in rest)) ≡ total → m ≡ length rest → n < length rest
    → option_map (λ o. more ++ o) (actions_of_words (lexemes_in (take (m - (n + 1)) (drop (n + 1) rest)))) ≡ total
part_next found more rest part m n a total cut p e is h all lt =
    subst (λ ps. option_map (λ o. more ++ o) (all_actions ps) ≡ total) (parts_behind (drop n rest) some ∙ ap (λ us. parts_of [] (lexemes_in us)) (drop-drop 1 n rest ∙ sym same))
    (part_done found more rest part (drop n rest) n a total cut p refl e is h)
  where
    some : 1 ≤ length (drop n rest)
    some = omega (arith, lt, length-drop n rest)

    same : take (m - (n + 1)) (drop (n + 1) rest) ≡ drop (n + 1) rest
    same = take_all (m - (n + 1)) (drop (n + 1) rest) (omega (arith, all, length-drop (n + 1) rest))

pub next_within : (words rest : List code.CommandLexeme) (m k : ℕ) → length rest ≤ length words → length (take m (drop k rest)) ≤ length words
next_within words rest m k le = omega (arith, le, length-drop k rest, length-take m (drop k rest))
