-- What resolving keeps of what the parts of a body mean.
use Rattle.std.specs.Prelude.{◌≡◌, ◌≤◌, ℕ, List, []}
use Rattle.trick_check_blocks.specs.Codes.{after_all, all_codes, all_inner}
use Rattle.trick_check_blocks.specs.Terms.{term}
use Rattle.trick_check_blocks.specs.declared.start.Local.{Local as InSlot}
use Rattle.trick_check_blocks.specs.declared.scope.ClassScope.{ClassScope}
use Rattle.trick_check_cells.specs.Counts.{counts, names_count}
use Rattle.trick_check_cells.specs.Tables.{layout_of}
use Rattle.trick_check_cells.specs.Unfolding.{Unfolds}
use Rattle.trick_lang.specs.Run as in_cells
use Rattle.trick_lang.specs.Run.{Setting as InCells, State as Resolved}
use Rattle.trick_lang.specs.SyntaxTree.{Expression, SDefine, Statements}
use Rattle.trick_lang.specs.Tree.{Code}
use Rattle.trick_lang.specs.Value as resolved
use Rattle.trick_lang.specs.Value.{Sight}
use Rattle.trick_lang.specs.declared.variable.Variable.{Variable}
use Rattle.trick_check_meaning.specs.Meaning.{Setting, State, run_all, value}
use Rattle.trick_check_meaning_kept.specs.Alike.{AreAlike, AreBelow, AreInOnePlace, AreSameTables, BlocksAreBelow, CanRunAll, EndAlike, HasBlocks, HaveElements, RunBlocks, SeeTheSame}
use Rattle.trick_check_names.specs.BodyMistakes as names
use Rattle.trick_check_names.specs.BodyMistakes.{all_mistakes, expression_mistakes}
use Rattle.trick_check_names.specs.FileMistakes.{mistakes}
use Rattle.trick_check_names.specs.Names.{Names}
use Rattle.trick_check_names.specs.Tables.{tables_of}
use Rattle.trick_check_names.specs.declared.tables.Local.{Local as Declared}
use Rattle.trick_check_bodies.specs.Named.{AreNamed}

-- What a file without a mistake in its names declares is the same by names and by cells: where no array in it
-- is without elements, and its objects have at most 65,536 cells together.
abbrev pub TablesKeep : Type 0
TablesKeep =
    (ds : SDefine) (done : List (List Variable)) → mistakes ds ≡ [] → Unfolds (tables_of ds).groups done →
    names_count (counts done) (tables_of ds).names ≤ 65536 → HaveElements (tables_of ds) →
    AreSameTables (tables_of ds) (layout_of (counts done) (tables_of ds)) done

-- An expression without a mistake in its names has the value, or the fault, that its text means: where
-- the tables tell where the cells are, and the cells and slots have the numbers of their names.
abbrev pub ExpressionsKeep : Type 0
ExpressionsKeep =
    (w : ClassScope) (done : List (List Variable)) (memory : List Variable) (slots : Names InSlot)
    (declared : Names Declared) (sight : Sight) (x : Setting) (s : State) → AreNamed w.layout done memory →
    AreSameTables x.scope.tables w.layout done → SeeTheSame w slots declared memory sight x s →
    (e : Expression) → expression_mistakes e x.scope declared ≡ [] → resolved.value (term e w slots) sight ≡ value e x s

-- Statements without a mistake in their names that are resolved end in the state that they mean, or at the same
-- fault: where the blocks in them stand among all blocks, and the states before are alike. The method's slots
-- are those below `top`, and slots from there on keep their numbers.
abbrev pub StatementsKeep : Type 0
StatementsKeep =
    (w : ClassScope) (done : List (List Variable)) (memory : List Variable) (size top : ℕ) (x : InCells) (y : Setting)
    (blocks : List (List Code)) → AreInOnePlace w done memory size top x y → RunBlocks blocks x →
    (all : Statements) (n : ℕ) (slots : Names InSlot) (declared : Names Declared) (a : Resolved) (b : State) →
    all_mistakes all y.scope declared ≡ [] → CanRunAll w all → HasBlocks blocks n (all_inner all w slots n) →
    AreBelow top (all_codes all w slots n) → BlocksAreBelow top (all_inner all w slots n) →
    AreAlike w size top slots declared memory a b →
    EndAlike w size top (after_all all w slots) (names.after_all all declared) memory a
    (in_cells.run_all (all_codes all w slots n) x a) (run_all all y b)
