-- Worked texts that are refused, each with the reason that is told and the place of the refused token,
-- counted from 0; no place is the end of the text. Lists have 4 items at most, and 3 levels may nest
-- in the braces of a method.
use Rattle.std.specs.Prelude.{◌≡◌, ℕ, List, [], ◌∷◌, Option, Some, None}
use Rattle.trick_body_symbols.specs.declared.symbol.Symbol.{Symbol}
use Rattle.trick_body_symbols.specs.declared.symbol.Symbol.TheVariants as the
use Rattle.trick_grammar.specs.declared.refusal.Refusal.{Refusal}
use Rattle.trick_grammar.specs.declared.refusal.Refusal.TheVariants.{Expected, NotInProfile, TooLong, BadTime}
use Rattle.trick_sdef_classes.specs.Files.{file}
use Rattle.trick_sdef_worked.specs.Refusals.{refusal_by}

-- what these symbols are refused for, and where
abbrev pub refusal : List Symbol → Option (Refusal × Option ℕ)
refusal = refusal_by (file [] 4 3)

pub record FilesAreRefused : Type 0 where
  -- # include "a"
  pub other_file : refusal (the.Hash ∷ the.Include ∷ the.Text ∷ []) ≡ Some (NotInProfile, (Some 2))
  -- # enum
  pub other_directive : refusal (the.Hash ∷ the.Enum ∷ []) ≡ Some (Expected, (Some 1))
  -- struct S { long * p ; } ;
  pub pointer : refusal (the.Struct ∷ the.Name ∷ the.OpenBrace ∷ the.Long ∷ the.Times ∷ the.Name ∷ the.Semicolon
      ∷ the.CloseBrace ∷ the.Semicolon ∷ []) ≡ Some (NotInProfile, (Some 4))
  -- struct S { long a * b ; } ;
  pub behind_a_name : refusal (the.Struct ∷ the.Name ∷ the.OpenBrace ∷ the.Long ∷ the.Name ∷ the.Times ∷ the.Name
      ∷ the.Semicolon ∷ the.CloseBrace ∷ the.Semicolon ∷ []) ≡ Some (Expected, (Some 5))
  -- struct S { long a [ 0 ] ; } ;
  pub no_length : refusal (the.Struct ∷ the.Name ∷ the.OpenBrace ∷ the.Long ∷ the.Name ∷ the.OpenBracket ∷ the.Zero
      ∷ the.CloseBracket ∷ the.Semicolon ∷ the.CloseBrace ∷ the.Semicolon ∷ []) ≡ Some (NotInProfile, (Some 6))
  -- struct S { int trick ; } ;
  pub member_trick : refusal (the.Struct ∷ the.Name ∷ the.OpenBrace ∷ the.Int ∷ the.LowerTrick ∷ the.Semicolon
      ∷ the.CloseBrace ∷ the.Semicolon ∷ []) ≡ Some (NotInProfile, (Some 4))
  -- enum trick {
  pub enum_trick : refusal (the.Enum ∷ the.LowerTrick ∷ the.OpenBrace ∷ []) ≡ Some (NotInProfile, (Some 1))
  -- G trick ;
  pub object_trick : refusal (the.Name ∷ the.LowerTrick ∷ the.Semicolon ∷ []) ≡ Some (NotInProfile, (Some 1))
  -- class G : public Trick :: SimObject { int * f
  pub pointer_method : refusal (the.Class ∷ the.Name ∷ the.Colon ∷ the.Public ∷ the.UpperTrick ∷ the.DoubleColon
      ∷ the.SimObject ∷ the.OpenBrace ∷ the.Int ∷ the.Times ∷ the.Name ∷ []) ≡ Some (NotInProfile, (Some 9))
  -- class G : public Trick :: SimObject { int trick ;
  pub trick_no_method : refusal (the.Class ∷ the.Name ∷ the.Colon ∷ the.Public ∷ the.UpperTrick ∷ the.DoubleColon
      ∷ the.SimObject ∷ the.OpenBrace ∷ the.Int ∷ the.LowerTrick ∷ the.Semicolon ∷ [])
      ≡ Some (NotInProfile, (Some 10))
  -- class G : public Trick :: SimObject { G ( ) { C16 ( "scheduled" )
  pub sixteenth_thread : refusal (the.Class ∷ the.Name ∷ the.Colon ∷ the.Public ∷ the.UpperTrick ∷ the.DoubleColon
      ∷ the.SimObject ∷ the.OpenBrace ∷ the.Name ∷ the.OpenParen ∷ the.CloseParen ∷ the.OpenBrace ∷ the.OtherThread
      ∷ the.OpenParen ∷ the.Scheduled ∷ the.CloseParen ∷ []) ≡ Some (NotInProfile, (Some 12))
  -- class G : public Trick :: SimObject { G ( ) { P1 C1 (
  pub thread_behind_phase : refusal (the.Class ∷ the.Name ∷ the.Colon ∷ the.Public ∷ the.UpperTrick ∷ the.DoubleColon
      ∷ the.SimObject ∷ the.OpenBrace ∷ the.Name ∷ the.OpenParen ∷ the.CloseParen ∷ the.OpenBrace ∷ the.Phase
      ∷ the.Thread ∷ the.OpenParen ∷ []) ≡ Some (Expected, (Some 13))
  -- class G : public Trick :: SimObject { G ( ) { ( "scheduled" )
  pub no_cycle : refusal (the.Class ∷ the.Name ∷ the.Colon ∷ the.Public ∷ the.UpperTrick ∷ the.DoubleColon
      ∷ the.SimObject ∷ the.OpenBrace ∷ the.Name ∷ the.OpenParen ∷ the.CloseParen ∷ the.OpenBrace ∷ the.OpenParen
      ∷ the.Scheduled ∷ the.CloseParen ∷ []) ≡ Some (NotInProfile, (Some 13))
  -- class G : public Trick :: SimObject { G ( ) { ( 0 , "scheduled" )
  pub cycle_of_0 : refusal (the.Class ∷ the.Name ∷ the.Colon ∷ the.Public ∷ the.UpperTrick ∷ the.DoubleColon
      ∷ the.SimObject ∷ the.OpenBrace ∷ the.Name ∷ the.OpenParen ∷ the.CloseParen ∷ the.OpenBrace ∷ the.OpenParen
      ∷ the.Zero ∷ the.Comma ∷ the.Scheduled ∷ the.CloseParen ∷ []) ≡ Some (NotInProfile, (Some 13))
  -- class G : public Trick :: SimObject { G ( ) { ( 1 , "initialization" )
  pub times_of_another_class : refusal (the.Class ∷ the.Name ∷ the.Colon ∷ the.Public ∷ the.UpperTrick
      ∷ the.DoubleColon ∷ the.SimObject ∷ the.OpenBrace ∷ the.Name ∷ the.OpenParen ∷ the.CloseParen ∷ the.OpenBrace
      ∷ the.OpenParen ∷ the.One ∷ the.Comma ∷ the.Initialization ∷ the.CloseParen ∷ [])
      ≡ Some (NotInProfile, (Some 15))
  -- class G : public Trick :: SimObject { G ( ) { ( "odd" )
  pub no_class : refusal (the.Class ∷ the.Name ∷ the.Colon ∷ the.Public ∷ the.UpperTrick ∷ the.DoubleColon
      ∷ the.SimObject ∷ the.OpenBrace ∷ the.Name ∷ the.OpenParen ∷ the.CloseParen ∷ the.OpenBrace ∷ the.OpenParen
      ∷ the.Text ∷ the.CloseParen ∷ []) ≡ Some (NotInProfile, (Some 13))
  -- class G : public Trick :: SimObject { G ( ) { ( 2000000000 , "scheduled" )
  pub long_time : refusal (the.Class ∷ the.Name ∷ the.Colon ∷ the.Public ∷ the.UpperTrick ∷ the.DoubleColon
      ∷ the.SimObject ∷ the.OpenBrace ∷ the.Name ∷ the.OpenParen ∷ the.CloseParen ∷ the.OpenBrace ∷ the.OpenParen
      ∷ the.Huge ∷ the.Comma ∷ the.Scheduled ∷ the.CloseParen ∷ []) ≡ Some (BadTime, (Some 13))
  -- struct S { long a [ *
  pub length_pointer : refusal (the.Struct ∷ the.Name ∷ the.OpenBrace ∷ the.Long ∷ the.Name ∷ the.OpenBracket ∷
      the.Times ∷ []) ≡ Some (NotInProfile, (Some 6))
  -- struct S { long a [ 2 &
  pub pointer_behind_a_length : refusal (the.Struct ∷ the.Name ∷ the.OpenBrace ∷ the.Long ∷ the.Name ∷
      the.OpenBracket ∷ the.Small ∷ the.BitAnd ∷ []) ≡ Some (NotInProfile, (Some 7))
  -- class G : public Trick :: SimObject { G ( ) { P0 (
  pub phase_of_0 : refusal (the.Class ∷ the.Name ∷ the.Colon ∷ the.Public ∷ the.UpperTrick ∷ the.DoubleColon ∷
      the.SimObject ∷ the.OpenBrace ∷ the.Name ∷ the.OpenParen ∷ the.CloseParen ∷ the.OpenBrace ∷
      the.OtherPhase ∷ the.OpenParen ∷ []) ≡ Some (NotInProfile, (Some 12))
  -- class G : public Trick :: SimObject { G ( ) { ( 1 , 2000000000
  pub long_start : refusal (the.Class ∷ the.Name ∷ the.Colon ∷ the.Public ∷ the.UpperTrick ∷ the.DoubleColon ∷
      the.SimObject ∷ the.OpenBrace ∷ the.Name ∷ the.OpenParen ∷ the.CloseParen ∷ the.OpenBrace ∷
      the.OpenParen ∷ the.One ∷ the.Comma ∷ the.Huge ∷ []) ≡ Some (BadTime, (Some 15))
  -- enum E { A , B , C , D , F
  pub long_enum : refusal (the.Enum ∷ the.Name ∷ the.OpenBrace ∷ the.Name ∷ the.Comma ∷ the.Name ∷ the.Comma ∷
      the.Name ∷ the.Comma ∷ the.Name ∷ the.Comma ∷ the.Name ∷ []) ≡ Some (TooLong, (Some 11))
  -- struct S { long a , b , c , d ,
  pub long_line : refusal (the.Struct ∷ the.Name ∷ the.OpenBrace ∷ the.Long ∷ the.Name ∷ the.Comma ∷ the.Name ∷
      the.Comma ∷ the.Name ∷ the.Comma ∷ the.Name ∷ the.Comma ∷ []) ≡ Some (TooLong, (Some 11))
  -- class G : public Trick :: SimObject { G ( ) {, four jobs, C16
  pub long_constructor : refusal (the.Class ∷ the.Name ∷ the.Colon ∷ the.Public ∷ the.UpperTrick ∷
      the.DoubleColon ∷ the.SimObject ∷ the.OpenBrace ∷ the.Name ∷ the.OpenParen ∷ the.CloseParen ∷
      the.OpenBrace ∷ the.OpenParen ∷ the.Freeze ∷ the.CloseParen ∷ the.Name ∷ the.OpenParen ∷ the.CloseParen ∷
      the.Semicolon ∷ the.OpenParen ∷ the.Freeze ∷ the.CloseParen ∷ the.Name ∷ the.OpenParen ∷ the.CloseParen ∷
      the.Semicolon ∷ the.OpenParen ∷ the.Freeze ∷ the.CloseParen ∷ the.Name ∷ the.OpenParen ∷ the.CloseParen ∷
      the.Semicolon ∷ the.OpenParen ∷ the.Freeze ∷ the.CloseParen ∷ the.Name ∷ the.OpenParen ∷ the.CloseParen ∷
      the.Semicolon ∷ the.OtherThread ∷ []) ≡ Some (TooLong, (Some 40))
  -- class G : protected
  pub protected : refusal (the.Class ∷ the.Name ∷ the.Colon ∷ the.Outside ∷ []) ≡ Some (NotInProfile, (Some 3))
  -- G g ; ;
  pub stray_mark : refusal (the.Name ∷ the.Name ∷ the.Semicolon ∷ the.Semicolon ∷ []) ≡ Some (Expected, (Some 3))
  -- G a ; G b ; G c ; G d ; G e ;
  pub long_file : refusal (the.Name ∷ the.Name ∷ the.Semicolon ∷ the.Name ∷ the.Name ∷ the.Semicolon ∷ the.Name
      ∷ the.Name ∷ the.Semicolon ∷ the.Name ∷ the.Name ∷ the.Semicolon ∷ the.Name ∷ the.Name ∷ the.Semicolon ∷ [])
      ≡ Some (TooLong, (Some 12))
