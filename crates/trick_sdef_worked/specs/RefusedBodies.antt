-- Worked texts that are refused, each with the reason that is told and the place of the refused token,
-- counted from 0; no place is the end of the text. Lists have 4 items at most, and 3 levels may nest
-- in the braces of a method.
use Rattle.std.specs.Prelude.{◌≡◌, ℕ, List, [], ◌∷◌, Option, Some, None}
use Rattle.trick_body_symbols.specs.declared.symbol.Symbol.{Symbol}
use Rattle.trick_body_symbols.specs.declared.symbol.Symbol.TheVariants as the
use Rattle.trick_grammar.specs.declared.refusal.Refusal.{Refusal}
use Rattle.trick_grammar.specs.declared.refusal.Refusal.TheVariants.{Expected, NotInProfile, TooLong, TooDeep, BadHeader}
use Rattle.trick_body_symbols.specs.Methods.{method}
use Rattle.trick_sdef_worked.specs.Refusals.{refusal_by}

-- what these symbols are refused for, and where
abbrev pub refusal : List Symbol → Option (Refusal × Option ℕ)
refusal = refusal_by (method [] 4 3)

pub record BodiesAreRefused : Type 0 where
  -- void f ( ) { x = a ;
  pub missing_end : refusal (the.Void ∷ the.Name ∷ the.OpenParen ∷ the.CloseParen ∷ the.OpenBrace ∷ the.Name
      ∷ the.Assign ∷ the.Name ∷ the.Semicolon ∷ []) ≡ Some (Expected, None)
  -- void f ( ) { x = a + ; }
  pub missing_operand : refusal (the.Void ∷ the.Name ∷ the.OpenParen ∷ the.CloseParen ∷ the.OpenBrace ∷ the.Name
      ∷ the.Assign ∷ the.Name ∷ the.Plus ∷ the.Semicolon ∷ the.CloseBrace ∷ []) ≡ Some (Expected, (Some 9))
  -- void f ( ) { while ( a ) ; }
  pub keyword : refusal (the.Void ∷ the.Name ∷ the.OpenParen ∷ the.CloseParen ∷ the.OpenBrace ∷ the.Outside
      ∷ the.OpenParen ∷ the.Name ∷ the.CloseParen ∷ the.Semicolon ∷ the.CloseBrace ∷ [])
      ≡ Some (NotInProfile, (Some 5))
  -- void f ( ) { return 0 ; }
  pub early_return : refusal (the.Void ∷ the.Name ∷ the.OpenParen ∷ the.CloseParen ∷ the.OpenBrace ∷ the.Return
      ∷ the.Zero ∷ the.Semicolon ∷ the.CloseBrace ∷ []) ≡ Some (NotInProfile, (Some 5))
  -- int f ( ) { return 00 ; }
  pub other_return : refusal (the.Int ∷ the.Name ∷ the.OpenParen ∷ the.CloseParen ∷ the.OpenBrace ∷ the.Return
      ∷ the.LongZero ∷ the.Semicolon ∷ the.CloseBrace ∷ []) ≡ Some (Expected, (Some 6))
  -- void f ( ) { int * p ; }
  pub pointer : refusal (the.Void ∷ the.Name ∷ the.OpenParen ∷ the.CloseParen ∷ the.OpenBrace ∷ the.Int ∷ the.Times
      ∷ the.Name ∷ the.Semicolon ∷ the.CloseBrace ∷ []) ≡ Some (Expected, (Some 6))
  -- void f ( ) { ; ; ; ; ; }
  pub long_list : refusal (the.Void ∷ the.Name ∷ the.OpenParen ∷ the.CloseParen ∷ the.OpenBrace ∷ the.Semicolon
      ∷ the.Semicolon ∷ the.Semicolon ∷ the.Semicolon ∷ the.Semicolon ∷ the.CloseBrace ∷ [])
      ≡ Some (TooLong, (Some 9))
  -- void f ( ) { { { { { } } } } }
  pub deep_blocks : refusal (the.Void ∷ the.Name ∷ the.OpenParen ∷ the.CloseParen ∷ the.OpenBrace ∷ the.OpenBrace
      ∷ the.OpenBrace ∷ the.OpenBrace ∷ the.OpenBrace ∷ the.CloseBrace ∷ the.CloseBrace ∷ the.CloseBrace
      ∷ the.CloseBrace ∷ the.CloseBrace ∷ []) ≡ Some (TooDeep, (Some 8))
  -- void f ( ) { x = ( ( ( ( a ) ) ) ) ; }
  pub deep_brackets : refusal (the.Void ∷ the.Name ∷ the.OpenParen ∷ the.CloseParen ∷ the.OpenBrace ∷ the.Name
      ∷ the.Assign ∷ the.OpenParen ∷ the.OpenParen ∷ the.OpenParen ∷ the.OpenParen ∷ the.Name ∷ the.CloseParen
      ∷ the.CloseParen ∷ the.CloseParen ∷ the.CloseParen ∷ the.Semicolon ∷ the.CloseBrace ∷ [])
      ≡ Some (TooDeep, (Some 10))
  -- void f ( ) { x = - - - - a ; }
  pub deep_prefixes : refusal (the.Void ∷ the.Name ∷ the.OpenParen ∷ the.CloseParen ∷ the.OpenBrace ∷ the.Name
      ∷ the.Assign ∷ the.Minus ∷ the.Minus ∷ the.Minus ∷ the.Minus ∷ the.Name ∷ the.Semicolon ∷ the.CloseBrace ∷ [])
      ≡ Some (TooDeep, (Some 10))
  -- void f ( ) { for ( int v = 0 ; v < 9 ; v ++ ) if ( a ) for ( int v = 0 ; v < 9 ; v ++ ) if ( a ) ; }
  pub deep_branches : refusal (the.Void ∷ the.Name ∷ the.OpenParen ∷ the.CloseParen ∷ the.OpenBrace ∷ the.For
      ∷ the.OpenParen ∷ the.Int ∷ the.Name ∷ the.Assign ∷ the.Zero ∷ the.Semicolon ∷ the.Name ∷ the.Less ∷ the.Small
      ∷ the.Semicolon ∷ the.Name ∷ the.Increment ∷ the.CloseParen ∷ the.If ∷ the.OpenParen ∷ the.Name ∷ the.CloseParen
      ∷ the.For ∷ the.OpenParen ∷ the.Int ∷ the.Name ∷ the.Assign ∷ the.Zero ∷ the.Semicolon ∷ the.Name ∷ the.Less
      ∷ the.Small ∷ the.Semicolon ∷ the.Name ∷ the.Increment ∷ the.CloseParen ∷ the.If ∷ the.OpenParen ∷ the.Name
      ∷ the.CloseParen ∷ the.Semicolon ∷ the.CloseBrace ∷ []) ≡ Some (TooDeep, (Some 37))
  -- void f ( ) { for ( int v = 0 ; v < 9 ; v += 2 ) ; }
  pub loop_step : refusal (the.Void ∷ the.Name ∷ the.OpenParen ∷ the.CloseParen ∷ the.OpenBrace ∷ the.For
      ∷ the.OpenParen ∷ the.Int ∷ the.Name ∷ the.Assign ∷ the.Zero ∷ the.Semicolon ∷ the.Name ∷ the.Less ∷ the.Small
      ∷ the.Semicolon ∷ the.Name ∷ the.PlusAssign ∷ the.Small ∷ the.CloseParen ∷ the.Semicolon ∷ the.CloseBrace ∷ [])
      ≡ Some (BadHeader, (Some 18))
  -- void f ( ) { for ( int v = 0 ; v < 1000001 ; v ++ ) ; }
  pub loop_bound : refusal (the.Void ∷ the.Name ∷ the.OpenParen ∷ the.CloseParen ∷ the.OpenBrace ∷ the.For
      ∷ the.OpenParen ∷ the.Int ∷ the.Name ∷ the.Assign ∷ the.Zero ∷ the.Semicolon ∷ the.Name ∷ the.Less ∷ the.Large
      ∷ the.Semicolon ∷ the.Name ∷ the.Increment ∷ the.CloseParen ∷ the.Semicolon ∷ the.CloseBrace ∷ [])
      ≡ Some (BadHeader, (Some 14))
  -- void f ( ) { for ( double v = 0 ; v < 9 ; v ++ ) ; }
  pub loop_keyword : refusal (the.Void ∷ the.Name ∷ the.OpenParen ∷ the.CloseParen ∷ the.OpenBrace ∷ the.For
      ∷ the.OpenParen ∷ the.Outside ∷ the.Name ∷ the.Assign ∷ the.Zero ∷ the.Semicolon ∷ the.Name ∷ the.Less
      ∷ the.Small ∷ the.Semicolon ∷ the.Name ∷ the.Increment ∷ the.CloseParen ∷ the.Semicolon ∷ the.CloseBrace ∷ [])
      ≡ Some (BadHeader, (Some 7))
  -- void f ( ) { for ( int v
  pub loop_end : refusal (the.Void ∷ the.Name ∷ the.OpenParen ∷ the.CloseParen ∷ the.OpenBrace ∷ the.For
      ∷ the.OpenParen ∷ the.Int ∷ the.Name ∷ []) ≡ Some (BadHeader, None)
