-- The tree of an S_define.
use Rattle.trick_lang.specs.Syntax.{definitions_of}
use Rattle.trick_lang.specs.SyntaxTree
use Rattle.trick_lang.specs.declared.syntax.definition.SDefine.{SDefine}

abbrev pub sdefine_of : SDefine → SyntaxTree.SDefine
sdefine_of s = definitions_of s.definitions
